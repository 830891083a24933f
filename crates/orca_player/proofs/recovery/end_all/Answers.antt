use Rattle.std.proofs.Common.{◌≡◌, ◌∷◌, ◌++◌, ◌+◌, ◌<◌, ◌≤◌, ℕ, [], ap, refl, arith, drop, get_or, length, map}
use Rattle.std.proofs.lemmas.List.{drop_all}
use Rattle.std.proofs.lemmas.List.FromFn.{get_or-range_with_len, length-range_with_len}
use Rattle.orca_base.specs.declared.limits.TheConstants.{MAX_CHANNEL}
use Rattle.orca_course.specs.Acts.{gives}
use Rattle.orca_course.specs.Acts.Act.{Give}
use Rattle.orca_course.proofs.CallLemmas.{calls_err, calls_one, so_cut, so_more, so_none, so_over}
use Rattle.orca_concert.proofs.SendLemmas.{sends_more}
use Rattle.orca_player.specs.Outlines.{all_notes_off, channels}
use Rattle.orca_player.proofs.recovery.end_all.Goals as goal

-- the send of a channel, and those that are left then
next : (channel : ℕ) → channel < MAX_CHANNEL + 1
    → gives (map all_notes_off (drop channel channels))
    ≡ (Give (all_notes_off channel) ∷ []) ++ gives (map all_notes_off (drop (channel + 1) channels))
next channel below =
    let all : length channels ≡ MAX_CHANNEL + 1 = length-range_with_len 0 (MAX_CHANNEL + 1) in
    let at : get_or channels channel channel ≡ 0 + channel =
    get_or-range_with_len 0 (MAX_CHANNEL + 1) channel channel below in
    sends_more all_notes_off channels channel channel (omega (arith, below, all))
    (omega (arith, at))

over : (channel : ℕ) → MAX_CHANNEL + 1 ≤ channel
    → gives (map all_notes_off (drop channel channels)) ≡ []
over channel all =
    let whole : length channels ≡ MAX_CHANNEL + 1 = length-range_with_len 0 (MAX_CHANNEL + 1) in
    ap (λ left. gives (map all_notes_off left))
    (drop_all channel channels (omega (arith, all, whole)))

pub loop-channel-init : goal.loop-channel-init
loop-channel-init g c = so_none _ refl

pub loop-channel-preserved : goal.loop-channel-preserved
loop-channel-preserved g c =
    so_more _ _ (next _ c.loop-channel-test.true) c.loop-channel.invariant
    (rw c.control.ensures.bytes at c.in_ok-send.ensures.called.called)

pub returns-in_err-send : goal.returns-in_err-send
returns-in_err-send g c =
    calls_err _ _ c.from_residual.ensures.1
    (so_cut _ _ (next _ c.loop-channel-test.true) c.loop-channel.invariant
    (calls_one _ (rw c.control.ensures.bytes at c.in_err-send.ensures.called)))

pub returns : goal.returns
returns g c = so_over _ (over _ c.loop-channel-test.false) c.loop-channel.invariant
