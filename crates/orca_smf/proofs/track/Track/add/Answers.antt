use Rattle.std.proofs.Common.{ℕ, ◌∷◌, [], ◌++◌, List, length, ap, ◌∙◌, refl, arith}
use Rattle.std.proofs.lemmas.Result.{err_from_is_err_and}
use Rattle.orca_smf.specs.declared.timed.Timed.{Timed}
use Rattle.orca_smf.specs.declared.track.Track.TheInside.{Inside}
use Rattle.orca_smf.specs.Songs.{MayFollow, last_tick}
use Rattle.orca_smf.proofs.Growing.{held_more, held_track, held_value, joins, value}
use Rattle.orca_smf.proofs.Messages.{messages_push}
use Rattle.orca_smf.proofs.track.Track.add.Goals as goal

abbrev message : ℕ → List ℕ → Timed
message tick bytes = record { tick = tick; bytes = bytes }

-- the message is one too many
pub returns-then-len-event-gt-MAX_TRACK_BYTES-clause-too_long : goal.returns-then-len-event-gt-MAX_TRACK_BYTES-clause-too_long
returns-then-len-event-gt-MAX_TRACK_BYTES-clause-too_long c =
    let m = message c.args.tick c.args.bytes in
    let j = joins c.self.inside c.args.self.now m.tick m.bytes _ _ c.self.view_is
    c.self.invariant c.event_of-event.ensures c.as_slice-event.ensures.bytes in
    let pushed = ap length (messages_push 0 c.args.self.now.list m) in
    (λ _. omega (arith, j.size, j.grown, pushed), λ _. refl)

-- there is room, and no memory
pub returns-in_err-extend_from_slice-clause-too_long : goal.returns-in_err-extend_from_slice-clause-too_long
returns-in_err-extend_from_slice-clause-too_long c =
    let m = message c.args.tick c.args.bytes in
    let j = joins c.self.inside c.args.self.now m.tick m.bytes _ _ c.self.view_is
    c.self.invariant c.event_of-event.ensures c.as_slice-event.ensures.bytes in
    let pushed = ap length (messages_push 0 c.args.self.now.list m) in
    let p = err_from_is_err_and c.from_residual.result c.from_residual.ensures.1 in
    rw (p.1, p.2) (λ e. absurd cc, λ long. absurd (omega (arith, j.size, j.grown, pushed)))

-- the track holds one more
pub invariant_of-self-2 : goal.invariant_of-self-2
invariant_of-self-2 c =
    let m = message c.args.tick c.args.bytes in
    let t = c.self.inside in
    let v = c.args.self.now in
    let j = joins t v m.tick m.bytes _ _ c.self.view_is
    c.self.invariant c.event_of-event.ensures c.as_slice-event.ensures.bytes in
    let pushed = ap length (messages_push 0 v.list m) in
    let u : Inside =
    record { tempo = t.tempo; last = m.tick; file = c.extend_from_slice.new.self } in
    let follows : MayFollow (last_tick 0 v.list) m.tick =
    record { later = c.requires.later; near = c.requires.near; fits = omega arith } in
    let held = held_more t u v m _ j follows c.requires.voice refl refl
    c.in_ok-extend_from_slice.ensures.items (omega (arith, j.size, j.grown, pushed)) in
    held_track u (v.list ++ m ∷ []) held

pub returns-clause-added : goal.returns-clause-added
returns-clause-added c =
    let m = message c.args.tick c.args.bytes in
    let t = c.self.inside in
    let v = c.args.self.now in
    let j = joins t v m.tick m.bytes _ _ c.self.view_is
    c.self.invariant c.event_of-event.ensures c.as_slice-event.ensures.bytes in
    let pushed = ap length (messages_push 0 v.list m) in
    let u : Inside =
    record { tempo = t.tempo; last = m.tick; file = c.extend_from_slice.new.self } in
    let follows : MayFollow (last_tick 0 v.list) m.tick =
    record { later = c.requires.later; near = c.requires.near; fits = omega arith } in
    let held = held_more t u v m _ j follows c.requires.voice refl refl
    c.in_ok-extend_from_slice.ensures.items (omega (arith, j.size, j.grown, pushed)) in
    held_value u (v.list ++ m ∷ []) held
    ∙ ap (λ (tempo : ℕ). value tempo (v.list ++ m ∷ [])) j.tempo

-- there was room
pub returns-clause-too_long : goal.returns-clause-too_long
returns-clause-too_long c =
    let m = message c.args.tick c.args.bytes in
    let j = joins c.self.inside c.args.self.now m.tick m.bytes _ _ c.self.view_is
    c.self.invariant c.event_of-event.ensures c.as_slice-event.ensures.bytes in
    let pushed = ap length (messages_push 0 c.args.self.now.list m) in
    (λ e. absurd cc, λ long. absurd (omega (arith, j.size, j.grown, pushed)))
