-- The laws of hands, on the outlines of runs.
use Rattle.std.proofs.Common.{◌≡◌, ◌≢◌, ℕ, replicate, Bool, List, [], true, false, refl, ◌∙◌, ap, arith}
use Rattle.std.specs.Prelude.{if◌then◌else◌, Option, Some, None, Result, Ok, Err}
use Rattle.std.proofs.lemmas.List.Elements.{All-nil}
use Rattle.orca_base.specs.Grids.{Sheet}
use Rattle.orca_course.specs.Courses.{mapped}
use Rattle.orca_course.specs.Standings.{Standing}
use Rattle.orca_grid.specs.GridText.{grid_text}
use Rattle.orca_grid.specs.declared.refusal.GridRefusal.{GridRefusal}
use Rattle.orca_jam.specs.Laws.{AreLeaders}
use Rattle.orca_jam.specs.declared.crew.TheConstants.{LEADER}
use Rattle.orca_jam.specs.declared.owner.Owner.{Owner}
use Rattle.orca_live.specs.Hands.{EachIsHeard, HandsShare, HasOwners, StartsWithOwners}
use Rattle.orca_live.specs.Items.{items_heard}
use Rattle.orca_live.specs.Laws.{whole_performance}
use Rattle.orca_live.specs.Solo.{HasNoRedo, PlaysAlone, PlaysSame, as_alone}
use Rattle.orca_live.specs.States.{LiveState, unpainted}
use Rattle.orca_words.specs.Requests.{Perform, Performance, Play, Setup}
use Rattle.orca_player.specs.Hands.{SharesFairly, alone_of}
use Rattle.orca_player.specs.Outlines.{Brought, Heard, grid_outline, leavings, live_outline, live_start, loading, opening, outline, performed, played, request_outline, setting_of, room_name, room_start, roomed, start_of, work_outline, waiting}
use Rattle.orca_player.specs.declared.live.TheConstants.{ALONE}

-- ---- hands that share

-- this many hands share the session of a performance
abbrev with_hands : Option ℕ → Performance → Performance
with_hands hands play = record play { hands = hands }

-- a history that is opened has no entry, and there is room for the owners of a whole one
starts_owned : StartsWithOwners → (setup : Setup) (play : Performance) (sheet : Sheet) (at : ℕ)
    (hands : Option ℕ) → hands ≢ None
    → HasOwners (live_start setup (with_hands hands play) at (start_of setup sheet))
starts_owned starts setup play sheet at None some = absurd (some refl)
starts_owned starts setup play sheet at (Some hands) some =
    starts (setting_of setup play) play.full play.views hands setup.limit at
    (start_of setup sheet) refl
    (omega arith)

-- ---- one that is alone

-- each edit is the first hand's, where there is none
no_owner : AreLeaders []
no_owner = All-nil (λ (owner : Owner). owner.edit ≡ true → owner.hand ≡ LEADER)

-- performances that do the same
same_played : (room : Option (List ℕ)) (u : LiveState) (b : Brought)
    → PlaysSame (whole_performance u b.opening b.hearings)
    (whole_performance (as_alone u) b.opening b.hearings)
    → played room u b ≡ played room (as_alone u) b
unfolding opening mapped
same_played room u b same = rw (same.acts, same.bill, same.ending, same.state) refl

-- it is the one that is shown a picture, whether or not all are
one_viewer : (views : Bool) → ◌≡◌ {A = ℕ} (if views then 1 else 1) 1
one_viewer true = refl
one_viewer false = refl

solo_live : PlaysAlone → (setup : Setup) (play : Performance) (b : Brought) (s : Standing)
    (at : ℕ) → HasNoRedo (items_heard ALONE b.hearings)
    → live_outline setup (with_hands (Some 1) play) b s at
    ≡ live_outline setup (alone_of play) b s at
unfolding live_outline
solo_live law setup play b s at none =
    let u = live_start setup (with_hands (Some 1) play) at s in
    same_played (room_name play) u b
    (law u b.opening b.hearings (record { one = refl; own = no_owner }) none)
    ∙ ap (λ (n : ℕ). played (room_name play)
    (record (live_start setup (alone_of play) at s) {
      views = replicate n (unpainted (setting_of setup play).screen);
    }) b)
    (one_viewer play.views)

solo_listening : PlaysAlone → (setup : Setup) (play : Performance) (b : Brought)
    (s : Standing) (start : Option ℕ) → HasNoRedo (items_heard ALONE b.hearings)
    → let missed = leavings (room_name play) b.closing false in
    waiting missed play.address ALONE start (live_outline setup (with_hands (Some 1) play) b s)
    ≡ waiting missed play.address ALONE start (live_outline setup (alone_of play) b s)
unfolding waiting
solo_listening law setup play b s None none = refl
solo_listening law setup play b s (Some at) none = rw (solo_live law setup play b s at none) refl

solo_grid : PlaysAlone → (setup : Setup) (play : Performance) (b : Brought)
    (read : Result Sheet GridRefusal) → HasNoRedo (items_heard ALONE b.hearings)
    → grid_outline setup (Play (with_hands (Some 1) play)) b read
    ≡ grid_outline setup (Play (alone_of play)) b read
unfolding grid_outline work_outline
solo_grid law setup play b (Err refusal) none = refl
solo_grid law setup play b (Ok sheet) none =
    ap (roomed (room_name play) (room_start setup sheet) b.claimed)
    (solo_listening law setup play b (start_of setup sheet) b.start none)

solo_loaded : PlaysAlone → (setup : Setup) (play : Performance) (b : Brought)
    (grid : Option (List ℕ)) → HasNoRedo (items_heard ALONE b.hearings)
    → performed setup (Play (with_hands (Some 1) play)) (record { grid = grid; brought = b })
    ≡ performed setup (Play (alone_of play)) (record { grid = grid; brought = b })
unfolding performed loading
solo_loaded law setup play b None none = refl
solo_loaded law setup play b (Some text) none =
    rw (solo_grid law setup play b (grid_text text) none) refl

solo_request : PlaysAlone → (setup : Setup) (play : Performance) (h : Heard)
    → play.hands ≡ Some 1 → HasNoRedo (items_heard ALONE h.brought.hearings)
    → request_outline (Perform setup (Play play)) h
    ≡ request_outline (Perform setup (Play (alone_of play))) h
unfolding request_outline
solo_request law setup play h one none =
    ap (λ hands. performed setup (Play (with_hands hands play)) h) one
    ∙ solo_loaded law setup play h.brought h.grid none

pub shares_fairly : EachIsHeard → StartsWithOwners → HandsShare → PlaysAlone
    → (words : List (List ℕ)) → SharesFairly words
unfolding outline
shares_fairly each starts fair law words = record {
  heard = λ setup play sheet at is. each (live_start setup play at (start_of setup sheet));
  shares = λ setup play sheet at is some.
      fair (live_start setup play at (start_of setup sheet))
      (starts_owned starts setup play sheet at play.hands some);
  alone = λ others setup play h is one other none.
      rw (is, other) (solo_request law setup play h one none);
}
