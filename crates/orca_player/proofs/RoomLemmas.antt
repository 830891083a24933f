-- The room of a performance: what its claim came to, and how it is left.
use Rattle.std.proofs.Common.{◌≡◌, inr, ℕ, Bool, true, false, List, [], ◌∷◌, ◌++◌, refl, sym, ◌∙◌, append-nil, arith}
use Rattle.std.proofs.lemmas.List.Folds.{list_any-append}
use Rattle.std.specs.List.{list_any}
use Rattle.std.specs.Prelude.{◌||◌, Option, Some, None, OnOk, Result, Ok, Err}
use Rattle.orca_course.specs.Acts.Act.{Claim, Listen, Remove}
use Rattle.orca_course.specs.Answered.{done_in, is_file_fault, losses_of}
use Rattle.orca_course.specs.Courses.{Course}
use Rattle.orca_course.specs.Following.{sounding}
use Rattle.orca_course.specs.Worlds.{AreCalled, Called, Made, Sated, Wants, World, file_failed, inbox_failed, owing}
use Rattle.orca_course.specs.declared.ending.Ending.{Ending}
use Rattle.orca_course.specs.declared.item.Losses.{Losses}
use Rattle.orca_course.specs.declared.refused.NoMemory.{NoMemory}
use Rattle.orca_course.specs.declared.refused.NoMemory.TheVariants.{InSend, Elsewhere}
use Rattle.orca_course.proofs.ActLemmas.{lost-deaf, polls-deaf}
use Rattle.orca_course.proofs.DoingLemmas.{does_joined, does_longer, does_none, rests_mute}
use Rattle.orca_course.proofs.PerformanceLemmas.{performance_silent}
use Rattle.orca_course.proofs.WorldLemmas.{lost_made, made_learn, made_owing, made_twice, made_within, sated_twice, wants_owing}
use Rattle.orca_live.specs.Performing.{live_part}
use Rattle.orca_live.specs.States.{LiveState, live_stance}
use Rattle.orca_trace.specs.Calls.{Call}
use Rattle.orca_player.specs.Doing.{CameBy, status_at}
use Rattle.orca_player.specs.Outlines.{Brought, Outline, leavings, nothing, played_course, status_of_ending, waiting}
use Rattle.orca_player.specs.Performances.{BrokeOff, EndsSilent, Lasted, Performed, whole_course}
use Rattle.orca_player.specs.declared.status.Status.{Status}
use Rattle.orca_player.specs.declared.status.Status.TheVariants.{InboxFault, Memory}
use Rattle.orca_player.proofs.CameLemmas.{IsKind, by, by_memory, came_bare, came_refused, came_still, kind_plain}
use Rattle.orca_player.proofs.CourseLemmas.{lost_by, opened_silent, opened_whole}
use Rattle.orca_player.proofs.LeavingLemmas.{leavings_quiet, polls-left}

-- ---- the claim

unclaimed_calls : (calls : List Call) (name bytes : List ℕ)
    → done_in calls ≡ Claim name bytes None ∷ [] → list_any is_file_fault calls ≡ true
unclaimed_calls [] name bytes is = absurd cc
unclaimed_calls (call ∷ calls) name bytes is = grind (arith, unclaimed_calls calls name bytes)

-- a claim has failed
pub unclaimed_made : {name bytes : List ℕ} {bill : ℕ} {x y : World}
    → Made (Claim name bytes None ∷ []) bill x y → file_failed y ≡ true
unfolding AreCalled
unclaimed_made {name = name} {bytes = bytes} made =
    let called = made.called in
    rw (called.1, list_any-append, unclaimed_calls called.0 name bytes called.2) (grind arith)

-- ---- nobody could be waited for

missed_kind : (room : Option (List ℕ)) (came : Losses) (address : List ℕ) (hands : ℕ)
    (next : ℕ → Outline) {status : Status}
    → IsKind (waiting (leavings room came false) address hands None next) [] status
unfolding waiting
missed_kind room came address hands next =
    let gone = leavings room came false in
    kind_plain (rw append-nil (polls-deaf gone (leavings_quiet room came false).deaf))

-- its room was left
pub missed_left : {T : Type 0} {done : T} (room : Option (List ℕ)) {address : List ℕ} {hands : ℕ}
    (next : Brought → ℕ → Outline) {x y z : World}
    → Called (Ok done) (Listen address hands None) x y
    → Made (leavings room (losses_of y.calls) false) 0 y z × Sated y z
    → CameBy (λ b. waiting (leavings room b.closing false) address hands b.start (next b)) x
    InboxFault z
unfolding waiting
missed_left room {address = address} {hands = hands} next {x = x} {y = y} {z = z} missed left =
    let came = losses_of y.calls in
    let b : Brought = record nothing { closing = came } in
    let gone = leavings room came false in
    let quiet = leavings_quiet room came false in
    let made = missed.called.0 in
    let lost = lost_made left.0 ∙ (lost-deaf gone (inbox_failed y) quiet.deaf ∙ lost_made made) in
    by b (missed_kind room came address hands (next b))
    (came_bare (waiting gone address hands None (next b)) InboxFault refl refl
    (rw append-nil quiet.mute)
    (rw append-nil (made_twice made left.0), sated_twice x y z missed.called.1 left.1) lost)

-- memory was refused to that
pub missed_kept : {T : Type 0} {done : T} (room : Option (List ℕ)) {address : List ℕ} {hands : ℕ}
    (next : Brought → ℕ → Outline) {x y z : World}
    → Called (Ok done) (Listen address hands None) x y → Made [] 0 y z
    → CameBy (λ b. waiting (leavings room b.closing false) address hands b.start (next b)) x Memory z
unfolding waiting
missed_kept room {address = address} {hands = hands} next {y = y} missed kept =
    let came = losses_of y.calls in
    let b : Brought = record nothing { closing = came } in
    by b (missed_kind room came address hands (next b)) (came_refused (inr (inr (record {
      begun = Listen address hands None ∷ [];
      left = leavings room came false ++ [];
      splits = refl;
      early = record { left = []; sends = refl; unopened = refl };
      made = made_twice missed.called.0 kept;
    }))))

-- memory was refused to the wait itself
pub unlistened : (room : Option (List ℕ)) (address : List ℕ) (hands : ℕ)
    (next : Brought → ℕ → Outline) {x y : World} → Made [] 0 x y
    → CameBy (λ b. waiting (leavings room b.closing false) address hands b.start (next b)) x Memory y
unfolding waiting
unlistened room address hands next made =
    let gone = leavings room nothing.closing false in
    by_memory
    (rw append-nil (polls-deaf gone (leavings_quiet room nothing.closing false).deaf), tt)
    (came_still _ made)

-- ---- how a room is left

pub room_gone : {T : Type 0} {done : T} {name : List ℕ} {x y : World} (loose : Bool)
    → ((losses_of x.calls).unstored || loose) ≡ false → Called (Ok done) (Remove name) x y
    → Made (leavings (Some name) (losses_of x.calls) loose) 0 x y × Sated x y
room_gone {x = x} loose goes called =
    rw goes (made_twice (made_learn x) called.called.0, called.called.1)

pub on_removed : {T : Type 0} (result : Result T NoMemory) {name : List ℕ} {x y : World}
    (loose : Bool) → ((losses_of x.calls).unstored || loose) ≡ false
    → Called result (Remove name) x y
    → OnOk result (Made (leavings (Some name) (losses_of x.calls) loose) 0 x y × Sated x y)
on_removed (Ok done) loose goes called = room_gone loose goes called
on_removed (Err e) loose goes called = tt

pub room_stays : (name : List ℕ) (loose : Bool) (x : World)
    → ((losses_of x.calls).unstored || loose) ≡ true
    → Made (leavings (Some name) (losses_of x.calls) loose) 0 x x × Sated x x
room_stays name loose x stays = rw stays (made_learn x, refl)

pub room_kept : {T : Type 0} {name : List ℕ} {e : NoMemory} {x y : World}
    → Called {T = T} (Err e) (Remove name) x y → Made [] 0 x y × Wants Elsewhere [] x y
room_kept {e = InSend} called = absurd (grind (arith, called.called.1.next))
room_kept {e = Elsewhere} called = called.called

-- ---- a performance, and how its room is left

module _ (room : Option (List ℕ)) {s t : LiveState} {m : ℕ} (n : ℕ) {x y z : World}
    {ending : Ending}
    (begins : sounding (live_stance.standing s) ≡ []) (none : m ≡ 0)
    (lasted : Lasted live_part s (owing m x) ending t (owing n y)) where
  -- the room was left
  pub lasted_left : EndsSilent live_part
      → Made (leavings room (losses_of y.calls) t.loose) 0 y z × Sated y z
      → Performed live_part (played_course room s) s x (status_at (status_of_ending ending) z) t z
  lasted_left silent left =
      let polls = lasted.polls in
      let did = polls.did.did in
      let came = losses_of y.calls in
      let b : Brought =
      record nothing { opening = lasted.came; hearings = polls.heard; closing = came } in
      let acts = leavings room came t.loose in
      let quiet = leavings_quiet room came t.loose in
      let lost = lost_made left.0 ∙ lost-deaf acts (inbox_failed y) quiet.deaf in
      let last : Course LiveState Ending =
      record { acts = acts; bill = 0; state = t; ending = Some ending } in
      let all = (does_joined {v = live_stance} {q = last} (Ok (Some ending)) did (record {
        did = record {
          made = made_owing n left.0;
          sated = left.1;
          rests = rests_mute live_stance t t acts quiet.mute refl;
          state = refl;
          ending = refl;
        };
      })).did in
      record {
        brought = b;
        few = polls.few;
        all = polls-left room came (whole_course live_part s b) ∙ polls.all;
        state = λ other. did.state;
        came = λ u stands.
            opened_whole _ {c = played_course room s b} {s = s} {t = t} u stands begins none n _
            (performance_silent _ silent _ lasted.came polls.heard _ did.ending)
            refl (lost_by ending x z (rw lost polls.lost)) (record {
              did = record {
                made = rw (did.ending, did.state) (made_within _ (omega arith) all.made);
                sated = all.sated;
                rests = rw (did.ending, did.state) all.rests;
                state = did.state;
                ending = did.ending;
              };
            });
      }

  -- memory was refused to that
  pub lasted_kept : EndsSilent live_part → Made [] 0 y z × Wants Elsewhere [] y z
      → Performed live_part (played_course room s) s x Memory t z
  lasted_kept silent kept =
      let polls = lasted.polls in
      let did = polls.did.did in
      let came = losses_of y.calls in
      let b : Brought =
      record nothing { opening = lasted.came; hearings = polls.heard; closing = came } in
      let acts = leavings room came t.loose in
      let last : Course LiveState Ending =
      record { acts = acts; bill = 0; state = t; ending = Some ending } in
      let cut = does_joined {v = live_stance} {q = last} (Err Elsewhere) did
      (does_none last Elsewhere (made_owing n kept.0) (wants_owing Elsewhere [] y z n kept.1) refl) in
      record {
        brought = b;
        few = polls.few;
        all = polls-left room came (whole_course live_part s b) ∙ polls.all;
        state = λ other. absurd (other refl);
        came = λ u stands.
            opened_silent _ {c = played_course room s b} {s = s} {t = t} u stands begins none n
            (rw (← did.state) (performance_silent _ silent _ lasted.came polls.heard _ did.ending))
            (rw (did.ending, did.state) (does_longer ([], sym (append-nil _), omega arith) cut));
      }

-- memory was refused before
pub broke_left : (room : Option (List ℕ)) {s t : LiveState} {x y : World}
    → BrokeOff live_part s x y → Performed live_part (played_course room s) s x Memory t y
broke_left room {s = s} broke = record {
  brought = broke.brought;
  few = broke.few;
  all = polls-left room broke.brought.closing (whole_course live_part s broke.brought) ∙ broke.all;
  state = λ other. absurd (other refl);
  came = λ u stands. broke.came u (played_course room s broke.brought) _ stands refl (omega arith);
}
