-- A run of frames: their messages lead a device from notes to notes, and a run that was not ended
-- early has played them all.
use Rattle.std.proofs.Common.{◌≡◌, ◌≢◌, ℕ, zero, suc, ◌+◌, ◌-◌, ◌≤◌, List, [], ◌∷◌, ◌++◌, length, refl, ◌∙◌, subst, arith, inl, inr, append_assoc}
use Rattle.std.specs.Prelude.{false, replicate, Option, Some, None, Ok, Err}
use Rattle.std.proofs.lemmas.Bool.{cases_lt}
use Rattle.orca_base.specs.declared.command.Command.TheVariants as command
use Rattle.orca_base.specs.declared.command.Reply.TheVariants.{Framed}
use Rattle.orca_base.specs.declared.command.Rule.{Rule}
use Rattle.orca_base.specs.declared.command.Rule.TheVariants.{HistoryFull}
use Rattle.orca_base.specs.declared.message.Message.{Message}
use Rattle.orca_base.specs.Grids.{IsSheet}
use Rattle.orca_concert.specs.Concerts.{Concert, after_cue, command_course, concert_with, concert_course, cue_course, cues_course, final_course, halt_of, last_course, order_course, saved_course}
use Rattle.orca_concert.specs.Manners.{Manner}
use Rattle.orca_concert.specs.Manners.News.{Done}
use Rattle.orca_concert.specs.Manners.Remark.{Nothing}
use Rattle.orca_course.specs.Acts.{Act}
use Rattle.orca_course.specs.Acts.Act.{Learn, Obey, Screen, Show, Stand, Strike}
use Rattle.orca_course.specs.Courses.{Course, afterwards, each, keeping, mapped, onward}
use Rattle.orca_course.specs.Standings.{standing}
use Rattle.orca_course.specs.declared.ending.Stop.{Stop}
use Rattle.orca_course.specs.declared.tally.Tally.{Tally}
use Rattle.orca_course.proofs.CourseLemmas.{each-one, onward_goes}
use Rattle.orca_cues.specs.declared.source.Cue.{Cue}
use Rattle.orca_cues.specs.declared.source.Order.TheVariants.{Do}
use Rattle.orca_edit.specs.Frames.{frames_of, machine_after}
use Rattle.orca_edit.specs.Obeying.{obey}
use Rattle.orca_edit.specs.Pieces.{piece_after}
use Rattle.orca_edit.specs.Prices.{Kept}
use Rattle.orca_edit.proofs.FrameLemmas.{ArePlayed, IsAt, all_of, frame_refused, framed, frames_play}
use Rattle.orca_notes.proofs.Chords.{IsChord-nil}
use Rattle.orca_op.specs.Laws.{IsLawful}
use Rattle.orca_op.specs.Rules.{rule}
use Rattle.orca_reports.specs.Runs.{Opened, outside_calls, frames_run, opened_session}

-- ---- an opened grid

opened_at : (o : Opened) → IsAt 0 (opened_session o)
unfolding piece_after
opened_at o = record { at = refl; closed = omega arith }

pub run_plays : IsLawful rule → (n : ℕ) (o : Opened) → IsSheet o.sheet → n ≤ o.limit
    → ArePlayed [] (all_of n (opened_session o))
unfolding piece_after
run_plays lawful n o sheet few =
    frames_play lawful n 0 (opened_session o) (opened_at o) (omega arith)
    (record { sheet = sheet; chord = IsChord-nil })

-- ---- a whole run

-- a report that hands nothing out and does nothing at a frame, and that a full history ends
pub record Records {R : Type 0} (m : Manner R) : Type 0 where
  pub hands : m.hands ≡ false
  pub still : (line tick : ℕ) (messages : List Message) (r : R)
      → (m.tells (Done line (Ok (Framed tick)) messages) r).remark ≡ Nothing
  pub full : (line : ℕ) (messages : List Message) (r : R)
      → (m.tells (Done line (Err HistoryFull) messages) r).ending ≢ None

-- the report goes on at each of these frames, the first of which has a tick, and keeps this at last
abbrev pub Goes : {R : Type 0} → Manner R → ℕ → List (List Message) → R → R → Type 0
Goes m tick [] r s = s ≡ r
Goes m tick (messages ∷ frames) r s =
    let c = m.tells (Done 0 (Ok (Framed tick)) messages) r in
    (c.ending ≡ None) × Goes m (tick + 1) frames c.state s

-- acts without a call, and then others
no_calls : (xs ys : List Act) → outside_calls xs ≡ [] → outside_calls (xs ++ ys) ≡ outside_calls ys
no_calls [] ys none = refl
no_calls (Obey command ∷ xs) ys none = no_calls xs ys none
no_calls (Stand s ∷ xs) ys none = no_calls xs ys none
no_calls (Strike hand key ∷ xs) ys none = no_calls xs ys none
no_calls (Show hand cells ∷ xs) ys none = no_calls xs ys none
no_calls (Screen hand d ∷ xs) ys none = no_calls xs ys none
no_calls (Learn came ∷ xs) ys none = no_calls xs ys none
no_calls (_ ∷ xs) ys none = absurd cc

-- a report that ends at an order ends the run
goes_on : {R : Type 0} (m : Manner R) (refused : Option Rule) (end : Option Stop)
    (c : Course (Concert R) _) (next : Concert R → Course (Concert R) _)
    → c.ending ≡ halt_of refused end
    → (afterwards (mapped (λ t. t) after_cue (onward c next)) (last_course m)).ending ≡ None
    → end ≡ None
unfolding onward afterwards mapped last_course final_course saved_course keeping
goes_on m refused None c next is goes = refl
goes_on m refused (Some stop) c next is goes = let lost = rw is at goes in absurd cc

-- so many frames from a tick on were accepted, the report went on at each of them, and then comes
-- the end
pub record HasRun {R : Type 0} (m : Manner R) (tick n : ℕ) (s : Concert R) (acts : List Act)
    : Type 0 where
  pub stands : Concert R
  pub machine : stands.standing.machine ≡ machine_after n s.standing.machine
  pub kept : Goes m tick (frames_of n s.standing.machine) s.kept stands.kept
  pub room : n ≤ s.standing.machine.limit - length s.standing.machine.history
  pub goes : (last_course m None stands).ending ≡ None
  pub calls : outside_calls acts ≡ outside_calls (last_course m None stands).acts

-- a run of so many frames
abbrev run_of : {R : Type 0} → Manner R → ℕ → Concert R → Course (Concert R) Stop
run_of m n s =
    let cue : Cue = record { line = 0; times = n; order = Do command.Frame } in
    afterwards (cue_course m cue s) (last_course m)

frames_went : {R : Type 0} (m : Manner R) → Records m → (tick n : ℕ) (s : Concert R)
    → IsAt tick s.standing.machine → (run_of m n s).ending ≡ None
    → HasRun m tick n s (run_of m n s).acts
unfolding cue_course each order_course command_course onward mapped afterwards
frames_went m records tick zero s ready goes = record {
  stands = s;
  machine = refl;
  kept = refl;
  room = omega arith;
  goes = goes;
  calls = refl;
}
frames_went m records tick (suc n) s ready goes =
    let machine = s.standing.machine in
    let c = order_course m 0 (Do command.Frame) s in
    let next = each (order_course m 0) (replicate n (Do command.Frame)) in
    elim (cases_lt (length machine.history) machine.limit) [
      | inl room ↦
          let obeyed = framed tick machine ready room in
          let messages = (obey machine command.Frame).messages in
          let d = m.tells (Done 0 (Ok (Framed tick)) messages) s.kept in
          let same : c.state.kept ≡ d.state = rw obeyed.answer in
          let told : d.ending ≡ None =
          goes_on m None _ c next (rw obeyed.answer) goes in
          let whole = onward_goes c next (rw (obeyed.answer, told)) in
          let more = frames_went m records (tick + 1) n c.state obeyed.next (rw whole at goes) in
          rw (whole, append_assoc) (record {
            stands = more.stands;
            machine = more.machine;
            kept = (
              told,
              subst (λ r. Goes m (tick + 1)
                  (frames_of n (obey machine command.Frame).machine) r more.stands.kept)
                  same more.kept,
            );
            room = omega (arith, room, more.room, obeyed.longer, obeyed.limit);
            goes = more.goes;
            calls = no_calls c.acts _
                (rw (records.hands, obeyed.answer, records.still 0 tick messages s.kept) refl)
                ∙ more.calls;
          })
      | inr full ↦
          absurd (records.full 0 [] s.kept
          (goes_on m (Some HistoryFull) _ c next (rw (frame_refused machine full)) goes))
    ]

pub frames_ran : {R : Type 0} (m : Manner R) → Records m → (r : R) (n : ℕ) (o : Opened)
    (kept : Kept) (tally : Tally) → (frames_run m r n o kept tally).ending ≡ None
    → HasRun m 0 n (concert_with (standing (opened_session o) kept tally) r)
    (frames_run m r n o kept tally).acts
unfolding concert_course cues_course
frames_ran m records r n o kept tally goes =
    let s = concert_with (standing (opened_session o) kept tally) r in
    let one = each-one (cue_course m) (record { line = 0; times = n; order = Do command.Frame }) s in
    rw one (frames_went m records 0 n s (opened_at o) (rw one at goes))
