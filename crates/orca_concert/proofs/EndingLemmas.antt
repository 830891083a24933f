-- Where a run of commands leads, and in which ways it can end early.
use Rattle.std.proofs.Common.{◌≡◌, ℕ, ◌+◌, ◌<◌, ◌≤◌, zero, suc, List, [], ◌∷◌, length, refl, sym, ◌∙◌, ap, subst, arith}
use Rattle.std.specs.Prelude.{IfSome, Ok, Option, Result, replicate}
use Rattle.std.proofs.Math.Numerals.{suc-eq-add-one}
use Rattle.std.proofs.lemmas.List.{length-append}
use Rattle.orca_base.specs.declared.command.Command.TheVariants as command
use Rattle.orca_base.specs.declared.command.Entry.TheVariants as entry
use Rattle.orca_base.specs.declared.command.Reply.{Reply}
use Rattle.orca_base.specs.declared.command.Reply.TheVariants.{Framed}
use Rattle.orca_base.specs.declared.command.Rule.{Rule}
use Rattle.orca_base.specs.declared.message.Message.{Message}
use Rattle.orca_course.specs.Courses.{Course, afterwards, each, keeping, mapped, onward}
use Rattle.orca_course.specs.Standings.{Standing, notes_of, standing_closed}
use Rattle.orca_course.specs.declared.ending.Stop.{Stop}
use Rattle.orca_course.proofs.CourseLemmas.{each-kind, onward-kind}
use Rattle.orca_course.proofs.PerformanceLemmas.{notes-standing_closed}
use Rattle.orca_cues.specs.Cues.{frames_cue}
use Rattle.orca_cues.specs.declared.source.Cue.{Cue}
use Rattle.orca_cues.specs.declared.source.Order.TheVariants.{Do}
use Rattle.orca_edit.proofs.FrameLemmas.{frame_obeyed}
use Rattle.orca_concert.specs.Concerts.{Concert, after_cue, close_course, command_course, concert_course, cue_course, cues_course, final_course, halt_of, last_course, order_course, saved_course, told_course}
use Rattle.orca_concert.specs.Manners.{Manner}
use Rattle.orca_concert.specs.Manners.News.{Closed, Done, Last, Stands}

-- ---- where it leads

-- a run of cues ends closed
pub concert-standing : {R : Type 0} (m : Manner R) (cues : List Cue) (s : Concert R)
    → (concert_course m cues s).state.standing
    ≡ standing_closed (cues_course m cues s).state.standing
unfolding concert_course last_course final_course saved_course afterwards keeping close_course onward mapped
concert-standing m cues s = grind arith

-- and so with no note
pub concert-silent : {R : Type 0} (m : Manner R) (cues : List Cue) (s : Concert R)
    → notes_of (concert_course m cues s).state.standing ≡ []
concert-silent m cues s =
    ap notes_of (concert-standing m cues s)
    ∙ notes-standing_closed (cues_course m cues s).state.standing

-- ---- reports that end a run in few ways

-- what is told of the end ends it in these ways alone
pub record Closes {R : Type 0} (P : Stop → Type 0) (m : Manner R) : Type 0 where
  pub final : (s : Standing) (r : R) → IfSome (m.tells (Stands s) r).ending P
  pub close : (messages : List Message) (r : R) → IfSome (m.tells (Closed messages) r).ending P
  pub saves : (r : R) → IfSome (m.tells Last r).ending P

-- whatever is told of a command does
abbrev pub Ends : {R : Type 0} → (Stop → Type 0) → Manner R → Type 0
Ends {R} P m =
    (line : ℕ) (answer : Result Reply Rule) (messages : List Message) (r : R)
    → IfSome (m.tells (Done line answer messages) r).ending P

-- what is told of a frame that was played does, while there is room for it; and then there is room
-- for one less
abbrev pub Frames : {R : Type 0} → (Stop → Type 0) → (ℕ → R → Type 0) → Manner R → Type 0
Frames {R} P Room m =
    (line tick n : ℕ) (messages : List Message) (r : R) → Room (n + 1) r
    → IfSome (m.tells (Done line (Ok (Framed tick)) messages) r).ending P
    × Room n (m.tells (Done line (Ok (Framed tick)) messages) r).state

-- a run ends as its cues did, or in one of these ways
pub concert-ends : {R : Type 0} {P : Stop → Type 0} (m : Manner R) (cues : List Cue) (s : Concert R)
    → Closes P m → IfSome (cues_course m cues s).ending P
    → IfSome (concert_course m cues s).ending P
unfolding concert_course last_course afterwards keeping final_course saved_course close_course onward mapped
concert-ends m cues s closes ends = grind arith

-- ---- commands, whatever comes

halts-end : (P : Stop → Type 0) (refused : Option Rule) (end : Option Stop) → IfSome end P
    → IfSome (after_cue (halt_of refused end)) P
halts-end P refused end ends = grind arith

pub cues-end : {R : Type 0} (P : Stop → Type 0) (m : Manner R) (cues : List Cue) (s : Concert R)
    → Ends P m → IfSome (cues_course m cues s).ending P
unfolding cues_course cue_course order_course command_course onward mapped
cues-end P m cues s ends =
    each-kind (λ end. IfSome end P) (cue_course m) tt
    (λ cue t. each-kind (λ end. IfSome (after_cue end) P) (order_course m cue.line) tt
    (λ order u. halts-end P _ _ (ends cue.line _ _ _)) (replicate cue.times cue.order) t) cues s

-- ---- frames, if the history has room for them

-- a frame was played, and the history is longer by one
record Played {R : Type 0} (P : Stop → Type 0) (Room : ℕ → R → Type 0) (n : ℕ)
    (c : Course (Concert R) Stop) (s : Concert R) : Type 0 where
  pub ends : IfSome c.ending P
  pub longer : length c.state.standing.machine.history ≡ length s.standing.machine.history + 1
  pub limit : c.state.standing.machine.limit ≡ s.standing.machine.limit
  pub room : Room n c.state.kept

frame-played : {R : Type 0} {P : Stop → Type 0} {Room : ℕ → R → Type 0} (m : Manner R)
    (line n : ℕ) (s : Concert R) → Frames P Room m → Room (n + 1) s.kept
    → length s.standing.machine.history < s.standing.machine.limit
    → Played P Room n (command_course m line command.Frame s) s
unfolding command_course onward mapped
frame-played {P = P} {Room = Room} m line n s frames some room =
    subst (λ o. Played P Room n (told_course m line command.Frame o s) s)
    (sym (frame_obeyed s.standing.machine room))
    (record {
      ends = (frames line _ n _ s.kept some).0;
      longer = length-append s.standing.machine.history (entry.Frame ∷ []);
      limit = refl;
      room = (frames line _ n _ s.kept some).1;
    })

frames-end : {R : Type 0} (P : Stop → Type 0) (Room : ℕ → R → Type 0) (m : Manner R)
    (line n : ℕ) (s : Concert R) → Frames P Room m → Room n s.kept
    → length s.standing.machine.history + n ≤ s.standing.machine.limit
    → IfSome (after_cue (each (order_course m line) (replicate n (Do command.Frame)) s).ending) P
unfolding each order_course mapped
frames-end P Room m line zero s frames some room = tt
frames-end P Room m line (suc n) s frames some room =
    let played = frame-played {P = P} {Room = Room} m line n s frames
    (subst (λ k. Room k s.kept) (suc-eq-add-one n) some) (omega (arith, room)) in
    let c = command_course m line command.Frame s in
    onward-kind (λ end. IfSome (after_cue end) P) (order_course m line (Do command.Frame) s)
    (each (order_course m line) (replicate n (Do command.Frame)))
    (halts-end P c.state.standing.tally.refusal c.ending played.ends)
    (λ on. frames-end P Room m line n c.state frames played.room
    (omega (arith, room, played.longer, played.limit)))

-- the frames of one cue
pub frames-cue : {R : Type 0} (P : Stop → Type 0) (Room : ℕ → R → Type 0) (m : Manner R)
    (n : ℕ) (s : Concert R) → Frames P Room m → Room n s.kept
    → length s.standing.machine.history + n ≤ s.standing.machine.limit
    → IfSome (cues_course m (frames_cue n) s).ending P
unfolding cues_course cue_course each mapped
frames-cue P Room m n s frames some room =
    onward-kind (λ end. IfSome end P)
    (cue_course m (record { line = 0; times = n; order = Do command.Frame }) s)
    (each (cue_course m) []) (frames-end P Room m 0 n s frames some room) (λ on. tt)
