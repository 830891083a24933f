-- A run of commands does not ask the inbox.
use Rattle.std.proofs.Common.{ℕ, List, [], ◌∷◌, ◌++◌, replicate}
use Rattle.std.specs.Prelude.{Option, Some, None}
use Rattle.orca_base.specs.declared.command.Command.{Command}
use Rattle.orca_base.specs.Ports.{Sent}
use Rattle.orca_course.specs.Acts.{Act, AreDeaf, gives}
use Rattle.orca_course.specs.Acts.Act.{Stand}
use Rattle.orca_course.specs.Courses.{Course, afterwards, each, keeping, mapped, onward}
use Rattle.orca_course.specs.Standings.{Standing, notes_of, standing_after, standing_closed}
use Rattle.orca_course.specs.declared.ending.Stop.{Stop}
use Rattle.orca_course.proofs.ActLemmas.{AreDeaf-append, AreDeaf-gives}
use Rattle.orca_course.proofs.CourseLemmas.{each-holds}
use Rattle.orca_cues.specs.declared.source.Cue.{Cue}
use Rattle.orca_edit.specs.Obeying.{obey}
use Rattle.orca_notes.specs.Sound.{ends}
use Rattle.orca_concert.specs.Concerts.{Concert, close_course, command_at, command_course, concert_course, cue_course, cues_course, final_course, handed_of, last_course, order_course, saved_course}
use Rattle.orca_concert.specs.Manners.{Manner, Remark, acts_of}
use Rattle.orca_concert.specs.Manners.News.{Closed, Done, Last, Stands}
use Rattle.orca_concert.specs.Manners.Remark.{File, Lines, Nothing, Text}
use Rattle.orca_send.specs.Lines.{lines_of}

-- messages, where the run stands then, and what is told of it
deaf_told : (sends : List Sent) (s : Standing) (more : List Act) → AreDeaf more
    → AreDeaf ((gives sends ++ Stand s ∷ []) ++ more)
deaf_told sends s more deaf =
    AreDeaf-append (gives sends ++ Stand s ∷ []) more
    (AreDeaf-append (gives sends) (Stand s ∷ []) (AreDeaf-gives sends) tt) deaf

deaf_each : {X S E : Type 0} (f : X → S → Course S E) → ((x : X) (s : S) → AreDeaf (f x s).acts)
    → (xs : List X) (s : S) → AreDeaf (each f xs s).acts
deaf_each f all xs s =
    each-holds (λ s acts t. AreDeaf acts) f (λ s. tt)
    (λ r s t xs ys first second. AreDeaf-append xs ys first second) all xs s

-- no report asks it
pub remark_is_deaf : (r : Remark) → AreDeaf (acts_of r)
remark_is_deaf Nothing = tt
remark_is_deaf (Text bytes) = tt
remark_is_deaf (Lines label messages) = AreDeaf-gives (lines_of label messages)
remark_is_deaf (File name bytes) = tt

module _ {R : Type 0} (m : Manner R) where
  pub command_is_deaf : (line : ℕ) (c : Command) (s : Concert R)
      → AreDeaf (command_course m line c s).acts
  unfolding command_course onward mapped
  command_is_deaf line c s =
      let o = obey s.standing.machine c in
      deaf_told (handed_of m.hands o.messages) (standing_after s.standing o) _
      (remark_is_deaf (m.tells (Done line o.answer o.messages) s.kept).remark)

  cues_are_deaf : (cues : List Cue) (s : Concert R) → AreDeaf (cues_course m cues s).acts
  unfolding cues_course cue_course order_course mapped
  cues_are_deaf cues s =
      deaf_each (cue_course m) (λ cue t. deaf_each (order_course m cue.line)
      (λ order u. command_is_deaf cue.line (command_at order u.standing.machine) u)
      (replicate cue.times cue.order) t) cues s

  pub close_is_deaf : (s : Concert R) → AreDeaf (close_course m s).acts
  unfolding close_course onward mapped
  close_is_deaf s =
      let messages = ends (notes_of s.standing) in
      deaf_told (handed_of m.hands messages) (standing_closed s.standing) _
      (remark_is_deaf (m.tells (Closed messages) s.kept).remark)

  last_is_deaf : (end : Option Stop) (s : Concert R)
      → AreDeaf (final_course m end s).acts × AreDeaf (saved_course m end s).acts
  unfolding final_course saved_course mapped
  last_is_deaf None s =
      let told = m.tells (Stands s.standing) s.kept in
      (remark_is_deaf told.remark, remark_is_deaf (m.tells Last s.kept).remark)
  last_is_deaf (Some stop) s = (tt, tt)

  pub concert_is_deaf : (cues : List Cue) (s : Concert R) → AreDeaf (concert_course m cues s).acts
  unfolding concert_course last_course afterwards keeping
  concert_is_deaf cues s =
      let c = cues_course m cues s in
      let told = final_course m c.ending c.state in
      let over = keeping told.ending (close_course m told.state) in
      AreDeaf-append c.acts _ (cues_are_deaf cues s)
      (AreDeaf-append told.acts _ (last_is_deaf c.ending c.state).0
      (AreDeaf-append over.acts _ (close_is_deaf told.state)
      (last_is_deaf over.ending over.state).1))
