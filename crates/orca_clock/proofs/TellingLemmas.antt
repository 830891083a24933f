-- Commands and the end of a run whose report tells nothing before the end.
use Rattle.std.proofs.Common.{◌≡◌, List, [], ◌∷◌, ◌++◌, refl, ◌∙◌, append-nil}
use Rattle.std.specs.Prelude.{None}
use Rattle.orca_base.specs.declared.command.Command.{Command}
use Rattle.orca_concert.specs.Concerts.{Concert, close_course, command_course, concert_with, final_course, handed_of}
use Rattle.orca_concert.specs.Manners.{Manner, acts_of}
use Rattle.orca_concert.specs.Manners.News.{Stands}
use Rattle.orca_course.specs.Acts.{Act, commands_in, gives}
use Rattle.orca_course.specs.Acts.Act.{Obey, Stand}
use Rattle.orca_course.specs.Courses.{Course, afterwards, mapped, onward}
use Rattle.orca_course.specs.Standings.{notes_of, standing_after, standing_closed}
use Rattle.orca_course.specs.declared.ending.Ending.TheVariants.{Stopped}
use Rattle.orca_course.specs.declared.ending.Stop.{Stop}
use Rattle.orca_course.specs.declared.ending.Stop.TheVariants.{Left}
use Rattle.orca_course.proofs.ActLemmas.{handed_commands}
use Rattle.orca_edit.specs.Obeying.{obey}
use Rattle.orca_notes.specs.Sound.{ends}
use Rattle.orca_clock.specs.Clocked.{end_course, last_text_course}
use Rattle.orca_clock.specs.Laws.{TellsAtEnd, midi_bytes_in}
use Rattle.orca_clock.proofs.MidiLemmas.{end_commands, midi_bytes-append, remark_bytes, remark_commands}

-- a course of these acts that goes on
pub record Goes {R : Type 0} (c : Course (Concert R) Stop) (does : List Act) (to : Concert R)
    : Type 0 where
  pub acts : c.acts ≡ does
  pub state : c.state ≡ to
  pub ending : c.ending ≡ None

-- no command is given, every note ends, and nothing else is given to the MIDI port
pub record IsEnd {R : Type 0} (m : Manner R) (s : Concert R) (c : Course (Concert R) Stop)
    : Type 0 where
  pub commands : commands_in c.acts ≡ []
  pub standing : c.state.standing ≡ standing_closed s.standing
  pub bytes : midi_bytes_in c.acts ≡ midi_bytes_in
      (gives (handed_of m.hands (ends (notes_of s.standing))) ++ Stand (standing_closed s.standing)
      ∷ [])

module _ {R : Type 0} (m : Manner R) (tells : TellsAtEnd m) where
  -- a command: its messages are handed out, and the run stands so
  pub command_told : (c : Command) (s : Concert R)
      → let o = obey s.standing.machine c in
      let t = standing_after s.standing o in
      Goes (command_course m 0 c s)
      (Obey c ∷ gives (handed_of m.hands o.messages) ++ Stand t ∷ []) (concert_with t s.kept)
  unfolding command_course onward mapped
  command_told c s =
      let o = obey s.standing.machine c in
      rw (tells.done 0 o.answer o.messages s.kept)
      (record { acts = append-nil _; state = refl; ending = refl })

  -- the close: every note ends, and the run stands so
  pub close_told : (s : Concert R)
      → let t = standing_closed s.standing in
      Goes (close_course m s)
      (gives (handed_of m.hands (ends (notes_of s.standing))) ++ Stand t ∷ []) (concert_with t s.kept)
  unfolding close_course onward mapped
  close_told s =
      rw (tells.close (ends (notes_of s.standing)) s.kept)
      (record { acts = append-nil _; state = refl; ending = refl })

  -- the end, where the player has left
  pub end_told : (s : Concert R) → IsEnd m s (end_course m (Stopped Left) s)
  unfolding end_course last_text_course final_course afterwards mapped
  end_told s =
      let text = m.tells (Stands s.standing) s.kept in
      let acts = acts_of text.remark in
      let closing = close_course m (concert_with s.standing text.state) in
      let told = close_told (concert_with s.standing text.state) in
      record {
        commands = end_commands _ acts closing.acts [] refl
            (remark_commands text.remark)
            (rw told.acts (handed_commands (handed_of m.hands (ends (notes_of s.standing)))
            (standing_closed s.standing)));
        standing = rw told.state refl;
        bytes = midi_bytes-append acts closing.acts
            ∙ rw (remark_bytes text.remark, told.acts) refl;
      }
