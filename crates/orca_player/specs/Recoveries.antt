-- What `recover` makes of a room in which a performance has kept its commands.
use Rattle.std.specs.Prelude.{◌≡◌, ◌≢◌, ◌<◌, ◌≤◌, ◌^◌, ℕ, All, List, ◌++◌, IfSome, Some, unwrap_or}
use Rattle.std.specs.List.{flat_map}
use Rattle.std.specs.Option.{option_map}
use Rattle.orca_base.specs.Ascii.{line_feed}
use Rattle.orca_base.specs.Grids.{IsSheet, Sheet}
use Rattle.orca_base.specs.declared.command.Command.{Command}
use Rattle.orca_base.specs.declared.limits.TheConstants.{MAX_HISTORY}
use Rattle.orca_course.specs.Acts.{commands_in, given}
use Rattle.orca_cues.specs.Rooms.{whole_lines}
use Rattle.orca_edit.specs.Obeying.{MachineState, machine_at_start, machine_closed}
use Rattle.orca_live.specs.Hands.{after_commands}
use Rattle.orca_live.specs.Journals.{kept_text}
use Rattle.orca_script.specs.Canonical.{Extends, HasValues, line_of, printed}
use Rattle.orca_words.specs.Requests.{Recover, Recovery, Setup, request_of}
use Rattle.orca_player.specs.Outlines.{Heard, Outline, Script, hushing, outline, room_start, saves_of, script_kept}
use Rattle.orca_player.specs.Takes.{saves_in}
use Rattle.orca_player.specs.declared.status.Status.TheVariants.{Done}

-- what a room has of these commands, and then a line that was cut off, if there is one
abbrev pub room_text : Setup → Sheet → List Command → List ℕ → List ℕ
room_text setup sheet commands cut = kept_text (room_start setup sheet) commands ++ cut

-- all is done: the commands are those of this script, the session is at last the one after them,
-- closed, and its grid and the script are saved, and no more. Nothing is sent but what ends notes
pub record IsRecovered (r : Recovery) (limit : ℕ) (sheet : Sheet) (script : Script) (o : Outline)
    : Type 0 where
  pub session : MachineState
  pub after : session
      ≡ after_commands script.commands (machine_at_start sheet script.seed limit)
  pub ends : o.course.ending ≡ Some Done
  pub commands : commands_in o.course.acts ≡ script.commands
  pub last : option_map (λ s. s.machine) o.course.state ≡ Some (machine_closed session)
  pub saves : saves_in o.course.acts ≡ saves_of r script session
  pub sends : given o.course.acts ≡ hushing r.midi
  pub given : o.given ≡ script_kept r.script script.seed (Some script.commands)

-- the most entries of the recovered session: as many as the performance had, unless more are asked for
abbrev pub limit_kept : Recovery → Setup → ℕ
limit_kept r setup = unwrap_or r.limit setup.limit

-- of a room in which a beginning of the lines of some commands stands, those commands are recovered
-- whose lines are whole there
pub record IsBegun (r : Recovery) (setup : Setup) (sheet : Sheet) (commands : List Command)
    (lines : List ℕ) (o : Outline) : Type 0 where
  pub done : List Command
  pub left : List Command
  pub splits : commands ≡ done ++ left
  pub whole : whole_lines lines ≡ flat_map printed done
  pub recovered : IsRecovered r (limit_kept r setup) sheet
      (record { seed = setup.seed; commands = done }) o

-- a performance can have kept this: the grid is one that a session can have, the limit is one that a
-- history may have, and the seed and the numbers of the commands have 32 bits
pub record CanBeKept (setup : Setup) (sheet : Sheet) (commands : List Command) : Type 0 where
  pub is_sheet : IsSheet sheet
  pub small : setup.seed < 2 ^ 32
  pub some : 1 ≤ setup.limit
  pub few : setup.limit ≤ MAX_HISTORY
  pub values : All (λ command. HasValues (line_of command)) commands

-- where words ask for a recovery, with no smaller limit than the performance had
pub record Recovers (words : List (List ℕ)) : Type 0 where
  -- the commands of a room are recovered, whatever bytes without a line feed stand behind them
  pub kept : (r : Recovery) (setup : Setup) (sheet : Sheet) (commands : List Command)
      (cut : List ℕ) (h : Heard) → request_of words ≡ Some (Recover r)
      → h.brought.script ≡ Some (room_text setup sheet commands cut)
      → CanBeKept setup sheet commands → IfSome r.limit (λ limit. setup.limit ≤ limit)
      → All (λ byte. byte ≢ line_feed) cut
      → IsRecovered r (limit_kept r setup) sheet
      (record { seed = setup.seed; commands = commands }) (outline words h)
  -- so wherever the lines of some commands were cut off, those before are recovered
  pub begun : (r : Recovery) (setup : Setup) (sheet : Sheet) (commands : List Command)
      (lines : List ℕ) (h : Heard) → request_of words ≡ Some (Recover r)
      → h.brought.script ≡ Some (room_start setup sheet ++ lines)
      → CanBeKept setup sheet commands → IfSome r.limit (λ limit. setup.limit ≤ limit)
      → Extends lines (flat_map printed commands)
      → IsBegun r setup sheet commands lines (outline words h)
