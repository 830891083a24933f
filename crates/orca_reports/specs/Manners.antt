-- What each report prints, and whether a full history ends its run.
use Rattle.std.specs.Prelude.{ℕ, true, List, ◌++◌, length, Result, Ok, Err}
use Rattle.orca_base.specs.declared.command.Reply.{Reply}
use Rattle.orca_base.specs.declared.command.Reply.TheVariants.{Framed}
use Rattle.orca_base.specs.declared.command.Rule.{Rule}
use Rattle.orca_base.specs.declared.command.Rule.TheVariants.{HistoryFull}
use Rattle.orca_base.specs.declared.message.Message.{Message}
use Rattle.orca_concert.specs.Manners.{Aside, Manner, News, halt, remarks, silence}
use Rattle.orca_concert.specs.Manners.News.{Closed, Done, Last, Stands}
use Rattle.orca_concert.specs.Manners.Remark.{Lines, Text}
use Rattle.orca_course.specs.Standings.{Standing}
use Rattle.orca_course.specs.declared.ending.Stop.TheVariants.{Full}
use Rattle.orca_edit.specs.Obeying.{MachineState, piece_of}
use Rattle.orca_grid.specs.GridText.{text_of}
use Rattle.orca_send.specs.declared.lines.Label.TheVariants.{Tick, End}
use Rattle.orca_reports.specs.Sums.{sum_of}
use Rattle.orca_reports.specs.Texts.{refusal_text, state_text, figures_text}

-- the grid
abbrev pub grid_at : MachineState → List ℕ
grid_at m = text_of (piece_of m).sheet

-- the grid, and the line of its tick, of the length of the history and of the number of notes
abbrev pub state_at : MachineState → List ℕ
state_at m =
    grid_at m
    ++ state_text (piece_of m).tick (length m.history) (length (piece_of m).notes)

-- the five lines of a standing
abbrev pub figures_at : Standing → List ℕ
figures_at s =
    let piece = piece_of s.machine in
    figures_text piece.sheet.dims (length s.machine.history) piece.tick s.tally.messages
    (sum_of piece.sheet)

-- a full history ends the run
abbrev pub unless_full : Result Reply Rule → Unit {0} → Aside (Unit {0})
unless_full (Err HistoryFull) r = halt Full r
unless_full answer r = silence r

-- a line for each message of a frame; a full history ends the run
abbrev pub frame_report : Result Reply Rule → List Message → Unit {0} → Aside (Unit {0})
frame_report (Ok (Framed tick)) messages r = remarks (Lines (Tick tick) messages) r
frame_report answer messages r = unless_full answer r

-- the line of a refused command
abbrev pub refusal_report : ℕ → Result Reply Rule → Unit {0} → Aside (Unit {0})
refusal_report line (Ok reply) r = silence r
refusal_report line (Err rule) r = remarks (Text (refusal_text line rule)) r

-- `run` prints the grid at last, and a full history ends it
abbrev pub run_tells : News → Unit {0} → Aside (Unit {0})
run_tells (Done line answer messages) r = unless_full answer r
run_tells (Stands s) r = remarks (Text (grid_at s.machine)) r
run_tells (Closed messages) r = silence r
run_tells Last r = silence r

abbrev pub run_manner : Manner (Unit {0})
run_manner = record { hands = true; tells = run_tells }

-- `events` prints the messages of frames and those of the close, and a full history ends it
abbrev pub events_tells : News → Unit {0} → Aside (Unit {0})
events_tells (Done line answer messages) r = frame_report answer messages r
events_tells (Stands s) r = silence r
events_tells (Closed messages) r = remarks (Lines End messages) r
events_tells Last r = silence r

abbrev pub events_manner : Manner (Unit {0})
events_manner = record { hands = true; tells = events_tells }

-- `replay` prints each refusal, and at last the grid and where the run stands, as one text
abbrev pub replay_tells : News → Unit {0} → Aside (Unit {0})
replay_tells (Done line answer messages) r = refusal_report line answer r
replay_tells (Stands s) r = remarks (Text (state_at s.machine)) r
replay_tells (Closed messages) r = silence r
replay_tells Last r = silence r

abbrev pub replay_manner : Manner (Unit {0})
replay_manner = record { hands = true; tells = replay_tells }

-- `follow` and `lead` print at last the grid and where the run stands, as one text
abbrev pub state_tells : News → Unit {0} → Aside (Unit {0})
state_tells (Stands s) r = remarks (Text (state_at s.machine)) r
state_tells other r = silence r

abbrev pub state_manner : Manner (Unit {0})
state_manner = record { hands = true; tells = state_tells }

-- `make` prints its five lines at last, as one text
abbrev pub make_tells : News → Unit {0} → Aside (Unit {0})
make_tells (Stands s) r = remarks (Text (figures_at s)) r
make_tells other r = silence r

abbrev pub make_manner : Manner (Unit {0})
make_manner = record { hands = true; tells = make_tells }
