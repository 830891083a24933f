-- How a run ends, and the line that says so.
use Rattle.std.specs.Prelude.{ℕ, List, [], ◌∷◌, ◌++◌, codes}
use Rattle.std.specs.Fmt.{decimal}
use Rattle.orca_base.specs.declared.port.Port.TheVariants as port
use Rattle.orca_base.specs.Ascii.{line_feed}
use Rattle.orca_base.specs.Ports.{Sent}
use Rattle.orca_grid.specs.declared.refusal.GridRefusal.{GridRefusal}
use Rattle.orca_grid.specs.declared.refusal.GridRefusal.TheVariants as refusal
use Rattle.orca_player.specs.declared.status.Status.{Status}
use Rattle.orca_player.specs.declared.status.Status.TheVariants.{Done, Usage, GridRefused, OutFault, FileFault, ScriptRefused, HistoryFull, InboxFault, TurnsSpent, SmfTooLong, WavTooLong, RoomLeft, RoomHeld, Memory}

abbrev pub number_of_status : Status → ℕ
number_of_status Done = 0
number_of_status Usage = 1
number_of_status (GridRefused refusal) = 2
number_of_status OutFault = 3
number_of_status FileFault = 4
number_of_status (ScriptRefused line column) = 5
number_of_status HistoryFull = 6
number_of_status InboxFault = 7
number_of_status TurnsSpent = 8
number_of_status Memory = 9
number_of_status SmfTooLong = 11
number_of_status WavTooLong = 12
number_of_status RoomLeft = 13
number_of_status RoomHeld = 14

-- why a grid text is refused; out of memory is a status of its own
unfoldable pub grid_refusal_text : GridRefusal → List ℕ
grid_refusal_text (refusal.BadByte offset) = codes "bad byte at " ++ decimal offset
grid_refusal_text refusal.NoCells = codes "no cells"
grid_refusal_text (refusal.TooWide row) = codes "row " ++ decimal row ++ codes " too wide"
grid_refusal_text refusal.TooHigh = codes "too many rows"
grid_refusal_text refusal.Memory = []

-- the line of a status that is no success, without its end
unfoldable pub status_text : Status → List ℕ
status_text Done = []
status_text Usage = codes "usage: orca run|events|replay|make|play|migrate|smf|jam|wav|follow|lead"
status_text (GridRefused refusal) = codes "grid refused: " ++ grid_refusal_text refusal
status_text OutFault = codes "output fault"
status_text FileFault = codes "file fault"
status_text (ScriptRefused line column) =
    codes "script refused: line " ++ decimal line ++ codes " column " ++ decimal column
status_text HistoryFull = codes "history full"
status_text InboxFault = codes "inbox fault"
status_text TurnsSpent = codes "turns spent"
status_text SmfTooLong = codes "smf too long"
status_text WavTooLong = codes "wav too long"
status_text RoomLeft = codes "room left"
status_text RoomHeld = codes "room held"
status_text Memory = codes "no memory"

-- the line of a status, on the fault port
abbrev pub fault_sends : Status → List Sent
fault_sends status = record { port = port.Fault; bytes = status_text status ++ line_feed ∷ [] } ∷ []

-- a status other than 0 sends its line, as the last send
unfoldable pub status_sends : Status → List Sent
status_sends Done = []
status_sends status = fault_sends status
