-- A room: the text of a grid, an empty line, and a script.
use Rattle.std.specs.Prelude.{ℕ, Bool, true, ◌&&◌, ◌==◌, if◌then◌else◌, Option, Some, None, List, [], ◌∷◌}
use Rattle.std.specs.Option.{option_map}
use Rattle.orca_base.specs.Ascii.{line_feed}
use Rattle.orca_cues.specs.declared.rooms.Room.{Room as HeldRoom}

-- the text of the grid, and that of the script
pub record Room : Type 0 where
  pub grid : List ℕ
  pub script : List ℕ

-- what the code holds of one
abbrev pub room_in : HeldRoom → Room
room_in room = record { grid = room.grid.now; script = room.script.now }

-- a byte more before it
abbrev pub begun_with : ℕ → Room → Room
begun_with byte room = record { grid = byte ∷ room.grid; script = room.script }

-- the parts before and behind the first empty line, where a line begins at the first byte or not
unfoldable pub parted_from : Bool → List ℕ → Option Room
parted_from begins [] = None
parted_from begins (byte ∷ bytes) =
    if begins && (byte == line_feed) then Some (record { grid = []; script = bytes })
    else option_map (begun_with byte) (parted_from (byte == line_feed) bytes)

-- the parts of a text: an empty line is a line feed at the start, or right behind a line feed
abbrev pub room_parts : List ℕ → Option Room
room_parts text = parted_from true text

-- a byte, and then these lines: a byte that no line feed follows is in no whole line
abbrev pub whole_from : ℕ → List ℕ → List ℕ
whole_from byte [] = if byte == line_feed then byte ∷ [] else []
whole_from byte (next ∷ bytes) = byte ∷ next ∷ bytes

-- the whole lines of a text: all up to its last line feed
unfoldable pub whole_lines : List ℕ → List ℕ
whole_lines [] = []
whole_lines (byte ∷ bytes) = whole_from byte (whole_lines bytes)
