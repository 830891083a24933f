-- Rooms, by hand: a grid, an empty line, and a script whose last line was cut off.
use Rattle.std.proofs.Common.{◌≡◌, List, ℕ, [], ◌∷◌, ◌++◌, Some, None, refl}
use Rattle.std.specs.Prelude.{codes}
use Rattle.orca_cues.specs.Rooms.{parted_from, room_parts, whole_lines}

-- a line and its line feed
abbrev ended : List ℕ → List ℕ
ended line = line ++ 10 ∷ []

abbrev grid : List ℕ
grid = ended (codes "D8.") ++ ended (codes "...")

abbrev script : List ℕ
script = ended (codes "!orca 2 seed 1") ++ codes "write 0 0"

two_parts : room_parts (grid ++ 10 ∷ script) ≡ Some (record { grid = grid; script = script })
unfolding parted_from
two_parts = refl

only_whole_lines : whole_lines script ≡ ended (codes "!orca 2 seed 1")
unfolding whole_lines
only_whole_lines = refl

-- the first empty line parts
first_empty_line : room_parts (ended (codes "a") ++ 10 ∷ 10 ∷ codes "b")
    ≡ Some (record { grid = ended (codes "a"); script = 10 ∷ codes "b" })
unfolding parted_from
first_empty_line = refl

empty_at_the_start : room_parts (10 ∷ codes "b") ≡ Some (record { grid = []; script = codes "b" })
unfolding parted_from
empty_at_the_start = refl

no_empty_line : room_parts (ended (codes "a")) ≡ None
unfolding parted_from
no_empty_line = refl

no_whole_line : whole_lines (codes "write 0 0") ≡ []
unfolding whole_lines
no_whole_line = refl
