-- The covering law: what the scan evaluates stood there when the frame began.
use Rattle.std.specs.Prelude.{ℕ, ◌<◌, ◌≡◌, false, IsTrue, slice_index}
use Rattle.orca_base.specs.declared.marks.Mark.{Mark}
use Rattle.orca_base.specs.declared.now.Now.{Now}
use Rattle.orca_base.specs.declared.place.Place.{Place}
use Rattle.orca_base.specs.Grids.{Sheet, IsSheet, place_of}
use Rattle.orca_base.specs.MarkSet.{has_mark}
use Rattle.orca_op.specs.Scan.{Rules, is_idle, state_after_places, places}
use Rattle.orca_op.specs.State.{State, state_glyph, marks_at}

-- a place that isn't idle when the scan reaches it holds the glyph that it held as the frame began
abbrev pub IsCovering : Rules → Type 0
IsCovering rules =
    (g : Sheet) (now : Now) (n : ℕ) → IsSheet g → n < places g
    → is_idle (state_after_places rules n g now) (place_of g.dims n) ≡ false
    → state_glyph (state_after_places rules n g now) (place_of g.dims n) ≡ slice_index g.cells n

-- every mark that a place has in the first state it has in the second
abbrev pub KeepsMarks : State → State → Type 0
KeepsMarks s t = (at : Place) (mark : Mark) → IsTrue (has_mark (marks_at s at) mark)
    → IsTrue (has_mark (marks_at t at) mark)
