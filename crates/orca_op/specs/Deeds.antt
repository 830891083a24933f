-- Deeds: what an operator does, one thing at a time.
use Rattle.std.specs.Prelude.{ℕ, zero, suc, List, [], ◌∷◌, ◌++◌, Option, Some, None, slice_set, pos, ◌+◌}
use Rattle.orca_base.specs.declared.event.Event.{Event}
use Rattle.orca_base.specs.declared.marks.Mark.TheVariants.{Lock, Input, Param, Output, Sleep}
use Rattle.orca_base.specs.declared.place.Place.{Place}
use Rattle.orca_base.specs.declared.place.Spot.{Spot}
use Rattle.orca_base.specs.Grids.{index_of, off, place_in}
use Rattle.orca_base.specs.MarkSet.{MarkSet, no_marks, with_mark, all_marks}
use Rattle.orca_op.specs.State.{State, marks_at}

pub data Deed : Type 0 where
  Mark : (at : Spot) (marks : MarkSet) → Deed
  Write : (at : Spot) (glyph : ℕ) → Deed
  Set : (variable : ℕ) (glyph : ℕ) → Deed
  Emit : (event : Event) → Deed

-- marks are added; outside the grid nothing changes
abbrev pub marks_after : State → Option Place → MarkSet → List MarkSet
marks_after s None marks = s.marks
marks_after s (Some at) marks =
    slice_set s.marks (index_of s.dims at) (all_marks (marks_at s at) marks)

-- the glyph is written; outside the grid nothing changes
abbrev pub cells_after : State → Option Place → ℕ → List ℕ
cells_after s None glyph = s.cells
cells_after s (Some at) glyph = slice_set s.cells (index_of s.dims at) glyph

-- the state after a deed
unfoldable pub after : State → Deed → State
after s (Mark at marks) = record s { marks = marks_after s (place_in s.dims at) marks }
after s (Write at glyph) = record s { cells = cells_after s (place_in s.dims at) glyph }
after s (Set variable glyph) = record s { vars = slice_set s.vars variable glyph }
after s (Emit event) = record s { events = s.events ++ event ∷ [] }

-- the state after deeds, in order
abbrev pub after_all : State → List Deed → State
after_all s [] = s
after_all s (deed ∷ deeds) = after_all (after s deed) deeds

-- the deeds that mark a spot
abbrev pub input_at : Spot → Deed
input_at at = Mark at (with_mark (with_mark no_marks Input) Lock)

abbrev pub param_at : Spot → Deed
param_at at = Mark at (with_mark (with_mark (with_mark no_marks Input) Param) Lock)

abbrev pub output_at : Spot → Deed
output_at at = Mark at (with_mark (with_mark no_marks Output) Lock)

abbrev pub far_at : Spot → Deed
far_at at = Mark at (with_mark (with_mark no_marks Output) Sleep)

abbrev pub lock_at : Spot → Deed
lock_at at = Mark at (with_mark no_marks Lock)

abbrev pub sleep_at : Spot → Deed
sleep_at at = Mark at (with_mark no_marks Sleep)

abbrev pub show_at : Spot → Deed
show_at at = Mark at (with_mark no_marks Output)

-- the deeds of the numbers from 0 below n, in order
abbrev pub each_below : ℕ → (ℕ → List Deed) → List Deed
each_below zero deeds = []
each_below (suc n) deeds = each_below n deeds ++ deeds n

-- n places of a row, y rows below a place, get marks: the first of them lies x columns to its right
abbrev pub span_deeds : Place → ℕ → ℕ → ℕ → MarkSet → List Deed
span_deeds at y x n marks = each_below n (λ i. Mark (off at (pos y) (pos (i + x))) marks ∷ [])
