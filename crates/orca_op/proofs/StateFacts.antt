-- What deeds leave of a state: its size, the lengths of its lists, and glyphs alone.
use Rattle.std.proofs.Common.{◌≡◌, ◌&&◌, Bool, true, false, inl, inr, sym, ℕ, zero, suc, ◌+◌, ◌≤◌, List, [], ◌∷◌, length, replicate, refl, arith, ap, ◌∙◌, lit≤, length-append}
use Rattle.std.specs.Prelude.{count_by, Option, Some, None, ◌≢◌, ◌==◌, if◌then◌else◌, nat_lt}
use Rattle.std.proofs.lemmas.Bool.{le-ltb}
use Rattle.std.proofs.lemmas.Bool.Decides.{eqb_tells}
use Rattle.std.proofs.lemmas.List.{length-set, length-replicate}
use Rattle.orca_base.specs.declared.limits.TheConstants.{BASE}
use Rattle.orca_base.specs.declared.place.Place.{Place}
use Rattle.orca_base.specs.Glyphs.{IsGlyph, AreGlyphs, empty}
use Rattle.orca_base.specs.Grids.{Sheet, IsSheet, cells_of, index_of, place_in, right}
use Rattle.orca_base.specs.MarkSet.{MarkSet, no_marks, all_marks}
use Rattle.orca_base.proofs.SheetFacts.{AreGlyphs-set}
use Rattle.orca_op.specs.State.{State, IsState, sheet_of, fresh, marks_at, peek}
use Rattle.orca_op.specs.Deeds.{Deed, Mark, Write, Set, Emit, after, after_all, marks_after, cells_after}
use Rattle.orca_op.specs.Laws.{Every, WritesGlyph, is_emit}
use Rattle.orca_op.proofs.LawFacts.{count_by-append}

-- no deed changes the size
pub dims_after : (s : State) (deed : Deed) → (after s deed).dims ≡ s.dims
unfolding after
dims_after s (Mark at marks) = refl
dims_after s (Write at glyph) = refl
dims_after s (Set variable glyph) = refl
dims_after s (Emit event) = refl

pub dims_after_all : (s : State) (deeds : List Deed) → (after_all s deeds).dims ≡ s.dims
dims_after_all s [] = refl
dims_after_all s (deed ∷ deeds) = dims_after_all (after s deed) deeds ∙ dims_after s deed

-- marks and glyphs are put where others stood
pub length-marks_after : (s : State) (at : Option Place) (marks : MarkSet)
    → length (marks_after s at marks) ≡ length s.marks
length-marks_after s None marks = refl
length-marks_after s (Some at) marks =
    length-set s.marks (index_of s.dims at) (all_marks (marks_at s at) marks)

pub length-cells_after : (s : State) (at : Option Place) (glyph : ℕ)
    → length (cells_after s at glyph) ≡ length s.cells
length-cells_after s None glyph = refl
length-cells_after s (Some at) glyph = length-set s.cells (index_of s.dims at) glyph

AreGlyphs-cells_after : (s : State) (at : Option Place) (glyph : ℕ) → AreGlyphs s.cells
    → IsGlyph glyph → AreGlyphs (cells_after s at glyph)
AreGlyphs-cells_after s None glyph all is = all
AreGlyphs-cells_after s (Some at) glyph all is =
    AreGlyphs-set s.cells (index_of s.dims at) glyph all is

-- a deed adds an event, or none
pub events_after : (s : State) (deed : Deed)
    → length (after s deed).events ≡ length s.events + count_by is_emit (deed ∷ [])
unfolding after
events_after s (Mark at marks) = omega arith
events_after s (Write at glyph) = omega arith
events_after s (Set variable glyph) = omega arith
events_after s (Emit event) = omega (arith, length-append s.events (event ∷ []))

pub events_after_all : (s : State) (deeds : List Deed)
    → length (after_all s deeds).events ≡ length s.events + count_by is_emit deeds
events_after_all s [] = omega arith
events_after_all s (deed ∷ deeds) =
    omega (
      arith,
      events_after_all (after s deed) deeds,
      events_after s deed,
      count_by-append
          is_emit (deed ∷ []) deeds,
    )

sheet_after : (s : State) (at : Option Place) (glyph : ℕ) → IsSheet (sheet_of s) → IsGlyph glyph
    → IsSheet (record { dims = s.dims; cells = cells_after s at glyph })
sheet_after s at glyph sheet is = record {
  size = sheet.size;
  whole = length-cells_after s at glyph ∙ sheet.whole;
  glyphs = AreGlyphs-cells_after s at glyph sheet.glyphs is;
}

-- a deed that writes a glyph leaves a state, where there is room for its event
pub IsState-after : (s : State) (deed : Deed) → IsState s → WritesGlyph deed
    → length s.events + count_by is_emit (deed ∷ []) ≤ cells_of s.dims → IsState (after s deed)
unfolding after
IsState-after s (Mark at marks) state is room = record {
  sheet = state.sheet;
  marks = length-marks_after s (place_in s.dims at) marks ∙ state.marks;
  vars = state.vars;
  glyphs = state.glyphs;
  events = state.events;
}
IsState-after s (Write at glyph) state is room = record {
  sheet = sheet_after s (place_in s.dims at) glyph state.sheet is;
  marks = state.marks;
  vars = state.vars;
  glyphs = state.glyphs;
  events = state.events;
}
IsState-after s (Set variable glyph) state is room = record {
  sheet = state.sheet;
  marks = state.marks;
  vars = length-set s.vars variable glyph ∙ state.vars;
  glyphs = AreGlyphs-set s.vars variable glyph state.glyphs is;
  events = state.events;
}
IsState-after s (Emit event) state is room = record {
  sheet = state.sheet;
  marks = state.marks;
  vars = state.vars;
  glyphs = state.glyphs;
  events = omega (arith, room, length-append s.events (event ∷ []));
}

-- so do deeds in order
pub IsState-after_all : (s : State) (deeds : List Deed) → IsState s → Every WritesGlyph deeds
    → length s.events + count_by is_emit deeds ≤ cells_of s.dims → IsState (after_all s deeds)
IsState-after_all s [] state all room = state
IsState-after_all s (deed ∷ deeds) state all room =
    let count = count_by-append is_emit (deed ∷ []) deeds in
    let same : cells_of (after s deed).dims ≡ cells_of s.dims = ap cells_of (dims_after s deed) in
    IsState-after_all (after s deed) deeds
    (IsState-after s deed state all.0 (omega (arith, room, count))) all.1
    (omega (arith, room, count, events_after s deed, same))

pub AreGlyphs-empty : (n : ℕ) → AreGlyphs (replicate n empty)
AreGlyphs-empty zero = tt
AreGlyphs-empty (suc n) = ((lit≤ tt, lit≤ tt), AreGlyphs-empty n)

-- a frame begins with a state
pub IsState-fresh : (g : Sheet) → IsSheet g → IsState (fresh g)
IsState-fresh g sheet = record {
  sheet = sheet;
  marks = length-replicate (cells_of g.dims) no_marks;
  vars = length-replicate BASE empty;
  glyphs = AreGlyphs-empty BASE;
  events = omega arith;
}

-- at the right of the edge there is no glyph but `.`
pub none_beyond : (s : State) (at : Place) (k byte : ℕ) → s.dims.w ≤ at.x + k → byte ≢ empty
    → (peek s (right at k) == byte) ≡ false
unfolding peek
none_beyond s at k byte beyond visible =
    let none : place_in s.dims (right at k) ≡ None =
    rw (le-ltb (at.x + k) s.dims.w beyond)
    (none_if (nat_lt (at.y + 0) s.dims.h) (record { y = at.y + 0; x = at.x + k })) in
    rw none (elim (eqb_tells empty byte) [
      | inl same ↦ absurd (visible (sym same.1))
      | inr apart ↦ apart.0
    ])
  where
    none_if : (row : Bool) (place : Place) → (if row && false then Some place else None) ≡ None
    none_if true place = refl
    none_if false place = refl
