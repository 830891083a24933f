-- A grid that takes another size, and the changes that are put back.
use Rattle.std.proofs.Common.{◌≡◌, ℕ, ◌≤◌, ◌==◌, Bool, true, false, ◌||◌, List, [], ◌∷◌, ◌++◌, length, refl, arith, ap, sym, ◌∙◌, inl, inr}
use Rattle.std.proofs.Math.ListN.{set, length-replicate}
use Rattle.std.specs.Prelude.{if◌then◌else◌, slice_index}
use Rattle.std.proofs.lemmas.Bool.{both_ways, cases_Bool, or_parts, and_parts}
use Rattle.std.proofs.lemmas.Bool.Decides.{eqb_tells}
use Rattle.std.proofs.lemmas.List.{get_or-set_other, get_or-set_same}
use Rattle.std.proofs.lemmas.List.Folds.{list_any-append}
use Rattle.orca_base.specs.declared.change.Change.{Change}
use Rattle.orca_base.specs.declared.limits.TheConstants.{MAX_CELLS}
use Rattle.orca_base.specs.declared.event.Event.{Event}
use Rattle.orca_base.specs.declared.place.Place.{Place}
use Rattle.orca_base.specs.Edits.{sheet_after_resize}
use Rattle.orca_base.specs.Glyphs.{empty}
use Rattle.orca_base.specs.Grids.{Size, IsSize, Sheet, IsSheet, IsInside, by_place, glyph_at as glyph_on, index_of, is_inside, is_place, largest, sheet_by, cells_of}
use Rattle.orca_base.specs.MarkSet.{MarkSet, no_marks}
use Rattle.orca_base.proofs.PlaceFacts.{index-apart, index_of-below, inside-is_inside, is_inside-inside, is_place-same}
use Rattle.orca_base.proofs.SheetFacts.{index-by_place, glyph_at-sheet_by, same-by_place, sheet-same, IsSheet-resize}
use Rattle.orca_op.specs.Slate.{Slate, IsSlate, is_listed}
use Rattle.orca_op.specs.State.{State, blank_marks, state_glyph, sheet_of}
use Rattle.orca_board.specs.Board.{IsEmptyOutside, KeepsBoard, cell_in, cell_marks}
use Rattle.orca_board.specs.Sizes.{is_size, with_sheet}
use Rattle.orca_board.proofs.BoardLemmas.{inside-largest}

-- ---- another size

-- a grid that keeps its size
pub resize-same : (g : Sheet) → IsSheet g → sheet_after_resize g g.dims ≡ g
resize-same g sheet =
    sym (sheet-same g (λ at. if is_inside g.dims at then glyph_on g at else empty) sheet.size
    sheet.whole (λ at inside. rw (is_inside-inside g.dims at inside) refl))

-- cells of the largest grid that are empty outside a grid are those of the grid in another size
pub cells-resize : (d to : Size) (cells : List ℕ) → IsSize d → IsSize to → IsEmptyOutside d cells
    → by_place to (cell_in cells) ≡ (sheet_after_resize (sheet_by d (cell_in cells)) to).cells
cells-resize d to cells size other outside =
    same-by_place to (cell_in cells)
    (λ at. if is_inside d at then glyph_on (sheet_by d (cell_in cells)) at else empty) 0 other
    (λ at inside. each at inside (is_inside d at) refl)
  where
    each : (at : Place) → IsInside to at → (b : Bool) → is_inside d at ≡ b
        → cell_in cells at ≡ (if b then glyph_on (sheet_by d (cell_in cells)) at else empty)
    each at inside true is =
        sym (glyph_at-sheet_by d (cell_in cells) at (inside-is_inside d at is))
    each at inside false is = outside at (inside-largest to at other inside) is

-- a place of a grid of another size holds what it held
pub glyph-resize : (g : Sheet) (to : Size) (at : Place) → IsInside g.dims at → IsInside to at
    → glyph_on (sheet_after_resize g to) at ≡ glyph_on g at
glyph-resize g to at inside there =
    glyph_at-sheet_by to (λ at. if is_inside g.dims at then glyph_on g at else empty) at there
    ∙ (rw (is_inside-inside g.dims at inside) refl)

-- a slate in another size
IsSlate-resize : (d : Slate) (to : Size) → IsSlate d → IsSize to → is_size to d.scan.dims ≡ false
    → ((at : Place) → IsInside d.began.dims at → is_inside to at ≡ false → is_listed d.listed at
    ≡ true)
    → IsSlate (record d {
      scan = record d.scan {
        dims = to;
        cells = (sheet_after_resize (sheet_of d.scan) to).cells;
        marks = blank_marks
            to;
        events = [];
      };
    })
IsSlate-resize d to slate size other listed = record {
  state = record {
    sheet = IsSheet-resize (sheet_of d.scan) to slate.state.sheet size;
    marks = length-replicate (cells_of to) no_marks;
    vars = slate.state.vars;
    glyphs = slate.state.glyphs;
    events = omega arith;
  };
  began = slate.began;
  inside = slate.inside;
  once = slate.once;
  kept = λ at in_began absent.
      let before = slate.kept at in_began absent in
      let there : IsInside to at =
      inside-is_inside to at (stays at (is_inside to at) refl (listed at in_began) absent) in
      (there, glyph-resize (sheet_of d.scan) to at before.0 there ∙ before.1);
}
  where
    stays : (at : Place) (b : Bool) → b ≡ is_inside to at
        → (is_inside to at ≡ false → is_listed d.listed at ≡ true) → is_listed d.listed at ≡ false
        → is_inside to at ≡ true
    stays at true is wanted absent = sym is
    stays at false is wanted absent = absurd (both_ways _ absent (wanted (sym is)))

-- the state in another size, by the parts of a board
pub sized : (d to : Size) (cells : List ℕ) (marks new : List MarkSet) (vars : List ℕ)
    (events : List Event)
    → IsSize d → IsSize to → by_place to (cell_marks new) ≡ blank_marks to → IsEmptyOutside d cells
    → is_size to d ≡ false
    → ◌≡◌ {A = State} (record {
      dims = to;
      cells = by_place to (cell_in cells);
      marks = by_place to
          (cell_marks new);
      vars = vars;
      events = [];
    })
    (with_sheet (record {
      dims = d;
      cells = by_place d (cell_in cells);
      marks = marks;
      vars = vars;
      events = events;
    }) (sheet_after_resize (sheet_by d (cell_in cells)) to))
sized d to cells marks new vars events size other_size none outside other =
    rw (other, cells-resize d to cells size other_size outside, none) refl

same_size : (a b : Size) → is_size a b ≡ true → a ≡ b
same_size a b is =
    let parts = and_parts (a.h == b.h) (a.w == b.w) is in
    ap (λ (h : ℕ). record { h = h; w = a.w }) (number a.h b.h parts.0)
    ∙ ap (λ (w : ℕ). record { h = b.h; w = w }) (number a.w b.w parts.1)
  where
    number : (i j : ℕ) → (i == j) ≡ true → i ≡ j
    number i j same = elim (eqb_tells i j) [
      | inl told ↦ told.1
      | inr told ↦ absurd (both_ways _ told.0 same)
    ]

-- the state in its own size
pub unsized : (s : State) (to : Size) → IsSheet (sheet_of s) → is_size to s.dims ≡ true
    → s ≡ with_sheet s (sheet_after_resize (sheet_of s) to)
unsized s to sheet is =
    rw (is, same_size to s.dims is) (ap (λ (g : Sheet). record s { dims = g.dims; cells = g.cells })
    (sym (resize-same (sheet_of s) sheet)))

-- what the parts of a board keep in another size
pub keeps-resize : (d : Slate) (to : Size) (known : List Change) (cells : List ℕ)
    (marks new : List MarkSet) (bits : List ℕ) (room more : ℕ)
    → KeepsBoard d known cells marks bits room → IsSize to → length new ≡ MAX_CELLS
    → by_place to (cell_marks new) ≡ blank_marks to → is_size to d.scan.dims ≡ false
    → d.scan.cells ≡ by_place d.scan.dims (cell_in cells)
    → ((at : Place) → IsInside d.scan.dims at → is_inside to at ≡ false → state_glyph d.scan at
    ≡ empty)
    → ((at : Place) → IsInside d.began.dims at → is_inside to at ≡ false → is_listed d.listed at
    ≡ true)
    → room ≤ more
    → KeepsBoard (record d {
      scan = record d.scan {
        dims = to;
        cells = by_place to (cell_in cells);
        marks = by_place to (cell_marks new);
        events = [];
      };
    }) known cells new bits more
keeps-resize d to known cells marks new bits room more kept size long none other is cut listed
    grows =
    let here : (sheet_after_resize (sheet_of d.scan) to).cells ≡ by_place to (cell_in cells) =
    ap (λ (xs : List ℕ). (sheet_after_resize (record { dims = d.scan.dims; cells = xs }) to).cells)
    is ∙ sym (cells-resize d.scan.dims to cells kept.lists.slate.state.sheet.size size
    kept.outside) in
    rw (← here, none) (record {
      lists = record {
        slate = IsSlate-resize d to kept.lists.slate size other listed;
        changes =
            kept.lists.changes;
      };
      whole = kept.whole;
      marks_whole = long;
      outside = λ at inside past. each at inside past (is_inside d.scan.dims at) refl;
      live = kept.live;
      events_roomy = omega (arith, kept.events_roomy, grows);
    })
  where
    each : (at : Place) → IsInside largest at → is_inside to at ≡ false → (b : Bool)
        → is_inside d.scan.dims at ≡ b → cell_in cells at ≡ empty
    each at inside past true here =
        let there : IsInside d.scan.dims at = inside-is_inside d.scan.dims at here in
        sym (ap (λ (xs : List ℕ). slice_index xs (index_of d.scan.dims at)) is
        ∙ index-by_place d.scan.dims (cell_in cells) at 0 there) ∙ cut at there past
    each at inside past false here = kept.outside at inside here

-- ---- changes that are put back

-- what is listed with one place more
listed_more : (places : List Place) (at q : Place)
    → is_listed (places ++ at ∷ []) q ≡ (is_listed places q || (is_place q at || false))
listed_more places at q = list_any-append (is_place q) places (at ∷ [])

-- a changed place holds the old glyph
pub restored-old : (cells : List ℕ) (places : List Place) (at q : Place) (glyph : ℕ)
    (old : Place → ℕ)
    → length cells ≡ MAX_CELLS → IsInside largest at → IsInside largest q → glyph ≡ old at
    → (is_listed places q ≡ true → cell_in cells q ≡ old q) → is_listed (places ++ at ∷ []) q
    ≡ true → cell_in (set cells (index_of largest at) glyph) q ≡ old q
restored-old cells places at q glyph old whole here there is before listed =
    elim (cases_Bool (is_place q at)) [
      | inl same ↦
          let one : q ≡ at = is_place-same q at same in
          rw one (get_or-set_same cells (index_of largest at) glyph 0
          (omega (arith, index_of-below largest at here, whole)) ∙ is)
      | inr apart ↦
          get_or-set_other cells (index_of largest at) (index_of largest q) glyph 0
          (index-apart largest q at there here apart)
          ∙ before (earlier (is_listed places q) (is_place q at) apart
          (sym (listed_more places at q) ∙ listed))
    ]
  where
    earlier : (a b : Bool) → b ≡ false → (a || (b || false)) ≡ true → a ≡ true
    earlier true b none any = refl
    earlier false b none any = absurd (both_ways _ (rw none refl) any)

-- another place stays as it was
pub restored-other : (cells : List ℕ) (places : List Place) (at q : Place) (glyph : ℕ)
    → IsInside largest at → IsInside largest q
    → is_listed (places ++ at ∷ []) q ≡ false → (is_listed places q ≡ false)
    × (cell_in (set cells (index_of largest at) glyph) q ≡ cell_in cells q)
restored-other cells places at q glyph here there absent =
    let parts = or_parts (is_listed places q) (is_place q at || false)
    (sym (listed_more places at q) ∙ absent) in (
      parts.0,
      get_or-set_other cells (index_of largest at) (index_of largest q) glyph 0
          (index-apart largest q at there here (or_parts (is_place q at) false parts.1).0),
    )
