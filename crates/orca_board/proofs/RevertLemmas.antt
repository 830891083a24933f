-- The grid of the last `begin`, once the old glyphs of the changes are put back.
use Rattle.std.proofs.Common.{◌≡◌, ℕ, Bool, true, false, List, [], ◌∷◌, length, refl, ap, sym, ◌∙◌, subst, inl, inr}
use Rattle.std.specs.Prelude.{All, if◌then◌else◌, slice_index}
use Rattle.std.specs.List.{AllByRecursion, IsDistinct}
use Rattle.std.proofs.lemmas.Bool.{both_ways, cases_Bool}
use Rattle.std.proofs.lemmas.List.Elements.{All-map, All-nil, recursion_from_All}
use Rattle.orca_base.specs.declared.change.Change.{Change}
use Rattle.orca_base.specs.declared.limits.TheConstants.{MAX_CELLS}
use Rattle.orca_base.specs.declared.place.Place.{Place}
use Rattle.orca_base.specs.Grids.{Size, Sheet, IsSheet, IsInside, by_place, glyph_at as glyph_on, index_of, is_inside, is_place, largest}
use Rattle.orca_base.proofs.PlaceFacts.{is_inside-inside, is_place-same}
use Rattle.orca_base.specs.MarkSet.{MarkSet}
use Rattle.orca_base.proofs.SheetFacts.{index-by_place, list-by_place}
use Rattle.orca_op.specs.Slate.{Slate, changes_of, is_listed}
use Rattle.orca_op.specs.State.{State, blank_marks}
use Rattle.orca_board.specs.Board.{AreLive, KeepsBoard, cell_in}
use Rattle.orca_board.specs.Listing.{places_of}
use Rattle.orca_board.specs.Sizes.{is_size, with_sheet}
use Rattle.orca_board.proofs.BoardLemmas.{inside-largest}

-- what is known of cells in which the changes of a board were put back
pub record Restores (known : List Change) (cells new : List ℕ) : Type 0 where
  pub whole : length new ≡ MAX_CELLS
  pub olds : (old : Place → ℕ) → All (λ change. change.old ≡ old change.at) known → (at : Place)
      → IsInside largest at → is_listed (places_of known) at ≡ true → cell_in new at ≡ old at
  pub others : (at : Place) → IsInside largest at → is_listed (places_of known) at ≡ false
      → cell_in new at ≡ cell_in cells at

-- the changes of a slate have their glyphs of the last `begin`
have_olds : (e : Slate) (known : List Change) → known ≡ changes_of e
    → All (λ change. change.old ≡ glyph_on e.began change.at) known
have_olds e known is =
    rw is (All-map (λ (change : Change). change.old ≡ glyph_on e.began change.at)
    (λ (at : Place). record { at = at; old = glyph_on e.began at }) e.listed (λ k at below. refl))

-- so each place holds its glyph of then
pub back : (e : Slate) (known : List Change) (cells new : List ℕ) (marks : List MarkSet)
    (bits : List ℕ) (room : ℕ)
    → KeepsBoard e known cells marks bits room → Restores known cells new
    → e.scan.cells ≡ by_place e.scan.dims (cell_in cells) → e.listed ≡ places_of known
    → by_place e.began.dims (cell_in new) ≡ e.began.cells
back e known cells new marks bits room kept restored is listed =
    let began = kept.lists.slate.began in
    sym (list-by_place e.began.dims e.began.cells (cell_in new) 0 began.size began.whole
    (λ at inside.
    let there : IsInside largest at = inside-largest e.began.dims at began.size inside in
    elim (cases_Bool (is_listed (places_of known) at)) [
      | inl changed ↦ sym (restored.olds (glyph_on e.began) (have_olds e known kept.lists.changes)
          at there changed)
      | inr absent ↦
          let same = kept.lists.slate.kept at inside (rw listed absent) in
          sym same.1
          ∙ (ap (λ (xs : List ℕ). slice_index xs (index_of e.scan.dims at)) is
          ∙ (index-by_place e.scan.dims (cell_in cells) at 0 same.0
          ∙ sym (restored.others at there absent)))
    ]))

-- the grid is that of the last `begin`
pub sheet-back : (e : Slate) (new : List ℕ) → e.scan.dims ≡ e.began.dims
    → by_place e.began.dims (cell_in new) ≡ e.began.cells
    → ◌≡◌ {A = Sheet} (record { dims = e.scan.dims; cells = by_place e.scan.dims (cell_in new) })
    e.began
sheet-back e new same is =
    ap (λ (d : Size). record { dims = d; cells = by_place d (cell_in new) }) same
    ∙ ap (λ (cells : List ℕ). record { dims = e.began.dims; cells = cells }) is

-- a listed place lies in the grid of the last `begin`
listed-inside : (d : Size) (places : List Place) (at : Place) → All (IsInside d) places
    → is_listed places at ≡ true → IsInside d at
listed-inside d places at all is = by places (recursion_from_All (IsInside d) places all) is
  where
    by : (places : List Place) → AllByRecursion (IsInside d) places → is_listed places at ≡ true
        → IsInside d at
    by [] all is = absurd (both_ways _ refl is)
    by (p ∷ places) all is = elim (cases_Bool (is_place at p)) [
      | inl same ↦ subst (IsInside d) (sym (is_place-same at p same)) all.0
      | inr other ↦ by places all.1 (rw other at is)
    ]

-- what the parts of a board keep then
pub keeps-revert : (e : Slate) (known : List Change) (cells new : List ℕ) (marks : List MarkSet)
    (bits more : List ℕ) (room : ℕ)
    → KeepsBoard e known cells marks bits room → Restores known cells new → AreLive new more
    → e.scan.dims ≡ e.began.dims → e.scan.cells ≡ by_place e.scan.dims (cell_in cells) → e.listed
    ≡ places_of known
    → KeepsBoard (record {
      scan = record e.scan { cells = by_place e.scan.dims (cell_in new) };
      began = e.began;
      listed = [];
    }) [] new marks more room
unfolding IsDistinct
keeps-revert e known cells new marks bits more room kept restored live same is listed =
    let grid = sheet-back e new same
    (back e known cells new marks bits room kept restored is listed) in
    record {
      lists = record {
        slate = record {
          state = record {
            sheet = subst IsSheet (sym grid) kept.lists.slate.began;
            marks = kept.lists.slate.state.marks;
            vars = kept.lists.slate.state.vars;
            glyphs = kept.lists.slate.state.glyphs;
            events = kept.lists.slate.state.events;
          };
          began = kept.lists.slate.began;
          inside = All-nil (IsInside e.began.dims);
          once = tt;
          kept = λ at inside absent. (
            subst (λ (d : Size). IsInside d at) (sym same) inside,
            ap
                (λ (g : Sheet). glyph_on g at) grid,
          );
        };
        changes = refl;
      };
      whole = restored.whole;
      marks_whole = kept.marks_whole;
      outside = λ at inside past. restored.others at inside
          (unlisted at past (is_listed (places_of known) at) refl) ∙ kept.outside at inside past;
      live = live;
      events_roomy = kept.events_roomy;
    }
  where
    unlisted : (at : Place) → is_inside e.scan.dims at ≡ false → (b : Bool)
        → is_listed (places_of known) at ≡ b → b ≡ false
    unlisted at past false here = refl
    unlisted at past true here =
        let inside : IsInside e.began.dims at =
        listed-inside e.began.dims e.listed at kept.lists.slate.inside (rw listed here) in
        absurd (both_ways _ past (subst (λ (d : Size). is_inside d at ≡ true) (sym same)
        (is_inside-inside e.began.dims at inside)))

-- the state with a grid, whatever its cells were in between
pub sheeted : (s : State) (d : Size) (cells : List ℕ) (g : Sheet) → d ≡ g.dims
    → record (with_sheet s (record { dims = d; cells = cells })) { cells = g.cells }
    ≡ with_sheet s g
sheeted s d cells g same = rw same (by (is_size g.dims s.dims))
  where
    by : (b : Bool) → ◌≡◌ {A = State}
        (record (if b then record s { dims = g.dims; cells = cells } else record s
        { dims = g.dims; cells = cells; marks = blank_marks g.dims; events = [] }) {
          cells =
              g.cells;
        })
        (if b then record s { dims = g.dims; cells = g.cells } else record s
        { dims = g.dims; cells = g.cells; marks = blank_marks g.dims; events = [] })
    by true = refl
    by false = refl

pub dims-with_sheet : (s : State) (g : Sheet) → (with_sheet s g).dims ≡ g.dims
dims-with_sheet s g = by (is_size g.dims s.dims)
  where
    by : (b : Bool) → (if b then record s { dims = g.dims; cells = g.cells } else record s
        { dims = g.dims; cells = g.cells; marks = blank_marks g.dims; events = [] }).dims ≡ g.dims
    by true = refl
    by false = refl
