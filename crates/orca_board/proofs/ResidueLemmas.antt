-- What is left to clear after an edit.
use Rattle.std.proofs.Common.{◌≡◌, ℕ, ◌+◌, ◌≤◌, Bool, true, false, not, ◌&&◌, List, [], ◌∷◌, ◌++◌, length, length-append, arith}
use Rattle.std.specs.Prelude.{Some, count_by, if◌then◌else◌}
use Rattle.orca_base.specs.declared.place.Place.{Place}
use Rattle.orca_base.specs.Edits.{sheet_after_resize}
use Rattle.orca_base.specs.Grids.{Size, Sheet, cells_of, is_inside}
use Rattle.orca_base.specs.MarkSet.{is_marked}
use Rattle.orca_op.specs.Slate.{Slate, is_listed, list_with, residue}
use Rattle.orca_op.specs.State.{State, blank_marks, sheet_of}
use Rattle.orca_op.proofs.SlateFacts.{count-blank}
use Rattle.orca_board.specs.Blocks.{slate_after_edit, list_each}
use Rattle.orca_board.specs.Sizes.{cut_places, slate_after_resize, slate_reverted, is_size, with_sheet}

-- another size marks no place
pub count-with_sheet : (s : State) (g : Sheet)
    → count_by is_marked (with_sheet s g).marks ≤ count_by is_marked s.marks
count-with_sheet s g = by (is_size g.dims s.dims)
  where
    by : (b : Bool)
        → count_by is_marked (if b then record s { dims = g.dims; cells = g.cells } else record s
        { dims = g.dims; cells = g.cells; marks = blank_marks g.dims; events = [] }).marks
        ≤ count_by is_marked s.marks
    by true = omega arith
    by false = omega (arith, count-blank (cells_of g.dims))

pub length-list_with : (began : Size) (listed : List Place) (at : Place)
    → length (list_with began listed (Some at)) ≤ length listed + 1
length-list_with began listed at = by (is_inside began at && not (is_listed listed at))
  where
    by : (b : Bool) → length (if b then listed ++ at ∷ [] else listed) ≤ length listed + 1
    by true = omega (arith, length-append listed (at ∷ []))
    by false = omega arith

-- at most each place is listed
pub length-list_each : (began : Size) (listed places : List Place)
    → length (list_each began listed places) ≤ length listed + length places
length-list_each began listed [] = omega arith
length-list_each began listed (p ∷ places) =
    omega (
      arith,
      length-list_with began listed p,
      length-list_each began (list_with began listed (Some p)) places,
    )

pub residue-edit : (d : Slate) (g : Sheet) (places : List Place)
    → residue (slate_after_edit d g places) ≤ residue d + length places
unfolding residue
residue-edit d g places = omega (arith, length-list_each d.began.dims d.listed places)

pub residue-resize : (d : Slate) (to : Size)
    → residue (slate_after_resize d to) ≤ residue d + length (cut_places d.scan.dims to)
unfolding residue
residue-resize d to =
    omega (
      arith,
      count-with_sheet d.scan (sheet_after_resize (sheet_of d.scan) to),
      length-list_each d.began.dims d.listed (cut_places d.scan.dims to),
    )

pub residue-revert : (d : Slate) → residue (slate_reverted d) ≤ residue d
unfolding residue
residue-revert d = omega (arith, count-with_sheet d.scan d.began)

-- ---- the clauses on an edit's steps

pub residue-edited : (d e : Slate) (g : Sheet) (places : List Place) (from to n : ℕ)
    → e ≡ slate_after_edit d g places → to ≡ from + n → length places ≤ n
    → residue e + from ≤ residue d + to
residue-edited d e g places from to n is steps few =
    let most : residue e ≤ residue d + length places = rw is (residue-edit d g places) in
    omega (arith, most, steps, few)

pub residue-resized : (d e : Slate) (size : Size) (from to : ℕ) → e ≡ slate_after_resize d size
    → to ≡ from + length (cut_places d.scan.dims size) → residue e + from ≤ residue d + to
residue-resized d e size from to is steps =
    let most : residue e ≤ residue d + length (cut_places d.scan.dims size) =
    rw is (residue-resize d size) in
    omega (arith, most, steps)

pub residue-reverted : (d e : Slate) (from to n : ℕ) → e ≡ slate_reverted d → to ≡ from + n
    → residue e + from ≤ residue d + to
residue-reverted d e from to n is steps =
    let most : residue e ≤ residue d = rw is (residue-revert d) in
    omega (arith, most, steps)
