use Rattle.std.proofs.Common.{◌≡◌, ℕ, ◌+◌, ◌-◌, ◌<◌, ◌≤◌, ◌++◌, ◌∙◌, false, sym, ap, map, List, append_assoc, arith}
use Rattle.std.specs.List.{range_with_len}
use Rattle.orca_base.specs.Grids.{Size, is_inside}
use Rattle.orca_term.specs.Picture.{scene_of, blank_cell, grid_cell}
use Rattle.orca_term.specs.declared.cell.Cell.{Cell}
use Rattle.orca_term.proofs.DrawnRows.{outside_below, outside_right, row_cut}
use Rattle.orca_term.proofs.picture.push_grid_row.Goals as goal
use Rattle.orca_term.proofs.picture.push_grid_row.Goals.{then-first-from-via-then-first-from, then-first-from-via-else-first-from+then-first-from-2}

pub returns-then-first-from-clause-row : goal.returns-then-first-from-clause-row
returns-then-first-from-clause-row g c =
    let scene =
    scene_of (g.T.Look.sheet c.args.look.now)
    (g.T.Look.marks c.args.look.now) c.args.over.now in
    let size = c.dims.view_is ∙ c.dims-dims.ensures.size in
    let height : c.dims.inside.h ≡ scene.sheet.dims.h = ap (λ (d : Size). d.h) size in
    let width : c.dims.inside.w ≡ scene.sheet.dims.w = ap (λ (d : Size). d.w) size in
    let outside : (x : ℕ)
    → is_inside scene.sheet.dims (record { y = c.args.first.y; x = c.args.first.x + x }) ≡ false =
    λ x. elim c.then-first-from.branch [
      | then-first-from-via-then-first-from side ↦
          outside_below scene.sheet.dims c.args.first.y (c.args.first.x + x) (omega arith)
      | then-first-from-via-else-first-from+then-first-from-2 side ↦
          outside_right scene.sheet.dims c.args.first.y (c.args.first.x + x) (omega arith)
    ] in
    let none : c.args.columns - 0 ≡ c.args.columns = omega arith in
    c.push_blanks.ensures.blanks
    ∙ ap (λ (cells : List Cell). c.args.cells.now.items ++ cells)
    (ap (λ n. map (λ x. blank_cell) (range_with_len 0 n)) (sym none)
    ∙ sym (row_cut scene c.args.first.y c.args.first.x 0 c.args.columns (omega arith)
    (λ x from to. outside x)))

pub returns-clause-row : goal.returns-clause-row
returns-clause-row g c =
    let scene =
    scene_of (g.T.Look.sheet c.args.look.now)
    (g.T.Look.marks c.args.look.now) c.args.over.now in
    let size = c.dims.view_is ∙ c.dims-dims.ensures.size in
    let width : c.dims.inside.w ≡ scene.sheet.dims.w = ap (λ (d : Size). d.w) size in
    let f : ℕ → Cell =
    λ x. grid_cell scene (record { y = c.args.first.y; x = c.args.first.x + x }) in
    let outside : (x : ℕ) → c.min-inside.result ≤ x → x < c.args.columns
    → is_inside scene.sheet.dims (record { y = c.args.first.y; x = c.args.first.x + x }) ≡ false =
    λ x from to. outside_right scene.sheet.dims c.args.first.y (c.args.first.x + x) (omega arith) in
    let fits : c.min-inside.result ≤ c.args.columns = omega arith in
    let end : c.args.first.x + c.min-inside.result - c.args.first.x ≡ c.min-inside.result =
    omega arith in
    let places : c.push_places.new.cells.items
    ≡ c.args.cells.now.items ++ map f (range_with_len 0 c.min-inside.result) =
    c.push_places.ensures.places
    ∙ ap (λ n. c.args.cells.now.items ++ map f (range_with_len 0 n)) end in
    c.push_blanks-2.ensures.blanks
    ∙ (ap (λ (cells : List Cell). cells
    ++ map (λ x. blank_cell) (range_with_len 0 (c.args.columns - c.min-inside.result))) places
    ∙ (append_assoc c.args.cells.now.items (map f (range_with_len 0 c.min-inside.result))
    (map (λ x. blank_cell) (range_with_len 0 (c.args.columns - c.min-inside.result)))
    ∙ ap (λ (cells : List Cell). c.args.cells.now.items ++ cells)
    (sym (row_cut scene c.args.first.y c.args.first.x c.min-inside.result c.args.columns fits
    outside))))
