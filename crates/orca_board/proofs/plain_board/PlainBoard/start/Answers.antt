use Rattle.std.proofs.Common.{◌≡◌, arith, rules, ap}
use Rattle.orca_base.proofs.ListFacts.{resized}
use Rattle.orca_op.specs.State.{blank_marks}
use Rattle.orca_board.specs.Listing.{Listed, places_of}
use Rattle.orca_board.proofs.SlateLemmas.{lists-of_sheet, started}
use Rattle.orca_board.proofs.plain_board.PlainBoard.start.Goals as goal

pub invariant_of-result : goal.invariant_of-result
invariant_of-result c =
    let unmarked : c.resize.new.self.items ≡ blank_marks c.args.grid.now.dims =
    rw (← c.none.ensures, ← c.dims-dims.ensures.size, ← c.cells-2.ensures.cells)
    (resized c.cells-2.result _ _ _ c.none.result c.in_ok-marks.ensures.items
    c.in_ok-marks.ensures.len c.in_ok-resize.ensures.items) in
    record {
      lists = lists-of_sheet _ c.args.grid.now _ c.dims-dims.ensures.whole
          (started _ c.args.grid.now (search rules) (search rules) unmarked (search rules)
          (search rules) (search rules)
          (ap (λ (l : Listed). places_of l.changes) c.in_ok-start.ensures))
          (ap (λ (l : Listed). l.changes) c.in_ok-start.ensures);
      cells_roomy =
          omega (arith, c.extend_from_slice.ensures.capacity, c.in_ok-cells.ensures.capacity);
      marks_roomy = omega (arith, c.resize.ensures.capacity, c.in_ok-marks.ensures.capacity);
      events_roomy = omega (arith, c.in_ok-with_capacity.ensures.capacity);
    }
