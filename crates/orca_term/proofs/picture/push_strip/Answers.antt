use Rattle.std.proofs.Common.{arith}
use Rattle.std.specs.Prelude.{slice_index_or}
use Rattle.std.proofs.lemmas.List.Elements.{All-push}
use Rattle.orca_term.specs.Picture.{IsPrintable, blank_cell}
use Rattle.orca_term.proofs.DrawnRows.{cell_more}
use Rattle.orca_term.proofs.picture.push_strip.Goals as goal

pub loop-x-preserved : goal.loop-x-preserved
loop-x-preserved c = record {
  cells =
      cell_more (λ x. slice_index_or c.args.strip.now x blank_cell) c.loop-x.x c.args.cells.now.items
      c.loop-x.cells.items c.push_reserved.new.self.items c.strip_cell.result
      c.loop-x.invariant.cells c.strip_cell.ensures.cell c.push_reserved.ensures.items;
  len = omega arith;
  printable =
      rw c.push_reserved.ensures.items
      (All-push IsPrintable c.loop-x.cells.items c.strip_cell.result
      c.loop-x.invariant.printable c.strip_cell.ensures.printable);
  room = omega arith;
}
