use Rattle.std.proofs.Common.{arith}
use Rattle.std.proofs.lemmas.List.Elements.{All-push}
use Rattle.orca_term.specs.Picture.{IsPrintable, text_cell}
use Rattle.orca_term.proofs.DrawnRows.{cell_more}
use Rattle.orca_term.proofs.picture.push_text.Goals as goal

pub loop-x-preserved : goal.loop-x-preserved
loop-x-preserved c = record {
  cells =
      cell_more (text_cell c.args.text.now) c.loop-x.x c.args.cells.now.items
      c.loop-x.cells.items c.push_reserved.new.self.items c.text_cell.result
      c.loop-x.invariant.cells c.text_cell.ensures.cell c.push_reserved.ensures.items;
  len = omega arith;
  printable =
      rw c.push_reserved.ensures.items
      (All-push IsPrintable c.loop-x.cells.items c.text_cell.result
      c.loop-x.invariant.printable c.text_cell.ensures.printable);
  room = omega arith;
}
