use Rattle.std.proofs.Common.{refl, arith}
use Rattle.std.proofs.lemmas.List.Elements.{All-push}
use Rattle.orca_term.specs.Picture.{IsPrintable, blank_cell}
use Rattle.orca_term.proofs.DrawnRows.{cell_more}
use Rattle.orca_term.proofs.picture.push_blanks.Goals as goal

pub loop-preserved : goal.loop-preserved
loop-preserved c = record {
  cells =
      cell_more (λ x. blank_cell) c.loop.counter c.args.cells.now.items c.loop.cells.items
      c.push_reserved.new.self.items blank_cell c.loop.invariant.cells refl
      c.push_reserved.ensures.items;
  len = omega arith;
  printable =
      rw c.push_reserved.ensures.items
      (All-push IsPrintable c.loop.cells.items blank_cell c.loop.invariant.printable
      (record { byte = (omega arith, omega arith); style = omega arith }));
  room = omega arith;
}
