use Rattle.std.proofs.Common.{◌≡◌, arith, rules, ap, refl}
use Rattle.orca_base.specs.Grids.{Sheet, IsSheet}
use Rattle.orca_op.specs.State.{blank_marks}
use Rattle.orca_board.specs.Listing.{Listed, places_of}
use Rattle.orca_board.proofs.SlateLemmas.{lists-of_sheet, started}
use Rattle.orca_board.proofs.plain_board.PlainBoard.load.Goals as goal

pub returns-clause-slate : goal.returns-clause-slate
returns-clause-slate over c =
    let g : Sheet = record { dims = c.args.dims; cells = c.args.cells.now } in
    let unmarked : c.unmark.new.list.items ≡ blank_marks c.args.dims =
    rw c.unmark.ensures.items (rw c.cells-places.ensures.cells refl) in
    started _ g refl c.copy_into.ensures.items unmarked (search rules) c.clear.ensures.items
    (search rules)
    (ap (λ (l : Listed). places_of l.changes) c.begin.ensures)

pub invariant_of-self : goal.invariant_of-self
invariant_of-self over c =
    let g : Sheet = record { dims = c.args.dims; cells = c.args.cells.now } in
    let sheet : IsSheet g = record {
      size = c.cells-places.ensures.size;
      whole = c.requires;
      glyphs = c.copy_into.ensures.glyphs;
    } in
    record {
      lists = lists-of_sheet _ g _ sheet (returns-clause-slate over c)
          (ap (λ (l : Listed). l.changes) c.begin.ensures);
      cells_roomy = omega (arith, c.copy_into.ensures.capacity, c.self.invariant.cells_roomy);
      marks_roomy = omega (arith, c.unmark.ensures.capacity, c.self.invariant.marks_roomy);
      events_roomy = omega (arith, c.clear.ensures.capacity, c.self.invariant.events_roomy);
    }
