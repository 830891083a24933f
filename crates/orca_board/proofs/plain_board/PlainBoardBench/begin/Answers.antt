use Rattle.std.proofs.Common.{arith, rules, ap, refl}
use Rattle.orca_op.specs.State.{sheet_of}
use Rattle.orca_board.specs.Listing.{Listed, places_of}
use Rattle.orca_board.specs.PlainBoard.{plain_slate_of}
use Rattle.orca_board.proofs.SlateLemmas.{lists-of_sheet, started}
use Rattle.orca_board.proofs.plain_board.PlainBoardBench.begin.Goals as goal

pub invariant_of-self : goal.invariant_of-self
invariant_of-self g c =
    record {
      lists = lists-of_sheet _ (sheet_of (plain_slate_of c.self.inside).scan) _
          c.self.invariant.lists.slate.state.sheet
          (started _ (sheet_of (plain_slate_of c.self.inside).scan) refl refl (search rules) (search rules)
          c.clear.ensures.items (search rules)
          (ap (λ (l : Listed). places_of l.changes) c.begin.ensures))
          (ap (λ (l : Listed). l.changes) c.begin.ensures);
      cells_roomy = c.self.invariant.cells_roomy;
      marks_roomy = omega (arith, c.fill.ensures.capacity, c.self.invariant.marks_roomy);
      events_roomy = omega (arith, c.clear.ensures.capacity, c.self.invariant.events_roomy);
    }
