use Rattle.std.proofs.Common.{arith, rules, ap, refl}
use Rattle.orca_op.specs.State.{sheet_of}
use Rattle.orca_board.specs.Listing.{Listed, places_of}
use Rattle.orca_board.specs.Board.{slate_of}
use Rattle.orca_board.proofs.BoardLemmas.{keeps-of_sheet}
use Rattle.orca_board.proofs.LargestLemmas.{cleared-by_place}
use Rattle.orca_board.proofs.SlateLemmas.{started}
use Rattle.orca_board.proofs.field.FieldBench.begin.Goals as goal

pub returns-clause-slate : goal.returns-clause-slate
returns-clause-slate g c =
    rw (← c.self.view_is)
    (started _ (sheet_of (slate_of c.self.inside).scan) refl refl
    (cleared-by_place c.self.inside.dims _ c.self.inside.marks
    c.self.invariant.lists.slate.state.sheet.size c.clear.ensures.marks) (search rules)
    c.clear-2.ensures.items
    (rw (c.begin.ensures, c.of.ensures) refl)
    (ap (λ (l : Listed). places_of l.changes) c.begin.ensures))

pub invariant_of-self : goal.invariant_of-self
invariant_of-self g c =
    keeps-of_sheet _ (sheet_of (slate_of c.self.inside).scan) _ _ _ _ _
    c.self.invariant.lists.slate.state.sheet
    (rw (← c.self.view_is) at (returns-clause-slate g c))
    (ap (λ (l : Listed). l.changes) c.begin.ensures) c.self.invariant.whole
    c.clear.ensures.size c.self.invariant.outside c.self.invariant.live
    (omega (arith, c.clear-2.ensures.capacity, c.self.invariant.events_roomy))
