use Rattle.std.proofs.Common.{◌≡◌, Bool, true, false, not, arith, ap, refl}
use Rattle.orca_op.specs.State.{State}
use Rattle.orca_board.specs.Board.{slate_of}
use Rattle.orca_board.specs.Sizes.{is_size}
use Rattle.orca_board.proofs.LargestLemmas.{cleared-by_place}
use Rattle.orca_board.proofs.SizeLemmas.{keeps-resize, sized, unsized}
use Rattle.orca_board.proofs.field.Field.take_dims.Goals as goal

off : (b : Bool) → true ≡ not b → b ≡ false
off true is = is
off false is = refl

on : (b : Bool) → false ≡ not b → b ≡ true
on true is = refl
on false is = is

pub invariant_of-self : goal.invariant_of-self
invariant_of-self c =
    rw c.clear-then-ne.ensures.items
    (keeps-resize (slate_of c.self.inside) c.args.dims c.self.inside.listing.changes
    c.self.inside.cells.items c.self.inside.marks _ c.self.inside.live _ _ c.self.invariant
    c.requires.size c.clear.ensures.size
    (cleared-by_place c.args.dims _ c.self.inside.marks c.requires.size c.clear.ensures.marks)
    (off (is_size c.args.dims c.self.inside.dims) c.if-ne.ensures) refl
    (rw (← c.self.view_is) at c.requires.empty) (rw (← c.self.view_is) at c.requires.listed)
    (omega (arith, c.clear-then-ne.ensures.capacity)))

pub returns-then-ne : goal.returns-then-ne
returns-then-ne c =
    rw (← c.self.view_is, c.clear-then-ne.ensures.items)
    (ap (λ (s : State). record (slate_of c.self.inside) { scan = s })
    (sized c.self.inside.dims c.args.dims c.self.inside.cells.items _ _ c.self.inside.vars.items
    c.self.inside.events.items c.self.invariant.lists.slate.state.sheet.size c.requires.size
    (cleared-by_place c.args.dims _ c.self.inside.marks c.requires.size c.clear.ensures.marks)
    c.self.invariant.outside
    (off (is_size c.args.dims c.self.inside.dims) c.if-ne.ensures)))

pub returns-else-ne : goal.returns-else-ne
returns-else-ne c =
    rw (← c.self.view_is)
    (ap (λ (s : State). record (slate_of c.self.inside) { scan = s })
    (unsized (slate_of c.self.inside).scan c.args.dims c.self.invariant.lists.slate.state.sheet
    (on (is_size c.args.dims c.self.inside.dims) c.if-ne.ensures)))
