use Rattle.std.proofs.Common.{ap, rules}
use Rattle.orca_base.specs.Grids.{Sheet}
use Rattle.orca_op.specs.Slate.{Slate}
use Rattle.orca_board.specs.Board.{slate_of}
use Rattle.orca_board.specs.Sizes.{slate_after_resize, with_sheet}
use Rattle.orca_board.proofs.CutLemmas.{cut-off, resize-cut}
use Rattle.orca_board.proofs.field.Field.set_dims.Goals as goal

pub take_dims-requires : goal.take_dims-requires
take_dims-requires g c =
    let cut = cut-off _ _ _ _ c.self.invariant.lists.slate c.self.view_is c.cut.ensures.slate in
    record { size = search rules; empty = cut.emptied; listed = cut.listed }

pub returns-clause-slate : goal.returns-clause-slate
returns-clause-slate g c =
    let d : Slate = slate_of c.self.inside in
    let cut = cut-off d _ _ _ c.self.invariant.lists.slate c.self.view_is c.cut.ensures.slate in
    rw (c.take_dims.ensures, cut.is, ← c.self.view_is)
    (ap (λ (s : Sheet). record (slate_after_resize d c.args.dims) { scan = with_sheet d.scan s })
    (resize-cut d c.args.dims c.cut.ensures.size))
