use Rattle.std.proofs.Common.{◌+◌, length, arith}
use Rattle.orca_board.specs.Sizes.{cut_places}
use Rattle.orca_board.proofs.ResidueLemmas.{residue-reverted}
use Rattle.orca_board.proofs.board.Board.revert.Goals as goal

pub returns-clause-residue : goal.returns-clause-residue
returns-clause-residue g c =
    rw (← c.self.view_is) (residue-reverted _ _ _ _
    (length (cut_places c.self.inside.field.scan.dims c.self.inside.field.began.dims)
    + length c.self.inside.field.listed)
    c.revert.ensures.slate (omega (arith, c.revert.ensures.steps)))
