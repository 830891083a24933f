use Rattle.orca_board.proofs.ResidueLemmas.{residue-resized}
use Rattle.orca_board.proofs.board.Board.set_dims.Goals as goal

pub returns-clause-residue : goal.returns-clause-residue
returns-clause-residue g c =
    rw (← c.self.view_is) (residue-resized _ _ c.args.dims _ _ c.set_dims.ensures.slate
    c.set_dims.ensures.steps)
