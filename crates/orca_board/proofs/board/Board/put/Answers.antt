use Rattle.std.proofs.Common.{length, arith}
use Rattle.orca_base.specs.Edits.{sheet_after_put}
use Rattle.orca_op.specs.State.{sheet_of}
use Rattle.orca_board.specs.Blocks.{put_places}
use Rattle.orca_board.proofs.ResidueLemmas.{residue-edited}
use Rattle.orca_board.proofs.board.Board.put.Goals as goal

pub returns-clause-residue : goal.returns-clause-residue
returns-clause-residue g c =
    rw (← c.self.view_is) (residue-edited _ _
    (sheet_after_put (sheet_of c.self.inside.field.scan) c.args.to c.args.block.now)
    (put_places c.self.inside.field.scan.dims c.args.to c.args.block.now.dims) _ _
    (length (put_places c.self.inside.field.scan.dims c.args.to c.args.block.now.dims))
    c.put.ensures.slate c.put.ensures.steps (omega arith))
