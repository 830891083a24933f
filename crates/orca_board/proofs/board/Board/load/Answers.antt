use Rattle.std.proofs.Common.{◌∙◌, ap}
use Rattle.orca_op.specs.Slate.{residue}
use Rattle.orca_op.proofs.SlateFacts.{residue-of_sheet}
use Rattle.orca_board.proofs.board.Board.load.Goals as goal

pub returns-clause-clear : goal.returns-clause-clear
returns-clause-clear g c =
    ap residue c.load.ensures.slate
    ∙ residue-of_sheet (record { dims = c.args.dims; cells = c.args.cells.now })
