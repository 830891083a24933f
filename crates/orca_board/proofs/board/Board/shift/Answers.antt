use Rattle.std.proofs.Common.{◌+◌, ◌*◌, length, arith}
use Rattle.orca_base.specs.Edits.{sheet_after_move}
use Rattle.orca_op.specs.State.{sheet_of}
use Rattle.orca_board.specs.Blocks.{shift_places}
use Rattle.orca_board.proofs.ResidueLemmas.{residue-edited}
use Rattle.orca_board.proofs.board.Board.shift.Goals as goal

pub returns-clause-residue : goal.returns-clause-residue
returns-clause-residue g c =
    rw (← c.self.view_is) (residue-edited _ _
    (sheet_after_move (sheet_of c.self.inside.field.scan) c.args.area c.args.to)
    (shift_places c.self.inside.field.scan.dims c.args.area c.args.to) _ _
    (c.args.area.h * c.args.area.w
    + length (shift_places c.self.inside.field.scan.dims c.args.area c.args.to))
    c.shift.ensures.slate (omega (arith, c.shift.ensures.steps)) (omega arith))
