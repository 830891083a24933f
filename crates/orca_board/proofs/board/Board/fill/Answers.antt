use Rattle.std.proofs.Common.{arith}
use Rattle.orca_base.specs.Edits.{sheet_after_fill}
use Rattle.orca_op.specs.State.{sheet_of}
use Rattle.orca_board.specs.Blocks.{fill_places}
use Rattle.orca_board.proofs.BlockPlaces.{length-places_in}
use Rattle.orca_board.proofs.ResidueLemmas.{residue-edited}
use Rattle.orca_board.proofs.board.Board.fill.Goals as goal

pub returns-clause-residue : goal.returns-clause-residue
returns-clause-residue g c =
    rw (← c.self.view_is) (residue-edited _ _
    (sheet_after_fill (sheet_of c.self.inside.field.scan) c.args.area c.args.glyph) (fill_places c.args.area) _ _ _
    c.fill.ensures.slate c.fill.ensures.steps (omega (arith, length-places_in c.args.area)))
