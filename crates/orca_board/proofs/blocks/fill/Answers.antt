use Rattle.std.proofs.Common.{◌∙◌, arith}
use Rattle.orca_board.proofs.RunLemmas.{all_rows, row_step}
use Rattle.orca_board.proofs.BlockEdits.{after_fill}
use Rattle.orca_board.proofs.blocks.fill.Goals as goal

pub loop-row-preserved : goal.loop-row-preserved
loop-row-preserved g c = record {
  slate = row_step _ _ _ (λ at. c.args.glyph) c.args.area c.loop-row.row
      c.loop-row.invariant.slate (rw c.row_of.ensures at c.fill_run.ensures.slate);
  steps = omega (arith, c.loop-row.invariant.steps, c.fill_run.ensures.steps);
}

pub returns-clause-slate : goal.returns-clause-slate
returns-clause-slate g c =
    all_rows _ _ (λ at. c.args.glyph) c.args.area c.loop-row.row c.loop-row.invariant.slate
    (omega (arith, c.loop-row-test.false, c.loop-row.auto.row-end))
    ∙ after_fill _ c.args.area c.args.glyph c.dims-dims.ensures.slate c.requires
