use Rattle.std.proofs.Common.{arith, refl}
use Rattle.orca_board.proofs.RunLemmas.{run_step}
use Rattle.orca_board.proofs.blocks.fill_run.Goals as goal

pub loop-i-preserved : goal.loop-i-preserved
loop-i-preserved g c = record {
  slate = run_step _ _ _ (λ place. c.args.glyph) c.args.at c.loop-i.i _ _
      c.loop-i.invariant.slate c.here.ensures refl c.write.ensures.deed;
  steps = omega (arith, c.loop-i.invariant.steps, c.write.ensures.steps);
}
