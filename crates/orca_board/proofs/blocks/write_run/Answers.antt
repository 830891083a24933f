use Rattle.std.proofs.Common.{◌≡◌, ◌+◌, ◌-◌, ℕ, get_or, arith, ap, ◌∙◌}
use Rattle.std.specs.Prelude.{slice_index}
use Rattle.std.proofs.lemmas.List.{get_or_default}
use Rattle.orca_board.proofs.RunLemmas.{run_step}
use Rattle.orca_board.proofs.blocks.write_run.Goals as goal

pub loop-i-preserved : goal.loop-i-preserved
loop-i-preserved g c =
    let number : c.args.first + c.from.result
    ≡ c.args.first + (c.args.at.x + c.loop-i.i - c.args.at.x) = omega (arith, c.from.ensures) in
    record {
      slate = run_step _ _ _
          (λ place. slice_index c.args.glyphs.now (c.args.first + (place.x - c.args.at.x)))
          c.args.at c.loop-i.i _ _ c.loop-i.invariant.slate c.here.ensures
          (c.index-glyphs-first.is
          ∙ (get_or_default c.args.glyphs.now (c.args.first + c.from.result) _ 0
          (omega (arith, c.loop-i-test.true, c.from.ensures, c.requires.glyphs))
          ∙ ap (λ (k : ℕ). get_or c.args.glyphs.now k 0) number)) c.write.ensures.deed;
      steps = omega (arith, c.loop-i.invariant.steps, c.write.ensures.steps);
    }
