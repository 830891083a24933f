use Rattle.std.proofs.Common.{length, arith, ap, ◌∙◌}
use Rattle.std.proofs.Common.{List}
use Rattle.orca_base.specs.declared.place.Place.{Place}
use Rattle.orca_base.specs.Glyphs.{empty}
use Rattle.orca_op.specs.Slate.{slate_after_all}
use Rattle.orca_board.specs.Blocks.{write_each}
use Rattle.orca_board.proofs.RunLemmas.{all-outside, outside_step, outside_count}
use Rattle.orca_board.proofs.blocks.clear_outside.Goals as goal

pub loop-row-preserved : goal.loop-row-preserved
loop-row-preserved g c = record {
  slate = outside_step _ _ _ (λ at. empty) c.args.area c.args.other c.loop-row.row
      c.loop-row.invariant.slate c.clear_row_outside.ensures.slate;
  steps = omega (
    arith,
    c.loop-row.invariant.steps,
    c.clear_row_outside.ensures.steps,
    outside_count c.args.area c.args.other c.loop-row.row,
  );
}

pub returns-clause-slate : goal.returns-clause-slate
returns-clause-slate g c =
    c.loop-row.invariant.slate
    ∙ ap (λ (places : List Place). slate_after_all (g.B.Bench.slate c.args.bench.now)
    (write_each (λ at. empty) places))
    (all-outside c.args.area c.args.other c.loop-row.row
    (omega (arith, c.loop-row-test.false, c.loop-row.auto.row-end)))

pub returns-clause-steps : goal.returns-clause-steps
returns-clause-steps g c =
    omega (
      arith,
      c.loop-row.invariant.steps,
      ap (λ (places : List Place). length places)
          (all-outside c.args.area c.args.other c.loop-row.row
          (omega (arith, c.loop-row-test.false, c.loop-row.auto.row-end))),
    )
