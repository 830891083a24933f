use Rattle.std.proofs.Common.{arith, ◌∙◌}
use Rattle.orca_op.specs.State.{state_glyph}
use Rattle.orca_board.proofs.RunLemmas.{all-read, length-rows_read, row-fits, rows-read}
use Rattle.orca_board.proofs.blocks.read_area.Goals as goal

pub read_run-requires-clause-room : goal.read_run-requires-clause-room
read_run-requires-clause-room g c =
    let many = length-rows_read (state_glyph (g.B.Bench.slate c.args.bench.now).scan) c.args.area
    c.loop-row.row in
    let now = rw (← c.loop-row.invariant.glyphs) at many in
    omega (
      arith,
      c.loop-row.invariant.capacity,
      c.clear.ensures.capacity,
      c.requires.room,
      row-fits c.args.area.h c.loop-row.row c.args.area.w c.loop-row-test.true,
      now,
    )

pub loop-row-preserved : goal.loop-row-preserved
loop-row-preserved g c = record {
  glyphs = rows-read (state_glyph (g.B.Bench.slate c.args.bench.now).scan) _ _ c.args.area
      c.loop-row.row c.loop-row.invariant.glyphs
      (rw c.row_of.ensures at c.read_run.ensures.glyphs);
  capacity = c.read_run.ensures.capacity ∙ c.loop-row.invariant.capacity;
  steps = omega (arith, c.loop-row.invariant.steps, c.read_run.ensures.steps);
}

pub returns-clause-glyphs : goal.returns-clause-glyphs
returns-clause-glyphs g c =
    all-read (g.B.Bench.slate c.args.bench.now).scan _ c.args.area c.loop-row.row
    (omega (arith, c.loop-row-test.false, c.loop-row.auto.row-end)) c.loop-row.invariant.glyphs
