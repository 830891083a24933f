use Rattle.std.proofs.Common.{arith, ◌∙◌}
use Rattle.orca_op.specs.State.{state_glyph}
use Rattle.orca_board.proofs.RunLemmas.{length-read, read-more}
use Rattle.orca_board.proofs.blocks.read_run.Goals as goal

pub push_reserved-requires : goal.push_reserved-requires
push_reserved-requires g c =
    let many = length-read (state_glyph (g.B.Bench.slate c.args.bench.now).scan) c.args.into.now.items
    c.args.at c.loop-i.i in
    let now = rw (← c.loop-i.invariant.glyphs) at many in
    omega (
      arith,
      c.loop-i.into.ok.0,
      c.loop-i.invariant.capacity,
      c.requires.room,
      c.loop-i-test.true,
      now,
    )

pub loop-i-preserved : goal.loop-i-preserved
loop-i-preserved g c = record {
  glyphs = read-more (state_glyph (g.B.Bench.slate c.args.bench.now).scan) _ _ _ c.args.at c.loop-i.i _
      c.loop-i.invariant.glyphs c.push_reserved.ensures.items c.peek_here.ensures.glyph;
  capacity = c.push_reserved.ensures.capacity ∙ c.loop-i.invariant.capacity;
  steps = omega (arith, c.loop-i.invariant.steps, c.peek_here.ensures.steps);
}
