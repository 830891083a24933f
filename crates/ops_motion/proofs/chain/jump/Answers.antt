use Rattle.std.proofs.Common.{rules, sym}
use Rattle.ops_motion.specs.Ways.{source_on, beyond_on}
use Rattle.ops_motion.proofs.ChainLemmas.{jump-slate_after}
use Rattle.ops_motion.proofs.chain.jump.Goals as goal

pub returns-in-Some-clause-deeds : goal.returns-in-Some-clause-deeds
returns-in-Some-clause-deeds g c =
    let acts = jump-slate_after (g.B.Bench.slate c.args.bench.now) c.args.glyph
    (source_on c.args.way c.args.at) (beyond_on c.args.way c.args.at) c.in-Some.places
    (search rules) (sym c.in-Some.ensures.end) in
    rw (
      c.write.ensures.deed,
      c.output.ensures.deed,
      c.sleep_chain.ensures.deeds,
      c.input.ensures.deed,
      c.beyond.ensures,
      c.beyond-in-Some.ensures,
      c.source-2.ensures,
      c.peek-carried.ensures.glyph,
      c.source.ensures,
    ) (sym acts)
