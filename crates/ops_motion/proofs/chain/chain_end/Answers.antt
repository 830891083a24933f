use Rattle.std.proofs.Common.{arith, rules, sym}
use Rattle.ops_motion.specs.Ways.{beyond_on}
use Rattle.ops_motion.proofs.ChainLemmas.{chain_end-found, chain_end-missing}
use Rattle.ops_motion.proofs.chain.chain_end.Goals as goal

pub returns-then-ne-clause-end : goal.returns-then-ne-clause-end
returns-then-ne-clause-end g c =
    sym (chain_end-found c.args.glyph _ (beyond_on c.args.way c.args.at) c.loop-places.places
    (omega arith) (omega arith) c.loop-places.invariant.same (search rules))

pub returns-clause-end : goal.returns-clause-end
returns-clause-end g c =
    sym (chain_end-missing c.args.glyph _ (beyond_on c.args.way c.args.at)
    (λ k low high. c.loop-places.invariant.same k low (omega arith)))
