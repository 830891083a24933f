use Rattle.std.proofs.Common.{arith, sym}
use Rattle.orca_op.proofs.LiveLemmas.{next_bit-found, next_bit-missing}
use Rattle.orca_op.proofs.live.next_bit.Goals as goal

-- the first word that has a bit holds the first of all
pub returns-in-Some : goal.returns-in-Some
returns-in-Some c =
    sym (next_bit-found c.args.words.now c.args.from c.loop-i.i c.saturating_sub.result
    c.in-Some.bit (omega arith) c.saturating_sub.ensures c.in-Some.ensures c.loop-i.invariant)

-- no word has a bit
pub returns : goal.returns
returns c = sym (next_bit-missing c.args.words.now c.args.from c.loop-i.i (omega arith)
    c.loop-i.invariant)
