use Rattle.std.proofs.Common.{arith, sym, ◌∙◌}
use Rattle.std.proofs.lemmas.Nat.{one_shl}
use Rattle.orca_board.proofs.LiveBitsLemmas.{with_here, with_other, without_here, without_other}
use Rattle.orca_board.proofs.live_bits.with_bit.Goals as goal

pub returns-then-on-clause-here : goal.returns-then-on-clause-here
returns-then-on-clause-here c =
    rw (one_shl c.args.bit 64 (omega arith)) (with_here c.args.word c.args.bit ∙ sym c.if-on.true)

pub returns-then-on-clause-other : goal.returns-then-on-clause-other
returns-then-on-clause-other c k other =
    rw (one_shl c.args.bit 64 (omega arith)) (with_other c.args.word c.args.bit k other)

pub returns-else-on-clause-here : goal.returns-else-on-clause-here
returns-else-on-clause-here c =
    rw (one_shl c.args.bit 64 (omega arith))
    (without_here c.args.word c.args.bit ∙ sym c.if-on.false)

pub returns-else-on-clause-other : goal.returns-else-on-clause-other
returns-else-on-clause-other c k other =
    rw (one_shl c.args.bit 64 (omega arith)) (without_other c.args.word c.args.bit k other)
