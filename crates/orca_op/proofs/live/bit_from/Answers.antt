use Rattle.std.proofs.Common.{arith}
use Rattle.std.proofs.lemmas.Nat.Bits.{ones_shl}
use Rattle.orca_op.proofs.LiveLemmas.{least_bit-none, least_bit-some}
use Rattle.orca_op.proofs.live.bit_from.Goals as goal

-- no bit is left
pub returns-then-rest-eq0 : goal.returns-then-rest-eq0
returns-then-rest-eq0 c =
    let mask = ones_shl 64 c.args.from (omega arith) in
    least_bit-none c.args.word c.args.from (rw mask at c.if-rest-eq0.true)

-- the lowest bit that is left is the answer
pub returns : goal.returns
returns c =
    let mask = ones_shl 64 c.args.from (omega arith) in
    rw mask (least_bit-some c.args.word c.args.from (omega arith)
    (omega (arith, rw mask at c.if-rest-eq0.false)))
