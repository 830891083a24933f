use Rattle.std.proofs.Common.{arith}
use Rattle.orca_board.proofs.LiveBitsLemmas.{summary-told}
use Rattle.orca_board.proofs.live_bits.summary_of.Goals as goal

pub returns : goal.returns
returns c =
    rw c.from.ensures (summary-told c.args._words.now c.args.rows.now c.args.row c.requires.bits
    c.requires.row (λ i. omega (arith, c.type_inv._words i)))
