use Rattle.std.proofs.Common.{arith}
use Rattle.orca_board.proofs.LiveBitsLemmas.{word-set}
use Rattle.orca_board.proofs.live_bits.LiveBits.set_word.Goals as goal

pub returns-clause-bits : goal.returns-clause-bits
returns-clause-bits c n =
    rw c.store.ensures.stored (word-set _ c.args.cells.now c.args.word _ n
    (omega (arith, c.requires.number, c.store.ensures.whole)) c.operator_bits-bits.ensures.bits)
