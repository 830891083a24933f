use Rattle.std.proofs.Common.{◌/◌, ◌∙◌, ap, arith}
use Rattle.std.specs.Int.{bit_at}
use Rattle.std.proofs.lemmas.Grind.{get_or_default_zero}
use Rattle.orca_base.specs.declared.limits.TheConstants.{WORD_COLUMNS}
use Rattle.orca_board.proofs.LiveBitsLemmas.{bit-written}
use Rattle.orca_board.proofs.live_bits.LiveBits.set.Goals as goal

pub returns : goal.returns
returns c n =
    rw (c.store.ensures.stored, c.from.ensures, ← c.self.view_is)
    (bit-written _ c.args.number _ c.args.on n
    (omega (arith, c.requires, c.self.invariant.words_whole))
    (rw c.from-2.ensures at c.with_bit-bits.ensures.here)
    (λ k differ. (rw c.from-2.ensures at c.with_bit-bits.ensures.other) k differ
    ∙ ap (λ n. bit_at n k) (rw c.from.ensures at c.index.ensures ∙ get_or_default_zero
    c.self.inside.words.items (c.args.number / WORD_COLUMNS) c.index.result.now
    (omega (arith, c.requires, c.self.invariant.words_whole)))))
