use Rattle.std.proofs.Common.{◌/◌, ◌∙◌, ap, arith}
use Rattle.std.specs.Int.{bit_at}
use Rattle.std.proofs.lemmas.Grind.{get_or_default_zero}
use Rattle.orca_base.specs.declared.limits.TheConstants.{ROW_WORDS}
use Rattle.orca_board.proofs.LiveBitsLemmas.{word-written}
use Rattle.orca_board.proofs.live_bits.LiveBits.store.Goals as goal

pub invariant_of-self : goal.invariant_of-self
invariant_of-self c =
    word-written _ _ c.args.word _ _ c.self.invariant c.requires c.with_bit.ensures.here
    (λ k differ. c.with_bit.ensures.other k differ ∙ ap (λ n. bit_at n k) (c.index.ensures
    ∙ get_or_default_zero c.self.inside.rows.items (c.args.word / ROW_WORDS) c.index.result.now
    (omega (arith, c.requires, c.self.invariant.rows_whole))))
