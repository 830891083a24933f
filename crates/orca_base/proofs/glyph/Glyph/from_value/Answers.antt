use Rattle.orca_base.proofs.GlyphLemmas.{lower_low, lower_high}
use Rattle.orca_base.proofs.glyph.Glyph.from_value.Goals as goal

pub invariant_of-result : goal.invariant_of-result
invariant_of-result c = rw c.from.ensures
    (lower_low c.args.n c.requires, lower_high c.args.n c.requires)
