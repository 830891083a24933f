use Rattle.orca_base.proofs.GlyphLemmas.{lower_low, lower_high, upper_low, upper_high}
use Rattle.orca_base.proofs.glyph.Glyph.cased.Goals.{then-is_ascii_uppercase, else-is_ascii_uppercase}
use Rattle.orca_base.proofs.glyph.Glyph.cased.Goals as goal

pub invariant_of-result : goal.invariant_of-result
invariant_of-result c =
    elim c.if-is_ascii_uppercase.branch [
      | then-is_ascii_uppercase w ↦ rw (w.digits-is, c.from.ensures)
          (upper_low c.args.n c.requires, upper_high c.args.n c.requires)
      | else-is_ascii_uppercase w ↦ rw (w.digits-is, c.from.ensures)
          (lower_low c.args.n c.requires, lower_high c.args.n c.requires)
    ]
