use Rattle.std.proofs.Common.{arith}
use Rattle.orca_base.proofs.GlyphLemmas.{value_table_below}
use Rattle.orca_base.proofs.glyph.Glyph.value.Goals as goal

pub returns-clause-range : goal.returns-clause-range
returns-clause-range c =
    let h = value_table_below c.self.inside.byte (omega (arith, c.self.invariant)) in
    rw c.from.ensures h
