use Rattle.std.proofs.Common.{◌/◌, ◌%◌, ◌<◌, arith}
use Rattle.orca_cues.proofs.Drawing.{palette_glyph, some_glyph}
use Rattle.orca_cues.proofs.maker.glyph_of.Goals as goal

pub unwrap-requires : goal.unwrap-requires
unwrap-requires c =
    let below : (c.args.word / 100) % 70 < 70 = omega arith in
    some_glyph _ _ c.of.ensures.none (palette_glyph _ below)
