-- The table of the colours holds what the definitions say.
use Rattle.std.proofs.Common.{◌≡◌, ◌==◌, ◌<◌, ℕ, true, false, refl}
use Rattle.std.specs.Prelude.{slice_index}
use Rattle.std.proofs.lemmas.Bool.{agree_below_at, eqb-true}
use Rattle.orca_base.specs.Glyphs.{is_operator}
use Rattle.orca_base.specs.MarkSet.{no_marks}
use Rattle.orca_term.specs.declared.styles.TheConstants.{COLOURS}
use Rattle.orca_term.specs.Picture.{style_by}

pub colour_table : (g : ℕ) → g < 128 → slice_index COLOURS g ≡ style_by true false false no_marks g
unfolding is_operator
colour_table g below =
    eqb-true (slice_index COLOURS g) (style_by true false false no_marks g)
    (agree_below_at (λ k. slice_index COLOURS k == style_by true false false no_marks k) (λ k. true) 128 g
    refl below)
