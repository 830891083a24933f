use Rattle.std.proofs.Common.{[], refl, sym, ◌∙◌}
use Rattle.std.specs.Prelude.{None}
use Rattle.orca_course.proofs.WorldLemmas.{made_none}
use Rattle.orca_player.specs.Outlines.{request_outline}
use Rattle.orca_player.specs.declared.status.Status.TheVariants.{WavTooLong}
use Rattle.orca_player.proofs.CameLemmas.{by_failed}
use Rattle.orca_player.proofs.top.perform.Goals as goal

pub returns-then-is_too_long : goal.returns-then-is_too_long
unfolding request_outline
returns-then-is_too_long g c =
    rw (sym c.is_too_long.ensures ∙ c.if-is_too_long.true)
    (None, by_failed [] WavTooLong refl tt refl (made_none _, refl) refl)

pub returns : goal.returns
unfolding request_outline
returns g c = rw (sym c.is_too_long.ensures ∙ c.if-is_too_long.false) c.open.ensures
