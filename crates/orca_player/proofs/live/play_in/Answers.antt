use Rattle.std.proofs.Common.{◌∙◌, refl}
use Rattle.std.specs.Prelude.{Some, None}
use Rattle.orca_rig.specs.declared.files.Claim.TheVariants as claim
use Rattle.orca_player.specs.Outlines.{live_outline, roomed}
use Rattle.orca_player.specs.declared.status.Status.TheVariants.{FileFault, RoomHeld, RoomLeft}
use Rattle.orca_player.proofs.CameLemmas.{by_after, by_memory, by_unclaimed, came_none, came_still, claimed, kind_of}
use Rattle.orca_player.proofs.RoomLemmas.{unclaimed_made}
use Rattle.orca_player.proofs.live.play_in.Goals as goal

pub returns-in_default : goal.returns-in_default
unfolding roomed
returns-in_default g c = by_memory (refl, tt) (came_none _ _)

pub returns-in-Ok-Some-Made : goal.returns-in-Ok-Some-Made
unfolding roomed live_outline
returns-in-Ok-Some-Made g c =
    let at = c.in-Ok-Some-Made in
    let text = c.as_slice.ensures.value ∙ c.in-Ok.ensures in
    by_after (record c.wait.ensures.brought { claimed = Some claim.Made })
    (claimed (rw (text, at.field-0-is, at.field-0-0-is) at at.ensures.called))
    (kind_of c.wait.ensures) c.wait.ensures.came refl

pub returns-in-Ok-Some-Left : goal.returns-in-Ok-Some-Left
unfolding roomed
returns-in-Ok-Some-Left g c =
    let at = c.in-Ok-Some-Left in
    let text = c.as_slice.ensures.value ∙ c.in-Ok.ensures in
    by_unclaimed (Some claim.Left) RoomLeft refl
    (rw (text, at.field-0-is, at.field-0-0-is) at at.ensures.called) (λ same. same)

pub returns-in-Ok-Some-Held : goal.returns-in-Ok-Some-Held
unfolding roomed
returns-in-Ok-Some-Held g c =
    let at = c.in-Ok-Some-Held in
    let text = c.as_slice.ensures.value ∙ c.in-Ok.ensures in
    by_unclaimed (Some claim.Held) RoomHeld refl
    (rw (text, at.field-0-is, at.field-0-0-is) at at.ensures.called) (λ same. same)

pub returns-in-Ok-None : goal.returns-in-Ok-None
unfolding roomed
returns-in-Ok-None g c =
    let at = c.in-Ok-None in
    let text = c.as_slice.ensures.value ∙ c.in-Ok.ensures in
    let called = rw (text, at.field-0-is) at at.ensures.called in
    by_unclaimed None FileFault refl called (λ same. (same, unclaimed_made called.called.0))

pub returns : goal.returns
unfolding roomed
returns g c = by_memory (refl, tt) (came_still _ c.in-Err.ensures.called.called.0)
