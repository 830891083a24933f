use Rattle.std.proofs.Common.{[], ap, refl}
use Rattle.std.specs.Prelude.{Err, None}
use Rattle.orca_course.proofs.WorldLemmas.{made_none}
use Rattle.orca_player.specs.Outlines.{made_outline, nothing, outline, request_outline}
use Rattle.orca_player.specs.declared.status.Status.TheVariants.{Usage}
use Rattle.orca_player.proofs.CameLemmas.{by, by_failed, by_memory, came_none}
use Rattle.orca_player.proofs.TopLemmas.{idle-asked, kind_concert}
use Rattle.orca_player.proofs.top.work.Goals as goal

pub returns-in-Ok-Make : goal.returns-in-Ok-Make
unfolding outline request_outline made_outline
returns-in-Ok-Make g c =
    rw (rw c.in-Ok-Make.field-0-is at c.in-Ok-Make.ensures.read)
    (None, by nothing (kind_concert _ _ _ _) c.make.ensures)

pub returns-in-Ok-Migrate : goal.returns-in-Ok-Migrate
unfolding outline request_outline
returns-in-Ok-Migrate g c =
    rw (rw c.in-Ok-Migrate.field-0-is at c.in-Ok-Migrate.ensures.read) (None, c.migrate.ensures)

pub returns-in-Ok-Recover : goal.returns-in-Ok-Recover
unfolding outline request_outline
returns-in-Ok-Recover g c =
    rw (rw c.in-Ok-Recover.field-0-is at c.in-Ok-Recover.ensures.read) (None, c.recover.ensures)

pub returns-in-Ok-Perform : goal.returns-in-Ok-Perform
unfolding outline
returns-in-Ok-Perform g c =
    rw (rw c.in-Ok-Perform.field-0-is at c.in-Ok-Perform.ensures.read) c.perform.ensures

pub returns-in-Err-Usage : goal.returns-in-Err-Usage
unfolding outline
returns-in-Err-Usage g c =
    rw (c.in-Err-Usage.ensures.refused (ap Err c.in-Err-Usage.field-0-is))
    (None, by_failed [] Usage refl tt refl (made_none _, refl) (refl, refl))

pub returns-in-Err-Memory : goal.returns-in-Err-Memory
unfolding outline
returns-in-Err-Memory g c = (None, by_memory (idle-asked _) (came_none _ _))
