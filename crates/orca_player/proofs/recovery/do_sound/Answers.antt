use Rattle.std.proofs.Common.{◌∙◌, ap}
use Rattle.orca_course.specs.Standings.{notes_of}
use Rattle.orca_player.proofs.CourseLemmas.{notes-standing_at}
use Rattle.orca_player.proofs.RecoveryLemmas.{sound_from, sound_unopened}
use Rattle.orca_player.proofs.recovery.do_sound.Goals as goal

pub do_and_save-requires-clause-begins : goal.do_and_save-requires-clause-begins
do_and_save-requires-clause-begins g c =
    ap notes_of c.in-Ok.ensures.standing
    ∙ notes-standing_at c.args.grid c.args.rescue.now.seed c.unwrap_or-limit.result

pub returns-in-Ok : goal.returns-in-Ok
returns-in-Ok g c =
    sound_from _ _ _ _ _ _ _ _ _ (c.in-Ok.ensures.report ∙ c.new.ensures)
    c.in-Ok.ensures.standing
    (rw c.room_limit-own.ensures.limit at c.is_strict.ensures)
    (rw (c.unwrap_or.ensures, c.room_limit-own.ensures.limit) at c.unwrap_or-limit.ensures)
    c.requires.seed c.do_and_save.ensures

pub returns : goal.returns
returns g c = sound_unopened _ _ _ _ _
