use Rattle.std.proofs.Common.{Bool, ap, refl}
use Rattle.std.specs.Prelude.{◌||◌}
use Rattle.orca_course.proofs.DoingLemmas.{does_nothing, goes_err}
use Rattle.orca_live.proofs.DoneLemmas.{command_cut, command_did}
use Rattle.orca_live.proofs.keyboard.do_command.Goals as goal

pub returns-in_err-note : goal.returns-in_err-note
returns-in_err-note g c =
    goes_err _ _ c.from_residual-in_err-note.ensures.1
    (rw c.in_err-note.ensures.err (does_nothing _ _ refl))

pub returns-in_err-do_command : goal.returns-in_err-do_command
returns-in_err-do_command g c =
    goes_err _ _ c.from_residual-in_err-do_command.ensures.1
    (command_cut _ _ _ _ _ _ _ c.in_err-do_command.ensures)

pub returns : goal.returns
returns g c =
    command_did _ _ _ _ _ _ _ _ _ _ c.in_ok-keep.ensures.kept c.in_ok-note.ensures.noted
    (rw c.moments-moments.ensures.moments at c.own.ensures)
    (ap (λ (more : Bool). c.args.live.now.loose || more) c.loosens.ensures)
    (rw c.of.ensures at c.tell.ensures) c.in_ok-do_command.ensures
