use Rattle.std.proofs.Common.{◌≡◌, ◌<◌, false, sym, ◌∙◌, Result, Ok, Err}
use Rattle.std.specs.Prelude.{OnOk}
use Rattle.orca_script.specs.Runs.{most_frames, is_frame}
use Rattle.orca_script.proofs.RunLines.{frame_values, names_frame, other_added}
use Rattle.orca_script.proofs.runs.Runs.add.Goals as goal

-- an answer on a result, whatever it is
on_ok : {T E P : Type 0} (r : Result T E) → P → OnOk r P
on_ok (Ok x) p = p
on_ok (Err e) p = tt

-- a frame has no values
pub returns-in-Do-clause-values : goal.returns-in-Do-clause-values
returns-in-Do-clause-values c =
    let frame = names_frame c.in-Do.command (sym c.is_frame.ensures ∙ c.if-is_frame.true) in
    on_ok c.add_frames-in-Do.result (rw (c.in-Do.is, frame) frame_values)

-- another command ends the run
pub returns-in_ok-push_command-in-Do-2-clause-ok : goal.returns-in_ok-push_command-in-Do-2-clause-ok
returns-in_ok-push_command-in-Do-2-clause-ok c rest =
    let few : c.args.self.now < most_frames = rw (← c.self.view_is) c.self.invariant in
    let same : c.in-Do.command ≡ c.in-Do-2.command =
    let both = sym c.in-Do.is ∙ c.in-Do-2.is in cc in
    let other : is_frame c.in-Do-2.command ≡ false =
    rw (← same) (sym c.is_frame.ensures ∙ c.if-is_frame.false) in
    rw (c.in_ok-end_run-in-Do-2.ensures.none, c.in-Do-2.is)
    (other_added c.in-Do-2.command c.args.self.now c.args.into.now.items _ _ rest other few
    c.in_ok-end_run-in-Do-2.ensures.ok c.in_ok-push_command-in-Do-2.ensures.ok)
