use Rattle.std.proofs.Common.{◌<◌}
use Rattle.orca_script.specs.Runs.{most_frames}
use Rattle.orca_script.proofs.RunLines.{behind-none}
use Rattle.orca_script.proofs.runs.Runs.end.Goals as goal

pub returns-clause-ok : goal.returns-clause-ok
returns-clause-ok c =
    let few : c.args.self < most_frames = rw (← c.self.view_is) c.self.invariant in
    rw (behind-none c.args.self few) c.in_ok-end_run.ensures.ok
