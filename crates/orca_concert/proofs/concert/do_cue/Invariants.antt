use Rattle.std.proofs.Common.{◌-◌, replicate}
use Rattle.orca_course.specs.Worlds.{owing}
use Rattle.orca_course.proofs.DoingLemmas.{SoFar}
use Rattle.orca_concert.specs.Concerts.{order_course, stance_of}
use Rattle.orca_concert.specs.Stages.{concert_at}
use Rattle.orca_concert.proofs.concert.do_cue.Given as goal

-- so many times were done
abbrev pub invariant-loop-time : goal.invariant-loop-time
invariant-loop-time g l =
    SoFar (stance_of g.R.Report.manner) (order_course g.R.Report.manner l.fn.cue.line)
    (replicate l.fn.cue.times l.fn.cue.order) (replicate (l.fn.cue.times - l._time) l.fn.cue.order)
    (concert_at g.M.Machine g.R.Report l.fn.stage)
    (owing (g.M.Machine.residue l.fn.stage.machine) l.fn.desk)
    (concert_at g.M.Machine g.R.Report l.stage)
    (owing (g.M.Machine.residue l.stage.machine) l.desk)
