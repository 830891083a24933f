use Rattle.std.proofs.Common.{length}
use Rattle.orca_course.specs.Worlds.{owing}
use Rattle.orca_course.proofs.DoingLemmas.{SoFar}
use Rattle.orca_concert.specs.Concerts.{cue_course, stance_of}
use Rattle.orca_concert.specs.Stages.{concert_at}
use Rattle.orca_concert.proofs.concert.do_cues.Given as goal

-- the cues so far were done
abbrev pub invariant-loop-cue : goal.invariant-loop-cue
invariant-loop-cue g l =
    SoFar (stance_of g.R.Report.manner) (cue_course g.R.Report.manner)
    (g.S.Source.left l.fn.source) (g.S.Source.left l.source)
    (concert_at g.M.Machine g.R.Report l.fn.stage)
    (owing (g.M.Machine.residue l.fn.stage.machine) l.fn.desk)
    (concert_at g.M.Machine g.R.Report l.stage)
    (owing (g.M.Machine.residue l.stage.machine) l.desk)

-- each cue is one less
abbrev pub decreases-loop-cue : goal.decreases-loop-cue
decreases-loop-cue g l = length (g.S.Source.left l.source)
