use Rattle.std.proofs.Common.{drop}
use Rattle.std.specs.List.{range_with_len}
use Rattle.orca_course.specs.Worlds.{owing}
use Rattle.orca_course.proofs.DoingLemmas.{SoFar}
use Rattle.orca_live.specs.Performing.{lull_of}
use Rattle.orca_live.specs.States.{live_stance, live_state, residue_of}
use Rattle.orca_live.proofs.clock.do_lull.Given as goal

-- nothing came of the hands so far, and the others are left
abbrev pub invariant-loop-hand : goal.invariant-loop-hand
invariant-loop-hand g l =
    SoFar live_stance lull_of (range_with_len 0 l.hand-end)
    (drop l.hand (range_with_len 0 l.hand-end))
    (live_state g.M.Machine l.fn.live) (owing (residue_of g.M.Machine l.fn.live) l.fn.desk)
    (live_state g.M.Machine l.live) (owing (residue_of g.M.Machine l.live) l.desk)
