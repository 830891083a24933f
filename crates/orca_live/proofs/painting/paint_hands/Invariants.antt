use Rattle.std.proofs.Common.{◌≡◌, drop}
use Rattle.std.specs.List.{range_with_len}
use Rattle.orca_course.specs.Worlds.{owing}
use Rattle.orca_course.proofs.DoingLemmas.{SoFar}
use Rattle.orca_live.specs.Marking.{marks_by}
use Rattle.orca_live.specs.Performing.{painted_course}
use Rattle.orca_live.specs.States.{live_stance, live_state, residue_of}
use Rattle.orca_live.proofs.painting.paint_hands.Given as goal

-- the pictures of the hands so far were painted, and the others are left; the session and the hands
-- are the same
abbrev pub invariant-loop-hand : goal.invariant-loop-hand
invariant-loop-hand g l =
    SoFar live_stance
    (painted_course (marks_by l.marking (g.M.Look.marks l.fn.live.stage.machine)))
    (range_with_len 0 l.hand-end) (drop l.hand (range_with_len 0 l.hand-end))
    (live_state g.M.Machine l.fn.live) (owing (residue_of g.M.Machine l.fn.live) l.fn.desk)
    (live_state g.M.Machine l.live) (owing (residue_of g.M.Machine l.live) l.desk)
    × (l.live.stage.machine ≡ l.fn.live.stage.machine) × (l.live.crew ≡ l.fn.live.crew)
