use Rattle.std.proofs.Common.{◌<◌, drop, length}
use Rattle.orca_course.specs.Worlds.{owing}
use Rattle.orca_course.proofs.DoingLemmas.{SoFar}
use Rattle.orca_live.specs.Performing.{press_course}
use Rattle.orca_live.specs.States.{live_stance, live_state, residue_of}
use Rattle.orca_live.proofs.keyboard.press_all.Given as goal

-- the keys so far were pressed, and the others are left; there is such a hand
abbrev pub invariant-loop-key : goal.invariant-loop-key
invariant-loop-key g l =
    SoFar live_stance (press_course l.hand) l.keys (drop l.key-index l.keys)
    (live_state g.M.Machine l.fn.live) (owing (residue_of g.M.Machine l.fn.live) l.fn.desk)
    (live_state g.M.Machine l.live) (owing (residue_of g.M.Machine l.live) l.desk)
    × (l.hand < length l.live.crew.players)
