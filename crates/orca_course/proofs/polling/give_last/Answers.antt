use Rattle.std.proofs.Common.{inl, inr}
use Rattle.std.specs.Prelude.{[]}
use Rattle.orca_course.specs.Answered.{losses_of}
use Rattle.orca_course.proofs.PollLemmas.{over_took}
use Rattle.orca_course.proofs.polling.give_last.Goals as goal

pub returns-in-End : goal.returns-in-End
returns-in-End g c = (losses_of [], rw c.in-End.is (over_took g.P.Performer.part _ _ _))

pub returns-in-Failed : goal.returns-in-Failed
returns-in-Failed g c = (losses_of [], rw c.in-Failed.is (over_took g.P.Performer.part _ _ _))

-- bytes came, or a moment was due
pub returns-in-Bytes : goal.returns-in-Bytes
returns-in-Bytes g c =
    elim c.in-Bytes.is [
      | inl w ↦ (c.settle.ensures.0, rw w.3 c.settle.ensures.1)
      | inr w ↦ (c.settle.ensures.0, rw w.1 c.settle.ensures.1)
    ]
