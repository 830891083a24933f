use Rattle.std.proofs.Common.{drop}
use Rattle.orca_course.specs.Performers.{given_course, items_of}
use Rattle.orca_course.specs.Worlds.{owing}
use Rattle.orca_course.proofs.DoingLemmas.{SoFar}
use Rattle.orca_course.proofs.polling.give_items.Given as goal

-- the items so far were given, and the others are left
abbrev pub invariant-loop-index : goal.invariant-loop-index
invariant-loop-index g l =
    SoFar g.P.Performer.part.stance (given_course g.P.Performer.part) (items_of l.answer l.bytes)
    (drop l.index (items_of l.answer l.bytes))
    (g.P.Performer.state l.fn.performer) (owing (g.P.Performer.residue l.fn.performer) l.fn.desk)
    (g.P.Performer.state l.performer) (owing (g.P.Performer.residue l.performer) l.desk)
