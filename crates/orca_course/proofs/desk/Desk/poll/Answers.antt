use Rattle.std.proofs.Common.{refl, arith}
use Rattle.std.proofs.lemmas.Grind.{common_steps}
use Rattle.orca_course.proofs.ToldLemmas.{one_more}
use Rattle.orca_course.proofs.WorldLemmas.{next_polled}
use Rattle.orca_course.proofs.desk.Desk.poll.Goals as goal

pub invariant_of-self : goal.invariant_of-self
invariant_of-self g c =
    let counts = g.met.H.Outs.Outs.sent_is_length c.self.inside.outs in
    grind (counts, arith, common_steps, one_more)

pub returns : goal.returns
returns g c =
    rw (← c.self.view_is, ← c.arrived.ensures) (next_polled c.poll-answer.result (record {
      calls = c.note.ensures;
      stored = refl;
      counted = grind (arith, common_steps);
      paid = refl;
    }))
