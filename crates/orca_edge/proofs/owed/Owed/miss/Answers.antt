use Rattle.std.proofs.Common.{arith, ap, ◌||◌, ◌∙◌, sym}
use Rattle.orca_edge.specs.Owed.{is_owed}
use Rattle.orca_edge.proofs.OwedLemmas.{missed}
use Rattle.orca_edge.proofs.owed.Owed.miss.Goals as goal

pub returns-in-Some : goal.returns-in-Some
returns-in-Some c voice is =
    rw c.from.ensures (missed c.args.self.now.ends c.in-Some.voice voice
    (omega (arith, c.in-Some.ensures.voice.channel)) c.in-Some.ensures.voice
    ∙ ap (λ b. is_owed c.args.self.now.ends voice || b) (sym (c.in-Some.ensures.ended voice is)))
