use Rattle.std.proofs.Common.{ap, arith, ◌∙◌}
use Rattle.orca_notes.specs.Sound.{ends}
use Rattle.orca_session.specs.Past.{numbers_of}
use Rattle.orca_session.proofs.PayLemmas.{jump-plain, jumped-plain, new-plain}
use Rattle.orca_session.proofs.SessionLemmas.{jump-parts}
use Rattle.orca_session.proofs.session.Session.jump.Goals as goal

pub returns-clause-jumped : goal.returns-clause-jumped
returns-clause-jumped g c =
    rw (← c.self.view_is)
    (jump-parts c.self.inside.past c.jump.new.self c.self.inside.clip _ _ c.args.moment
    c.hush.new.messages c.jump.ensures.jumped
    (c.hush.ensures.messages ∙ ap ends c.self.invariant.sounding))

pub returns-clause-kept : goal.returns-clause-kept
returns-clause-kept g c =
    rw (← c.self.view_is)
    (c.jump.ensures.numbers
    ∙ jumped-plain c.jump.new.self c.self.inside.clip (numbers_of c.self.inside.past)
    c.args.moment)

pub returns-clause-price : goal.returns-clause-price
returns-clause-price g c =
    rw (← c.self.view_is)
    (omega (
      arith,
      c.go_back-tick.ensures.price,
      c.jump.ensures.steps,
      jump-plain c.self.inside.past c.self.inside.clip (numbers_of c.self.inside.past)
          c.args.moment,
      new-plain c.jump.new.self c.self.inside.clip c.self.inside.past.points.spacing,
    ))
