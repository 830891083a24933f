use Rattle.orca_concert.specs.Manners.News.{Done}
use Rattle.orca_live.proofs.DoneLemmas.{kept_news}
use Rattle.orca_live.proofs.quiet.QuietReport.tell.Goals as goal

pub returns-in-Done : goal.returns-in-Done
returns-in-Done g c = λ at hands.
    rw c.in-Done.is
    (kept_news at hands (Done c.in-Done.line c.in-Done.answer c.in-Done.messages.now)
    c.args.self.now.sent c.follow.new.self.sent c.args.arg2.now (c.follow.ensures c.in-Done.line))
