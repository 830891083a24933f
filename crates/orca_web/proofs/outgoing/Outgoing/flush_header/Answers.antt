use Rattle.std.proofs.Common.{rules, ◌++◌, replicate}
use Rattle.orca_web.proofs.SentLemmas.{front_sent}
use Rattle.orca_web.proofs.outgoing.Outgoing.flush_header.Goals as goal

pub loop-to-preserved : goal.loop-to-preserved
loop-to-preserved g c =
    let s = c.loop-to.self in
    record {
      still = front_sent (_) (g.W.Write.contents c.loop-to.to) (g.W.Write.contents c.write_some.new.to)
          s.header c.sent.new.self (replicate s.owed 24 ++ s.reply) c.in_ok-count.count
          c.loop-to.invariant.still (search rules) (search rules);
      owed = c.loop-to.invariant.owed;
      reply = c.loop-to.invariant.reply;
    }
