use Rattle.std.proofs.Common.{rules}
use Rattle.orca_web.proofs.FillLemmas.{fill_sent}
use Rattle.orca_web.proofs.outgoing.Outgoing.flush_fill.Goals as goal

pub loop-self-preserved : goal.loop-self-preserved
loop-self-preserved g c =
    let s = c.loop-self.self in
    record {
      still = fill_sent _ (g.W.Write.contents c.loop-self.to) (g.W.Write.contents c.write_fill.new.to)
          s.header s.reply s.owed c.in_ok-count.count
          c.loop-self.invariant.still (search rules) c.in_ok-count.ensures.few c.in_ok-count.ensures.bytes;
      header = c.loop-self.invariant.header;
      reply = c.loop-self.invariant.reply;
    }
