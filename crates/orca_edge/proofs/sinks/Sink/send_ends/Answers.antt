use Rattle.orca_edge.proofs.EndsLemmas.{no_ends, ends_more}
use Rattle.orca_edge.proofs.sinks.Sink.send_ends.Goals as goal

pub returns-in_err-finish-clause-sent : goal.returns-in_err-finish-clause-sent
returns-in_err-finish-clause-sent g c =
    let after = c.finish.new.self in
    no_ends g.W.Write.contents c.args.self.now after c.finish.ensures.same c.finish.ensures.owed

pub loop-init : goal.loop-init
loop-init g c =
    let after = c.finish.new.self in
    let done = c.finish.ensures in
    record {
      sent = no_ends g.W.Write.contents c.args.self.now after done.same done.owed;
      whole = c.in_ok-finish.ensures.whole;
    }

pub returns-in_err-send_end-clause-sent : goal.returns-in_err-send_end-clause-sent
returns-in_err-send_end-clause-sent g c =
    let before = c.loop.invariant.sent in
    let after = c.send_end.new.self in
    ends_more g.W.Write.contents c.args.self.now c.loop.self after before c.send_end.ensures.sent

pub loop-preserved : goal.loop-preserved
loop-preserved g c =
    let before = c.loop.invariant.sent in
    let after = c.send_end.new.self in
    let sent = c.send_end.ensures.sent in
    record {
      sent = ends_more g.W.Write.contents c.args.self.now c.loop.self after before sent;
      whole = c.in_ok-send_end.ensures.whole;
    }
