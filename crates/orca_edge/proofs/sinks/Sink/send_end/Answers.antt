use Rattle.orca_edge.proofs.EndsLemmas.{no_ends, end_taken}
use Rattle.orca_edge.proofs.sinks.Sink.send_end.Goals as goal

pub returns-in_err-begin-clause-sent : goal.returns-in_err-begin-clause-sent
returns-in_err-begin-clause-sent g c =
    let after = c.begin.new.self in
    let none = c.in_err-begin.ensures.not in
    no_ends g.W.Write.contents c.args.self.now after none c.begin.ensures.owed

pub returns-in_err-finish-clause-sent : goal.returns-in_err-finish-clause-sent
returns-in_err-finish-clause-sent g c =
    end_taken g.W.Write.contents c.args.self.now c.begin.new.self c.finish.new.self
    c.pay.new.self c.args.voice c.requires.first
    (rw c.note_off.ensures.bytes at c.in_ok-begin.ensures.begun) c.begin.ensures.owed
    c.pay.ensures c.finish.ensures.same c.finish.ensures.owed

pub returns-clause-sent : goal.returns-clause-sent
returns-clause-sent g c =
    end_taken g.W.Write.contents c.args.self.now c.begin.new.self c.finish.new.self
    c.pay.new.self c.args.voice c.requires.first
    (rw c.note_off.ensures.bytes at c.in_ok-begin.ensures.begun) c.begin.ensures.owed
    c.pay.ensures c.finish.ensures.same c.finish.ensures.owed
