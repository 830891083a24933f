use Rattle.orca_edge.proofs.EndsLemmas.{no_ends, ends_more, in_turn, on_error}
use Rattle.orca_edge.proofs.sinks.Sink.begin_in_turn.Goals as goal

pub returns-in_err-begin-clause-not : goal.returns-in_err-begin-clause-not
returns-in_err-begin-clause-not g c =
    on_error _ _ (ends_more g.W.Write.contents c.args.self.now c.send_ends.new.self
    c.begin.new.self c.send_ends.ensures.sent (no_ends g.W.Write.contents c.send_ends.new.self
    c.begin.new.self c.in_err-begin.ensures.not c.begin.ensures.owed))

pub returns-clause-begun : goal.returns-clause-begun
returns-clause-begun g c =
    in_turn g.W.Write.contents c.args.self.now c.send_ends.new.self c.begin.new.self
    c.args.bytes.now c.send_ends.ensures.sent c.in_ok-send_ends.ensures.all
    c.in_ok-begin.ensures.begun c.begin.ensures.owed
