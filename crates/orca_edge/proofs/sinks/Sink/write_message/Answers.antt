use Rattle.std.proofs.Common.{inl, inr}
use Rattle.orca_edge.proofs.EndsLemmas.{in_turn_still, missed_after, on_error}
use Rattle.orca_edge.proofs.sinks.Sink.write_message.Goals as goal

pub returns-in-Err-clause-whole_or_not : goal.returns-in-Err-clause-whole_or_not
returns-in-Err-clause-whole_or_not g c =
    inl (missed_after g.W.Write.contents c.args.self.now c.begin_in_turn.new.self c.miss.new.self
    c.args.bytes.now c.in-Err.ensures.not c.miss.ensures)

pub returns-in_err-finish-clause-whole_or_not : goal.returns-in_err-finish-clause-whole_or_not
returns-in_err-finish-clause-whole_or_not g c =
    on_error _ _ (inr (in_turn_still g.W.Write.contents c.args.self.now c.begin_in_turn.new.self
    c.finish.new.self c.args.bytes.now c.in_default.ensures.begun c.finish.ensures.same
    c.finish.ensures.owed))

pub returns-clause-handed : goal.returns-clause-handed
returns-clause-handed g c =
    in_turn_still g.W.Write.contents c.args.self.now c.begin_in_turn.new.self
    c.finish.new.self c.args.bytes.now c.in_default.ensures.begun c.finish.ensures.same
    c.finish.ensures.owed
