use Rattle.std.proofs.Common.{◌≡◌, ◌+◌}
use Rattle.orca_op.specs.Deeds.{span_deeds}
use Rattle.orca_op.specs.Slate.{HasEventRoom, slate_after_all}
use Rattle.orca_op.proofs.bench.Bench.mark_span.Given as goal

-- the places that were passed are marked
abbrev pub invariant-loop-i : goal.invariant-loop-i
invariant-loop-i g l = record {
  deeds : g.Self.Bench.slate l.self ≡ slate_after_all (g.Self.Bench.slate l.initial.self)
      (span_deeds l.at l.span.y l.span.x l.i l.marks);
  room : HasEventRoom (g.Self.Bench.slate l.initial.self) → HasEventRoom (g.Self.Bench.slate l.self);
  steps : l.steps ≡ l.initial.steps + l.i;
}
