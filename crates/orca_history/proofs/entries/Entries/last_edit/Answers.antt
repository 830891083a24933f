use Rattle.std.proofs.Common.{arith, sym, ◌∙◌}
use Rattle.orca_history.proofs.LastEdit.{last-before, last-found}
use Rattle.orca_history.proofs.entries.Entries.last_edit.Goals as goal

pub returns-then-is_edit-clause-last : goal.returns-then-is_edit-clause-last
returns-then-is_edit-clause-last c =
    rw (← c.self.view_is)
    (sym (last-found c.self.inside.done.items c.loop-end.end c.index.result.now
    c.loop-end-test.true c.loop-end.invariant.within c.index.ensures
    (sym c.is_edit.ensures ∙ c.if-is_edit.true) c.loop-end.invariant.last))

pub loop-end-preserved : goal.loop-end-preserved
loop-end-preserved c = record {
  within = omega (arith, c.loop-end.invariant.within);
  last = last-before c.self.inside.done.items c.loop-end.end c.index.result.now
      c.loop-end-test.true c.loop-end.invariant.within c.index.ensures
      (sym c.is_edit.ensures ∙ c.if-is_edit.false) c.loop-end.invariant.last;
}
