use Rattle.std.proofs.Common.{◌≡◌, ap, sym, ◌∙◌, ℕ, arith}
use Rattle.orca_jam.specs.Crews.{last_own}
use Rattle.orca_jam.proofs.OwnEdits.{last_own-before, last_own-here}
use Rattle.orca_jam.proofs.crew.Crew.own_edit.Goals as goal

pub returns-then-is_own : goal.returns-then-is_own
returns-then-is_own g c =
    sym (c.loop-left.invariant.own
    ∙ last_own-here c.args.self.now c.args.hand (g.M.Machine.machine c.args.machine.now).history
    c.loop-left.end c.loop-left.left c.loop-left-test.true
    (sym c.is_own.ensures ∙ c.if-is_own.true))

pub loop-left-preserved : goal.loop-left-preserved
loop-left-preserved g c = record {
  within = omega (arith, c.loop-left.invariant.within);
  own =
      c.loop-left.invariant.own
      ∙ last_own-before c.args.self.now c.args.hand (g.M.Machine.machine c.args.machine.now).history
      c.loop-left.end c.loop-left.left c.loop-left-test.true
      (sym c.is_own.ensures ∙ c.if-is_own.false);
}

pub returns : goal.returns
returns g c =
    let none : c.loop-left.left ≡ 0 = omega (arith, c.loop-left-test.false) in
    sym (c.loop-left.invariant.own
    ∙ ap (λ (n : ℕ).
    last_own c.args.self.now c.args.hand (g.M.Machine.machine c.args.machine.now).history
    c.loop-left.end n) none)
