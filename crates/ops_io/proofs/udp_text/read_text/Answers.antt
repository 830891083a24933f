use Rattle.std.proofs.Common.{◌≡◌, ℕ, arith, ap, rules, sym, ◌∙◌}
use Rattle.orca_base.specs.declared.limits.TheConstants.{MAX_TEXT}
use Rattle.orca_op.specs.EventRules.{ports}
use Rattle.ops_io.proofs.TextLemmas.{text_at-found, text_at-missing}
use Rattle.ops_io.proofs.udp_text.read_text.Goals as goal

pub returns-then-eq-clause-text : goal.returns-then-eq-clause-text
returns-then-eq-clause-text g c =
    c.loop-i.invariant.text ∙ sym (text_at-found _ c.args.at c.loop-i.i (omega arith)
    c.loop-i.invariant.full (search rules))

pub returns-clause-text : goal.returns-clause-text
returns-clause-text g c =
    let whole : c.loop-i.i ≡ MAX_TEXT = omega arith in
    let s = (g.B.Bench.slate c.args.bench.now).scan in
    c.loop-i.invariant.text
    ∙ (ap (λ (n : ℕ). ports s c.args.at 1 n) whole
    ∙ sym (text_at-missing s c.args.at (λ k below. c.loop-i.invariant.full k (omega arith))))
