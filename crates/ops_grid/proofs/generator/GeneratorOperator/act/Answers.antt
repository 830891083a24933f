use Rattle.std.proofs.Common.{◌≡◌, ap, ◌∙◌}
use Rattle.orca_base.specs.Glyphs.{value}
use Rattle.orca_base.specs.Grids.{left, right}
use Rattle.orca_op.specs.Deeds.{each_below, param_at}
use Rattle.orca_op.specs.Slate.{Slate, slate_after, slate_after_all}
use Rattle.orca_op.specs.State.{peek}
use Rattle.ops_grid.specs.Each.{generate_at}
use Rattle.ops_grid.proofs.RowLemmas.{generate-same, peek-marked}
use Rattle.ops_grid.proofs.generator.GeneratorOperator.act.Goals as goal

pub returns-clause-deeds : goal.returns-clause-deeds
returns-clause-deeds g c =
    let d = g.B.Bench.slate c.args.bench.now in
    let once = g.B.Bench.slate c.param.new.self in
    let twice = g.B.Bench.slate c.param-2.new.self in
    let marked = g.B.Bench.slate c.param-3.new.self in
    let at = c.args.at in
    let first = rw c.left-4.ensures at c.param.ensures.deed in
    let second = rw c.left-5.ensures at c.param-2.ensures.deed in
    let third = rw c.left-6.ensures at c.param-3.ensures.deed in
    let x = c.value-x.result in
    let y = c.value-y.result in
    let length = c.value-length.result in
    let x_is : x ≡ value (peek d.scan (left at 3)) = cc in
    let y_is : y ≡ value (peek d.scan (left at 2)) = cc in
    let length_is : length ≡ value (peek d.scan (left at 1)) = cc in
    let same = generate-same d.scan marked.scan at y x length
    (λ k.
    peek-marked twice marked _ (right at k) _ third
    ∙ (peek-marked once twice _ (right at k) _ second
    ∙ peek-marked d once _ (right at k) _ first)) in
    let ports = third
    ∙ ap (λ (e : Slate). slate_after e (param_at (left at 1)))
    (second ∙ ap (λ (e : Slate). slate_after e (param_at (left at 2))) first) in
    rw (← x_is, ← y_is, ← length_is)
    (c.generate.ensures.deeds ∙ (ap (slate_after_all marked) same
    ∙ ap (λ (e : Slate). slate_after_all e (each_below length (generate_at d.scan at y x))) ports))
