use Rattle.std.proofs.Common.{◌≡◌, ap, ◌∙◌}
use Rattle.orca_base.specs.Grids.{left, right}
use Rattle.orca_op.specs.Deeds.{each_below}
use Rattle.orca_op.specs.Slate.{Slate, slate_after_all}
use Rattle.orca_op.specs.State.{peek}
use Rattle.orca_op.specs.ValueRules.{value_or}
use Rattle.ops_grid.specs.Each.{konkat_at}
use Rattle.ops_grid.proofs.RowLemmas.{konkat-same, peek-marked, var-marked}
use Rattle.ops_grid.proofs.konkat.KonkatOperator.act.Goals as goal

pub returns-clause-deeds : goal.returns-clause-deeds
returns-clause-deeds g c =
    let d = g.B.Bench.slate c.args.bench.now in
    let marked = g.B.Bench.slate c.param.new.self in
    let at = c.args.at in
    let port = rw c.left-2.ensures at c.param.ensures.deed in
    let length = c.value_or-length.result in
    let length_is : length ≡ value_or (peek d.scan (left at 1)) 1 = cc in
    let same = konkat-same d.scan marked.scan at length
    (λ k. peek-marked d marked _ (right at k) _ port) (λ name. var-marked d marked _ _ name port) in
    rw (← length_is)
    (c.concatenate.ensures.deeds ∙ (ap (slate_after_all marked) same
    ∙ ap (λ (e : Slate). slate_after_all e (each_below length (konkat_at d.scan at))) port))
