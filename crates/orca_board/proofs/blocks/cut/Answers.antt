use Rattle.std.proofs.Common.{◌≡◌, ◌≤◌, ◌-◌, refl, not, List, [], length, arith, ap, ◌∙◌}
use Rattle.std.specs.Prelude.{filter, if◌then◌else◌, min, nat_lt}
use Rattle.std.proofs.lemmas.Bool.{le-ltb, lt-ltb}
use Rattle.orca_base.specs.declared.place.Place.{Place}
use Rattle.orca_base.specs.Edits.{is_in_area}
use Rattle.orca_base.specs.Glyphs.{empty}
use Rattle.orca_base.specs.Grids.{Size}
use Rattle.orca_op.specs.Slate.{slate_after_all}
use Rattle.orca_board.specs.Blocks.{write_each}
use Rattle.orca_board.specs.Sizes.{whole}
use Rattle.orca_board.proofs.RunLemmas.{all-outside, first_rows, length-run, no-rows, none-cut, outside_step, outside_count, row-cut}
use Rattle.orca_board.proofs.blocks.cut.Goals.{then-to-dims, else-to-dims, then-y-to, else-y-to}
use Rattle.orca_board.proofs.blocks.cut.Goals as goal

-- the rows before the first are not cut
pub loop-y-init : goal.loop-y-init
loop-y-init g c =
    let rows : c.dims.inside.h ≡ c.args.dims.h = ap (λ (d : Size). d.h) c.dims.view_is in
    let columns : c.dims.inside.w ≡ c.args.dims.w = ap (λ (d : Size). d.w) c.dims.view_is in
    let other_rows : c.to.inside.h ≡ c.args.to.h = ap (λ (d : Size). d.h) c.to.view_is in
    let other_columns : c.to.inside.w ≡ c.args.to.w = ap (λ (d : Size). d.w) c.to.view_is in
    let none : filter (λ at. not (is_in_area (whole c.args.to) at))
    (first_rows (whole c.args.dims) c.if-to-dims.first) ≡ [] = elim c.if-to-dims.branch [
      | then-to-dims w ↦ no-rows (whole c.args.dims) (whole c.args.to) c.if-to-dims.first w.first-is
      | else-to-dims w ↦ none-cut c.args.dims c.args.to c.if-to-dims.first
          (omega (arith, other_rows, w.first-is, w.min-first.ensures))
          (omega (arith, columns, other_columns, w.if-to-dims.false))
    ] in
    record {
      slate = rw none refl;
      steps = rw none (omega arith);
    }

pub loop-y-preserved : goal.loop-y-preserved
loop-y-preserved g c =
    let columns : c.dims.inside.w ≡ c.args.dims.w = ap (λ (d : Size). d.w) c.dims.view_is in
    let other_rows : c.to.inside.h ≡ c.args.to.h = ap (λ (d : Size). d.h) c.to.view_is in
    let other_columns : c.to.inside.w ≡ c.args.to.w = ap (λ (d : Size). d.w) c.to.view_is in
    let x : c.if-y-to.x ≡ (if nat_lt c.loop-y.y c.args.to.h then min c.args.to.w c.args.dims.w else
    0) = elim c.if-y-to.branch [
      | then-y-to w ↦
          rw (lt-ltb c.loop-y.y c.args.to.h (omega (arith, w.if-y-to.true, other_rows)))
          (omega (arith, w.x-is, w.min-x.ensures, columns, other_columns))
      | else-y-to w ↦
          rw (le-ltb c.loop-y.y c.args.to.h (omega (arith, w.if-y-to.false, other_rows))) w.x-is
    ] in
    let row = row-cut c.args.dims c.args.to c.loop-y.y c.if-y-to.x x in
    record {
      slate = outside_step _ _ _ (λ at. empty) (whole c.args.dims) (whole c.args.to) c.loop-y.y
          c.loop-y.invariant.slate (rw (columns, ← row) at c.fill_run.ensures.slate);
      steps = omega (
        arith,
        columns,
        c.loop-y.invariant.steps,
        c.fill_run.ensures.steps,
        outside_count (whole c.args.dims) (whole c.args.to) c.loop-y.y,
        ap (λ (places : List Place). length places) row,
        length-run (record { y = c.loop-y.y; x = c.if-y-to.x }) (c.args.dims.w - c.if-y-to.x),
      );
    }

pub returns-clause-slate : goal.returns-clause-slate
returns-clause-slate g c =
    let rows : c.dims.inside.h ≡ c.args.dims.h = ap (λ (d : Size). d.h) c.dims.view_is in
    let few : c.if-to-dims.first ≤ c.dims.inside.h = elim c.if-to-dims.branch [
      | then-to-dims w ↦ omega (arith, w.first-is)
      | else-to-dims w ↦ omega (arith, w.first-is, w.min-first.ensures)
    ] in
    c.loop-y.invariant.slate
    ∙ ap (λ (places : List Place). slate_after_all (g.B.Bench.slate c.args.bench.now)
    (write_each (λ at. empty) places))
    (all-outside (whole c.args.dims) (whole c.args.to) c.loop-y.y
    (omega (arith, rows, c.loop-y-test.false, c.loop-y.auto.y-end few)))

pub returns-clause-steps : goal.returns-clause-steps
returns-clause-steps g c =
    let rows : c.dims.inside.h ≡ c.args.dims.h = ap (λ (d : Size). d.h) c.dims.view_is in
    let few : c.if-to-dims.first ≤ c.dims.inside.h = elim c.if-to-dims.branch [
      | then-to-dims w ↦ omega (arith, w.first-is)
      | else-to-dims w ↦ omega (arith, w.first-is, w.min-first.ensures)
    ] in
    omega (
      arith,
      c.loop-y.invariant.steps,
      ap (λ (places : List Place). length places)
          (all-outside (whole c.args.dims) (whole c.args.to) c.loop-y.y
          (omega (arith, rows, c.loop-y-test.false, c.loop-y.auto.y-end few))),
    )
