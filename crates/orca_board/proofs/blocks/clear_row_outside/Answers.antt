use Rattle.std.proofs.Common.{◌+◌, ◌-◌, List, length, arith, ap, sym, ◌∙◌}
use Rattle.orca_base.specs.declared.place.Place.{Place}
use Rattle.orca_base.specs.Glyphs.{empty}
use Rattle.orca_op.specs.Slate.{slate_after_all}
use Rattle.orca_board.specs.Blocks.{crosses, row_run, write_each}
use Rattle.orca_board.proofs.RunLemmas.{length-run, length-two_runs, row_at, row-across, row-beside, write_each-append}
use Rattle.orca_board.proofs.blocks.clear_row_outside.Goals as goal

pub returns-then-not-crosses-clause-slate : goal.returns-then-not-crosses-clause-slate
returns-then-not-crosses-clause-slate g c =
    let y = ap (λ (p : Place). crosses c.args.other p.y) c.row_of-first.ensures in
    let beside = row-beside c.args.area c.args.other c.args.row
    (sym y ∙ sym c.if-not-crosses.ensures) in
    rw (c.row_of-first.ensures, ← beside) at c.fill_run.ensures.slate

pub returns-then-not-crosses-clause-steps : goal.returns-then-not-crosses-clause-steps
returns-then-not-crosses-clause-steps g c =
    let y = ap (λ (p : Place). crosses c.args.other p.y) c.row_of-first.ensures in
    let beside = row-beside c.args.area c.args.other c.args.row
    (sym y ∙ sym c.if-not-crosses.ensures) in
    omega (
      arith,
      c.fill_run.ensures.steps,
      ap (λ (places : List Place). length places) beside,
      length-run (row_at c.args.area c.args.row) c.args.area.w,
    )

pub returns-clause-slate : goal.returns-clause-slate
returns-clause-slate g c =
    let y = ap (λ (p : Place). crosses c.args.other p.y) c.row_of-first.ensures in
    let across = row-across c.args.area c.args.other c.args.row c.min-left.result c.min-right.result
    (sym y ∙ sym c.if-not-crosses.ensures)
    (omega (arith, c.min-left.ensures, c.max.ensures))
    (omega (arith, c.min-right.ensures, c.max-2.ensures)) in
    write_each-append (g.B.Bench.slate c.args.bench.now) _ _ (λ place. empty)
    (row_run (row_at c.args.area c.args.row) (c.min-left.result - c.args.area.x))
    (row_run (record { y = c.args.area.y + c.args.row; x = c.min-right.result })
    (c.args.area.x + c.args.area.w - c.min-right.result))
    (rw c.row_of-first.ensures at c.fill_run-2.ensures.slate)
    (rw c.row_of-first.ensures at c.fill_run-3.ensures.slate)
    ∙ ap (λ (places : List Place). slate_after_all (g.B.Bench.slate c.args.bench.now)
    (write_each (λ place. empty) places)) (sym across)

pub returns-clause-steps : goal.returns-clause-steps
returns-clause-steps g c =
    let y = ap (λ (p : Place). crosses c.args.other p.y) c.row_of-first.ensures in
    let across = row-across c.args.area c.args.other c.args.row c.min-left.result c.min-right.result
    (sym y ∙ sym c.if-not-crosses.ensures)
    (omega (arith, c.min-left.ensures, c.max.ensures))
    (omega (arith, c.min-right.ensures, c.max-2.ensures)) in
    omega (
      arith,
      c.fill_run-2.ensures.steps,
      c.fill_run-3.ensures.steps,
      ap (λ (places : List Place). length places) across,
      length-two_runs (row_at c.args.area c.args.row)
          (record { y = c.args.area.y + c.args.row; x = c.min-right.result })
          (c.min-left.result - c.args.area.x) (c.args.area.x + c.args.area.w - c.min-right.result),
    )
