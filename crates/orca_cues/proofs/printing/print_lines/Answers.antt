use Rattle.std.proofs.Common.{[], ◌∷◌, sym, ◌∙◌, ap, arith}
use Rattle.std.specs.Prelude.{Ok}
use Rattle.orca_script.proofs.Appending.{extends_more}
use Rattle.orca_script.proofs.RunsReadBack.{script_reads_back}
use Rattle.orca_cues.proofs.PrintedLines.{Prints, prints_all, prints_more, prints_same, prints_start, reads_nothing, values_all}
use Rattle.orca_cues.proofs.printing.print_lines.Goals as goal
use Rattle.orca_cues.proofs.printing.print_lines.Goals.{In-None, In-Some}

pub loop-line-init : goal.loop-line-init
loop-line-init c =
    let start = prints_start c.args.format_2 c.args.seed c.args.text.now c.args.into.now.items
    c.print_header.new.into.items c.requires c.in_ok-print_header.ensures.ok in (
      tt,
      tt,
      rw (
        c.into_iter-line-iterator.ensures.into_iter_gives,
        c.of-line-items.ensures,
        c.none-runs.ensures,
      ) start,
      c.in_ok-print_header.ensures.grown,
    )

-- before a line
before : (c : In-Some)
    → Prints c.args.format_2 c.args.seed c.args.text.now c.args.into.now.items c.loop-line.number
    (c.in-Some.line.now ∷ c.next.new.self) c.loop-line.into.items c.loop-line.runs
before c = rw c.in-Some.ensures.steps at c.loop-line.invariant.2

pub loop-line-preserved-in-Continue-branch-2 : goal.loop-line-preserved-in-Continue-branch-2
loop-line-preserved-in-Continue-branch-2 c =
    let prints = before (goal.at.loop-line-preserved-in-Continue-branch-2 c).In-Some in
    let read = sym c.read_as.ensures.reading ∙ (c.in-Ok-Some.is ∙ ap Ok c.in-Ok-Some.field-0-is) in (
      tt,
      tt,
      prints_more _ _ _ _ _ _ _ _ _ prints c.in-Ok-Some.asked _ _ read
          c.in_ok-add-in-Ok-Some.ensures.values c.in_ok-add-in-Ok-Some.ensures.ok,
      extends_more _ _ _ c.loop-line.invariant.3 c.in_ok-add-in-Ok-Some.ensures.grown,
    )

pub loop-line-preserved-in-Ok-None : goal.loop-line-preserved-in-Ok-None
loop-line-preserved-in-Ok-None c =
    let prints = before (goal.at.loop-line-preserved-in-Ok-None c).In-Some in
    let read = sym c.read_as.ensures.reading ∙ (c.in-Ok-None.is ∙ ap Ok c.in-Ok-None.field-0-is) in (
      tt,
      tt,
      prints_same _ _ _ _ _ _ _ _ _ prints (reads_nothing _ _ read tt),
      c.loop-line.invariant.3,
    )

pub loop-line-preserved : goal.loop-line-preserved
loop-line-preserved c =
    let prints = before (goal.at.loop-line-preserved c).In-Some in
    let read = sym c.read_as.ensures.reading ∙ c.in-Err.is in (
      tt,
      tt,
      prints_same _ _ _ _ _ _ _ _ _ prints (reads_nothing _ _ read tt),
      c.loop-line.invariant.3,
    )

-- after the last line
over : (c : In-None)
    → Prints c.args.format_2 c.args.seed c.args.text.now c.args.into.now.items c.loop-line.number
    [] c.loop-line.into.items c.loop-line.runs
over c = rw c.in-None.ensures.steps.0 at c.loop-line.invariant.2

pub returns-clause-printed : goal.returns-clause-printed
returns-clause-printed c =
    prints_all _ _ _ _ _ _ _ (over (goal.at.returns-clause-printed c).In-None) _
    c.in_ok-end.ensures.ok

pub returns-clause-reads_back : goal.returns-clause-reads_back
returns-clause-reads_back c =
    script_reads_back c.args.seed _ (omega (arith, c.ranges.seed.fits))
    (values_all _ _ _ _ _ _ _ (over (goal.at.returns-clause-reads_back c).In-None))
