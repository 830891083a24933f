use Rattle.std.proofs.Common.{arith}
use Rattle.orca_script.proofs.RunsReadBack.{script_reads_back}
use Rattle.orca_rooms.proofs.PrintLemmas.{prints_all, prints_more, prints_start, values_all}
use Rattle.orca_rooms.proofs.printing.print_sound.Goals as goal

pub loop-asked-init : goal.loop-asked-init
loop-asked-init c =
    rw (c.of-script.ensures, c.none-runs.ensures)
    (prints_start _ _ _ _ _ c.in_ok-print_header.ensures.ok)

pub loop-asked-preserved : goal.loop-asked-preserved
loop-asked-preserved c =
    prints_more _ _ _ _ _ _ _ c.loop-asked.invariant _ _ _ _ _ _ _ c.in-Some.ensures
    c.first_asked-first.ensures c.in_ok-add.ensures.values c.in_ok-add.ensures.ok

pub returns-clause-printed : goal.returns-clause-printed
returns-clause-printed c =
    prints_all _ _ _ _ _ _ (rw c.in_default.ensures.0 at c.loop-asked.invariant) _
    c.in_ok-end.ensures.ok

pub returns-clause-reads_back : goal.returns-clause-reads_back
returns-clause-reads_back c =
    script_reads_back c.args.seed _ (omega (arith, c.ranges.seed.fits))
    (values_all _ _ _ _ _ _ (rw c.in_default.ensures.0 at c.loop-asked.invariant))
