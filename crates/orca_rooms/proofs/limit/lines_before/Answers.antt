use Rattle.std.proofs.Common.{arith, ap, length}
use Rattle.orca_cues.proofs.LineCounts.{lines_few}
use Rattle.orca_rooms.proofs.limit.lines_before.Goals as goal

pub loop-count-init : goal.loop-count-init
loop-count-init c = let same = ap length c.of-lines.ensures in omega (arith, same)

pub overflow_add-count : goal.overflow_add-count
overflow_add-count c =
    let few = lines_few c.args.room.now.grid.now in
    omega (arith, few, c.requires, c.loop-count.invariant)

pub loop-count-preserved : goal.loop-count-preserved
loop-count-preserved c =
    let same = ap length c.in-Some.ensures.steps in omega (arith, same, c.loop-count.invariant)

pub returns-clause-lines : goal.returns-clause-lines
returns-clause-lines c =
    let none = ap length c.in_default.ensures.steps.0 in omega (arith, none, c.loop-count.invariant)

pub returns-clause-few : goal.returns-clause-few
returns-clause-few c =
    let few = lines_few c.args.room.now.grid.now in
    omega (arith, few, c.requires, c.loop-count.invariant)
