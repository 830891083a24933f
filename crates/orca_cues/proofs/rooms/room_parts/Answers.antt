use Rattle.std.proofs.Common.{sym, arith}
use Rattle.std.proofs.lemmas.Grind.{common_steps}
use Rattle.orca_cues.proofs.Parting.{both, neither, parted-start, parted-more, parted-here, parted-end}
use Rattle.orca_cues.proofs.rooms.room_parts.Goals as goal

pub loop-i-init : goal.loop-i-init
loop-i-init c = parted-start c.args.text.now

pub loop-i-preserved : goal.loop-i-preserved
loop-i-preserved c =
    parted-more _ _ _ c.loop-i.invariant c.loop-i-test.true (neither _ _ c.else-begins.either)

pub returns-then-ends-clause-parts : goal.returns-then-ends-clause-parts
returns-then-ends-clause-parts c =
    let here = parted-here _ _ _ c.loop-i.invariant c.loop-i-test.true
    (both _ _ c.if-begins.true c.if-ends.true) in
    grind (arith, common_steps, here)

pub returns-clause-parts : goal.returns-clause-parts
returns-clause-parts c = sym (parted-end _ _ _ c.loop-i.invariant c.loop-i-test.false)
