use Rattle.std.proofs.Common.{arith}
use Rattle.orca_rooms.proofs.PrintLemmas.{take_all, take_some}
use Rattle.orca_rooms.proofs.printing.cut_asked.Goals as goal

pub returns-then-times-most : goal.returns-then-times-most
returns-then-times-most c = λ rest.
    rw c.in-Frames.is
    (take_some _ _ rest (omega (arith, c.if-times-most.true, c.from-times.ensures)))

pub returns-else-times-most : goal.returns-else-times-most
returns-else-times-most c = λ rest.
    rw (c.in-Frames.is, c.from-times.ensures)
    (take_all _ _ rest (omega (arith, c.if-times-most.false, c.from-times.ensures)))
