use Rattle.std.proofs.Common.{◌≡◌, ◌*◌, arith, ap, refl}
use Rattle.orca_base.specs.Grids.{Size, cells_of}
use Rattle.orca_op.specs.Rules.{rule}
use Rattle.orca_frame.proofs.CoveringLemmas.{covering}
use Rattle.orca_frame.proofs.FrameLemmas.{framed}
use Rattle.orca_frame.proofs.SkipLemmas.{steps_of_rows}
use Rattle.orca_frame.proofs.sparse.frame.Given as given
use Rattle.orca_frame.proofs.sparse.frame.Goals as goal
use Rattle.orca_frame.proofs.sparse.frame.Goals.{After-loop-row}

-- every row was walked
walked : (g : given.Over) (c : After-loop-row g)
    → c.loop-row.row ≡ (g.B.Bench.slate c.args.board.now).scan.dims.h
walked g c =
    omega (
      arith,
      c.loop-row.auto.row-end,
      c.loop-row-test.false,
      ap (λ (d : Size). d.h)
          c.dims.view_is,
      ap (λ (d : Size). d.h) c.dims-dims.ensures.size,
    )

pub returns-clause-framed : goal.returns-clause-framed
returns-clause-framed g c =
    let all : c.loop-row.row * (g.B.Bench.slate c.args.board.now).scan.dims.w ≡ cells_of
    (g.B.Bench.slate c.args.board.now).scan.dims = rw (walked g c) refl in
    framed _ _ _ _ c.dims-dims.ensures.slate c.table_laws.ensures all c.loop-row.invariant.reached

pub returns-clause-most : goal.returns-clause-most
returns-clause-most g c = steps_of_rows _ _ _ _ _ (walked g c) c.loop-row.invariant.most

pub returns-clause-covering : goal.returns-clause-covering
returns-clause-covering g c = covering rule c.table_laws.ensures
