use Rattle.std.proofs.Common.{arith, ◌≡◌, ◌∙◌, ap, subst}
use Rattle.orca_base.specs.Grids.{Size, IsInside, cells_of, place_of}
use Rattle.orca_frame.proofs.FrameLemmas.{inside_slate, room_slate, visit_slate, framed, steps_more, steps_all}
use Rattle.orca_frame.proofs.plain.frame_plain.Given as given
use Rattle.orca_frame.proofs.plain.frame_plain.Goals as goal
use Rattle.orca_frame.proofs.plain.frame_plain.Goals.{After-loop-i}

pub visit-requires-clause-inside : goal.visit-requires-clause-inside
visit-requires-clause-inside g c =
    inside_slate _ _ _ _ _ c.loop-i.invariant.slate
    (subst (λ (d : Size). IsInside d c.place.result) c.dims-dims.ensures.size
    c.place.ensures.inside)

pub visit-requires-clause-room : goal.visit-requires-clause-room
visit-requires-clause-room g c =
    room_slate _ c.loop-i.i _ _ c.loop-i.invariant.slate c.table_laws.ensures
    c.dims-dims.ensures.slate.state.sheet
    (omega (
      arith,
      c.loop-i-test.true,
      c.cells-places.ensures.cells,
      ap cells_of
          c.dims-dims.ensures.size,
    ))

pub loop-i-preserved : goal.loop-i-preserved
loop-i-preserved g c =
    let here = c.place.ensures.place ∙ ap (λ (d : Size). place_of d c.loop-i.i)
    c.dims-dims.ensures.size in
    record {
      slate = visit_slate _ _ _ _ _ _ c.loop-i.invariant.slate here c.visit.ensures.deeds;
      most = steps_more _ _ _ _ _ _ _ _ c.loop-i.invariant.slate here c.loop-i.invariant.most
          c.visit.ensures.steps;
      least = omega (arith, c.loop-i.invariant.least, c.visit.ensures.later);
    }

-- every place was visited
visited : (g : given.Over) (c : After-loop-i g)
    → c.loop-i.i ≡ cells_of (g.B.Bench.slate c.args.bench.now).scan.dims
visited g c = omega (
  arith,
  c.loop-i.auto.i-end,
  c.loop-i-test.false,
  c.cells-places.ensures.cells,
  ap cells_of c.dims-dims.ensures.size,
)

pub returns-clause-framed : goal.returns-clause-framed
returns-clause-framed g c =
    framed _ _ _ _ c.dims-dims.ensures.slate c.table_laws.ensures (visited g c)
    c.loop-i.invariant.slate

pub returns-clause-most : goal.returns-clause-most
returns-clause-most g c = steps_all _ _ _ _ _ (visited g c) c.loop-i.invariant.most

pub returns-clause-least : goal.returns-clause-least
returns-clause-least g c = omega (arith, c.loop-i.invariant.least, visited g c)
