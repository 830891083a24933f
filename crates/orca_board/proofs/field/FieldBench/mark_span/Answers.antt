use Rattle.std.proofs.Common.{◌≡◌, ◌+◌, ◌*◌, arith, ap, refl}
use Rattle.orca_base.specs.declared.limits.TheConstants.{MAX_COLUMNS}
use Rattle.orca_base.specs.Grids.{Size, by_place, index_of, largest}
use Rattle.orca_board.specs.Board.{slate_of, cell_marks}
use Rattle.orca_board.proofs.SpanLemmas.{lists-spanned, span_beyond, span_marks, span_plane, spanned}
use Rattle.orca_board.proofs.field.FieldBench.mark_span.Given as given
use Rattle.orca_board.proofs.field.FieldBench.mark_span.Goals as goal
use Rattle.orca_board.proofs.field.FieldBench.mark_span.Goals.{After-add_run, else-y-from-via-then-y-from+else-x-from, else-y-from-via-else-y-from}

-- the marks of the grid
marked : (g : given.Over) (c : After-add_run g)
    → by_place c.self.inside.dims (cell_marks c.add_run.new.self)
    ≡ by_place c.self.inside.dims (span_marks c.self.inside.marks (c.args.at.y + c.args.span.y)
    (c.args.at.x + c.args.span.x) c.args.span.length c.args.marks)
marked g c =
    let width = ap (λ (d : Size). d.w) c.dims.view_is in
    let first : index_of largest (record {
      y = c.from-2.result + c.from-3.result;
      x = c.from-4.result
          + c.from-5.result;
    }) ≡ (c.args.at.y + c.args.span.y) * MAX_COLUMNS + (c.args.at.x + c.args.span.x) =
    omega (arith, c.from-2.ensures, c.from-3.ensures, c.from-4.ensures, c.from-5.ensures) in
    span_plane c.self.inside.dims c.self.inside.marks c.add_run.new.self
    (c.args.at.y + c.args.span.y) (c.args.at.x + c.args.span.x) c.args.span.length
    c.min-count.result
    (index_of largest (record {
      y = c.from-2.result + c.from-3.result;
      x = c.from-4.result
          + c.from-5.result;
    })) c.args.marks
    c.self.invariant.lists.slate.state.sheet.size
    (omega (
      arith,
      width,
      c.if-x-from.true,
      c.from-then-y-from.ensures,
      c.from-4.ensures,
      c.from-5.ensures,
    )) first
    (omega (
      arith,
      width,
      c.min-count.ensures,
      c.from-then-x-from.ensures,
      c.from-4.ensures,
      c.from-5.ensures,
    )) c.add_run.ensures.marks

pub invariant_of-self : goal.invariant_of-self
invariant_of-self g c = record {
  lists = lists-spanned (slate_of c.self.inside) c.self.inside.marks c.add_run.new.self c.args.at
      c.args.span.y c.args.span.x c.args.span.length c.args.marks c.self.inside.listing.changes
      c.self.invariant.lists.slate.state.sheet.size refl (marked g c) c.self.invariant.lists;
  whole = c.self.invariant.whole;
  marks_whole = c.add_run.ensures.size;
  outside = c.self.invariant.outside;
  live = c.self.invariant.live;
  events_roomy = c.self.invariant.events_roomy;
}

pub returns-then-x-from-clause-deeds : goal.returns-then-x-from-clause-deeds
returns-then-x-from-clause-deeds g c =
    rw (← c.self.view_is)
    (spanned (slate_of c.self.inside) c.self.inside.marks c.add_run.new.self c.args.at c.args.span.y
    c.args.span.x c.args.span.length c.args.marks
    c.self.invariant.lists.slate.state.sheet.size refl (marked g c))

pub returns-else-y-from-clause-deeds : goal.returns-else-y-from-clause-deeds
returns-else-y-from-clause-deeds g c =
    rw (← c.self.view_is)
    (spanned (slate_of c.self.inside) c.self.inside.marks c.self.inside.marks c.args.at c.args.span.y
    c.args.span.x c.args.span.length c.args.marks
    c.self.invariant.lists.slate.state.sheet.size refl
    (span_beyond c.self.inside.dims c.self.inside.marks _ _ c.args.span.length c.args.marks
    c.self.invariant.lists.slate.state.sheet.size
    (λ high. elim c.else-y-from.branch [
      | else-y-from-via-then-y-from+else-x-from w ↦ omega (
        arith,
        ap (λ (d : Size). d.w) c.dims.view_is,
        w.if-x-from.false,
        w.from-then-y-from.ensures,
        c.from-4.ensures,
        c.from-5.ensures,
      )
      | else-y-from-via-else-y-from w ↦ omega (
        arith,
        ap (λ (d : Size). d.h) c.dims.view_is,
        high,
        w.if-y-from.false,
        c.from-2.ensures,
        c.from-3.ensures,
        c.from-6.ensures,
      )
    ])))
