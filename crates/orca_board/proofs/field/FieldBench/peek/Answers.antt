use Rattle.std.proofs.Common.{ap, refl, sym, ◌∙◌}
use Rattle.orca_base.specs.Grids.{Size, index_of}
use Rattle.orca_board.specs.Board.{slate_of}
use Rattle.orca_board.proofs.LargestLemmas.{peek-none, peek-some}
use Rattle.orca_board.proofs.field.FieldBench.peek.Goals as goal

pub returns-in-Some-clause-glyph : goal.returns-in-Some-clause-glyph
returns-in-Some-clause-glyph g c =
    rw (← c.self.view_is)
    (peek-some (slate_of c.self.inside).scan c.self.inside.cells.items _ _ _ _
    c.self.invariant.lists.slate.state.sheet.size refl c.self.invariant.outside
    c.in-Some.ensures.place c.in-Some.ensures.inside
    (c.index.ensures.index ∙ ap (λ (m : Size). index_of m c.in-Some.place) c.largest.ensures)
    c.index.ensures.most c.self.invariant.whole c.index-in-Some.ensures)

pub returns-in-None-clause-glyph : goal.returns-in-None-clause-glyph
returns-in-None-clause-glyph g c =
    rw (← c.self.view_is)
    (peek-none (slate_of c.self.inside).scan _ c.self.invariant.lists.slate.state.sheet.size
    (sym c.in-None.is ∙ c.in_largest.ensures.place))
