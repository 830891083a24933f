use Rattle.std.proofs.Common.{◌≡◌, ◌*◌, ℕ, List, arith, ap, subst, sym, ◌∙◌}
use Rattle.orca_base.specs.Grids.{Size, IsSize}
use Rattle.orca_base.proofs.SheetFacts.{AreGlyphs-each, list-by_place}
use Rattle.orca_board.specs.Board.{cell_in}
use Rattle.orca_board.proofs.BoardLemmas.{live-none, outside-none}
use Rattle.orca_board.proofs.RowLemmas.{IsLaidRow, glyphs-laid, outside-laid, part-is, part_of, rows-laid}
use Rattle.orca_board.proofs.field.lay.Goals as goal

pub loop-row-init : goal.loop-row-init
loop-row-init c =
    let nothing : 0 * c.args.dims.w ≡ 0 = omega arith in
    record {
      whole = c.requires.whole;
      glyphs = λ k below. absurd (omega (arith, below, nothing));
      rows = λ at inside below. absurd (omega (arith, below));
      outside = outside-none _ _ c.requires.empty;
      live = live-none _ _ c.requires.empty c.requires.off;
    }

pub loop-row-preserved : goal.loop-row-preserved
loop-row-preserved c =
    let rows : c.dims.inside.h ≡ c.args.dims.h = ap (λ (d : Size). d.h) c.dims.view_is in
    let columns : c.from-columns.result ≡ c.args.dims.w =
    c.from-columns.ensures ∙ ap (λ (d : Size). d.w) c.dims.view_is in
    let part : List ℕ = part_of c.loop-row.row c.from-columns.result c.args.glyphs.now in
    let laid : IsLaidRow c.args.dims c.args.glyphs.now c.loop-row.cells c.lay_row.new.cells part
    c.loop-row.row = record {
      size = subst IsSize c.dims.view_is c.dims.invariant;
      few = omega (arith, rows, c.from-row-end.ensures, c.loop-row-test.true);
      whole = c.requires.size;
      is_part = part-is c.loop-row.row c.from-columns.result c.args.dims.w c.args.glyphs.now columns;
      cells = c.lay_row.ensures.cells;
    } in
    record {
      whole = c.lay_row.ensures.whole;
      glyphs = glyphs-laid c.args.dims c.args.glyphs.now c.loop-row.cells c.lay_row.new.cells part
          c.loop-row.row laid c.lay_row.ensures.glyphs c.loop-row.invariant.glyphs;
      rows = rows-laid c.args.dims c.args.glyphs.now c.loop-row.cells c.lay_row.new.cells part
          c.loop-row.row laid c.loop-row.invariant.rows;
      outside = outside-laid c.args.dims c.args.glyphs.now c.loop-row.cells c.lay_row.new.cells part
          c.loop-row.row laid c.loop-row.invariant.outside;
      live = c.lay_row.ensures.live;
    }

pub returns-clause-glyphs : goal.returns-clause-glyphs
returns-clause-glyphs c =
    let rows : c.dims.inside.h ≡ c.args.dims.h = ap (λ (d : Size). d.h) c.dims.view_is in
    let end : c.loop-row.row ≡ c.args.dims.h =
    omega (arith, rows, c.from-row-end.ensures, c.loop-row-test.false, c.loop-row.auto.row-end) in
    AreGlyphs-each c.args.glyphs.now
    (λ k below. c.loop-row.invariant.glyphs k (rw end (omega (arith, below, c.requires.size))))

pub returns-clause-inside : goal.returns-clause-inside
returns-clause-inside c =
    let rows : c.dims.inside.h ≡ c.args.dims.h = ap (λ (d : Size). d.h) c.dims.view_is in
    sym (list-by_place c.args.dims c.args.glyphs.now (cell_in c.loop-row.cells) 0
    (subst IsSize c.dims.view_is c.dims.invariant) c.requires.size (λ at inside.
    sym (c.loop-row.invariant.rows at inside
    (omega (arith, rows, inside.row, c.from-row-end.ensures, c.loop-row-test.false)))))
