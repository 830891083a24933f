use Rattle.std.proofs.Common.{◌≡◌, ◌*◌, arith}
use Rattle.orca_base.specs.Areas.{corner_of}
use Rattle.orca_board.specs.Blocks.{glyph_from, rows_of_width}
use Rattle.orca_board.proofs.RunLemmas.{all_rows, product, row-fits, row_step, write-row}
use Rattle.orca_board.proofs.blocks.write_block.Goals as goal

pub loop-row-preserved : goal.loop-row-preserved
loop-row-preserved g c =
    let first : c.from.result * c.from-in-loop-row.result ≡ c.loop-row.row * c.args.width =
    product _ _ _ _ c.from.ensures c.from-in-loop-row.ensures in
    record {
      slate = row_step _ _ _ (glyph_from (rows_of_width c.args.width c.args.cells.now)
          (corner_of c.args.area)) c.args.area c.loop-row.row c.loop-row.invariant.slate
          (rw (
            c.row_of.ensures,
            write-row c.args.cells.now c.args.area c.loop-row.row c.args.width
                (c.from.result * c.from-in-loop-row.result) first,
          ) at c.write_run.ensures.slate);
      steps = omega (arith, c.loop-row.invariant.steps, c.write_run.ensures.steps);
    }

pub write_run-requires-clause-glyphs : goal.write_run-requires-clause-glyphs
write_run-requires-clause-glyphs g c =
    omega (
      arith,
      c.requires.rows,
      c.requires.columns,
      product c.from.result c.from-in-loop-row.result _ _ c.from.ensures
          c.from-in-loop-row.ensures,
      row-fits c.args.area.h c.loop-row.row c.args.width c.loop-row-test.true,
    )

pub returns-clause-slate : goal.returns-clause-slate
returns-clause-slate g c =
    all_rows _ _ (glyph_from (rows_of_width c.args.width c.args.cells.now) (corner_of c.args.area))
    c.args.area c.loop-row.row c.loop-row.invariant.slate
    (omega (arith, c.loop-row-test.false, c.loop-row.auto.row-end))
