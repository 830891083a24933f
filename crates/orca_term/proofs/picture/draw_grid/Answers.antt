use Rattle.std.proofs.Common.{◌∙◌}
use Rattle.orca_term.specs.Picture.{grid_row, scene_of}
use Rattle.orca_term.proofs.DrawnRows.{grid_row_is, len_more, row_more}
use Rattle.orca_term.proofs.picture.draw_grid.Goals as goal

pub loop-y-preserved : goal.loop-y-preserved
loop-y-preserved g c =
    let d = c.args.size in
    let scene =
    scene_of (g.T.Look.sheet c.args.look.now) (g.T.Look.marks c.args.look.now) c.args.over.now in
    record {
      cells =
          row_more (grid_row d scene) c.loop-y.y c.loop-y.cells.items
          c.push_grid_row.new.cells.items _ c.loop-y.invariant.cells c.push_grid_row.ensures.row
          (grid_row_is d scene c.loop-y.y c.window_corner-corner.result.y
          c.window_corner-corner.result.x c.from-columns.result c.window_corner-corner.ensures.y
          c.window_corner-corner.ensures.x c.from-columns.ensures);
      len =
          len_more _ _ c.loop-y.y c.from-columns.result c.loop-y.invariant.len
          c.push_grid_row.ensures.len;
      printable = c.push_grid_row.ensures.printable;
      room = c.push_grid_row.ensures.room ∙ c.loop-y.invariant.room;
    }
