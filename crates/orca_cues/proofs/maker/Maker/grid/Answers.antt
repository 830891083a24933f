use Rattle.std.proofs.Common.{◌≡◌, ◌<◌, arith}
use Rattle.orca_base.specs.Grids.{cells_of}
use Rattle.orca_cues.proofs.Drawing.{draws-start, draws-more, draws-end}
use Rattle.orca_cues.proofs.maker.Maker.grid.Goals as goal

pub loop-index-init : goal.loop-index-init
loop-index-init c = draws-start _ _ _ _ c.in_ok-grid.ensures c.generator-words.ensures

pub loop-index-preserved : goal.loop-index-preserved
loop-index-preserved c =
    let below : c.loop-index.index < cells_of c.args.self.now.dims =
    omega (arith, c.cells-index-end.ensures.cells) in
    draws-more _ _ _ _ _ c.loop-index.invariant _ _ _ _ _ below c.place.ensures.index
    c.next_word.ensures c.glyph_of.ensures c.set.ensures

pub returns : goal.returns
returns c =
    let all : c.loop-index.index ≡ cells_of c.args.self.now.dims =
    omega (arith, c.cells-index-end.ensures.cells) in
    draws-end _ _ _ _ _ c.loop-index.invariant all c.cells-index-end.ensures.size
