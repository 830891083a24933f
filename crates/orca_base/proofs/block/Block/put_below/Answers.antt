use Rattle.std.proofs.Common.{arith, refl, ap, ◌∙◌, ◌-◌, ◌*◌, ◌++◌, ℕ, List, take, replicate, Vec, Global, vec_len}
use Rattle.orca_base.specs.Glyphs.{empty}
use Rattle.orca_base.specs.Grids.{Sheet}
use Rattle.orca_base.proofs.BlockFacts.{put-below}
use Rattle.orca_base.proofs.block.Block.put_below.Goals as goal

-- the glyphs, cut or filled up to so many
abbrev grown : ℕ → Vec ℕ Global → ℕ → List ℕ
grown size cells n = take size cells.items ++ replicate (size - n) empty

pub returns-clause-put : goal.returns-clause-put
returns-clause-put c =
    let size : ℕ = c.from.result * c.from-width.result in
    let cells : Vec ℕ Global = c.self.inside.cells.value in
    rw (← c.self.view_is)
    (put-below (record {
      dims = record { h = c.self.inside.h; w = c.self.inside.w };
      cells = cells.items;
    }) c.max-h.result size _ c.args.at c.args.glyph c.resize.new.self.items c.self.invariant
    (omega (arith, c.requires.column, ap (λ (b : Sheet). b.dims.w) c.self.view_is)) c.max-h.ensures
    (ap (λ (n : ℕ). n * c.from-width.result) c.from.ensures
    ∙ ap (λ (n : ℕ). c.max-h.result * n) c.from-width.ensures)
    (rw (c.from-2.ensures, c.from-3.ensures, c.from-width.ensures) refl)
    (c.in_ok-resize.ensures.items
    ∙ (ap (λ (v : Vec ℕ Global). grown size v (vec_len v)) c.in-Some.ensures.value
    ∙ ap (grown size cells) cells.ok.0)))
