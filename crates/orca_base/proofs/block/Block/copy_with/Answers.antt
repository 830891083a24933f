use Rattle.std.proofs.Common.{arith, ap, ◌∙◌, ◌≡◌, ◌+◌, ◌*◌, ◌/◌, ◌%◌, max, ℕ, List, length, Vec, Global}
use Rattle.orca_base.specs.Edits.{cell_with}
use Rattle.orca_base.specs.Grids.{Sheet, by_place}
use Rattle.orca_base.proofs.BlockFacts.{all_cells, first_cells-more, laid-out}
use Rattle.orca_base.proofs.SheetFacts.{length-by_place}
use Rattle.orca_base.proofs.block.Block.copy_with.Goals as goal

pub loop-n-preserved : goal.loop-n-preserved
loop-n-preserved c =
    c.in_ok-push.ensures.items
    ∙ first_cells-more c.args.self.now c.args.at c.args.glyph
    (record { h = c.max-h.result; w = c.max-w.result }) c.loop-n.n c.loop-n.cells.items
    c.cell_with.result c.loop-n.invariant
    (c.cell_with.ensures
    ∙ ap (λ (n : ℕ). cell_with c.args.self.now c.args.at c.args.glyph
    (record { y = c.loop-n.n / n; x = c.loop-n.n % n })) c.from-width.ensures)

-- all cells are laid
laid : (c : goal.In_ok-cells-2) → c.in_ok-cells-2.cells.value.items
    ≡ by_place (record { h = c.max-h.result; w = c.max-w.result })
    (cell_with c.args.self.now c.args.at c.args.glyph)
laid c =
    let product : c.from.result * c.from-width.result ≡ c.max-h.result * c.max-w.result =
    ap (λ (n : ℕ). n * c.from-width.result) c.from.ensures
    ∙ ap (λ (n : ℕ). c.max-h.result * n) c.from-width.ensures in
    ap (λ (cells : Vec ℕ Global). cells.items) c.in_ok-cells-2.ensures.ok
    ∙ all_cells c.args.self.now c.args.at c.args.glyph
    (record { h = c.max-h.result; w = c.max-w.result }) c.loop-n.n c.loop-n.cells.items
    c.loop-n.invariant (omega (arith, c.loop-n-test.false, c.loop-n.auto.n-end, product))

pub invariant_of-result : goal.invariant_of-result
invariant_of-result c =
    ap (λ (cells : List ℕ). length cells) (laid c)
    ∙ length-by_place (record { h = c.max-h.result; w = c.max-w.result })
    (cell_with c.args.self.now c.args.at c.args.glyph)

pub returns : goal.returns
returns c =
    laid-out c.args.self.now c.max-h.result c.max-w.result c.in_ok-cells-2.cells.value.items
    c.args.at c.args.glyph
    (c.max-h.ensures ∙ ap (λ (b : Sheet). max b.dims.h (c.args.at.y + 1)) c.self.view_is)
    (c.max-w.ensures ∙ ap (λ (b : Sheet). max b.dims.w (c.args.at.x + 1)) c.self.view_is) (laid c)
