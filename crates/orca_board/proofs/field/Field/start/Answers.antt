use Rattle.std.proofs.Common.{◌≡◌, ◌++◌, ℕ, List, length, take, drop, replicate, arith, ap, sym, ◌∙◌}
use Rattle.std.proofs.Math.ListN.{length-replicate}
use Rattle.orca_base.specs.declared.limits.TheConstants.{BASE, MAX_CELLS}
use Rattle.orca_base.specs.Glyphs.{empty}
use Rattle.orca_base.specs.Grids.{Sheet, by_place, sheet_by}
use Rattle.orca_base.proofs.ListFacts.{put_over, resized}
use Rattle.orca_marks.proofs.PlaneLemmas.{length-blank}
use Rattle.orca_board.specs.Listing.{Listed, places_of}
use Rattle.orca_board.specs.Board.{cell_in}
use Rattle.orca_board.proofs.BoardLemmas.{blank-by_place, keeps-of_sheet}
use Rattle.orca_board.proofs.SlateLemmas.{started}
use Rattle.orca_board.proofs.LiveBitsLemmas.{off-none}
use Rattle.orca_board.proofs.field.Field.start.Goals as goal

pub lay-requires-clause-off : goal.lay-requires-clause-off
lay-requires-clause-off c n few = rw c.in_ok-live.ensures (off-none n)

-- the cells are those that `lay` leaves
laid : (c : goal.In_ok-start-2)
    → take c.resize.new.self.len
    (c.lay.new.cells ++ drop (length c.lay.new.cells) c.resize.new.self.items)
    ≡ c.lay.new.cells
laid c =
    let blanked : c.resize.new.self.items ≡ replicate MAX_CELLS empty =
    resized MAX_CELLS _ _ _ empty c.new-cells.ensures.items c.new-cells.ensures.len
    c.in_ok-resize.ensures.items in
    let long : length c.resize.new.self.items ≡ MAX_CELLS =
    rw blanked (length-replicate MAX_CELLS empty) in
    put_over c.lay.new.cells c.resize.new.self.items c.resize.new.self.len
    (c.lay.ensures.whole ∙ sym long) (omega (arith, c.resize.new.self.ok.0))

pub returns : goal.returns
returns c =
    let g : Sheet = c.args.grid.now in
    let vars : c.resize-2.new.self.items ≡ replicate BASE empty =
    resized c.from.result _ _ _ empty c.new-vars.ensures.items c.new-vars.ensures.len
    c.in_ok-resize-2.ensures.items
    ∙ ap (λ (n : ℕ). replicate n empty) c.from.ensures in
    let inside : by_place g.dims (cell_in c.lay.new.cells) ≡ g.cells =
    rw (← c.dims-dims.ensures.size) (c.lay.ensures.inside ∙ c.cells.ensures) in
    let filled : ◌≡◌ {A = Sheet} (sheet_by g.dims (cell_in c.lay.new.cells)) g =
    ap (λ (cells : List ℕ). record { dims = g.dims; cells = cells }) inside in
    rw (laid c) (started _ g c.dims-dims.ensures.size (rw c.dims-dims.ensures.size inside)
    (rw (c.dims-dims.ensures.size, c.in_ok-start.ensures)
    (blank-by_place g.dims c.dims-dims.ensures.whole.size)) vars c.in_ok-with_capacity.ensures.items
    (rw (c.in_ok-start-2.ensures, c.of-before.ensures, laid c, c.dims-dims.ensures.size) filled)
    (ap (λ (l : Listed). places_of l.changes) c.in_ok-start-2.ensures))

pub invariant_of-result-2 : goal.invariant_of-result-2
invariant_of-result-2 c =
    rw (laid c) (keeps-of_sheet _ c.args.grid.now _ _ _ _ _ c.dims-dims.ensures.whole
    (rw (laid c) at (returns c))
    (ap (λ (l : Listed). l.changes) c.in_ok-start-2.ensures) c.lay.ensures.whole
    (rw c.in_ok-start.ensures length-blank)
    (rw (← c.dims-dims.ensures.size) c.lay.ensures.outside)
    (rw c.live.view_is c.lay.ensures.live) (omega (arith, c.in_ok-with_capacity.ensures.capacity)))
