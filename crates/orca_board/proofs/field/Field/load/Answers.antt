use Rattle.std.proofs.Common.{◌≡◌, ◌++◌, ℕ, List, length, take, drop, arith, rules, ap, refl, sym, ◌∙◌}
use Rattle.orca_base.specs.Grids.{Sheet, IsSheet, sheet_by}
use Rattle.orca_base.proofs.ListFacts.{put_over}
use Rattle.orca_board.specs.Listing.{Listed, places_of}
use Rattle.orca_board.specs.Board.{cell_in}
use Rattle.orca_board.proofs.BoardLemmas.{keeps-of_sheet}
use Rattle.orca_board.proofs.LargestLemmas.{cleared-by_place}
use Rattle.orca_board.proofs.SlateLemmas.{started}
use Rattle.orca_board.proofs.field.Field.load.Given.{Over}
use Rattle.orca_board.proofs.field.Field.load.Goals as goal

-- the cells are those that `lay` leaves
laid : (over : Over) (c : goal.After-begin over)
    → take c.self.inside.cells.len
    (c.lay.new.cells ++ drop (length c.lay.new.cells)
    (take c.self.inside.cells.len
    (c.wipe.new.cells ++ drop (length c.wipe.new.cells)
    c.self.inside.cells.items))) ≡ c.lay.new.cells
laid over c =
    let emptied =
    put_over c.wipe.new.cells c.self.inside.cells.items c.self.inside.cells.len
    (c.wipe.ensures.whole ∙ sym c.self.invariant.whole)
    (omega (arith, c.self.inside.cells.ok.0)) in
    rw emptied (put_over c.lay.new.cells c.wipe.new.cells c.self.inside.cells.len
    (c.lay.ensures.whole ∙ sym c.wipe.ensures.whole)
    (omega (arith, c.wipe.ensures.whole, c.self.invariant.whole, c.self.inside.cells.ok.0)))

pub returns-clause-slate : goal.returns-clause-slate
returns-clause-slate over c =
    let g : Sheet = record { dims = c.args.dims; cells = c.args.cells.now } in
    let filled : ◌≡◌ {A = Sheet} (sheet_by c.args.dims (cell_in c.lay.new.cells)) g =
    ap (λ (cells : List ℕ). record { dims = c.args.dims; cells = cells }) c.lay.ensures.inside
    in
    rw (laid over c) (started _ g refl c.lay.ensures.inside
    (cleared-by_place c.args.dims _ c.self.inside.marks c.cells-2.ensures.size
    c.clear.ensures.marks) (search rules)
    c.clear-2.ensures.items
    (rw (c.begin.ensures, c.of.ensures, laid over c) filled)
    (ap (λ (l : Listed). places_of l.changes) c.begin.ensures))

pub invariant_of-self : goal.invariant_of-self
invariant_of-self over c =
    let g : Sheet = record { dims = c.args.dims; cells = c.args.cells.now } in
    let sheet : IsSheet g =
    record { size = c.cells-2.ensures.size; whole = c.requires; glyphs = c.lay.ensures.glyphs }
    in
    rw (laid over c) (keeps-of_sheet _ g _ _ _ _ _ sheet
    (rw (laid over c) at (returns-clause-slate over c))
    (ap (λ (l : Listed). l.changes) c.begin.ensures) c.lay.ensures.whole
    c.clear.ensures.size c.lay.ensures.outside c.lay.ensures.live
    (omega (arith, c.clear-2.ensures.capacity, c.self.invariant.events_roomy)))
