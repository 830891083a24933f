use Rattle.std.proofs.Common.{◌≡◌, ℕ, ◌++◌, get_or, length, take, drop, arith, ap, refl, sym, List, ◌∙◌}
use Rattle.std.proofs.lemmas.List.{get_or_default, length-set}
use Rattle.std.proofs.Math.ListN.{set}
use Rattle.orca_base.specs.Grids.{index_of}
use Rattle.orca_base.proofs.ListFacts.{put_over}
use Rattle.orca_op.specs.State.{state_glyph}
use Rattle.orca_board.specs.Listing.{changes_with}
use Rattle.orca_board.specs.PlainBoard.{plain_slate_of}
use Rattle.orca_board.proofs.SlateLemmas.{lists-write, written}
use Rattle.orca_board.proofs.ListingLemmas.{places-changes_with}
use Rattle.orca_board.proofs.plain_board.PlainBoardBench.write.Goals as goal

pub invariant_of-self : goal.invariant_of-self
invariant_of-self g c =
    let there : c.index.result.now ≡ state_glyph (plain_slate_of c.self.inside).scan c.in-Some.place =
    c.index.ensures ∙ (get_or_default c.self.inside.cells.items c.index-i.result c.index.result.now
    0 (omega (arith, c.index-i.ensures.cell, c.self.invariant.lists.slate.state.sheet.whole))
    ∙ ap (λ (i : ℕ). get_or c.self.inside.cells.items i 0) c.index-i.ensures.index) in
    let cells : take c.self.inside.cells.len
    (c.put.new.into ++ drop (length c.put.new.into) c.self.inside.cells.items)
    ≡ set c.self.inside.cells.items (index_of c.self.inside.dims c.in-Some.place) c.args.glyph =
    rw (c.put.ensures.put, c.deref_mut.ensures.value, c.index-i.ensures.index)
    (put_over (set c.self.inside.cells.items (index_of c.self.inside.dims c.in-Some.place)
    c.args.glyph) c.self.inside.cells.items c.self.inside.cells.len (length-set
    c.self.inside.cells.items _ _) (omega (arith, c.self.inside.cells.ok.0))) in
    record {
      lists = lists-write (plain_slate_of c.self.inside) _ c.args.at c.in-Some.place c.args.glyph
          c.self.inside.listing.changes _ c.self.invariant.lists
          c.in-Some.ensures.inside (sym c.in-Some.ensures.place) c.put.ensures.glyph
          (written (plain_slate_of c.self.inside) _ c.args.at c.in-Some.place c.args.glyph
          (sym c.in-Some.ensures.place)
          (ap (λ (cells : List ℕ). record (plain_slate_of c.self.inside).scan { cells = cells }) cells)
          (rw c.add.ensures refl)
          (rw c.add.ensures (places-changes_with _ _ c.in-Some.place _)))
          refl (rw c.add.ensures (ap (changes_with _ _ c.in-Some.place) there));
      cells_roomy = c.self.invariant.cells_roomy;
      marks_roomy = c.self.invariant.marks_roomy;
      events_roomy = c.self.invariant.events_roomy;
    }
