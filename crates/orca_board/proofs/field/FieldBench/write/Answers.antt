use Rattle.std.proofs.Common.{◌≡◌, ◌++◌, ℕ, List, length, take, drop, arith, ap, refl, sym, ◌∙◌}
use Rattle.std.proofs.Math.ListN.{set}
use Rattle.std.proofs.lemmas.List.{length-set}
use Rattle.orca_base.specs.Grids.{Size, index_of, largest}
use Rattle.orca_base.proofs.ListFacts.{put_over}
use Rattle.orca_op.specs.State.{state_glyph}
use Rattle.orca_board.specs.Listing.{changes_with}
use Rattle.orca_board.specs.Board.{slate_of}
use Rattle.orca_board.proofs.BoardLemmas.{read-cell, set-outside, set-plane}
use Rattle.orca_board.proofs.SlateLemmas.{lists-write, written}
use Rattle.orca_board.proofs.ListingLemmas.{places-changes_with}
use Rattle.orca_board.proofs.field.FieldBench.write.Goals as goal

pub invariant_of-self : goal.invariant_of-self
invariant_of-self g c =
    let number : c.index-i.result ≡ index_of largest c.in-Some.place =
    c.index-i.ensures.index ∙ ap (λ (d : Size). index_of d c.in-Some.place) c.largest.ensures in
    let cells : take c.self.inside.cells.len
    (c.renew.new.cells ++ drop (length c.renew.new.cells) c.self.inside.cells.items)
    ≡ set c.self.inside.cells.items (index_of largest c.in-Some.place) c.args.glyph =
    rw (c.renew.ensures.cells, c.deref_mut.ensures.value, number)
    (put_over (set c.self.inside.cells.items (index_of largest c.in-Some.place) c.args.glyph)
    c.self.inside.cells.items c.self.inside.cells.len (length-set c.self.inside.cells.items _ _)
    (omega (arith, c.self.inside.cells.ok.0))) in
    let there : c.index-old.result.now ≡ state_glyph (slate_of c.self.inside).scan c.in-Some.place =
    read-cell c.self.inside.dims c.largest.result c.self.inside.cells.items c.in-Some.place
    c.index-i.result c.index-old.result.now c.in-Some.ensures.inside
    c.largest.ensures c.index-i.ensures.index c.index-i.ensures.most c.self.invariant.whole
    c.index-old.ensures in
    let planes =
    set-plane c.self.inside.dims c.self.inside.cells.items c.in-Some.place c.args.glyph 0
    c.self.invariant.lists.slate.state.sheet.size c.in-Some.ensures.inside c.self.invariant.whole
    in
    rw cells (record {
      lists = lists-write (slate_of c.self.inside) _ c.args.at c.in-Some.place c.args.glyph
          c.self.inside.listing.changes _ c.self.invariant.lists
          c.in-Some.ensures.inside (sym c.in-Some.ensures.place) c.renew.ensures.glyph
          (written (slate_of c.self.inside) _ c.args.at c.in-Some.place c.args.glyph
          (sym c.in-Some.ensures.place)
          (ap (λ (cells : List ℕ). record (slate_of c.self.inside).scan { cells = cells }) planes)
          (rw c.add.ensures refl)
          (rw c.add.ensures (places-changes_with _ _ c.in-Some.place _)))
          refl (rw c.add.ensures (ap (changes_with _ _ c.in-Some.place) there));
      whole = length-set c.self.inside.cells.items _ _ ∙ c.self.invariant.whole;
      marks_whole = c.self.invariant.marks_whole;
      outside = λ q inside_q out.
          set-outside c.self.inside.dims c.self.inside.cells.items c.in-Some.place q c.args.glyph 0
          c.self.invariant.lists.slate.state.sheet.size c.in-Some.ensures.inside inside_q out
          ∙ c.self.invariant.outside q inside_q out;
      live = rw (c.renew.ensures.cells, c.deref_mut.ensures.value, number) at c.renew.ensures.live;
      events_roomy = c.self.invariant.events_roomy;
    })

pub returns-in-Some-clause-deed : goal.returns-in-Some-clause-deed
returns-in-Some-clause-deed g c =
    let number : c.index-i.result ≡ index_of largest c.in-Some.place =
    c.index-i.ensures.index ∙ ap (λ (d : Size). index_of d c.in-Some.place) c.largest.ensures in
    let cells : take c.self.inside.cells.len
    (c.renew.new.cells ++ drop (length c.renew.new.cells) c.self.inside.cells.items)
    ≡ set c.self.inside.cells.items (index_of largest c.in-Some.place) c.args.glyph =
    rw (c.renew.ensures.cells, c.deref_mut.ensures.value, number)
    (put_over (set c.self.inside.cells.items (index_of largest c.in-Some.place) c.args.glyph)
    c.self.inside.cells.items c.self.inside.cells.len (length-set c.self.inside.cells.items _ _)
    (omega (arith, c.self.inside.cells.ok.0))) in
    let planes =
    set-plane c.self.inside.dims c.self.inside.cells.items c.in-Some.place c.args.glyph 0
    c.self.invariant.lists.slate.state.sheet.size c.in-Some.ensures.inside c.self.invariant.whole
    in
    rw (← c.self.view_is, cells)
    (written (slate_of c.self.inside) _ c.args.at c.in-Some.place c.args.glyph
    (sym c.in-Some.ensures.place)
    (ap (λ (cells : List ℕ). record (slate_of c.self.inside).scan { cells = cells }) planes)
    (rw c.add.ensures refl) (rw c.add.ensures (places-changes_with _ _ c.in-Some.place _)))
