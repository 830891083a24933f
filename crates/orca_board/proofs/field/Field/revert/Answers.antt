use Rattle.std.proofs.Common.{[], ◌≡◌, ◌++◌, ℕ, List, length, take, drop, arith, rules, ap, refl, sym, ◌∙◌}
use Rattle.std.proofs.Math.ListN.{length-map}
use Rattle.orca_base.specs.declared.change.Change.{Change}
use Rattle.orca_base.specs.declared.place.Place.{Place}
use Rattle.orca_base.specs.Edits.{sheet_after_resize}
use Rattle.orca_base.specs.Grids.{Size, Sheet, by_place, sheet_by}
use Rattle.orca_op.specs.State.{State}
use Rattle.orca_board.specs.Blocks.{places_in}
use Rattle.orca_board.specs.Sizes.{whole, with_sheet}
use Rattle.orca_base.proofs.ListFacts.{put_over}
use Rattle.orca_op.specs.Slate.{Slate}
use Rattle.orca_board.specs.Board.{slate_of, cell_in}
use Rattle.orca_board.proofs.CutLemmas.{cut-off, cut-unlisted, cut_slate, left_glyph}
use Rattle.orca_board.proofs.RevertLemmas.{Restores, back, dims-with_sheet, keeps-revert, sheet-back, sheeted}
use Rattle.orca_board.proofs.field.Field.revert.Given.{Over}
use Rattle.orca_board.proofs.field.Field.revert.Goals as goal

pub take_dims-requires : goal.take_dims-requires
take_dims-requires g c =
    let cut = cut-off _ _ _ _ c.self.invariant.lists.slate c.self.view_is c.cut.ensures.slate in
    record { size = search rules; empty = cut.emptied; listed = cut.listed }

-- the grid, and the slate, once the size of the last `begin` is taken
abbrev taken_sheet : Slate → Size → Sheet
taken_sheet d b = sheet_after_resize (sheet_by d.scan.dims (left_glyph d b)) b

abbrev taken_slate : Slate → Size → Slate
taken_slate d b = record (cut_slate d b) { scan = with_sheet d.scan (taken_sheet d b) }

taken : (g : Over) (c : goal.After-begin g)
    → slate_of c.self-2.inside ≡ taken_slate (slate_of c.self.inside) c.dims-began.result
taken g c =
    let cut = cut-off _ _ _ _ c.self.invariant.lists.slate c.self.view_is c.cut.ensures.slate in
    c.self-2.view_is ∙ rw (c.take_dims.ensures, cut.is) refl

began : (g : Over) (c : goal.After-begin g)
    → c.self-2.inside.listing.began ≡ c.dims-began.result
began g c = ap (λ (x : Slate). x.began.dims) (taken g c) ∙ sym c.dims-began.ensures

same : (g : Over) (c : goal.After-begin g)
    → c.self-2.inside.dims ≡ c.self-2.inside.listing.began
same g c =
    let d : Slate = slate_of c.self.inside in
    ap (λ (x : Slate). x.scan.dims) (taken g c)
    ∙ (dims-with_sheet d.scan (taken_sheet d c.dims-began.result) ∙ sym (began g c))

-- the cells that `restore` leaves
restored : (g : Over) (c : goal.After-begin g)
    → Restores c.self-2.inside.listing.changes c.self-2.inside.cells.items c.restore.new.cells
restored g c = record {
  whole = c.restore.ensures.whole;
  olds = rw (c.changes.ensures) at c.restore.ensures.olds;
  others = rw (c.changes.ensures, c.deref_mut.ensures.value) at c.restore.ensures.others;
}

laid : (g : Over) (c : goal.After-begin g)
    → take c.self-2.inside.cells.len
    (c.restore.new.cells ++ drop (length c.restore.new.cells) c.self-2.inside.cells.items)
    ≡ c.restore.new.cells
laid g c =
    put_over c.restore.new.cells c.self-2.inside.cells.items c.self-2.inside.cells.len
    (c.restore.ensures.whole ∙ sym c.self-2.invariant.whole)
    (omega (arith, c.self-2.inside.cells.ok.0))

pub invariant_of-self : goal.invariant_of-self
invariant_of-self g c =
    rw (laid g c, c.begin.ensures, ← began g c)
    (keeps-revert _ _ _ _ _ _ _ _ c.self-2.invariant (restored g c) c.restore.ensures.live
    (same g c) refl refl)

pub returns-clause-slate : goal.returns-clause-slate
returns-clause-slate g c =
    let d : Slate = slate_of c.self.inside in
    let e : Slate = slate_of c.self-2.inside in
    let b : Size = c.dims-began.result in
    let cells : by_place e.scan.dims (cell_in c.restore.new.cells) ≡ d.began.cells =
    ap (λ (sheet : Sheet). sheet.cells)
    (sheet-back e _ (same g c)
    (back e _ _ _ _ _ _ c.self-2.invariant (restored g c) refl refl))
    ∙ ap (λ (x : Slate). x.began.cells) (taken g c) in
    rw (← c.self.view_is, laid g c, c.begin.ensures, ← began g c)
    (ap (λ (xs : List ℕ). record {
      scan = record e.scan { cells = xs };
      began = e.began;
      listed = [];
    }) cells
    ∙ (ap (λ (x : Slate). record {
      scan = record x.scan { cells = d.began.cells };
      began = x.began;
      listed = [];
    }) (taken g c)
    ∙ ap (λ (s : State). record { scan = s; began = d.began; listed = [] })
    (sheeted d.scan b (taken_sheet d b).cells d.began c.dims-began.ensures)))

pub returns-clause-steps : goal.returns-clause-steps
returns-clause-steps g c =
    let d : Slate = slate_of c.self.inside in
    let many : length c.changes.result.now ≡ length d.listed =
    ap (λ (changes : List Change). length changes) c.changes.ensures
    ∙ (sym (length-map c.self-2.inside.listing.changes (λ (change : Change). change.at))
    ∙ (ap (λ (x : Slate). length x.listed) (taken g c)
    ∙ ap (λ (listed : List Place). length listed)
    (rw c.dims-began.ensures (cut-unlisted d.began.dims d.listed
    (places_in (whole d.scan.dims)))))) in
    rw (← c.self.view_is) (omega (
      arith,
      c.restore.ensures.steps,
      many,
      rw
          c.dims-began.ensures at
          c.cut.ensures.steps,
    ))
