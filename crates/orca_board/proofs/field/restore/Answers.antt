use Rattle.std.proofs.Common.{◌≡◌, ℕ, ◌+◌, ◌++◌, [], ◌∷◌, List, arith, ap, sym, ◌∙◌, take, subst, refl}
use Rattle.std.proofs.lemmas.List.{length-set, map_more}
use Rattle.std.proofs.lemmas.Bool.{both_ways}
use Rattle.orca_base.specs.declared.change.Change.{Change}
use Rattle.orca_base.specs.declared.place.Place.{Place}
use Rattle.orca_base.specs.Grids.{Size, IsInside, index_of, largest}
use Rattle.orca_board.specs.Listing.{places_of}
use Rattle.orca_board.proofs.BoardLemmas.{live-set}
use Rattle.orca_board.proofs.ListingLemmas.{inside_there}
use Rattle.orca_board.proofs.SizeLemmas.{restored-old, restored-other}
use Rattle.orca_board.proofs.field.restore.Goals as goal

pub index-i-requires : goal.index-i-requires
index-i-requires g c =
    rw (c.largest.ensures, c.change-item.is)
    (inside_there largest c.args.changes.now c.loop-change.change-index c.change-item.result
    c.requires.inside c.loop-change-test.true)

pub loop-change-init : goal.loop-change-init
loop-change-init g c = record {
  whole = c.requires.whole;
  olds = λ old all at inside listed. absurd (both_ways _ refl listed);
  others = λ at inside listed. refl;
  live = c.requires.live;
  steps = omega arith;
}

pub loop-change-preserved : goal.loop-change-preserved
loop-change-preserved g c =
    let changes : List Change = c.args.changes.now in
    let n : ℕ = c.loop-change.change-index in
    let item : Change = c.change-item.result in
    let before : List Place = places_of (take n changes) in
    let number : c.index-i.result ≡ index_of largest item.at =
    c.index-i.ensures.index ∙ ap (λ (d : Size). index_of d item.at) c.largest.ensures in
    let here : IsInside largest item.at =
    subst (IsInside largest) (ap (λ (q : Change). q.at) (sym c.change-item.is))
    (inside_there largest changes n item c.requires.inside c.loop-change-test.true) in
    let more : places_of (take (n + 1) changes) ≡ before ++ item.at ∷ [] =
    map_more (λ (q : Change). q.at) changes n item c.loop-change-test.true
    ∙ ap (λ (q : Change). before ++ q.at ∷ []) (sym c.change-item.is) in
    rw (c.put.ensures.put, number, more) (record {
      whole = length-set c.loop-change.cells _ _ ∙ c.loop-change.invariant.whole;
      olds = λ old all at inside listed.
          restored-old c.loop-change.cells before item.at at item.old old
          c.loop-change.invariant.whole here inside
          (subst (λ (q : Change). q.old ≡ old q.at) (sym c.change-item.is)
          (all n item c.loop-change-test.true))
          (c.loop-change.invariant.olds old all at inside) listed;
      others = λ at inside absent.
          let other = restored-other c.loop-change.cells before item.at at item.old here inside
          absent in
          other.1 ∙ c.loop-change.invariant.others at inside other.0;
      live = live-set c.loop-change.live c.set.new.self c.loop-change.cells
          (index_of largest item.at) item.old
          (omega (arith, c.loop-change.invariant.whole, number, c.index-i.ensures.most))
          c.loop-change.invariant.whole
          c.loop-change.invariant.live
          (λ k. rw (number, c.is_operator.ensures) at (c.set.ensures k));
      steps = omega (arith, c.loop-change.invariant.steps, c.count_one.ensures);
    })
