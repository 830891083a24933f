use Rattle.std.proofs.Common.{◌==◌, ℕ, arith, ap, sym, ◌∙◌, List}
use Rattle.std.proofs.Math.ListN.{get_or-map}
use Rattle.std.specs.Vec.{vec_capacity}
use Rattle.orca_base.specs.declared.change.Change.{Change}
use Rattle.orca_base.specs.Grids.{Size, IsInside}
use Rattle.orca_board.specs.Listing.{flags_of}
use Rattle.orca_board.proofs.ListingLemmas.{Adds, adds, is_roomy, rounded_more, with_new, with_listed}
use Rattle.orca_board.proofs.SpanLemmas.{holds_it, holds_other}
use Rattle.orca_board.proofs.listing.Listing.add.Goals as goal
use Rattle.orca_board.proofs.listing.Listing.add.Goals.{After-index}

-- the place lay in the grid at the last `begin`, and its round was read
read : (c : After-index)
    → Adds c.self.inside.changes.items (flags_of c.self.inside.round c.self.inside.rounds.items)
    (vec_capacity c.self.inside.changes) c.args.at c.index-i.result
    (c.index.result.now == c.self.inside.round)
read c =
    adds _ _ _ _ _ _ _ c.self.invariant.flagged (record {
      row = omega (arith, c.if-at-began.false, c.began.invariant.few_rows);
      column = omega (arith, c.if-at-began-2.false, c.began.invariant.few_columns);
    }) c.largest.ensures c.index-i.ensures.index c.index-i.ensures.most
    (ap (λ (r : ℕ). r == c.self.inside.round) c.index.ensures
    ∙ sym (get_or-map (λ (r : ℕ). r == c.self.inside.round) c.self.inside.rounds.items
    c.index-i.result c.index.result.now))

pub push_reserved-requires : goal.push_reserved-requires
push_reserved-requires c =
    let add = read (goal.at.push_reserved-requires c).After-index in
    omega (
      arith,
      is_roomy _ _ _ _ add.kept add.below (add.flag ∙ holds_other _ _ c.if-index-self.true),
      c.self.inside.changes.ok.0,
    )

-- the round that is kept is that of the place that is added
pub invariant_of-self : goal.invariant_of-self
invariant_of-self c =
    let add = read (goal.at.invariant_of-self c).After-index in
    rounded_more _ _ _ _ _ _ _ _ add.inside c.self.invariant add.number
    (add.flag ∙ holds_other _ _ c.if-index-self.true)
    (omega (arith, c.index-i.ensures.most, c.self.invariant.size)) c.push_reserved.ensures.items
    (omega (arith, c.push_reserved.ensures.capacity))

pub returns-then-index-self : goal.returns-then-index-self
returns-then-index-self c =
    let add = read (goal.at.returns-then-index-self c).After-index in
    let inside : IsInside c.self.inside.began c.args.at = record {
      row = omega (arith, c.if-at-began.false, ap (λ (d : Size). d.h) c.began.view_is);
      column = omega (arith, c.if-at-began-2.false, ap (λ (d : Size). d.w) c.began.view_is);
    } in
    rw (← c.self.view_is)
    (ap (λ (changes : List Change). record { began = c.self.inside.began; changes = changes })
    (c.push_reserved.ensures.items ∙ sym
    (with_new _ _ _ c.args.old inside (add.listed ∙ holds_other _ _ c.if-index-self.true))))

pub returns-else-index-self : goal.returns-else-index-self
returns-else-index-self c =
    let add = read (goal.at.returns-else-index-self c).After-index in
    rw (← c.self.view_is)
    (ap (λ (changes : List Change). record { began = c.self.inside.began; changes = changes })
    (sym (with_listed _ _ _ c.args.old (add.listed ∙ holds_it _ _ c.if-index-self.false))))
