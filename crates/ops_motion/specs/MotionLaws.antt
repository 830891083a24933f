-- The rules of the movers, the jumpers, the halt, the bang and the comment are lawful.
-- Lemmas with their proofs, which an `impl` cites: no meaning rests on this file.
use Rattle.std.specs.Prelude.{ℕ, ◌+◌, ◌-◌, ◌*◌, ◌≡◌, ◌<◌, ◌≤◌, Bool, true, false, ◌==◌, if◌then◌else◌, List, [], ◌∷◌, length, count_by, Option, Some, None, IfSome, unwrap_or, refl}
use Rattle.std.proofs.Common.{inl, inr, arith, rules, lit≤, length-append}
use Rattle.orca_base.specs.declared.limits.TheConstants.{MAX_DEEDS, COMMENT_REACH, JUMP_REACH}
use Rattle.orca_base.specs.declared.place.Place.{Place}
use Rattle.orca_base.specs.declared.place.Spot.{Spot}
use Rattle.orca_base.specs.Glyphs.{IsGlyph}
use Rattle.orca_op.specs.State.{State, peek}
use Rattle.orca_base.specs.Grids.{above, below, down, left, right}
use Rattle.orca_op.specs.Deeds.{Deed, Write, output_at, lock_at, sleep_at}
use Rattle.orca_op.specs.Laws.{EmitsInRange, IsLawful, is_emit, Every, WritesGlyph, IsCovered}
use Rattle.orca_op.proofs.LawFacts.{IsGlyph-peek, length-each, no_event-each, Every-each, Every-append, AnyDeed-right, count_by-append}
use Rattle.orca_op.proofs.FirstFacts.{first_where-range}
use Rattle.orca_op.specs.MotionRules.{move_to, east, north, south, west, bang_rule, halt, comment_length, lock_deeds, comment, chain_end, sleep_deeds, jump_by, jump, jumper, jymper}

pub lawful-bang : IsLawful bang_rule
lawful-bang = record {
  few_deeds = λ g s at now. omega arith;
  one_event = λ g s at now. omega arith;
  glyphs = λ g s at now whole is_glyph. ((lit≤ tt, lit≤ tt), tt);
  covered = λ g s at now. (inl refl, tt);
  events = λ g s at now whole. (tt, tt);
}

pub lawful-halt : IsLawful halt
lawful-halt = record {
  few_deeds = λ g s at now. omega arith;
  one_event = λ g s at now. omega arith;
  glyphs = λ g s at now whole is_glyph. (tt, tt);
  covered = λ g s at now. (tt, tt);
  events = λ g s at now whole. (tt, tt);
}

-- a mover's rule is lawful, wherever its target lies
lawful-move : (target : Place → Spot) → IsLawful (λ g s at now. move_to g s at (target at))
unfolding move_to
lawful-move target = record {
  few_deeds = λ g s at now. search rules;
  one_event = λ g s at now. search rules;
  glyphs = λ g s at now whole is_glyph. search rules;
  covered = λ g s at now. search rules;
  events = λ g s at now whole. search rules;
}

pub lawful-east : IsLawful east
lawful-east = lawful-move (λ at. right at 1)

pub lawful-north : IsLawful north
lawful-north = lawful-move above

pub lawful-south : IsLawful south
lawful-south = lawful-move below

pub lawful-west : IsLawful west
lawful-west = lawful-move (λ at. left at 1)

-- the deed of one place
abbrev lock_one : Place → ℕ → List Deed
lock_one at i = lock_at (right at (i + 1)) ∷ []

abbrev sleep_one : (ℕ → Spot) → ℕ → List Deed
sleep_one beyond k = sleep_at (beyond (k + 1)) ∷ []

-- a comment locks no more places than it reaches
comment_few : (first : Option ℕ) → IfSome first (λ i. (1 ≤ i) × (i < 1 + COMMENT_REACH))
    → unwrap_or first COMMENT_REACH ≤ COMMENT_REACH
comment_few None within = lit≤ tt
comment_few (Some i) within = omega arith

pub comment_length-few : (s : State) (at : Place) → comment_length s at ≤ COMMENT_REACH
unfolding comment_length
comment_length-few s at = comment_few _ (first_where-range _ 1 COMMENT_REACH)

pub lawful-comment : IsLawful comment
lawful-comment = record {
  few_deeds = λ g s at now.
      let few = comment_length-few s at in
      let counted : length (lock_deeds at (comment_length s at)) ≤ comment_length s at * 1 =
      length-each (comment_length s at) 1 (lock_one at) (λ i. lit≤ tt) in
      omega arith;
  one_event = λ g s at now.
      let none : count_by is_emit (lock_deeds at (comment_length s at)) ≡ 0 =
      no_event-each (comment_length s at) (lock_one at) (λ i. refl) in
      omega arith;
  glyphs = λ g s at now whole is_glyph. Every-each WritesGlyph (comment_length s at) (lock_one at)
      (λ i below. (tt, tt));
  covered = λ g s at now. Every-each (IsCovered at (comment g s at now)) (comment_length s at)
      (lock_one at) (λ i below. (tt, tt));
  events = λ g s at now whole. Every-each EmitsInRange (comment_length s at) (lock_one at)
      (λ i below. (tt, tt));
}

-- a chain's end lies no farther than a jumper looks
chain_end-range : (g : ℕ) (s : State) (beyond : ℕ → Spot)
    → IfSome (chain_end g s beyond) (λ i. (1 ≤ i) × (i < 1 + JUMP_REACH))
unfolding chain_end
chain_end-range g s beyond = first_where-range _ 1 JUMP_REACH

-- the laws of a jumper that acts, by where its chain ends
jump_by-few : (g : ℕ) (s : State) (source : Spot) (beyond : ℕ → Spot) (end : Option ℕ)
    → IfSome end (λ i. (1 ≤ i) × (i < 1 + JUMP_REACH))
    → length (jump_by g s source beyond end) ≤ MAX_DEEDS
jump_by-few g s source beyond None within = lit≤ tt
jump_by-few g s source beyond (Some i) within =
    let slept : length (sleep_deeds beyond (i - 1)) ≤ (i - 1) * 1 =
    length-each (i - 1) 1 (sleep_one beyond) (λ k. lit≤ tt) in
    omega (
      arith,
      length-append (sleep_deeds beyond (i - 1))
          (output_at (beyond i) ∷ Write (beyond i) (peek s source) ∷ []),
    )

jump_by-quiet : (g : ℕ) (s : State) (source : Spot) (beyond : ℕ → Spot) (end : Option ℕ)
    → count_by is_emit (jump_by g s source beyond end) ≤ 1
jump_by-quiet g s source beyond None = lit≤ tt
jump_by-quiet g s source beyond (Some i) =
    let none : count_by is_emit (sleep_deeds beyond (i - 1)) ≡ 0 =
    no_event-each (i - 1) (sleep_one beyond) (λ k. refl) in
    omega (
      arith,
      count_by-append is_emit (sleep_deeds beyond (i - 1))
          (output_at (beyond i) ∷ Write (beyond i) (peek s source) ∷ []),
    )

jump_by-glyphs : (g : ℕ) (s : State) (source : Spot) (beyond : ℕ → Spot) (end : Option ℕ)
    → IsGlyph (peek s source) → Every WritesGlyph (jump_by g s source beyond end)
jump_by-glyphs g s source beyond None glyph = (tt, tt)
jump_by-glyphs g s source beyond (Some i) glyph = (
  tt,
  Every-append WritesGlyph (sleep_deeds beyond (i - 1)) _
      (Every-each WritesGlyph (i - 1) (sleep_one beyond) (λ k below. (tt, tt))) (tt, (glyph, tt)),
)

jump_by-events : (g : ℕ) (s : State) (source : Spot) (beyond : ℕ → Spot) (end : Option ℕ)
    → Every EmitsInRange (jump_by g s source beyond end)
jump_by-events g s source beyond None = (tt, tt)
jump_by-events g s source beyond (Some i) = (
  tt,
  Every-append EmitsInRange (sleep_deeds beyond (i - 1)) _
      (Every-each EmitsInRange (i - 1) (sleep_one beyond) (λ k below. (tt, tt))) (tt, (tt, tt)),
)

jump_by-covered : (at : Place) (g : ℕ) (s : State) (source : Spot) (beyond : ℕ → Spot)
    (end : Option ℕ) → Every (IsCovered at (jump_by g s source beyond end))
    (jump_by g s source beyond end)
jump_by-covered at g s source beyond None = (tt, tt)
jump_by-covered at g s source beyond (Some i) =
    let deeds = jump_by g s source beyond (Some i) in (
      tt,
      Every-append (IsCovered at deeds) (sleep_deeds beyond (i - 1)) _
          (Every-each (IsCovered at deeds) (i - 1) (sleep_one beyond) (λ k below. (tt, tt)))
          (tt, (inr (inr (AnyDeed-right _ (sleep_deeds beyond (i - 1)) _ (inl (refl, refl)))), tt)),
    )

-- where a jumper does nothing, nothing has to be covered
covered_unless : (at : Place) (nothing : Bool) (deeds : List Deed)
    → Every (IsCovered at deeds) deeds
    → Every (IsCovered at (if nothing then [] else deeds)) (if nothing then [] else deeds)
covered_unless at true deeds covered = tt
covered_unless at false deeds covered = covered

-- a jumper's rule is lawful, whichever way it hands on
lawful-jump : (source : Place → Spot) (beyond : Place → ℕ → Spot)
    → IsLawful (λ g s at now. jump g s (source at) (beyond at))
unfolding jump
lawful-jump source beyond = record {
  few_deeds = λ g s at now. let few =
      jump_by-few g s (source at) (beyond at) _ (chain_end-range g s (beyond at)) in search rules;
  one_event = λ g s at now. let quiet =
      jump_by-quiet g s (source at) (beyond at) (chain_end g s (beyond at)) in search rules;
  glyphs = λ g s at now whole is_glyph.
      let glyphs = jump_by-glyphs g s (source at) (beyond at) (chain_end g s (beyond at))
      (IsGlyph-peek s (source at) whole) in search rules;
  covered = λ g s at now. covered_unless at (peek s (source at) == g) _
      (jump_by-covered at g s (source at) (beyond at) (chain_end g s (beyond at)));
  events = λ g s at now whole. let events =
      jump_by-events g s (source at) (beyond at) (chain_end g s (beyond at)) in search rules;
}

pub lawful-jumper : IsLawful jumper
lawful-jumper = lawful-jump above down

pub lawful-jymper : IsLawful jymper
lawful-jymper = lawful-jump (λ at. left at 1) right
