-- The rules of the operators that read and write across the grid, and of the variables, are lawful.
-- Lemmas with their proofs, which an `impl` cites: no meaning rests on this file.
use Rattle.std.specs.Prelude.{ℕ, ◌+◌, ◌%◌, ◌<◌, ◌≤◌, ◌≡◌, ◌==◌, Bool, true, false, if◌then◌else◌, List, [], ◌∷◌, length, count_by, pos, refl}
use Rattle.std.proofs.Common.{inl, inr, arith}
use Rattle.orca_base.specs.declared.limits.TheConstants.{BASE, MAX_DEEDS}
use Rattle.orca_base.specs.declared.marks.Mark.TheVariants.{Lock, Output, Sleep}
use Rattle.orca_base.specs.declared.now.Now.{Now}
use Rattle.orca_base.specs.declared.place.Place.{Place}
use Rattle.orca_base.specs.declared.place.Spot.{Spot}
use Rattle.orca_base.specs.Glyphs.{value, empty}
use Rattle.orca_base.proofs.GlyphFacts.{value-below}
use Rattle.orca_base.specs.Grids.{off}
use Rattle.orca_base.specs.MarkSet.{no_marks, with_mark}
use Rattle.orca_op.specs.State.{State, peek, var_at}
use Rattle.orca_base.specs.Grids.{below, left, right}
use Rattle.orca_op.specs.Deeds.{Deed, Set, Write, input_at, param_at, output_at}
use Rattle.orca_op.specs.Laws.{EmitsInRange, IsLawful, Every, AnyDeed, WritesGlyph, IsCovered, Covers, is_emit}
use Rattle.orca_op.proofs.LawFacts.{IsGlyph-peek, IsGlyph-var_at, length-each, no_event-each, value_or-range, Every-each, AnyDeed-each}
use Rattle.orca_op.specs.ValueRules.{value_or}
use Rattle.orca_op.specs.GridRules.{write_at, read_at, variable, track, push, generator, query, konkat, store_deeds, target, source, below_by}
use Rattle.ops_grid.specs.RunLaws.{lawful-copies, lawful-locks}

pub lawful-write_at : IsLawful write_at
lawful-write_at = record {
  few_deeds = λ g s at now. omega arith;
  one_event = λ g s at now. omega arith;
  glyphs = λ g s at now whole is_glyph. (tt, (tt, (tt, (tt, (IsGlyph-peek s _ whole, tt)))));
  covered = λ g s at now. (tt, (tt, (tt, (tt, (inr (inr (inr (inr (inl (refl, refl))))), tt)))));
  events = λ g s at now whole. (tt, (tt, (tt, (tt, (tt, tt)))));
}

pub lawful-read_at : IsLawful read_at
lawful-read_at = record {
  few_deeds = λ g s at now. omega arith;
  one_event = λ g s at now. omega arith;
  glyphs = λ g s at now whole is_glyph. (tt, (tt, (tt, (tt, (IsGlyph-peek s _ whole, tt)))));
  covered = λ g s at now. (tt, (tt, (tt, (tt, (inr (inr (inr (inr (inl (refl, refl))))), tt)))));
  events = λ g s at now whole. (tt, (tt, (tt, (tt, (tt, tt)))));
}

-- what holds in either case holds by cases
in_either : (P : List Deed → Type 0) (test : Bool) (xs ys : List Deed) → P xs → P ys
    → P (if test then xs else ys)
in_either P true xs ys first second = first
in_either P false xs ys first second = second

variable_by : (s : State) (at : Place) (P : List Deed → Type 0)
    → P (param_at (left at 1) ∷ input_at (right at 1) ∷ [])
    → P (param_at (left at 1) ∷ input_at (right at 1) ∷ output_at (below at) ∷ Write (below at)
    (var_at s (value (peek s (right at 1)))) ∷ [])
    → P (param_at (left at 1) ∷ input_at (right at 1) ∷ Set (value (peek s (left at 1)))
    (peek s (right at 1)) ∷ [])
    → (g : ℕ) (now : Now) → P (variable g s at now)
variable_by s at P neither reads sets g now =
    let ports : List Deed → List Deed = λ (deeds : List Deed). param_at (left at 1)
    ∷ input_at (right at 1) ∷ deeds in
    in_either (λ deeds. P (ports deeds)) (peek s (left at 1) == empty) _ _
    (in_either (λ deeds. P (ports deeds)) (peek s (right at 1) == empty) _ _ neither reads) sets

pub lawful-variable : IsLawful variable
lawful-variable = record {
  few_deeds = λ g s at now. variable_by s at (λ deeds. length deeds ≤ MAX_DEEDS) (omega arith)
      (omega arith) (omega arith) g now;
  one_event = λ g s at now. variable_by s at (λ deeds. count_by is_emit deeds ≤ 1) (omega arith)
      (omega arith) (omega arith) g now;
  glyphs = λ g s at now whole is_glyph.
      variable_by s at (Every WritesGlyph) (tt, (tt, tt))
      (tt, (tt, (tt, (IsGlyph-var_at s _ whole (value-below _), tt))))
      (tt, (tt, (IsGlyph-peek s _ whole, tt))) g now;
  covered = λ g s at now.
      variable_by s at (λ deeds. Every (IsCovered at deeds) deeds) (tt, (tt, tt))
      (tt, (tt, (tt, (inr (inr (inr (inl (refl, refl)))), tt)))) (tt, (tt, (tt, tt))) g now;
  events = λ g s at now whole.
      variable_by s at (Every EmitsInRange) (tt, (tt, tt)) (tt, (tt, (tt, (tt, tt))))
      (tt, (tt, (tt, tt))) g now;
}

pub lawful-track : IsLawful track
lawful-track = lawful-locks
    (λ s at. value_or (peek s (left at 1)) 1)
    (λ s at i. right at (i + 1))
    (λ s at. right at (value (peek s (left at 2)) % value_or (peek s (left at 1)) 1 + 1))
    (λ s at. below at)
    (λ s at. omega (arith, (value_or-range (peek s (left at 1)) 1).0))

pub lawful-push : IsLawful push
lawful-push = lawful-locks
    (λ s at. value_or (peek s (left at 1)) 1)
    (λ s at i. off at (pos 1) (pos i))
    (λ s at. right at 1)
    (λ s at. off at (pos 1) (pos (value (peek s (left at 2)) % value_or (peek s (left at 1)) 1)))
    (λ s at. omega (arith, (value_or-range (peek s (left at 1)) 1).0))

pub lawful-generator : IsLawful generator
lawful-generator = lawful-copies
    (λ s at. value (peek s (left at 1)))
    (λ s at i. right at (i + 1))
    (λ s at i. target at (value (peek s (left at 2))) (value (peek s (left at 3)) + i))
    (with_mark (with_mark no_marks Output) Sleep) refl
    (λ s at. value-below (peek s (left at 1)))

pub lawful-query : IsLawful query
lawful-query = lawful-copies
    (λ s at. value (peek s (left at 1)))
    (λ s at i. source at (value (peek s (left at 2))) (value (peek s (left at 3)) + i))
    (λ s at i. below_by at (value (peek s (left at 1))) i)
    (with_mark (with_mark no_marks Output) Lock) refl
    (λ s at. value-below (peek s (left at 1)))

-- what holds of no deeds and of a variable written below holds of a name
named : (P : List Deed → Type 0) (s : State) (at : Place) (i : ℕ) → P []
    → P (output_at (off at (pos 1) (pos i)) ∷ Write (off at (pos 1) (pos i))
    (var_at s (value (peek s (right at i)))) ∷ [])
    → P (store_deeds at i (peek s (right at i)) (var_at s (value (peek s (right at i)))))
unfolding store_deeds
named P s at i none some = in_either P (peek s (right at i) == empty) _ _ none some

name_deeds : State → Place → ℕ → List Deed
name_deeds s at i =
    input_at (right at (i + 1)) ∷ store_deeds at (i + 1) (peek s (right at (i + 1)))
    (var_at s (value (peek s (right at (i + 1)))))

pub lawful-konkat : IsLawful konkat
unfolding name_deeds
lawful-konkat =
    let many : State → Place → ℕ = λ s at. value_or (peek s (left at 1)) 1 in
    let few : (s : State) (at : Place)
    → many s at < BASE = λ s at. omega (arith, (value_or-range (peek s (left at 1)) 1).0) in
    record {
      few_deeds = λ g s at now.
          let run = length-each (many s at) 3 (name_deeds s at)
          (λ i. named (λ deeds. length (input_at (right at (i + 1)) ∷ deeds) ≤ 3) s at (i + 1)
          (omega arith) (omega arith)) in
          omega (arith, run, few s at);
      one_event = λ g s at now.
          let run = no_event-each (many s at) (name_deeds s at)
          (λ i. named (λ deeds. count_by is_emit (input_at (right at (i + 1)) ∷ deeds) ≡ 0)
          s at (i + 1) refl refl) in
          omega (arith, run);
      glyphs = λ g s at now whole is_glyph. (
        tt,
        Every-each WritesGlyph (many s at) (name_deeds s at)
            (λ i below. (
              tt,
              named (Every WritesGlyph) s at (i + 1) tt
                  (tt, (IsGlyph-var_at s _ whole (value-below _), tt)),
            )),
      );
      events = λ g s at now whole. (
        tt,
        Every-each EmitsInRange (many s at) (name_deeds s at)
            (λ i below. (tt, named (Every EmitsInRange) s at (i + 1) tt (tt, (tt, tt)))),
      );
      covered = λ g s at now.
          let all : List Deed = konkat g s at now in (
            tt,
            Every-each (IsCovered at all) (many s at) (name_deeds s at)
                (λ i below. (
                  tt,
                  named (λ deeds. ((spot : Spot) → AnyDeed (Covers spot) deeds
                      → AnyDeed (Covers spot) all) → Every (IsCovered at all) deeds) s at (i + 1)
                      (λ within. tt)
                      (λ within. (tt, (inr (within _ (inl (refl, refl))), tt)))
                      (λ spot some. inr
                      (AnyDeed-each (Covers spot) (many s at) i (name_deeds s at) below
                      (inr some))),
                )),
          );
    }
