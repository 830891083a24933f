-- The rules of the value operators are lawful.
-- Lemmas with their proofs, which an `impl` cites: no meaning rests on this file.
use Rattle.std.specs.Prelude.{ℕ, ◌%◌, ◌≤◌, ◌<◌, Bool, true, false, min, if◌then◌else◌, refl}
use Rattle.std.proofs.Common.{inl, inr, arith, lit≤}
use Rattle.std.proofs.lemmas.Bool.Decides.{nat_tests}
use Rattle.orca_base.specs.declared.limits.TheConstants.{BASE}
use Rattle.orca_base.specs.Glyphs.{IsGlyph, empty, bang, value, cased}
use Rattle.orca_base.proofs.GlyphFacts.{IsGlyph-cased, value-below}
use Rattle.orca_op.specs.State.{peek}
use Rattle.orca_base.specs.Grids.{left, right}
use Rattle.orca_op.specs.Laws.{IsLawful}
use Rattle.orca_op.proofs.LawFacts.{value_or-range, quiet}
use Rattle.orca_op.specs.ValueRules.{value_or, random_between, lerped, add, subtract, clock, delay, if_equal, increment, lesser, multiply, random, uclid, lerp}

-- the bang or the empty glyph
IsGlyph-banged : (b : Bool) → IsGlyph (if b then bang else empty)
IsGlyph-banged true = (lit≤ tt, lit≤ tt)
IsGlyph-banged false = (lit≤ tt, lit≤ tt)

-- a remainder by a value is below the base
mod_value-below : (n g other : ℕ) → 0 < other → other ≤ BASE → n % value_or g other < BASE
mod_value-below n g other some most =
    omega (arith, (value_or-range g other).1 some, (value_or-range g other).0)

random_between-below : (a b word : ℕ) → a < BASE → b ≤ BASE → random_between a b word < BASE
unfolding random_between
random_between-below a b word below_a below_b = grind (arith, nat_tests)

lerped-below : (from rate target : ℕ) → from < BASE → target < BASE → lerped from rate target < BASE
unfolding lerped
lerped-below from rate target below_from below_target = grind (arith, nat_tests)

pub lawful-add : IsLawful add
lawful-add = record {
  few_deeds = λ g s at now. omega arith;
  one_event = λ g s at now. omega arith;
  glyphs = λ g s at now whole is_glyph. (tt, (tt, (tt, (IsGlyph-cased _ _ (omega arith), tt))));
  covered = λ g s at now. (tt, (tt, (tt, (inr (inr (inr (inl (refl, refl)))), tt))));
  events = λ g s at now whole. quiet (add g s at now) refl;
}

pub lawful-subtract : IsLawful subtract
lawful-subtract = record {
  few_deeds = λ g s at now. omega arith;
  one_event = λ g s at now. omega arith;
  glyphs = λ g s at now whole is_glyph. (
    tt,
    (
      tt,
      (
        tt,
        (
          IsGlyph-cased _ _
              (omega (arith, value-below (peek s (left at 1)), value-below (peek s (right at 1)))),
          tt,
        ),
      ),
    ),
  );
  covered = λ g s at now. (tt, (tt, (tt, (inr (inr (inr (inl (refl, refl)))), tt))));
  events = λ g s at now whole. quiet (subtract g s at now) refl;
}

pub lawful-clock : IsLawful clock
lawful-clock = record {
  few_deeds = λ g s at now. omega arith;
  one_event = λ g s at now. omega arith;
  glyphs = λ g s at now whole is_glyph. (
    tt,
    (tt, (tt, (IsGlyph-cased _ _ (mod_value-below _ _ 8 (omega arith) (omega arith)), tt))),
  );
  covered = λ g s at now. (tt, (tt, (tt, (inr (inr (inr (inl (refl, refl)))), tt))));
  events = λ g s at now whole. quiet (clock g s at now) refl;
}

pub lawful-delay : IsLawful delay
lawful-delay = record {
  few_deeds = λ g s at now. omega arith;
  one_event = λ g s at now. omega arith;
  glyphs = λ g s at now whole is_glyph. (tt, (tt, (tt, (IsGlyph-banged _, tt))));
  covered = λ g s at now. (tt, (tt, (tt, (inr (inr (inr (inl (refl, refl)))), tt))));
  events = λ g s at now whole. quiet (delay g s at now) refl;
}

pub lawful-if_equal : IsLawful if_equal
lawful-if_equal = record {
  few_deeds = λ g s at now. omega arith;
  one_event = λ g s at now. omega arith;
  glyphs = λ g s at now whole is_glyph. (tt, (tt, (tt, (IsGlyph-banged _, tt))));
  covered = λ g s at now. (tt, (tt, (tt, (inr (inr (inr (inl (refl, refl)))), tt))));
  events = λ g s at now whole. quiet (if_equal g s at now) refl;
}

pub lawful-increment : IsLawful increment
lawful-increment = record {
  few_deeds = λ g s at now. omega arith;
  one_event = λ g s at now. omega arith;
  glyphs = λ g s at now whole is_glyph. (
    tt,
    (
      tt,
      (
        tt,
        (
          tt,
          (
            IsGlyph-cased _ _ (mod_value-below _ _ BASE (omega arith) (omega arith)),
            tt,
          ),
        ),
      ),
    ),
  );
  covered = λ g s at now. (tt, (tt, (tt, (tt, (inr (inr (inr (inl (refl, refl)))), tt)))));
  events = λ g s at now whole. quiet (increment g s at now) refl;
}

IsGlyph-least : (missing : Bool) (by a b : ℕ)
    → IsGlyph (if missing then empty else cased (min (value a) (value b)) by)
IsGlyph-least true by a b = (lit≤ tt, lit≤ tt)
IsGlyph-least false by a b = IsGlyph-cased _ _ (omega (arith, value-below a, value-below b))

pub lawful-lesser : IsLawful lesser
lawful-lesser = record {
  few_deeds = λ g s at now. omega arith;
  one_event = λ g s at now. omega arith;
  glyphs = λ g s at now whole is_glyph. (
    tt,
    (tt, (tt, (IsGlyph-least _ _ (peek s (left at 1)) (peek s (right at 1)), tt))),
  );
  covered = λ g s at now. (tt, (tt, (tt, (inr (inr (inr (inl (refl, refl)))), tt))));
  events = λ g s at now whole. quiet (lesser g s at now) refl;
}

pub lawful-multiply : IsLawful multiply
lawful-multiply = record {
  few_deeds = λ g s at now. omega arith;
  one_event = λ g s at now. omega arith;
  glyphs = λ g s at now whole is_glyph. (tt, (tt, (tt, (IsGlyph-cased _ _ (omega arith), tt))));
  covered = λ g s at now. (tt, (tt, (tt, (inr (inr (inr (inl (refl, refl)))), tt))));
  events = λ g s at now whole. quiet (multiply g s at now) refl;
}

pub lawful-random : IsLawful random
lawful-random = record {
  few_deeds = λ g s at now. omega arith;
  one_event = λ g s at now. omega arith;
  glyphs = λ g s at now whole is_glyph. (
    tt,
    (
      tt,
      (
        tt,
        (
          IsGlyph-cased _ _
              (random_between-below _ _ _ (value-below _)
              (value_or-range (peek s (right at 1)) BASE).0),
          tt,
        ),
      ),
    ),
  );
  covered = λ g s at now. (tt, (tt, (tt, (inr (inr (inr (inl (refl, refl)))), tt))));
  events = λ g s at now whole. quiet (random g s at now) refl;
}

pub lawful-uclid : IsLawful uclid
lawful-uclid = record {
  few_deeds = λ g s at now. omega arith;
  one_event = λ g s at now. omega arith;
  glyphs = λ g s at now whole is_glyph. (tt, (tt, (tt, (IsGlyph-banged _, tt))));
  covered = λ g s at now. (tt, (tt, (tt, (inr (inr (inr (inl (refl, refl)))), tt))));
  events = λ g s at now whole. quiet (uclid g s at now) refl;
}

pub lawful-lerp : IsLawful lerp
lawful-lerp = record {
  few_deeds = λ g s at now. omega arith;
  one_event = λ g s at now. omega arith;
  glyphs = λ g s at now whole is_glyph. (
    tt,
    (
      tt,
      (
        tt,
        (
          tt,
          (
            IsGlyph-cased _ _ (lerped-below _ _ _ (value-below _) (value-below _)),
            tt,
          ),
        ),
      ),
    ),
  );
  covered = λ g s at now. (tt, (tt, (tt, (tt, (inr (inr (inr (inl (refl, refl)))), tt)))));
  events = λ g s at now whole. quiet (lerp g s at now) refl;
}
