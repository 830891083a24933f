-- Two shapes of rules that are lawful: copies of a run of glyphs, and one copy beside a run of
-- locks.
-- Lemmas with their proofs, which an `impl` cites: no meaning rests on this file.
use Rattle.std.specs.Prelude.{ℕ, ◌*◌, ◌<◌, ◌≤◌, ◌≡◌, ◌||◌, IsTrue, List, [], ◌∷◌, ◌++◌, length, count_by, refl}
use Rattle.std.proofs.Common.{inl, inr, arith, length-append}
use Rattle.orca_base.specs.declared.limits.TheConstants.{BASE}
use Rattle.orca_base.specs.declared.now.Now.{Now}
use Rattle.orca_base.specs.declared.place.Place.{Place}
use Rattle.orca_base.specs.declared.place.Spot.{Spot}
use Rattle.orca_base.specs.MarkSet.{MarkSet}
use Rattle.orca_op.specs.State.{State, peek}
use Rattle.orca_base.specs.Grids.{left}
use Rattle.orca_op.specs.Deeds.{Deed, Mark, Write, each_below, input_at, param_at, output_at, lock_at}
use Rattle.orca_op.specs.Laws.{EmitsInRange, IsLawful, WritesGlyph, IsCovered, Covers, is_emit}
use Rattle.orca_op.proofs.LawFacts.{IsGlyph-peek, length-each, no_event-each, count_by-append, Every-each, Every-append, AnyDeed-each, AnyDeed-right}

-- three parameters, and then a run of glyphs, each read at one spot and written at another that is
-- covered
abbrev pub copies : (State → Place → ℕ) → (State → Place → ℕ → Spot) → (State → Place → ℕ → Spot)
    → MarkSet → ℕ → State → Place → Now → List Deed
copies many from to marks g s at now =
    param_at (left at 3) ∷ param_at (left at 2) ∷ param_at (left at 1)
    ∷ each_below (many s at) (λ i. input_at (from s at i) ∷ Mark (to s at i) marks ∷ Write (to s at i)
    (peek s (from s at i)) ∷ [])

pub lawful-copies : (many : State → Place → ℕ) (from to : State → Place → ℕ → Spot)
    (marks : MarkSet) → IsTrue (marks.lock || marks.sleep)
    → ((s : State) (at : Place) → many s at < BASE) → IsLawful (copies many from to marks)
lawful-copies many from to marks covers few =
    let copy : State → Place → ℕ
    → List Deed = λ s at i. input_at (from s at i) ∷ Mark (to s at i) marks ∷ Write (to s at i)
    (peek s (from s at i)) ∷ [] in
    record {
      few_deeds = λ g s at now.
          let run : length (each_below (many s at) (copy s at)) ≤ many s at * 3 =
          length-each (many s at) 3 (copy s at) (λ i. omega arith) in
          omega (arith, run, few s at);
      one_event = λ g s at now.
          let run : count_by is_emit (each_below (many s at) (copy s at)) ≡ 0 = no_event-each (many s at)
          (copy s at) (λ i. refl) in
          omega (arith, run);
      glyphs = λ g s at now whole is_glyph. (
        tt,
        (
          tt,
          (
            tt,
            Every-each WritesGlyph (many s at) (copy s at)
                (λ i below. (tt, (tt, (IsGlyph-peek s _ whole, tt)))),
          ),
        ),
      );
      events = λ g s at now whole. (
        tt,
        (
          tt,
          (
            tt,
            Every-each EmitsInRange (many s at) (copy s at)
                (λ i below. (tt, (tt, (tt, tt)))),
          ),
        ),
      );
      covered = λ g s at now. (
        tt,
        (
          tt,
          (
            tt,
            Every-each (IsCovered at (copies many from to marks g s at now)) (many s at) (copy s at)
                (λ i below. (
                  tt,
                  (
                    tt,
                    (
                      inr (inr
                          (inr (inr (AnyDeed-each (Covers (to s at i)) (many s at) i
                          (copy s at) below (inr (inl (refl, covers))))))),
                      tt,
                    ),
                  ),
                )),
          ),
        ),
      );
    }

-- two parameters, a run of locks, and then one glyph that is read at one spot and written at
-- another
abbrev pub locks : (State → Place → ℕ) → (State → Place → ℕ → Spot) → (State → Place → Spot)
    → (State → Place → Spot) → ℕ → State → Place → Now → List Deed
locks many spot from to g s at now =
    param_at (left at 2) ∷ param_at (left at 1) ∷ each_below (many s at) (λ i. lock_at (spot s at i) ∷ [])
    ++ input_at (from s at) ∷ output_at (to s at) ∷ Write (to s at) (peek s (from s at)) ∷ []

pub lawful-locks : (many : State → Place → ℕ) (spot : State → Place → ℕ → Spot)
    (from to : State → Place → Spot) → ((s : State) (at : Place) → many s at < BASE)
    → IsLawful (locks many spot from to)
lawful-locks many spot from to few =
    let lock : State → Place → ℕ → List Deed = λ s at i. lock_at (spot s at i) ∷ [] in
    let last : State → Place → List Deed = λ s at. input_at (from s at) ∷ output_at (to s at)
    ∷ Write (to s at) (peek s (from s at)) ∷ [] in
    record {
      few_deeds = λ g s at now.
          let run : length (each_below (many s at) (lock s at)) ≤ many s at * 1 =
          length-each (many s at) 1 (lock s at) (λ i. omega arith) in
          omega (arith, run, few s at, length-append (each_below (many s at) (lock s at)) (last s at));
      one_event = λ g s at now.
          let run : count_by is_emit (each_below (many s at) (lock s at)) ≡ 0 = no_event-each (many s at)
          (lock s at) (λ i. refl) in
          omega (arith, run, count_by-append is_emit (each_below (many s at) (lock s at)) (last s at));
      glyphs = λ g s at now whole is_glyph. (
        tt,
        (
          tt,
          Every-append WritesGlyph (each_below (many s at) (lock s at)) (last s at)
              (Every-each WritesGlyph (many s at) (lock s at) (λ i below. (tt, tt)))
              (tt, (tt, (IsGlyph-peek s _ whole, tt))),
        ),
      );
      events = λ g s at now whole. (
        tt,
        (
          tt,
          Every-append EmitsInRange (each_below (many s at) (lock s at)) (last s at)
              (Every-each EmitsInRange (many s at) (lock s at) (λ i below. (tt, tt)))
              (tt, (tt, (tt, tt))),
        ),
      );
      covered = λ g s at now.
          let P : Deed → Type 0 = IsCovered at (locks many spot from to g s at now) in (
            tt,
            (
              tt,
              Every-append P (each_below (many s at) (lock s at)) (last s at)
                  (Every-each P (many s at) (lock s at) (λ i below. (tt, tt))) (
                    tt,
                    (
                      tt,
                      (
                        inr
                            (inr (inr (AnyDeed-right (Covers (to s at))
                            (each_below (many s at) (lock s at)) (last s at) (inr (inl (refl, refl)))))),
                        tt,
                      ),
                    ),
                  ),
            ),
          );
    }
