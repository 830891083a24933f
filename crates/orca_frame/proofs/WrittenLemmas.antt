-- The places that a frame lists: those that its deeds write, each once.
use Rattle.std.proofs.Common.{◌≡◌, ℕ, zero, suc, List, [], ◌∷◌, ◌++◌, refl, sym, ap, ◌∙◌, subst, inl, inr, ◌⊎◌, Bool, true, false, not, ◌&&◌, arith}
use Rattle.std.specs.Prelude.{◌↔◌, Contains, Option, Some, None, ℤ, pos, negsuc, nat_lt, if◌then◌else◌}
use Rattle.std.specs.List.{list_any}
use Rattle.std.proofs.lemmas.List.Elements.{Contains-push, Contains-append_left, Contains-append_cases}
use Rattle.std.proofs.lemmas.Map.Views.{Contains-from_any}
use Rattle.orca_base.specs.declared.now.Now.{Now}
use Rattle.orca_base.specs.declared.place.Place.{Place}
use Rattle.orca_base.specs.Grids.{Size, Sheet, place_in, place_at, place_of}
use Rattle.orca_op.specs.State.{State, fresh}
use Rattle.orca_op.specs.Deeds.{Deed, Mark, Write, Set, Emit, after_all}
use Rattle.orca_base.specs.Grids.{is_inside, is_place}
use Rattle.orca_base.proofs.PlaceFacts.{is_place-same}
use Rattle.orca_op.specs.Slate.{list_with, list_after, list_after_all}
use Rattle.orca_op.proofs.LawFacts.{after_all-append}
use Rattle.orca_op.specs.Laws.{AnyDeed}
use Rattle.orca_op.specs.Rules.{rule}
use Rattle.orca_op.specs.Scan.{visit_deeds, state_after_places, scan_deeds, scan, places, written_places}
use Rattle.orca_frame.specs.Written.{WritesPlace, IsWritten}

-- ---- the place of a spot lies in the grid

placed_if : (d : Size) (y x : ℕ) (at : Place) (inside : Bool)
    → (nat_lt y d.h && nat_lt x d.w) ≡ inside
    → (if inside then Some (record { y = y; x = x }) else None) ≡ Some at → is_inside d at ≡ true
placed_if d y x at true inside same = cc
placed_if d y x at false inside same = cc

placed_at : (d : Size) (y x : ℤ) (at : Place) → place_at d y x ≡ Some at → is_inside d at ≡ true
placed_at d (pos y) (pos x) at same = placed_if d y x at (nat_lt y d.h && nat_lt x d.w) refl same
placed_at d (pos y) (negsuc x) at same = cc
placed_at d (negsuc y) x at same = cc

-- ---- one write

only_one : (at q : Place) → Contains (q ∷ []) at → Some q ≡ Some at
only_one at q (zero, below, is) = ap (λ (p : Place). Some p) is
only_one at q (suc k, below, is) = absurd (omega arith)

listed_or : (listed : List Place) (at q : Place) → Contains listed at ⊎ Contains (q ∷ []) at
    → Contains listed at ⊎ (Some q ≡ Some at)
listed_or listed at q (inl before) = inl before
listed_or listed at q (inr itself) = inr (only_one at q itself)

from_if : (listed : List Place) (at q : Place) (adds : Bool)
    → Contains (if adds then listed ++ q ∷ [] else listed) at
    → Contains listed at ⊎ (Some q ≡ Some at)
from_if listed at q true is = listed_or listed at q (Contains-append_cases listed (q ∷ []) at is)
from_if listed at q false is = inl is

-- a listed place was listed before, or is the one that is written
from_with : (d : Size) (listed : List Place) (p : Option Place) (at : Place)
    → Contains (list_with d listed p) at → Contains listed at ⊎ (p ≡ Some at)
from_with d listed None at is = inl is
from_with d listed (Some q) at is =
    from_if listed at q (is_inside d q && not (list_any (is_place q) listed)) is

kept_if : (listed : List Place) (at q : Place) (adds : Bool) → Contains listed at
    → Contains (if adds then listed ++ q ∷ [] else listed) at
kept_if listed at q true is = Contains-append_left listed (q ∷ []) at is
kept_if listed at q false is = is

-- a listed place stays
kept_with : (d : Size) (listed : List Place) (p : Option Place) (at : Place) → Contains listed at
    → Contains (list_with d listed p) at
kept_with d listed None at is = is
kept_with d listed (Some q) at is =
    kept_if listed at q (is_inside d q && not (list_any (is_place q) listed)) is

added_if : (listed : List Place) (at : Place) (inside found : Bool) → inside ≡ true
    → list_any (is_place at) listed ≡ found
    → Contains (if inside && not found then listed ++ at ∷ [] else listed) at
added_if listed at true false inside absent = Contains-push listed at
added_if listed at true true inside present = Contains-from_any is_place-same at listed present
added_if listed at false found inside test = cc

-- a place of the grid that is written is listed
added_with : (d : Size) (listed : List Place) (p : Option Place) (at : Place) → p ≡ Some at
    → is_inside d at ≡ true → Contains (list_with d listed p) at
added_with d listed p at is inside =
    subst (λ (q : Option Place). Contains (list_with d listed q) at) (sym is)
    (added_if listed at (is_inside d at) (list_any (is_place at) listed) inside refl)

-- ---- deeds in order

-- a way more
pub later : (A B C : Type 0) → A ⊎ C → A ⊎ (B ⊎ C)
later A B C (inl first) = inl first
later A B C (inr last) = inr (inr last)

either : (A B C : Type 0) (E : Type 0) → (E → A ⊎ B) → E ⊎ C → A ⊎ (B ⊎ C)
either A B C E cases (inr last) = inr (inr last)
either A B C E cases (inl here) =
    elim (cases here) [ inl first ↦ inl first | inr mid ↦ inr (inl mid) ]

-- a listed place was listed before, or a deed writes it
from_all : (d : Size) (listed : List Place) (deeds : List Deed) (at : Place)
    → Contains (list_after_all d d listed deeds) at
    → Contains listed at ⊎ AnyDeed (WritesPlace d at) deeds
unfolding list_after
from_all d listed [] at is = inl is
from_all d listed (Mark spot marks ∷ deeds) at is = later _ _ _ (from_all d listed deeds at is)
from_all d listed (Write spot glyph ∷ deeds) at is =
    either _ _ _ _ (from_with d listed (place_in d spot) at)
    (from_all d (list_with d listed (place_in d spot)) deeds at is)
from_all d listed (Set variable glyph ∷ deeds) at is = later _ _ _ (from_all d listed deeds at is)
from_all d listed (Emit event ∷ deeds) at is = later _ _ _ (from_all d listed deeds at is)

kept_all : (d : Size) (listed : List Place) (deeds : List Deed) (at : Place) → Contains listed at
    → Contains (list_after_all d d listed deeds) at
unfolding list_after
kept_all d listed [] at is = is
kept_all d listed (Mark spot marks ∷ deeds) at is = kept_all d listed deeds at is
kept_all d listed (Write spot glyph ∷ deeds) at is =
    kept_all d (list_with d listed (place_in d spot))
    deeds at (kept_with d listed (place_in d spot) at is)
kept_all d listed (Set variable glyph ∷ deeds) at is = kept_all d listed deeds at is
kept_all d listed (Emit event ∷ deeds) at is = kept_all d listed deeds at is

-- a place that a deed writes is listed
added_all : (d : Size) (listed : List Place) (deeds : List Deed) (at : Place)
    → AnyDeed (WritesPlace d at) deeds → Contains (list_after_all d d listed deeds) at
unfolding list_after
added_all d listed [] at writes = absurd writes
added_all d listed (Mark spot marks ∷ deeds) at (inl writes) = absurd writes
added_all d listed (Mark spot marks ∷ deeds) at (inr more) = added_all d listed deeds at more
added_all d listed (Write spot glyph ∷ deeds) at (inl writes) =
    kept_all d (list_with d listed (place_in d spot))
    deeds at (added_with d listed (place_in d spot) at writes
    (placed_at d spot.y spot.x at writes))
added_all d listed (Write spot glyph ∷ deeds) at (inr more) =
    added_all d (list_with d listed (place_in d spot)) deeds at more
added_all d listed (Set variable glyph ∷ deeds) at (inl writes) = absurd writes
added_all d listed (Set variable glyph ∷ deeds) at (inr more) = added_all d listed deeds at more
added_all d listed (Emit event ∷ deeds) at (inl writes) = absurd writes
added_all d listed (Emit event ∷ deeds) at (inr more) = added_all d listed deeds at more

-- ---- a frame

nothing : (at : Place) (B : Type 0) → Contains [] at ⊎ B → B
nothing at B (inl (k, below, is)) = absurd (omega arith)
nothing at B (inr other) = other

-- and they are those that some deed writes
pub written_places-exactly : (g : Sheet) (now : Now) (at : Place)
    → Contains (written_places g now) at ↔ IsWritten g now at
unfolding written_places
written_places-exactly g now at = (
  λ is. nothing at _ (from_all g.dims [] (scan_deeds (places g) g now) at is),
  added_all g.dims [] (scan_deeds (places g) g now) at,
)

scanned-deeds : (n : ℕ) (g : Sheet) (now : Now)
    → state_after_places rule n g now ≡ after_all (fresh g) (scan_deeds n g now)
scanned-deeds zero g now = refl
scanned-deeds (suc n) g now =
    let deeds = visit_deeds rule (state_after_places rule n g now) (place_of g.dims n) now in
    ap (λ (s : State). after_all s deeds) (scanned-deeds n g now)
    ∙ sym (after_all-append (fresh g) (scan_deeds n g now) deeds)

-- the state after a frame is the one after its deeds
pub scan-deeds : (g : Sheet) (now : Now)
    → scan g now ≡ after_all (fresh g) (scan_deeds (places g) g now)
unfolding scan
scan-deeds g now = scanned-deeds (places g) g now
