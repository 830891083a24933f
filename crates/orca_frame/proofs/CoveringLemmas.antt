-- The covering law: a place that is written before its visit is locked or asleep by then.
use Rattle.std.proofs.Common.{◌≡◌, ℕ, zero, suc, ◌<◌, ◌≤◌, List, [], ◌∷◌, length, refl, sym, ◌∙◌, subst, inl, inr, ◌⊎◌, Bool, true, false, not, ◌&&◌, ◌||◌, arith}
use Rattle.std.proofs.Math.ListN.{set}
use Rattle.std.specs.Prelude.{IsTrue, Option, Some, None, slice_index, if◌then◌else◌}
use Rattle.std.proofs.lemmas.Bool.Decides.{eqb_tells}
use Rattle.std.proofs.lemmas.List.{get_or-set_other, get_or-set_same, length-replicate}
use Rattle.std.proofs.lemmas.Nat.{div-add-mod'}
use Rattle.orca_base.specs.declared.marks.Mark.TheVariants.{Lock, Sleep}
use Rattle.orca_base.specs.declared.now.Now.{Now}
use Rattle.orca_base.specs.declared.place.Place.{Place}
use Rattle.orca_base.specs.declared.place.Spot.{Spot}
use Rattle.orca_base.specs.Glyphs.{is_operator, needs_bang}
use Rattle.orca_base.specs.Grids.{Size, Sheet, IsSheet, IsInside, place_of, place_in, index_of}
use Rattle.orca_base.specs.MarkSet.{MarkSet, no_marks, all_marks}
use Rattle.orca_op.specs.State.{State, state_glyph, marks_at, has_bang}
use Rattle.orca_base.specs.Grids.{here}
use Rattle.orca_op.specs.Deeds.{Deed, Mark as mark_deed, Write, Set, Emit, after, after_all, marks_after, cells_after}
use Rattle.orca_op.specs.Laws.{IsLawful, Every, AnyDeed, Covers, IsCovered}
use Rattle.orca_base.proofs.PlaceFacts.{place_in-here, inside-place_of}
use Rattle.orca_op.proofs.StateFacts.{length-marks_after}
use Rattle.orca_op.specs.Scan.{Rules, visit_deeds, is_idle, state_after_places, places}
use Rattle.orca_op.proofs.VisitFacts.{dims_after_places}
use Rattle.orca_frame.specs.Covering.{IsCovering}
use Rattle.orca_frame.proofs.MarkLemmas.{marks_of, or_left, or_right, marks_of-after_all}
use Rattle.orca_frame.proofs.WrittenLemmas.{later}

-- the place of a spot has this number
abbrev IsAt : Size → ℕ → Option Place → Type 0
IsAt d j None = ⊥
IsAt d j (Some at) = index_of d at ≡ j

-- the place with this number is locked or asleep
abbrev IsStill : State → ℕ → Type 0
IsStill s j = IsTrue ((marks_of s.marks j).lock || (marks_of s.marks j).sleep)

-- the deed writes the place with this number
abbrev WritesAt : Size → ℕ → Deed → Type 0
WritesAt d j (mark_deed at m) = ⊥
WritesAt d j (Write at glyph) = IsAt d j (place_in d at)
WritesAt d j (Set variable glyph) = ⊥
WritesAt d j (Emit event) = ⊥

-- the deed locks the place with this number, or puts it to sleep
abbrev StillsAt : Size → ℕ → Deed → Type 0
StillsAt d j (mark_deed at m) = IsAt d j (place_in d at) × IsTrue (m.lock || m.sleep)
StillsAt d j (Write at glyph) = ⊥
StillsAt d j (Set variable glyph) = ⊥
StillsAt d j (Emit event) = ⊥

-- a place of another number keeps its glyph
written_other : (s : State) (at : Option Place) (glyph j : ℕ)
    → (slice_index (cells_after s at glyph) j ≡ slice_index s.cells j) ⊎ IsAt s.dims j at
written_other s None glyph j = inl refl
written_other s (Some at) glyph j =
    elim (eqb_tells j (index_of s.dims at)) [
      | inl same ↦ inr (sym same.1)
      | inr other ↦ inl (get_or-set_other s.cells (index_of s.dims at) j glyph 0 other.1)
    ]

either_write : (A B C : Type 0) (x y z : ℕ) → (y ≡ x) ⊎ B → (z ≡ y) ⊎ C → (z ≡ x) ⊎ (B ⊎ C)
either_write A B C x y z (inl same) (inl later) = inl (later ∙ same)
either_write A B C x y z (inl same) (inr writes) = inr (inr writes)
either_write A B C x y z (inr writes) later = inr (inl writes)

-- a place keeps its glyph, or a deed writes it
kept_or_written : (s : State) (deeds : List Deed) (j : ℕ)
    → (slice_index (after_all s deeds).cells j ≡ slice_index s.cells j)
    ⊎ AnyDeed (WritesAt s.dims j) deeds
unfolding after
kept_or_written s [] j = inl refl
kept_or_written s (mark_deed at m ∷ deeds) j =
    later _ ⊥ _ (kept_or_written (after s (mark_deed at m)) deeds j)
kept_or_written s (Write at glyph ∷ deeds) j =
    either_write ⊥ _ _ _ _ _ (written_other s (place_in s.dims at) glyph j)
    (kept_or_written (after s (Write at glyph)) deeds j)
kept_or_written s (Set variable glyph ∷ deeds) j =
    later _ ⊥ _ (kept_or_written (after s (Set variable glyph)) deeds j)
kept_or_written s (Emit event ∷ deeds) j =
    later _ ⊥ _ (kept_or_written (after s (Emit event)) deeds j)

-- a deed that covers a spot covers its place
covers_place : (d : Size) (j : ℕ) (spot : Spot) (deeds : List Deed) → IsAt d j (place_in d spot)
    → AnyDeed (Covers spot) deeds → AnyDeed (StillsAt d j) deeds
covers_place d j spot [] here some = absurd some
covers_place d j spot (mark_deed at m ∷ deeds) here (inl covers) =
    inl (subst (λ (p : Spot). IsAt d j (place_in d p)) (sym covers.0) here, covers.1)
covers_place d j spot (Write at glyph ∷ deeds) here (inl covers) = absurd covers
covers_place d j spot (Set variable glyph ∷ deeds) here (inl covers) = absurd covers
covers_place d j spot (Emit event ∷ deeds) here (inl covers) = absurd covers
covers_place d j spot (deed ∷ deeds) here (inr later) = inr (covers_place d j spot deeds here later)

covered_write : (d : Size) (j : ℕ) (at : Place) (all : List Deed) (spot : Spot)
    → (spot ≡ here at) ⊎ AnyDeed (Covers spot) all → IsAt d j (place_in d spot)
    → IsAt d j (place_in d (here at)) ⊎ AnyDeed (StillsAt d j) all
covered_write d j at all spot (inl itself) here =
    inl (subst (λ (p : Spot). IsAt d j (place_in d p)) itself here)
covered_write d j at all spot (inr covers) here = inr (covers_place d j spot all here covers)

-- where a deed writes a place, it is the visited one, or a deed locks it or puts it to sleep
written_covered : (d : Size) (j : ℕ) (at : Place) (all deeds : List Deed)
    → Every (IsCovered at all) deeds → AnyDeed (WritesAt d j) deeds
    → IsAt d j (place_in d (here at)) ⊎ AnyDeed (StillsAt d j) all
written_covered d j at all [] covered some = absurd some
written_covered d j at all (mark_deed spot m ∷ deeds) covered (inl writes) = absurd writes
written_covered d j at all (Write spot glyph ∷ deeds) covered (inl writes) =
    covered_write d j at all spot covered.0 writes
written_covered d j at all (Set variable glyph ∷ deeds) covered (inl writes) = absurd writes
written_covered d j at all (Emit event ∷ deeds) covered (inl writes) = absurd writes
written_covered d j at all (deed ∷ deeds) covered (inr later) =
    written_covered d j at all deeds covered.1 later

either_grows : (a b c d : Bool) → (IsTrue a → IsTrue c) → (IsTrue b → IsTrue d) → IsTrue (a || b)
    → IsTrue (c || d)
either_grows true b c d first second is = or_left c d (first refl)
either_grows false b c d first second is = or_right c d (second is)

-- a place that is still stays so
still_after_all : (s : State) (deeds : List Deed) (j : ℕ) → IsStill s j
    → IsStill (after_all s deeds) j
still_after_all s deeds j still =
    either_grows _ _ _ _ (marks_of-after_all s deeds j Lock) (marks_of-after_all s deeds j Sleep)
    still

all_still : (m k : MarkSet) → IsTrue (k.lock || k.sleep)
    → IsTrue ((all_marks m k).lock || (all_marks m k).sleep)
all_still m k still = either_grows k.lock k.sleep _ _ (or_right m.lock k.lock)
    (or_right m.sleep k.sleep) still

still_marked : (s : State) (at : Option Place) (m : MarkSet) (j : ℕ) → j < length s.marks
    → IsAt s.dims j at → IsTrue (m.lock || m.sleep)
    → IsTrue ((marks_of (marks_after s at m) j).lock || (marks_of (marks_after s at m) j).sleep)
still_marked s None m j below here still = absurd here
still_marked s (Some at) m j below here still =
    let now_there : marks_of (marks_after s (Some at) m) j ≡ all_marks (marks_at s at) m =
    subst (λ (i : ℕ). marks_of (set s.marks (index_of s.dims at) (all_marks (marks_at s at) m)) i
    ≡ all_marks (marks_at s at) m) here
    (get_or-set_same s.marks (index_of s.dims at) (all_marks (marks_at s at) m) no_marks
    (rw here below)) in
    subst (λ (k : MarkSet). IsTrue (k.lock || k.sleep)) (sym now_there)
    (all_still (marks_at s at) m still)

-- a place that a deed locks or puts to sleep is still after the deeds
stilled : (s : State) (deeds : List Deed) (j : ℕ) → j < length s.marks
    → AnyDeed (StillsAt s.dims j) deeds → IsStill (after_all s deeds) j
unfolding after
stilled s [] j below some = absurd some
stilled s (mark_deed at m ∷ deeds) j below (inl stills) =
    still_after_all (after s (mark_deed at m)) deeds j
    (still_marked s (place_in s.dims at) m j below stills.0 stills.1)
stilled s (mark_deed at m ∷ deeds) j below (inr later) =
    stilled (after s (mark_deed at m)) deeds j
    (omega (arith, below, length-marks_after s (place_in s.dims at) m)) later
stilled s (Write at glyph ∷ deeds) j below (inl stills) = absurd stills
stilled s (Write at glyph ∷ deeds) j below (inr later) =
    stilled (after s (Write at glyph)) deeds j below later
stilled s (Set variable glyph ∷ deeds) j below (inl stills) = absurd stills
stilled s (Set variable glyph ∷ deeds) j below (inr later) =
    stilled (after s (Set variable glyph)) deeds j below later
stilled s (Emit event ∷ deeds) j below (inl stills) = absurd stills
stilled s (Emit event ∷ deeds) j below (inr later) =
    stilled (after s (Emit event)) deeds j below later

length_marks-after_all : (s : State) (deeds : List Deed)
    → length (after_all s deeds).marks ≡ length s.marks
unfolding after
length_marks-after_all s [] = refl
length_marks-after_all s (mark_deed at m ∷ deeds) =
    length_marks-after_all (after s (mark_deed at m)) deeds ∙ length-marks_after s
    (place_in s.dims at) m
length_marks-after_all s (Write at glyph ∷ deeds) =
    length_marks-after_all (after s (Write at glyph)) deeds
length_marks-after_all s (Set variable glyph ∷ deeds) =
    length_marks-after_all (after s (Set variable glyph)) deeds
length_marks-after_all s (Emit event ∷ deeds) = length_marks-after_all (after s (Emit event)) deeds

length_marks-scanned : (rules : Rules) (n : ℕ) (g : Sheet) (now : Now)
    → length (state_after_places rules n g now).marks ≡ places g
length_marks-scanned rules zero g now = length-replicate (places g) no_marks
length_marks-scanned rules (suc n) g now =
    length_marks-after_all (state_after_places rules n g now)
    (visit_deeds rules (state_after_places rules n g now) (place_of g.dims n) now)
    ∙ length_marks-scanned rules n g now

-- each write of a visit is covered by the same visit
covered_if : (at : Place) (idle : Bool) (deeds : List Deed) → Every (IsCovered at deeds) deeds
    → Every (IsCovered at (if idle then [] else deeds)) (if idle then [] else deeds)
covered_if at true deeds all = tt
covered_if at false deeds all = all

covered_deeds : (rules : Rules) (s : State) (at : Place) (now : Now) → IsLawful rules
    → Every (IsCovered at (visit_deeds rules s at now)) (visit_deeds rules s at now)
unfolding visit_deeds
covered_deeds rules s at now lawful =
    covered_if at (is_idle s at) (rules (state_glyph s at) s at now)
    (lawful.covered (state_glyph s at) s at now)

-- a place is still, or holds the glyph that it held when the frame began
IsKept : Sheet → State → ℕ → Type 0
IsKept g s j = IsStill s j ⊎ (slice_index s.cells j ≡ slice_index g.cells j)

-- the number of the place of a number is that number
index-place_of : (d : Size) (n : ℕ) → index_of d (place_of d n) ≡ n
index-place_of d n = div-add-mod' n d.w

-- one visit keeps each place of another number
kept_after : (g : Sheet) (s : State) (deeds : List Deed) (at : Place) (j : ℕ) → IsInside s.dims at
    → (index_of s.dims at ≡ j → ⊥) → j < length s.marks → Every (IsCovered at deeds) deeds
    → IsKept g s j → IsKept g (after_all s deeds) j
unfolding IsKept
kept_after g s deeds at j inside other below covered (inl still) =
    inl (still_after_all s deeds j still)
kept_after g s deeds at j inside other below covered (inr same) =
    elim (kept_or_written s deeds j) [
      | inl kept ↦ inr (kept ∙ same)
      | inr writes ↦ elim (written_covered s.dims j at deeds deeds covered writes) [
        | inl itself ↦ absurd (other (rw (place_in-here s.dims at inside) at itself))
        | inr stills ↦ inl (stilled s deeds j below stills)
      ]
    ]

-- each place that the scan has not reached is kept
kept_scanned : (rules : Rules) (n : ℕ) (g : Sheet) (now : Now) → IsLawful rules → IsSheet g
    → (j : ℕ) → n ≤ j → j < places g → IsKept g (state_after_places rules n g now) j
unfolding IsKept
kept_scanned rules zero g now lawful sheet j reached below = inr refl
kept_scanned rules (suc n) g now lawful sheet j reached below =
    let s = state_after_places rules n g now in
    let at = place_of g.dims n in
    let same : s.dims ≡ g.dims = dims_after_places rules n g now in
    let inside : IsInside s.dims at = subst (λ (d : Size). IsInside d at) (sym same)
    (inside-place_of g.dims n sheet.size (omega arith)) in
    let number : index_of s.dims at ≡ n = subst (λ (d : Size). index_of d at ≡ n) (sym same)
    (index-place_of g.dims n) in
    kept_after g s (visit_deeds rules s at now) at j inside
    (λ itself. omega (arith, itself, number))
    (omega (arith, length_marks-scanned rules n g now)) (covered_deeds rules s at now lawful)
    (kept_scanned rules n g now lawful sheet j (omega arith) below)

free : (operator lock sleep waits : Bool) → (not operator || lock || sleep || waits) ≡ false
    → IsTrue (lock || sleep) → ⊥
free true true sleep waits idle still = cc
free true false true waits idle still = cc
free true false false waits idle still = cc
free false lock sleep waits idle still = cc

-- a place that isn't idle isn't still
not_still : (s : State) (at : Place) → is_idle s at ≡ false
    → IsTrue ((marks_at s at).lock || (marks_at s at).sleep) → ⊥
unfolding is_idle
not_still s at idle still =
    free (is_operator (state_glyph s at)) (marks_at s at).lock (marks_at s at).sleep
    (needs_bang (state_glyph s at) && not (has_bang s at)) idle still

kept_glyph : (g : Sheet) (s : State) (at : Place) → is_idle s at ≡ false
    → IsKept g s (index_of s.dims at) → state_glyph s at ≡ slice_index g.cells (index_of s.dims at)
unfolding IsKept
kept_glyph g s at idle (inl still) = absurd (not_still s at idle still)
kept_glyph g s at idle (inr same) = same

pub covering : (rules : Rules) → IsLawful rules → IsCovering rules
covering rules lawful g now n sheet below idle =
    let s = state_after_places rules n g now in
    let at = place_of g.dims n in
    let number : index_of s.dims at ≡ n = subst (λ (d : Size). index_of d at ≡ n)
    (sym (dims_after_places rules n g now)) (index-place_of g.dims n) in
    let kept : IsKept g s n = kept_scanned rules n g now lawful sheet n (omega arith) below in
    subst (λ (i : ℕ). state_glyph s at ≡ slice_index g.cells i) number
    (kept_glyph g s at idle (rw number kept))
