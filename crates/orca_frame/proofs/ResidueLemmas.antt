-- What a frame leaves to be cleared.
use Rattle.std.proofs.Common.{◌≡◌, ℕ, zero, suc, ◌+◌, ◌*◌, ◌≤◌, List, [], ◌∷◌, ◌++◌, length, arith, length-append, Bool, true, false, not, ◌&&◌, ◌||◌, subst}
use Rattle.std.specs.Prelude.{count_by, Option, Some, None, if◌then◌else◌}
use Rattle.std.proofs.lemmas.List.Sums.{sum_by-append}
use Rattle.std.proofs.Math.ListN.{set}
use Rattle.orca_base.specs.declared.limits.TheConstants.{MAX_DEEDS}
use Rattle.orca_base.specs.declared.now.Now.{Now}
use Rattle.orca_base.specs.declared.place.Place.{Place}
use Rattle.orca_base.specs.Glyphs.{is_operator, needs_bang}
use Rattle.orca_base.specs.Grids.{Size, Sheet, place_of, place_in, index_of, is_inside}
use Rattle.orca_base.specs.MarkSet.{MarkSet, is_marked, all_marks}
use Rattle.orca_op.specs.State.{State, state_glyph, marks_at, has_bang}
use Rattle.orca_op.specs.Deeds.{Deed, Mark, Write, Set, Emit, after, marks_after}
use Rattle.orca_op.specs.Slate.{Slate, slate_after, slate_after_all, list_after, list_with, residue, is_listed}
use Rattle.orca_op.specs.Laws.{IsLawful}
use Rattle.orca_op.specs.Rules.{rule}
use Rattle.orca_op.specs.Scan.{Rules, visit_deeds, is_idle, state_after_places, busy_of}
use Rattle.orca_op.proofs.SlateFacts.{count-blank}
use Rattle.orca_frame.specs.Frames.{slate_after_places}
use Rattle.orca_frame.proofs.SlateLemmas.{slate_suc}

count_one : (b : Bool) → 0 + (if b then 1 else 0) ≤ 1
count_one true = omega arith
count_one false = omega arith

count_cons : (m : MarkSet) (marks : List MarkSet)
    → count_by is_marked (m ∷ marks) ≡ count_by is_marked (m ∷ []) + count_by is_marked marks
count_cons m marks = sum_by-append (λ (n : MarkSet). if is_marked n then 1 else 0) (m ∷ []) marks

-- one mark set for another counts at most one more
count_set : (marks : List MarkSet) (i : ℕ) (m : MarkSet)
    → count_by is_marked (set marks i m) ≤ count_by is_marked marks + 1
count_set [] i m = omega arith
count_set (n ∷ marks) zero m = omega (
  arith,
  count_cons m marks,
  count_cons n marks,
  count_one
      (is_marked m),
)
count_set (n ∷ marks) (suc i) m =
    omega (arith, count_cons n (set marks i m), count_cons n marks, count_set marks i m)

marked_more : (s : State) (at : Option Place) (m : MarkSet)
    → count_by is_marked (marks_after s at m) ≤ count_by is_marked s.marks + 1
marked_more s None m = omega arith
marked_more s (Some at) m = count_set s.marks (index_of s.dims at) (all_marks (marks_at s at) m)

listed_if : (lists : Bool) (listed : List Place) (at : Place)
    → length (if lists then listed ++ at ∷ [] else listed) ≤ length listed + 1
listed_if true listed at = omega (arith, length-append listed (at ∷ []))
listed_if false listed at = omega arith

listed_more : (began : Size) (listed : List Place) (at : Option Place)
    → length (list_with began listed at) ≤ length listed + 1
listed_more began listed None = omega arith
listed_more began listed (Some at) =
    listed_if (is_inside began at && not (is_listed listed at)) listed at

-- a deed raises the residue by at most one
residue_done : (d : Slate) (deed : Deed) → residue (slate_after d deed) ≤ residue d + 1
unfolding residue after list_after
residue_done d (Mark at m) = omega (arith, marked_more d.scan (place_in d.scan.dims at) m)
residue_done d (Write at glyph) =
    omega (arith, listed_more d.began.dims d.listed (place_in d.scan.dims at))
residue_done d (Set variable glyph) = omega arith
residue_done d (Emit event) = omega arith

pub residue_all_done : (d : Slate) (deeds : List Deed)
    → residue (slate_after_all d deeds) ≤ residue d + length deeds
residue_all_done d [] = omega arith
residue_all_done d (deed ∷ deeds) =
    omega (arith, residue_all_done (slate_after d deed) deeds, residue_done d deed)

few_if : (idle : Bool) (deeds : List Deed) → length deeds ≤ MAX_DEEDS
    → length (if idle then [] else deeds) ≤ MAX_DEEDS
few_if true deeds few = omega arith
few_if false deeds few = few

few_busy : (operator lock sleep waits : Bool) (deeds : List Deed) → length deeds ≤ MAX_DEEDS
    → length (if not operator || lock || sleep || waits then [] else deeds) ≤ MAX_DEEDS *
    (if operator then 1 else 0)
few_busy true lock sleep waits deeds few = few_if (lock || sleep || waits) deeds few
few_busy false lock sleep waits deeds few = omega arith

-- a visit has deeds only where the place holds an operator
few_deeds : (rules : Rules) (s : State) (at : Place) (now : Now) → IsLawful rules
    → length (visit_deeds rules s at now) ≤ MAX_DEEDS *
    (if is_operator (state_glyph s at) then 1 else 0)
unfolding visit_deeds is_idle
few_deeds rules s at now lawful =
    few_busy (is_operator (state_glyph s at)) (marks_at s at).lock (marks_at s at).sleep
    (needs_bang (state_glyph s at) && not (has_bang s at))
    (rules (state_glyph s at) s at now) (lawful.few_deeds (state_glyph s at) s at now)

-- the residue is at most the deeds of the busy places
pub residue_slate : (n : ℕ) (g : Sheet) (now : Now) → IsLawful rule
    → residue (slate_after_places n g now) ≤ MAX_DEEDS * busy_of n g now
unfolding residue
residue_slate zero g now lawful = omega (arith, count-blank (g.dims.h * g.dims.w))
residue_slate (suc n) g now lawful =
    let deeds = visit_deeds rule (state_after_places rule n g now) (place_of g.dims n) now in
    let more : residue (slate_after_places (suc n) g now) ≤ residue (slate_after_places n g now)
    + length deeds =
    subst (λ (d : Slate). residue d ≤ residue (slate_after_places n g now) + length deeds)
    (slate_suc n g now) (residue_all_done (slate_after_places n g now) deeds) in
    omega (
      arith,
      more,
      residue_slate n g now lawful,
      few_deeds rule
          (state_after_places rule n g now) (place_of g.dims n) now lawful,
    )
