-- Marks are only added.
use Rattle.std.proofs.Common.{◌≡◌, ℕ, zero, suc, ◌+◌, List, [], ◌∷◌, get_or, refl, subst, sym, Bool, true, false, ◌||◌, add-zero, arith}
use Rattle.std.proofs.Math.ListN.{set}
use Rattle.std.specs.Prelude.{IsTrue, Option, Some, None}
use Rattle.orca_base.specs.declared.marks.Mark.{Mark}
use Rattle.orca_base.specs.declared.marks.Mark.TheVariants.{Lock, Input, Param, Output, Sleep}
use Rattle.orca_base.specs.declared.now.Now.{Now}
use Rattle.orca_base.specs.declared.place.Place.{Place}
use Rattle.orca_base.specs.Grids.{Size, Sheet, place_of, place_in, index_of}
use Rattle.orca_base.specs.MarkSet.{MarkSet, no_marks, has_mark, all_marks}
use Rattle.orca_op.specs.State.{State, marks_at}
use Rattle.orca_op.specs.Deeds.{Deed, Mark as mark_deed, Write, Set, Emit, after, after_all, marks_after}
use Rattle.orca_op.specs.Scan.{Rules, visit_deeds, state_after_places}
use Rattle.orca_frame.specs.Covering.{KeepsMarks}
use Rattle.orca_op.proofs.StateFacts.{dims_after_all}

-- the marks of the place with this number
abbrev pub marks_of : List MarkSet → ℕ → MarkSet
marks_of marks j = get_or marks j no_marks

pub or_left : (a b : Bool) → IsTrue a → IsTrue (a || b)
or_left true b is = refl
or_left false b is = cc

pub or_right : (a b : Bool) → IsTrue b → IsTrue (a || b)
or_right true b is = refl
or_right false b is = is

-- a mark of a set is one of it and of another
all_marks-left : (m k : MarkSet) (mark : Mark) → IsTrue (has_mark m mark)
    → IsTrue (has_mark (all_marks m k) mark)
all_marks-left m k Lock has = or_left m.lock k.lock has
all_marks-left m k Input has = or_left m.input k.input has
all_marks-left m k Param has = or_left m.param k.param has
all_marks-left m k Output has = or_left m.output k.output has
all_marks-left m k Sleep has = or_left m.sleep k.sleep has

-- a set put at one number keeps a mark where it has it
marks_of-set : (marks : List MarkSet) (i j : ℕ) (m : MarkSet) (mark : Mark)
    → (IsTrue (has_mark (marks_of marks i) mark) → IsTrue (has_mark m mark))
    → IsTrue (has_mark (marks_of marks j) mark)
    → IsTrue (has_mark (marks_of (set marks i m) j) mark)
marks_of-set [] i j m mark grows has = has
marks_of-set (x ∷ marks) zero zero m mark grows has = grows has
marks_of-set (x ∷ marks) zero (suc j) m mark grows has = has
marks_of-set (x ∷ marks) (suc i) zero m mark grows has = has
marks_of-set (x ∷ marks) (suc i) (suc j) m mark grows has = marks_of-set marks i j m mark grows has

marks_of-marked : (s : State) (at : Option Place) (m : MarkSet) (j : ℕ) (mark : Mark)
    → IsTrue (has_mark (marks_of s.marks j) mark)
    → IsTrue (has_mark (marks_of (marks_after s at m) j) mark)
marks_of-marked s None m j mark has = has
marks_of-marked s (Some at) m j mark has =
    marks_of-set s.marks (index_of s.dims at) j (all_marks (marks_at s at) m) mark
    (all_marks-left (marks_at s at) m mark) has

-- every mark that a place has it has after deeds
pub marks_of-after_all : (s : State) (deeds : List Deed) (j : ℕ) (mark : Mark)
    → IsTrue (has_mark (marks_of s.marks j) mark)
    → IsTrue (has_mark (marks_of (after_all s deeds).marks j) mark)
unfolding after
marks_of-after_all s [] j mark has = has
marks_of-after_all s (mark_deed at m ∷ deeds) j mark has =
    marks_of-after_all (after s (mark_deed at m)) deeds j mark
    (marks_of-marked s (place_in s.dims at) m j mark has)
marks_of-after_all s (Write at glyph ∷ deeds) j mark has =
    marks_of-after_all (after s (Write at glyph)) deeds j mark has
marks_of-after_all s (Set variable glyph ∷ deeds) j mark has =
    marks_of-after_all (after s (Set variable glyph)) deeds j mark has
marks_of-after_all s (Emit event ∷ deeds) j mark has =
    marks_of-after_all (after s (Emit event)) deeds j mark has

pub keeps-after_all : (s : State) (deeds : List Deed) → KeepsMarks s (after_all s deeds)
keeps-after_all s deeds at mark has =
    subst (λ (d : Size). IsTrue (has_mark (marks_of (after_all s deeds).marks (index_of d at))
    mark)) (sym (dims_after_all s deeds))
    (marks_of-after_all s deeds (index_of s.dims at) mark has)

pub keeps-scanned : (rules : Rules) (n more : ℕ) (g : Sheet) (now : Now)
    → KeepsMarks (state_after_places rules n g now) (state_after_places rules (n + more) g now)
keeps-scanned rules n zero g now at mark has = rw add-zero has
keeps-scanned rules n (suc more) g now at mark has =
    let next : suc (n + more) ≡ n + suc more = omega arith in
    let s = state_after_places rules (n + more) g now in
    subst (λ (k : ℕ). IsTrue (has_mark (marks_at (state_after_places rules k g now) at) mark)) next
    (keeps-after_all s (visit_deeds rules s (place_of g.dims (n + more)) now) at mark
    (keeps-scanned rules n more g now at mark has))
