-- Deeds that write in other rows leave what a row shows: so a row may be read while rows below it
-- are written.
use Rattle.std.proofs.Common.{◌≡◌, ℕ, ◌+◌, ◌<◌, Bool, true, false, List, [], ◌∷◌, arith, ap, sym, ◌∙◌, refl, subst}
use Rattle.std.specs.Prelude.{ℤ, pos, negsuc, Option, Some, None, IfSome, if◌then◌else◌, ◌==◌}
use Rattle.std.proofs.lemmas.List.{get_or-set_other}
use Rattle.orca_base.specs.declared.place.Place.{Place}
use Rattle.orca_base.specs.declared.place.Spot.{Spot}
use Rattle.orca_base.specs.Glyphs.{empty, value}
use Rattle.orca_base.specs.Grids.{IsInside, Size, index_of, is_inside, off, place_at, place_in, right}
use Rattle.orca_base.specs.declared.marks.Mark.TheVariants.{Input, Lock, Output, Sleep}
use Rattle.orca_base.specs.MarkSet.{MarkSet, no_marks, with_mark}
use Rattle.orca_base.proofs.PlaceFacts.{index-injective, inside-place_in}
use Rattle.orca_op.specs.Deeds.{Deed, Mark, Write, Set, Emit, after, cells_after, each_below, far_at, input_at, output_at}
use Rattle.orca_op.specs.Slate.{Slate, slate_after, slate_after_all}
use Rattle.orca_op.specs.GridRules.{query_one, source, store_deeds, target}
use Rattle.orca_op.proofs.LawFacts.{Every-each, slate_after_all-each_more, each-same}
use Rattle.orca_op.specs.Laws.{Every}
use Rattle.ops_grid.specs.Each.{copy_at, gather_one, generate_at, konkat_at, store_at}
use Rattle.ops_grid.proofs.FrontLemmas.{in_front}
use Rattle.orca_op.specs.State.{State, glyph_in, peek, var_at}

-- the deed writes in another row, and sets no variable
abbrev pub Spares : ℤ → Deed → Type 0
Spares row (Mark at marks) = Unit
Spares row (Write at glyph) = at.y ≡ row → ⊥
Spares row (Set name glyph) = ⊥
Spares row (Emit event) = Unit

-- ---- the row of a place

row_if : (inside : Bool) (at p : Place) → (if inside then Some at else None) ≡ Some p → at ≡ p
row_if true at p is = cc
row_if false at p is = cc

row_of : (d : Size) (y x : ℤ) (p : Place) → place_at d y x ≡ Some p → y ≡ pos p.y
row_of d (negsuc y) x p is = cc
row_of d (pos y) (negsuc x) p is = cc
row_of d (pos y) (pos x) p is =
    ap (λ (at : Place). pos at.y) (row_if (is_inside d (record { y = y; x = x }))
    (record { y = y; x = x }) p is)

-- ---- one deed

inside_some : (d : Size) (spot : Spot) (p : Place) → place_in d spot ≡ Some p → IsInside d p
inside_some d spot p is =
    subst (λ (o : Option Place). IfSome o (IsInside d)) is (inside-place_in d spot)

spared : (s : State) (at spot : Spot) (glyph : ℕ) → (at.y ≡ spot.y → ⊥) → (a b : Option Place)
    → place_in s.dims at ≡ a → place_in s.dims spot ≡ b
    → glyph_in (record s { cells = cells_after s a glyph }) b ≡ glyph_in s b
spared s at spot glyph apart None None here there = refl
spared s at spot glyph apart None (Some q) here there = refl
spared s at spot glyph apart (Some p) None here there = refl
spared s at spot glyph apart (Some p) (Some q) here there =
    let p_in = inside_some s.dims at p here in
    let q_in = inside_some s.dims spot q there in
    get_or-set_other s.cells (index_of s.dims p) (index_of s.dims q) glyph 0
    (λ same.
    let rows = index-injective s.dims.w q.y q.x p.y p.x q_in.column p_in.column same in
    apart (row_of s.dims at.y at.x p here ∙
    (ap pos (sym rows.0) ∙ sym (row_of s.dims spot.y spot.x q there))))

pub peek-spared : (s : State) (deed : Deed) (spot : Spot) → Spares spot.y deed
    → peek (after s deed) spot ≡ peek s spot
unfolding peek after
peek-spared s (Mark at marks) spot spares = refl
peek-spared s (Write at glyph) spot spares =
    spared s at spot glyph spares (place_in s.dims at) (place_in s.dims spot) refl refl
peek-spared s (Set name glyph) spot spares = absurd spares
peek-spared s (Emit event) spot spares = refl

pub var-spared : (s : State) (deed : Deed) (row : ℤ) (name : ℕ) → Spares row deed
    → var_at (after s deed) name ≡ var_at s name
unfolding var_at after
var-spared s (Mark at marks) row name spares = refl
var-spared s (Write at glyph) row name spares = refl
var-spared s (Set set_name glyph) row name spares = absurd spares
var-spared s (Emit event) row name spares = refl

-- marks change no glyph and no variable
pub peek-marked : (d e : Slate) (at spot : Spot) (marks : MarkSet) → e ≡ slate_after d (Mark at marks)
    → peek e.scan spot ≡ peek d.scan spot
peek-marked d e at spot marks is =
    ap (λ (x : Slate). peek x.scan spot) is ∙ peek-spared d.scan (Mark at marks) spot tt

pub var-marked : (d e : Slate) (at : Spot) (marks : MarkSet) (name : ℕ)
    → e ≡ slate_after d (Mark at marks) → var_at e.scan name ≡ var_at d.scan name
var-marked d e at marks name is =
    ap (λ (x : Slate). var_at x.scan name) is ∙ var-spared d.scan (Mark at marks) (pos 0) name tt

-- ---- deeds in order

peek-all : (d : Slate) (deeds : List Deed) (spot : Spot) → Every (Spares spot.y) deeds
    → peek (slate_after_all d deeds).scan spot ≡ peek d.scan spot
peek-all d [] spot spares = refl
peek-all d (deed ∷ deeds) spot spares =
    peek-all (slate_after d deed) deeds spot spares.1 ∙ peek-spared d.scan deed spot spares.0

var-all : (d : Slate) (deeds : List Deed) (row : ℤ) (name : ℕ) → Every (Spares row) deeds
    → var_at (slate_after_all d deeds).scan name ≡ var_at d.scan name
var-all d [] row name spares = refl
var-all d (deed ∷ deeds) row name spares =
    var-all (slate_after d deed) deeds row name spares.1 ∙ var-spared d.scan deed row name spares.0

number_of : ℤ → ℕ
number_of (pos n) = n
number_of (negsuc n) = 0

-- a row further down is another
lower : (y rows : ℕ) → 0 < rows → pos (y + rows) ≡ pos (y + 0) → ⊥
unfolding number_of
lower y rows some same =
    let numbers : y + rows ≡ y + 0 = ap number_of same in omega (arith, some, numbers)

-- ---- K

store_spares : (at : Place) (i name stored : ℕ)
    → Every (Spares (pos (at.y + 0))) (store_deeds at i name stored)
unfolding store_deeds
store_spares at i name stored = by (name == empty)
  where
    by : (missing : Bool)
        → Every (Spares (pos (at.y + 0)))
        (if missing then [] else output_at (off at (pos 1) (pos i))
        ∷ Write (off at (pos 1) (pos i)) stored ∷ [])
    by true = tt
    by false = (tt, (lower at.y 1 (omega arith), tt))

-- one name more
pub store_more : (d e f : Slate) (at : Place) (i : ℕ)
    → e ≡ slate_after_all d (each_below i (store_at d.scan at))
    → f ≡ slate_after_all e (store_at e.scan at i)
    → f ≡ slate_after_all d (each_below (i + 1) (store_at d.scan at))
store_more d e f at i before done =
    let deeds : List Deed = each_below i (store_at d.scan at) in
    let spares : Every (Spares (pos (at.y + 0))) deeds =
    Every-each (Spares (pos (at.y + 0))) i (store_at d.scan at)
    (λ k below. store_spares at (k + 1) _ _) in
    let name = peek-all d deeds (right at (i + 1)) spares in
    let stored = var-all d deeds (pos (at.y + 0)) (value (peek d.scan (right at (i + 1)))) spares in
    let same : store_at (slate_after_all d deeds).scan at i ≡ store_at d.scan at i =
    rw (name, stored) refl in
    rw (slate_after_all-each_more d i (store_at d.scan at))
    (done ∙ (ap (λ (x : Slate). slate_after_all x (store_at x.scan at i)) before
    ∙ ap (slate_after_all (slate_after_all d deeds)) same))

-- names that are marked before their variables are written
pub stored_marked : (d e f : Slate) (at : Place) (n : ℕ)
    → e ≡ slate_after_all d (each_below n (λ i. input_at (right at (i + 1)) ∷ []))
    → f ≡ slate_after_all e (each_below n (store_at e.scan at))
    → f ≡ slate_after_all d (each_below n (konkat_at d.scan at))
stored_marked d e f at n marked done =
    let marks : List Deed = each_below n (λ i. input_at (right at (i + 1)) ∷ []) in
    let spares : Every (Spares (pos (at.y + 0))) marks =
    Every-each (Spares (pos (at.y + 0))) n (λ i. input_at (right at (i + 1)) ∷ [])
    (λ k below. (tt, tt)) in
    let same : each_below n (store_at (slate_after_all d marks).scan at)
    ≡ each_below n (store_at d.scan at) =
    each-same n (store_at (slate_after_all d marks).scan at) (store_at d.scan at)
    (λ i below. rw (
      peek-all d marks (right at (i + 1)) spares,
      var-all d marks (pos (at.y + 0)) (value (peek d.scan (right at (i + 1)))) spares,
    ) refl) in
    done
    ∙ (ap (λ (z : Slate). slate_after_all z (each_below n (store_at z.scan at))) marked
    ∙ (ap (slate_after_all (slate_after_all d marks)) same
    ∙ in_front d n (λ i. right at (i + 1)) (with_mark (with_mark no_marks Input) Lock)
    (store_at d.scan at)))

-- ---- G

-- one operand more
pub copy_more : (d e f : Slate) (at : Place) (y x i : ℕ)
    → e ≡ slate_after_all d (each_below i (copy_at d.scan at y x))
    → f ≡ slate_after_all e (copy_at e.scan at y x i)
    → f ≡ slate_after_all d (each_below (i + 1) (copy_at d.scan at y x))
copy_more d e f at y x i before done =
    let deeds : List Deed = each_below i (copy_at d.scan at y x) in
    let spares : Every (Spares (pos (at.y + 0))) deeds =
    Every-each (Spares (pos (at.y + 0))) i (copy_at d.scan at y x)
    (λ k below. (lower at.y (y + 1) (omega arith), tt)) in
    let operand = peek-all d deeds (right at (i + 1)) spares in
    let same : copy_at (slate_after_all d deeds).scan at y x i ≡ copy_at d.scan at y x i =
    rw operand refl in
    rw (slate_after_all-each_more d i (copy_at d.scan at y x))
    (done ∙ (ap (λ (z : Slate). slate_after_all z (copy_at z.scan at y x i)) before
    ∙ ap (slate_after_all (slate_after_all d deeds)) same))

-- marks leave what is copied
copies-marked : (d : Slate) (n : ℕ) (spot : ℕ → Spot) (m : MarkSet) (at : Place) (y x : ℕ)
    → each_below n
    (copy_at (slate_after_all d (each_below n (λ i. Mark (spot i) m ∷ []))).scan at y x)
    ≡ each_below n (copy_at d.scan at y x)
copies-marked d n spot m at y x =
    let marks : List Deed = each_below n (λ i. Mark (spot i) m ∷ []) in
    let spares : Every (Spares (pos (at.y + 0))) marks =
    Every-each (Spares (pos (at.y + 0))) n (λ i. Mark (spot i) m ∷ []) (λ k below. (tt, tt)) in
    each-same n (copy_at (slate_after_all d marks).scan at y x) (copy_at d.scan at y x)
    (λ i below. rw (peek-all d marks (right at (i + 1)) spares) refl)

-- operands and targets that are marked before the first is written
pub copied_marked : (d e f h : Slate) (at : Place) (y x n : ℕ)
    → e ≡ slate_after_all d (each_below n (λ i. input_at (right at (i + 1)) ∷ []))
    → f ≡ slate_after_all e (each_below n (λ i. far_at (target at y (i + x)) ∷ []))
    → h ≡ slate_after_all f (each_below n (copy_at f.scan at y x))
    → h ≡ slate_after_all d (each_below n (generate_at d.scan at y x))
copied_marked d e f h at y x n inputs fars done =
    let input : MarkSet = with_mark (with_mark no_marks Input) Lock in
    let far : MarkSet = with_mark (with_mark no_marks Output) Sleep in
    let turned : each_below n (λ i. far_at (target at y (i + x)) ∷ [])
    ≡ each_below n (λ i. far_at (target at y (x + i)) ∷ []) =
    each-same n (λ i. far_at (target at y (i + x)) ∷ []) (λ i. far_at (target at y (x + i)) ∷ [])
    (λ i below. ap (λ (k : ℕ). far_at (target at y k) ∷ []) (omega arith)) in
    let there : f ≡ slate_after_all e (each_below n (λ i. far_at (target at y (x + i)) ∷ [])) =
    fars ∙ ap (slate_after_all e) turned in
    let written : h ≡ slate_after_all e (each_below n
    (λ i. far_at (target at y (x + i)) ∷ copy_at e.scan at y x i)) =
    done
    ∙ (ap (λ (z : Slate). slate_after_all z (each_below n (copy_at z.scan at y x))) there
    ∙ (ap (slate_after_all (slate_after_all e
    (each_below n (λ i. far_at (target at y (x + i)) ∷ []))))
    (copies-marked e n (λ i. target at y (x + i)) far at y x)
    ∙ in_front e n (λ i. target at y (x + i)) far (copy_at e.scan at y x))) in
    let kept : each_below n (λ i. far_at (target at y (x + i)) ∷ copy_at
    (slate_after_all d (each_below n (λ i. input_at (right at (i + 1)) ∷ []))).scan at y x i)
    ≡ each_below n (λ i. far_at (target at y (x + i)) ∷ copy_at d.scan at y x i) =
    let marks : List Deed = each_below n (λ i. input_at (right at (i + 1)) ∷ []) in
    let spares : Every (Spares (pos (at.y + 0))) marks =
    Every-each (Spares (pos (at.y + 0))) n (λ i. input_at (right at (i + 1)) ∷ [])
    (λ k below. (tt, tt)) in
    each-same n _ _ (λ i below. rw (peek-all d marks (right at (i + 1)) spares) refl) in
    written
    ∙ (ap (λ (z : Slate). slate_after_all z (each_below n
    (λ i. far_at (target at y (x + i)) ∷ copy_at z.scan at y x i))) inputs
    ∙ (ap (slate_after_all (slate_after_all d
    (each_below n (λ i. input_at (right at (i + 1)) ∷ [])))) kept
    ∙ in_front d n (λ i. right at (i + 1)) input
    (λ i. far_at (target at y (x + i)) ∷ copy_at d.scan at y x i)))

-- ---- Q

-- sources that are marked before the first operand is written
pub gathered_marked : (d e f : Slate) (at : Place) (y x n : ℕ) (glyphs : ℕ → ℕ)
    → e ≡ slate_after_all d (each_below n (λ i. input_at (off at (pos y) (pos (i + (x + 1)))) ∷ []))
    → f ≡ slate_after_all e (each_below n (λ i. gather_one at n i (glyphs i)))
    → f ≡ slate_after_all d (each_below n (λ i. query_one at y x n i (glyphs i)))
gathered_marked d e f at y x n glyphs inputs done =
    let turned : each_below n (λ i. input_at (off at (pos y) (pos (i + (x + 1)))) ∷ [])
    ≡ each_below n (λ i. input_at (source at y (x + i)) ∷ []) =
    each-same n (λ i. input_at (off at (pos y) (pos (i + (x + 1)))) ∷ [])
    (λ i. input_at (source at y (x + i)) ∷ [])
    (λ i below. ap (λ (k : ℕ). input_at (off at (pos y) (pos k)) ∷ []) (omega arith)) in
    done
    ∙ (ap (λ (z : Slate). slate_after_all z (each_below n (λ i. gather_one at n i (glyphs i))))
    (inputs ∙ ap (slate_after_all d) turned)
    ∙ in_front d n (λ i. source at y (x + i)) (with_mark (with_mark no_marks Input) Lock)
    (λ i. gather_one at n i (glyphs i)))

-- states that show the same
pub konkat-same : (s t : State) (at : Place) (n : ℕ)
    → ((k : ℕ) → peek t (right at k) ≡ peek s (right at k))
    → ((name : ℕ) → var_at t name ≡ var_at s name)
    → each_below n (konkat_at t at) ≡ each_below n (konkat_at s at)
konkat-same s t at n shown stored =
    each-same n (konkat_at t at) (konkat_at s at)
    (λ i below. rw (shown (i + 1), stored (value (peek s (right at (i + 1))))) refl)

pub generate-same : (s t : State) (at : Place) (y x n : ℕ)
    → ((k : ℕ) → peek t (right at k) ≡ peek s (right at k))
    → each_below n (generate_at t at y x) ≡ each_below n (generate_at s at y x)
generate-same s t at y x n shown =
    each-same n (generate_at t at y x) (generate_at s at y x) (λ i below. rw (shown (i + 1)) refl)
