-- Marks may be added before other deeds: what they leave together is the same.
use Rattle.std.proofs.Common.{◌≡◌, ℕ, zero, suc, Bool, true, false, ◌||◌, List, [], ◌∷◌, ◌++◌, get_or, ap, sym, ◌∙◌, refl}
use Rattle.std.specs.Prelude.{Option, Some, None}
use Rattle.std.proofs.Math.ListN.{set}
use Rattle.orca_base.specs.declared.event.Event.{Event}
use Rattle.orca_base.specs.declared.place.Place.{Place}
use Rattle.orca_base.specs.declared.place.Spot.{Spot}
use Rattle.orca_base.specs.Grids.{index_of, place_in}
use Rattle.orca_base.specs.MarkSet.{MarkSet, all_marks, no_marks}
use Rattle.orca_op.specs.Deeds.{Deed, Mark, Write, Set, Emit, after, cells_after, each_below, marks_after}
use Rattle.orca_op.specs.Slate.{Slate, list_after, slate_after, slate_after_all}
use Rattle.orca_op.specs.State.{State}
use Rattle.orca_op.proofs.LawFacts.{slate_after_all-append}

-- ---- marks and marks

or_swap : (a b c : Bool) → ((a || b) || c) ≡ ((a || c) || b)
or_swap true b c = refl
or_swap false true true = refl
or_swap false true false = refl
or_swap false false true = refl
or_swap false false false = refl

marks_swap : (a b c : MarkSet) → all_marks (all_marks a b) c ≡ all_marks (all_marks a c) b
marks_swap a b c =
    rw (
      or_swap a.lock b.lock c.lock,
      or_swap a.input b.input c.input,
      or_swap a.param b.param c.param,
      or_swap a.output b.output c.output,
      or_swap a.sleep b.sleep c.sleep,
    ) refl

-- marks added to an element
more_at : List MarkSet → ℕ → MarkSet → List MarkSet
more_at xs i m = set xs i (all_marks (get_or xs i no_marks) m)

more_swap : (xs : List MarkSet) (i j : ℕ) (m k : MarkSet)
    → more_at (more_at xs i m) j k ≡ more_at (more_at xs j k) i m
unfolding more_at
more_swap [] i j m k = refl
more_swap (x ∷ xs) zero zero m k = ap (λ (y : MarkSet). y ∷ xs) (marks_swap x m k)
more_swap (x ∷ xs) zero (suc j) m k = refl
more_swap (x ∷ xs) (suc i) zero m k = refl
more_swap (x ∷ xs) (suc i) (suc j) m k = ap (λ (ys : List MarkSet). x ∷ ys) (more_swap xs i j m k)

marks_apart : (s : State) (a b : Option Place) (m k : MarkSet)
    → marks_after (record s { marks = marks_after s a m }) b k
    ≡ marks_after (record s { marks = marks_after s b k }) a m
unfolding more_at
marks_apart s None None m k = refl
marks_apart s None (Some b) m k = refl
marks_apart s (Some a) None m k = refl
marks_apart s (Some a) (Some b) m k =
    more_swap s.marks (index_of s.dims a) (index_of s.dims b) m k

-- ---- marks and any deed

marks_of_cells : (s : State) (cells : List ℕ) (at : Option Place) (m : MarkSet)
    → marks_after (record s { cells = cells }) at m ≡ marks_after s at m
marks_of_cells s cells None m = refl
marks_of_cells s cells (Some at) m = refl

cells_of_marks : (s : State) (marks : List MarkSet) (at : Option Place) (g : ℕ)
    → cells_after (record s { marks = marks }) at g ≡ cells_after s at g
cells_of_marks s marks None g = refl
cells_of_marks s marks (Some at) g = refl

marks_of_vars : (s : State) (vars : List ℕ) (at : Option Place) (m : MarkSet)
    → marks_after (record s { vars = vars }) at m ≡ marks_after s at m
marks_of_vars s vars None m = refl
marks_of_vars s vars (Some at) m = refl

marks_of_events : (s : State) (events : List Event) (at : Option Place) (m : MarkSet)
    → marks_after (record s { events = events }) at m ≡ marks_after s at m
marks_of_events s events None m = refl
marks_of_events s events (Some at) m = refl

swap : (d : Slate) (p : Spot) (m : MarkSet) (deed : Deed)
    → slate_after (slate_after d deed) (Mark p m) ≡ slate_after (slate_after d (Mark p m)) deed
unfolding after list_after
swap d p m (Mark q k) =
    ap (λ (marks : List MarkSet). record d { scan = record d.scan { marks = marks } })
    (marks_apart d.scan (place_in d.scan.dims q) (place_in d.scan.dims p) k m)
swap d p m (Write q g) =
    rw (
      marks_of_cells d.scan (cells_after d.scan (place_in d.scan.dims q) g)
          (place_in d.scan.dims p) m,
      cells_of_marks d.scan (marks_after d.scan (place_in d.scan.dims p) m)
          (place_in d.scan.dims q) g,
    ) refl
swap d p m (Set v g) =
    rw (marks_of_vars d.scan (set d.scan.vars v g) (place_in d.scan.dims p) m) refl
swap d p m (Emit e) =
    rw (marks_of_events d.scan (d.scan.events ++ e ∷ []) (place_in d.scan.dims p) m) refl

swap_all : (d : Slate) (p : Spot) (m : MarkSet) (deeds : List Deed)
    → slate_after (slate_after_all d deeds) (Mark p m)
    ≡ slate_after_all (slate_after d (Mark p m)) deeds
swap_all d p m [] = refl
swap_all d p m (x ∷ xs) =
    swap_all (slate_after d x) p m xs
    ∙ ap (λ (e : Slate). slate_after_all e xs) (swap d p m x)

-- marks that are added each before other deeds may be added before all of them
pub in_front : (d : Slate) (n : ℕ) (spot : ℕ → Spot) (m : MarkSet) (rest : ℕ → List Deed)
    → slate_after_all (slate_after_all d (each_below n (λ i. Mark (spot i) m ∷ [])))
    (each_below n rest)
    ≡ slate_after_all d (each_below n (λ i. Mark (spot i) m ∷ rest i))
in_front d zero spot m rest = refl
in_front d (suc n) spot m rest =
    let marks : List Deed = each_below n (λ i. Mark (spot i) m ∷ []) in
    let before = in_front d n spot m rest in
    let marked : Slate = slate_after_all d marks in
    rw (
      slate_after_all-append d marks (Mark (spot n) m ∷ []),
      slate_after_all-append (slate_after marked (Mark (spot n) m)) (each_below n rest) (rest n),
      slate_after_all-append d (each_below n (λ i. Mark (spot i) m ∷ rest i))
          (Mark (spot n) m ∷ rest n),
    )
    (ap (λ (e : Slate). slate_after_all e (rest n))
    (sym (swap_all marked (spot n) m (each_below n rest))
    ∙ ap (λ (e : Slate). slate_after e (Mark (spot n) m)) before))
