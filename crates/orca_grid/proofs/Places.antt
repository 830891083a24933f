-- The row and the column of a byte, and the first offence, from one place to the next.
use Rattle.std.proofs.Common.{length, take, ◌≡◌, ℕ, ◌+◌, ◌≤◌, ◌<◌, Bool, true, false, not, cond, List, [], ◌∷◌, ◌++◌, get_or, zero, suc, Some, None, inl, inr, refl, ap, sym, ◌∙◌, ◌&&◌, arith, add-one, add-zero, add-suc}
use Rattle.std.specs.List.{after_last, suffix_len, prefix_len}
use Rattle.std.proofs.lemmas.Bool.Decides.{nat_tests}
use Rattle.std.specs.Prelude.{if◌then◌else◌, nat_lt}
use Rattle.std.proofs.lemmas.Bool.{both_ways, cases_Bool, lt-ltb, ltb-true}
use Rattle.std.proofs.lemmas.Grind.{common_steps}
use Rattle.std.proofs.lemmas.List.{take_more, reverse-append, drop_all, drop-append-le, length_push}
use Rattle.orca_base.specs.declared.limits.TheConstants.{MAX_ROWS, MAX_COLUMNS}
use Rattle.orca_grid.specs.declared.refusal.GridRefusal.{GridRefusal}
use Rattle.orca_grid.specs.GridText.{row_before, is_line_feed, row_at, column_at, is_cell, is_bad, offence, first_offence}

-- ---- one element more at the end

suffix_len-push : (p : ℕ → Bool) (xs : List ℕ) (y : ℕ)
    → suffix_len p (xs ++ y ∷ []) ≡ cond (p y) (1 + suffix_len p xs) 0
suffix_len-push p xs y = ap (prefix_len p) (reverse-append xs (y ∷ []))

after_last-push : (p : ℕ → Bool) (xs : List ℕ) (y : ℕ)
    → after_last p (xs ++ y ∷ []) ≡ (if p y then [] else after_last p xs ++ y ∷ [])
after_last-push p xs y =
    let n = suffix_len-push (λ x. not (p x)) xs y in
    elim (cases_Bool (p y)) [
      | inl here ↦ rw (n, here) (drop_all _ (xs ++ y ∷ []) (omega arith))
      | inr other ↦ rw (n, other) (grind (arith, common_steps, length_push, drop-append-le))
    ]

pub row_before-more : (text : List ℕ) (i : ℕ) → i < length text
    → row_before text (i + 1)
    ≡ (if is_line_feed (get_or text i 0) then [] else row_before text i ++ get_or text i 0 ∷ [])
row_before-more text i h =
    rw (take_more text i 0 h) (after_last-push is_line_feed (take i text) (get_or text i 0))

-- ---- a byte that doesn't offend

pub record DoesNotOffend (text : List ℕ) (i : ℕ) : Type 0 where
  pub row : row_at text i ≤ MAX_ROWS
  pub good : is_bad text i ≡ false
  pub column : is_cell (get_or text i 0) ≡ true → column_at text i ≡ MAX_COLUMNS → ⊥

pub none-offends : (text : List ℕ) (i : ℕ) → offence text i ≡ None → DoesNotOffend text i
unfolding offence
none-offends text i e =
    record {
      row = grind (arith, nat_tests);
      good = grind (arith, nat_tests);
      column = grind (arith, nat_tests);
    }

pub offence-none : (text : List ℕ) (i : ℕ) → DoesNotOffend text i → offence text i ≡ None
unfolding offence
offence-none text i h = grind (arith, nat_tests)

-- what the test of a cell with room says
pub free_of : (byte height column : ℕ)
    → (is_cell byte && nat_lt column MAX_COLUMNS && nat_lt height MAX_ROWS) ≡ true
    → (is_cell byte ≡ true) × (column < MAX_COLUMNS) × (height < MAX_ROWS)
free_of byte height column all =
    let each = each_of _ _ _ all in
    (each.0, ltb-true column MAX_COLUMNS each.1, ltb-true height MAX_ROWS each.2)
  where
    each_of : (a b c : Bool) → (a && b && c) ≡ true → (a ≡ true) × (b ≡ true) × (c ≡ true)
    each_of true true c is = (refl, refl, is)
    each_of true false c is = cc
    each_of false b c is = cc

-- a cell of a row that has room for it
pub cell-free : (text : List ℕ) (i height column : ℕ) → height + 1 ≡ row_at text i
    → column ≡ column_at text i → is_cell (get_or text i 0) ≡ true → column < MAX_COLUMNS
    → height < MAX_ROWS → offence text i ≡ None
cell-free text i height column row at cell room high =
    offence-none text i (record {
      row = omega (arith, row, high);
      good = rw cell refl;
      column = λ is full. omega (arith, at, full, room);
    })

-- a byte that does not offend is a cell only where its row has room
pub no-cell : (text : List ℕ) (i height column : ℕ) → height + 1 ≡ row_at text i
    → column ≡ column_at text i → column ≤ MAX_COLUMNS → offence text i ≡ None
    → (is_cell (get_or text i 0) && nat_lt column MAX_COLUMNS && nat_lt height MAX_ROWS) ≡ false
    → is_cell (get_or text i 0) ≡ false
no-cell text i height column row at few good crowded =
    let free = none-offends text i good in
    elim (cases_Bool (is_cell (get_or text i 0))) [
      | inl cell ↦
          let room : column < MAX_COLUMNS =
          omega (arith, few, at, λ (full : column ≡ MAX_COLUMNS). free.column cell (sym at ∙ full))
          in
          absurd (both_ways _ crowded (rw (
            cell,
            lt-ltb column MAX_COLUMNS room,
            lt-ltb height MAX_ROWS (omega (arith, row, free.row)),
          ) refl))
      | inr other ↦ other
    ]

-- ---- the first offence

-- no byte below n offends
abbrev pub NoneOffends : List ℕ → ℕ → Type 0
NoneOffends text n = (k : ℕ) → k < n → offence text k ≡ None

pub first_offence-none : (text : List ℕ) (n : ℕ) → NoneOffends text n → first_offence text n ≡ None
unfolding first_offence
first_offence-none text zero none = refl
first_offence-none text (suc n) none =
    let before = first_offence-none text n (λ k h. none k (omega (arith, h))) in
    let here = none n (omega arith) in
    rw (before, here) refl

-- what decided decides
pub first_offence-found : (text : List ℕ) (i n : ℕ) (r : GridRefusal) → NoneOffends text i
    → offence text i ≡ Some r → first_offence text (i + 1 + n) ≡ Some r
unfolding first_offence
first_offence-found text i zero r none here =
    rw (add-zero, add-one, first_offence-none text i none, here) refl
first_offence-found text i (suc n) r none here =
    rw (add-suc (i + 1) n, first_offence-found text i n r none here) refl
