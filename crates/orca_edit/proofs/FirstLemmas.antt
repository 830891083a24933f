-- The first patch that is kept, and how many cells the entries from it on touched.
use Rattle.std.proofs.Common.{◌≡◌, ℕ, zero, suc, ◌+◌, ◌-◌, ◌<◌, ◌≤◌, Bool, true, false, List, [], ◌∷◌, ◌++◌, length, take, drop, max, min, refl, arith, ap, sym, ◌∙◌, inl, inr, length-append}
use Rattle.std.specs.Prelude.{◌&&◌, Option, Some, map, nat_le, slice_get, unwrap_or}
use Rattle.std.specs.List.{range_with_len, sum}
use Rattle.std.proofs.lemmas.Bool.{and_parts, cases_lt, le-leb, leb-true}
use Rattle.std.proofs.lemmas.List.{length-take, length-take-le, take-append-le, take_all}
use Rattle.std.proofs.lemmas.List.FromFn.{length-map-range_with_len, map-range_with_len_more, take-map-range_with_len}
use Rattle.std.proofs.lemmas.List.Sums.{sum-map, sum_by-take-le, sum_by_push}
use Rattle.std.proofs.lemmas.Option.{slice_get_within}
use Rattle.orca_base.specs.declared.command.Entry.{Entry}
use Rattle.orca_base.specs.declared.command.Entry.TheVariants.{Hush}
use Rattle.orca_base.specs.declared.limits.TheConstants.{KEPT_PATCHES, KEPT_TOUCHED}
use Rattle.orca_base.specs.Histories.{few_touched, worn_of}
use Rattle.orca_base.proofs.WornFacts.{few-both, few-length, few-sum, few-worn, many-worn, worn-cases, worn-none}
use Rattle.orca_op.specs.First.{NonePasses}
use Rattle.orca_op.proofs.FirstFacts.{first_where-found, first_where-missing}
use Rattle.orca_edit.specs.Obeying.{MachineState, piece_of}
use Rattle.orca_edit.specs.Pieces.{Piece}
use Rattle.orca_edit.specs.Prices.{fits_from, least_first, of_entry, moment_piece, total, touched}
use Rattle.orca_edit.specs.Pricing.{AgreeUpTo, touched_from}
use Rattle.orca_edit.proofs.PriceLemmas.{of_entry-agree, of_entry-at, piece_at-agree, piece_at-end, touched-same}

-- ---- few cells

-- of few cells the first ones, with an entry that touched none
few-jumped : (count : ℕ) (xs : List ℕ) → few_touched xs ≡ true → count < KEPT_PATCHES
    → few_touched (take count xs ++ 0 ∷ []) ≡ true
few-jumped count xs few below =
    few-both (take count xs ++ 0 ∷ [])
    (omega (arith, below, length-append (take count xs) (0 ∷ []), length-take count xs))
    (omega (
      arith,
      few-sum xs few,
      sum_by_push (λ (x : ℕ). x) (take count xs) 0,
      sum_by-take-le (λ (x : ℕ). x) xs count,
    ))

-- ---- worn ones

worn-length : (xs : List ℕ) → worn_of xs ≤ length xs
worn-length [] = omega arith
worn-length (n ∷ ns) = elim (worn-cases n ns) [
  | inl none ↦ omega (arith, none.1)
  | inr some ↦ omega (arith, some.1, worn-length ns)
]

-- ---- the cells from an entry on

pub touched_from-length : (m : MachineState) (first : ℕ)
    → length (touched_from m first) ≡ length m.history - first
touched_from-length m first =
    length-map-range_with_len (of_entry touched m) first (length m.history - first)

touched_from-sum : (m : MachineState) (first : ℕ)
    → sum (touched_from m first) ≡ total touched m first (length m.history)
unfolding total
touched_from-sum m first =
    sum-map (of_entry touched m) (range_with_len first (length m.history - first))

drop-range : (f : ℕ → ℕ) (a n k : ℕ)
    → map f (range_with_len (a + k) (n - k)) ≡ drop k (map f (range_with_len a n))
drop-range f a n zero =
    let start : a + 0 ≡ a = omega arith in
    let many : n - 0 ≡ n = omega arith in
    ap (λ (b : ℕ). map f (range_with_len b (n - 0))) start
    ∙ ap (λ (l : ℕ). map f (range_with_len a l)) many
drop-range f a zero (suc k) =
    let many : 0 - suc k ≡ 0 = omega arith in
    ap (λ (l : ℕ). map f (range_with_len (a + suc k) l)) many
drop-range f a (suc n) (suc k) =
    let start : a + suc k ≡ a + 1 + k = omega arith in
    let many : suc n - suc k ≡ n - k = omega arith in
    ap (λ (b : ℕ). map f (range_with_len b (suc n - suc k))) start
    ∙ (ap (λ (l : ℕ). map f (range_with_len (a + 1 + k) l)) many ∙ drop-range f (a + 1) n k)

pub touched_from-later : (m : MachineState) (first count : ℕ)
    → touched_from m (first + count) ≡ drop count (touched_from m first)
touched_from-later m first count =
    let many : length m.history - (first + count) ≡ length m.history - first - count =
    omega arith in
    ap (λ (n : ℕ). map (of_entry touched m) (range_with_len (first + count) n)) many
    ∙ drop-range (of_entry touched m) first (length m.history - first) count

-- the number of an entry of the list, counted from the first one
few-from : (m : MachineState) (first k : ℕ)
    → few_touched (drop k (touched_from m first))
    ≡ (nat_le (length m.history - (first + k)) KEPT_PATCHES && fits_from m (first + k))
few-from m first k =
    let later : drop k (touched_from m first) ≡ touched_from m (first + k) =
    sym (touched_from-later m first k) in
    ap few_touched later
    ∙ (ap (λ (n : ℕ). nat_le n KEPT_PATCHES
    && nat_le (sum (touched_from m (first + k))) KEPT_TOUCHED)
    (touched_from-length m (first + k))
    ∙ ap (λ (n : ℕ). nat_le (length m.history - (first + k)) KEPT_PATCHES
    && nat_le n KEPT_TOUCHED) (touched_from-sum m (first + k)))

-- ---- the first patch

-- at the first one that stays, few entries are left, and they touched few cells
record IsLast (m : MachineState) (at : ℕ) : Type 0 where
  close : length m.history - at ≤ KEPT_PATCHES
  fits : fits_from m at ≡ true

is-last : (m : MachineState) (first : ℕ) → IsLast m (first + worn_of (touched_from m first))
is-last m first =
    let worn : ℕ = worn_of (touched_from m first) in
    let both = and_parts (nat_le (length m.history - (first + worn)) KEPT_PATCHES)
    (fits_from m (first + worn))
    (sym (few-from m first worn) ∙ few-worn (touched_from m first)) in
    record { close = leb-true _ _ both.0; fits = both.1 }

-- before it they touched too many
too-many : (m : MachineState) (first k : ℕ) → first ≤ k
    → k < first + worn_of (touched_from m first) → length m.history - k ≤ KEPT_PATCHES
    → fits_from m k ≡ false
too-many m first k above below close =
    let same : first + (k - first) ≡ k = omega (arith, above) in
    let many : few_touched (drop (k - first) (touched_from m first)) ≡ false =
    many-worn (touched_from m first) (k - first) (omega (arith, above, below)) in
    let both : (nat_le (length m.history - k) KEPT_PATCHES && fits_from m k) ≡ false =
    ap (λ (n : ℕ). nat_le (length m.history - n) KEPT_PATCHES && fits_from m n) (sym same)
    ∙ (sym (few-from m first (k - first)) ∙ many) in
    ap (λ (b : Bool). b && fits_from m k) (sym (le-leb _ _ close)) ∙ both

pub first-worn : (m : MachineState) (first : ℕ) → first ≤ length m.history
    → least_first m first ≡ first + worn_of (touched_from m first)
unfolding least_first
first-worn m first within =
    let n : ℕ = length m.history in
    let least : ℕ = max first (n - KEPT_PATCHES) in
    let at : ℕ = first + worn_of (touched_from m first) in
    let last : IsLast m at = is-last m first in
    let up : at ≤ n =
    omega (arith, within, worn-length (touched_from m first), touched_from-length m first) in
    let low : least ≤ at = omega (arith, last.close, up) in
    let before : NonePasses (fits_from m) least at =
    λ k above below. too-many m first k (omega (arith, above)) below (omega (arith, above)) in
    elim (cases_lt at n) [
      | inl below ↦
          ap (λ (o : Option ℕ). unwrap_or o n)
          (first_where-found (fits_from m) least (n - least) at low (omega (arith, below, low))
          before last.fits)
      | inr past ↦
          let end : least + (n - least) ≤ at = omega (arith, past, low, up) in
          ap (λ (o : Option ℕ). unwrap_or o n)
          (first_where-missing (fits_from m) least (n - least)
          (λ k above below. before k above (omega (arith, below, end))))
          ∙ omega (arith, past, up)
    ]

-- ---- one entry more, and jumps

map-same : (f g : ℕ → ℕ) (a n : ℕ) → ((i : ℕ) → a ≤ i → i < a + n → f i ≡ g i)
    → map f (range_with_len a n) ≡ map g (range_with_len a n)
map-same f g a zero same = refl
map-same f g a (suc n) same =
    ap (λ (x : ℕ). x ∷ map f (range_with_len (a + 1) n)) (same a (omega arith) (omega arith))
    ∙ ap (λ (xs : List ℕ). g a ∷ xs)
    (map-same f g (a + 1) n (λ i low high. same i (omega (arith, low)) (omega (arith, high))))

slice_get-end : (h : List Entry) (entry : Entry)
    → slice_get (h ++ entry ∷ []) (length h) ≡ Some entry
slice_get-end [] entry = refl
slice_get-end (e ∷ h) entry = slice_get-end h entry

-- sessions that agree up to n, of which one has an entry more there
touched_from-next : (n : ℕ) (m s : MachineState) (entry : Entry) (first : ℕ) → AgreeUpTo n m s
    → slice_get s.history n ≡ Some entry → length s.history ≡ n + 1 → first ≤ n
    → touched_from s first
    ≡ map (of_entry touched m) (range_with_len first (n - first))
    ++ touched (moment_piece m n) entry ∷ []
touched_from-next n m s entry first agree is long within =
    let many : length s.history - first ≡ n - first + 1 = omega (arith, long, within) in
    ap (λ (k : ℕ). map (of_entry touched s) (range_with_len first k)) many
    ∙ (map-range_with_len_more (of_entry touched s) first (n - first) n (omega (arith, within))
    ∙ (ap (λ (xs : List ℕ). xs ++ of_entry touched s n ∷ [])
    (map-same (of_entry touched s) (of_entry touched m) first (n - first)
    (λ i low high. sym (of_entry-agree touched touched-same n i m s agree
    (omega (arith, low, high, within)))))
    ∙ ap (λ (x : ℕ). map (of_entry touched m) (range_with_len first (n - first)) ++ x ∷ [])
    (of_entry-at touched s n entry is
    ∙ touched-same (moment_piece s n) (moment_piece m n) entry
    (sym (piece_at-agree n n m s agree (omega arith))))))

pub touched_from-more : (m s : MachineState) (entry : Entry) (first : ℕ) → m.opened ≡ s.opened
    → m.seed ≡ s.seed → s.history ≡ m.history ++ entry ∷ [] → first ≤ length m.history
    → touched_from s first ≡ touched_from m first ++ touched (piece_of m) entry ∷ []
touched_from-more m s entry first opened seed more within =
    let n : ℕ = length m.history in
    let agree : AgreeUpTo n m s = record {
      opened = opened;
      seed = seed;
      entries = sym (ap (λ (h : List Entry). take n h) more
          ∙ take-append-le n m.history (entry ∷ []) (omega arith));
    } in
    touched_from-next n m s entry first agree
    (ap (λ (h : List Entry). slice_get h n) more ∙ slice_get-end m.history entry)
    (omega (arith, ap length more, length-append m.history (entry ∷ []))) within
    ∙ ap (λ (p : Piece). touched_from m first ++ touched p entry ∷ []) (piece_at-end m)

-- the entries after a jump
record IsJumped (m s : MachineState) (moment : ℕ) : Type 0 where
  agree : AgreeUpTo moment m s
  hush : slice_get s.history moment ≡ Some Hush
  long : length s.history ≡ moment + 1

is-jumped : (m s : MachineState) (moment : ℕ) → m.opened ≡ s.opened → m.seed ≡ s.seed
    → s.history ≡ take moment m.history ++ Hush ∷ [] → moment < length m.history
    → IsJumped m s moment
is-jumped m s moment opened seed cut below =
    let h : List Entry = take moment m.history in
    let long : length h ≡ moment = length-take-le moment m.history (omega (arith, below)) in
    record {
      agree = record {
        opened = opened;
        seed = seed;
        entries = sym (ap (λ (l : List Entry). take moment l) cut
            ∙ (take-append-le moment h (Hush ∷ []) (omega (arith, long))
            ∙ take_all moment h (omega (arith, long))));
      };
      hush = ap (λ (l : List Entry). slice_get l moment) cut
          ∙ (ap (λ (i : ℕ). slice_get (h ++ Hush ∷ []) i) (sym long) ∙ slice_get-end h Hush);
      long = omega (arith, ap length cut, length-append h (Hush ∷ []), long);
    }

pub touched_from-jumped : (m s : MachineState) (moment first : ℕ) → m.opened ≡ s.opened
    → m.seed ≡ s.seed → s.history ≡ take moment m.history ++ Hush ∷ []
    → moment < length m.history
    → touched_from s (min first moment) ≡ take (moment - first) (touched_from m first) ++ 0 ∷ []
touched_from-jumped m s moment first opened seed cut below =
    let jumped = is-jumped m s moment opened seed cut below in
    touched_from-next moment m s Hush (min first moment) jumped.agree jumped.hush jumped.long
    (omega arith)
    ∙ ap (λ (xs : List ℕ). xs ++ 0 ∷ []) (elim (cases_lt moment first) [
      | inl before ↦
          let none : moment - min first moment ≡ 0 = omega (arith, before) in
          let none-too : moment - first ≡ 0 = omega (arith, before) in
          ap (λ (k : ℕ). map (of_entry touched m) (range_with_len (min first moment) k)) none
          ∙ ap (λ (k : ℕ). take k (touched_from m first)) (sym none-too)
      | inr above ↦
          let same : min first moment ≡ first = omega (arith, above) in
          ap (λ (k : ℕ). map (of_entry touched m) (range_with_len k (moment - k))) same
          ∙ sym (take-map-range_with_len (of_entry touched m) first (length m.history - first)
          (moment - first) (omega (arith, above, below)))
    ])

pub jump_wears_none : (m s : MachineState) (moment first : ℕ) → m.opened ≡ s.opened
    → m.seed ≡ s.seed → s.history ≡ take moment m.history ++ Hush ∷ []
    → moment < length m.history → few_touched (touched_from m first) ≡ true
    → least_first s (min first moment) ≡ min first moment
jump_wears_none m s moment first opened seed cut below few =
    let jumped = is-jumped m s moment opened seed cut below in
    let none : worn_of (touched_from s (min first moment)) ≡ 0 =
    ap worn_of (touched_from-jumped m s moment first opened seed cut below)
    ∙ worn-none (take (moment - first) (touched_from m first) ++ 0 ∷ [])
    (few-jumped (moment - first) (touched_from m first) few
    (omega (arith, few-length (touched_from m first) few, touched_from-length m first, below))) in
    first-worn s (min first moment) (omega (arith, jumped.long))
    ∙ omega (arith, none)

pub touched_from-hush : (m : MachineState)
    → slice_get m.history (length m.history - 1) ≡ Some Hush
    → touched_from m (length m.history - 1) ≡ 0 ∷ []
touched_from-hush m is =
    let n : ℕ = length m.history in
    let below : n - 1 < n = slice_get_within m.history (n - 1) Hush is in
    let one : n - (n - 1) ≡ 1 = omega (arith, below) in
    ap (λ (k : ℕ). map (of_entry touched m) (range_with_len (n - 1) k)) one
    ∙ ap (λ (x : ℕ). x ∷ []) (of_entry-at touched m (n - 1) Hush is)
