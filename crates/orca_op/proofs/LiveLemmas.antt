-- Bits of words, and the columns that they stand for.
use Rattle.std.proofs.Common.{◌≡◌, ℕ, ◌+◌, ◌-◌, ◌*◌, ◌/◌, ◌%◌, ◌^◌, ◌<◌, ◌≤◌, List, length, Some, None, false, refl, arith, ap, subst, sym, ◌∙◌, inl, inr, bit_and}
use Rattle.std.specs.Prelude.{◌==◌, nat_lt, slice_index, Bool, true, Option, IfSome, IsTrue, is_some, unwrap_or}
use Rattle.std.specs.Int.{bit_at, trailing_zeros, w64}
use Rattle.std.proofs.Math.Pow.{pow_mono}
use Rattle.std.proofs.lemmas.Grind.{pow_more}
use Rattle.std.proofs.lemmas.Nat.{and_le_l, pow_pos}
use Rattle.std.proofs.lemmas.Nat.Bits.{bit_at_and, bit_at_mask_inside, bit_at_mask_below, ones_shl, bit_at-lt, bit_at-zero, bit_at-trailing_zeros}
use Rattle.std.proofs.lemmas.Bool.{both_ways, cases_lt, le-ltb}
use Rattle.std.proofs.lemmas.Bool.Decides.{eqb_tells}
use Rattle.std.proofs.lemmas.List.{get_or_past}
use Rattle.orca_op.specs.First.{first_where}
use Rattle.orca_op.proofs.FirstFacts.{first_where-found, first_where-missing, first_where-none, first_where-same, first_where-longer, first_where-range, first_where-passes, first_where-before}
use Rattle.orca_op.specs.Live.{is_live, has_bit, IsLiveRow, IsSummary, next_live, HasNoLive, IsCursor, IsLeastBit}
use Rattle.orca_op.specs.State.{State}

-- a word without its low bits
abbrev pub from_bit : ℕ → ℕ → ℕ
from_bit word from = bit_and word (2 ^ 64 - 2 ^ from)

bit_inside : (word from k : ℕ) → from ≤ k → k < 64 → bit_at (from_bit word from) k ≡ bit_at word k
bit_inside word from k low high =
    omega (
      arith,
      bit_at_and word (2 ^ 64 - 2 ^ from) k,
      bit_at_mask_inside from 64 k low high,
      bit_at-lt word k,
    )

bit_below : (word from k : ℕ) → k < from → bit_at (from_bit word from) k ≡ 0
bit_below word from k below =
    omega (arith, bit_at_and word (2 ^ 64 - 2 ^ from) k, bit_at_mask_below from 64 k below)

-- where no bit is left, the word has none from there on
pub least_bit-none : (word from : ℕ) → from_bit word from ≡ 0 → IsLeastBit word from None
least_bit-none word from none k low high =
    sym (bit_inside word from k low high) ∙ (ap (λ n. bit_at n k) none ∙ bit_at-zero k)

-- the lowest bit that is left is the least from there on
pub least_bit-some : (word from : ℕ) → word < 2 ^ 64 → 0 < from_bit word from
    → IsLeastBit word from (Some (trailing_zeros w64 (from_bit word from)))
least_bit-some word from fits some =
    let least = bit_at-trailing_zeros w64 (from_bit word from) some
    (omega (arith, and_le_l word (2 ^ 64 - 2 ^ from))) in
    let low : from ≤ trailing_zeros w64 (from_bit word from) =
    elim (cases_lt (trailing_zeros w64 (from_bit word from)) from) [
      | inl below ↦ absurd (omega (arith, bit_below word from _ below, least.1))
      | inr above ↦ above
    ] in (
      low,
      least.0,
      sym (bit_inside word from _ low least.0) ∙ least.1,
      λ k above below.
          sym (bit_inside word from k above (omega (arith, least.0))) ∙ least.2 k below,
    )

-- the lowest bit of a word is the least of all
pub least_bit-whole : (word : ℕ) → word < 2 ^ 64 → 0 < word
    → IsLeastBit word 0 (Some (trailing_zeros w64 word))
least_bit-whole word fits some =
    let least = bit_at-trailing_zeros w64 word some fits in
    (omega arith, least.0, least.1, λ k low below. least.2 k below)

-- the bit of a column is one of the word that it stands in
has_bit-word : (words : List ℕ) (i k : ℕ) → i * 64 ≤ k → k < i * 64 + 64
    → has_bit words k ≡ (bit_at (slice_index words i) (k - i * 64) == 1)
has_bit-word words i k low high =
    let word : k / 64 ≡ i = omega arith in
    let bit : k % 64 ≡ k - i * 64 = omega arith in
    rw (word, bit) refl

-- a word whose bits from a column on are all off
pub passed-first : (words : List ℕ) (from i : ℕ) → i * 64 ≤ from
    → from_bit (slice_index words i) (from - i * 64) ≡ 0 → (k : ℕ) → from ≤ k → k < (i + 1) * 64
    → has_bit words k ≡ false
passed-first words from i reached none k low high =
    has_bit-word words i k (omega (arith, reached, low)) (omega arith)
    ∙ ap (λ n. n == 1) (least_bit-none (slice_index words i) (from - i * 64) none (k - i * 64)
    (omega arith) (omega arith))

-- the least bit of a word is the first of the row, where no word before it has one
pub next_bit-found : (words : List ℕ) (from i low bit : ℕ) → i < length words → low ≡ from - i * 64
    → IsLeastBit (slice_index words i) low (Some bit)
    → ((k : ℕ) → from ≤ k → k < i * 64 → has_bit words k ≡ false)
    → first_where (has_bit words) from (64 * length words - from) ≡ Some (i * 64 + bit)
next_bit-found words from i low bit inside start least before =
    let same : i * 64 + bit - i * 64 ≡ bit = omega arith in
    let here = has_bit-word words i (i * 64 + bit) (omega arith) (omega (arith, least.1)) in
    first_where-found (has_bit words) from (64 * length words - from) (i * 64 + bit)
    (omega (arith, least.0))
    (omega (arith, least.0, least.1))
    (λ k after high. elim (cases_lt k (i * 64)) [
      | inl below ↦ before k after below
      | inr above ↦
          has_bit-word words i k above (omega (arith, least.1))
          ∙ ap (λ n. n == 1) (least.3 (k - i * 64) (omega arith) (omega arith))
    ])
    (here ∙ ap (λ n. bit_at (slice_index words i) n == 1) same ∙ ap (λ n. n == 1) least.2)

-- no bit of the words, so no first
pub next_bit-missing : (words : List ℕ) (from i : ℕ) → length words ≤ i
    → ((k : ℕ) → from ≤ k → k < i * 64 → has_bit words k ≡ false)
    → first_where (has_bit words) from (64 * length words - from) ≡ None
next_bit-missing words from i past before =
    first_where-missing (has_bit words) from (64 * length words - from)
    (λ k low high. before k low (omega arith))

-- a column past the row's end isn't live
outside : (s : State) (row x : ℕ) → s.dims.w ≤ x → is_live s row x ≡ false
outside s row x past = let test : nat_lt x s.dims.w ≡ false = le-ltb x s.dims.w past in rw test refl

-- the first bit of the words of a row is its next live column
pub next_live-bit : (s : State) (row from : ℕ) (words : List ℕ) → IsLiveRow s row words
    → from ≤ s.dims.w
    → first_where (has_bit words) from (64 * length words - from) ≡ next_live s row from
unfolding next_live
next_live-bit s row from words live inside =
    let whole : 64 * length words - from ≡ (s.dims.w - from) + (64 * length words - s.dims.w) =
    omega (arith, live.size) in
    first_where-same (has_bit words) (is_live s row) from (64 * length words - from) live.bits
    ∙ (ap (first_where (is_live s row) from) whole
    ∙ first_where-longer (is_live s row) from (s.dims.w - from) (64 * length words - s.dims.w)
    (λ k past. outside s row k (omega arith)))

found_of : (test : ℕ → Bool) (from many : ℕ) (o : Option ℕ)
    → IfSome o (λ x. (from ≤ x) × (x < from + many)) → IfSome o (λ x. test x ≡ true)
    → IfSome o (λ x. (from ≤ x) × IsTrue (test x))
found_of test from many None within passes = tt
found_of test from many (Some x) within passes = (within.0, passes)

-- the next live column is one, at least `from`
pub next_live-found : (s : State) (row from : ℕ)
    → IfSome (next_live s row from) (λ x. (from ≤ x) × IsTrue (is_live s row x))
unfolding next_live
next_live-found s row from =
    found_of (is_live s row) from (s.dims.w - from)
    (first_where (is_live s row) from (s.dims.w - from))
    (first_where-range (is_live s row) from (s.dims.w - from))
    (first_where-passes (is_live s row) from (s.dims.w - from))

-- no column before the next live one is live
pub next_live-passed : (s : State) (row from : ℕ) → from ≤ s.dims.w
    → HasNoLive s row from (unwrap_or (next_live s row from) s.dims.w)
unfolding next_live
next_live-passed s row from inside x low high =
    let whole : s.dims.w ≡ from + (s.dims.w - from) = omega arith in
    first_where-before (is_live s row) from (s.dims.w - from) x low
    (subst (λ (w : ℕ). x < unwrap_or (first_where (is_live s row) from (s.dims.w - from)) w) whole
    high)

-- the bits above a bit, as they are computed
pub ahead_of : (bit : ℕ) → bit < 64
    → (2 ^ 64 - 1) * 2 ^ bit % 2 ^ 64 * 2 % 2 ^ 64 ≡ 2 ^ 64 - 2 ^ (bit + 1)
ahead_of bit few =
    let low = pow_mono {i = bit} {j = 63} (omega (arith, few)) in
    rw (ones_shl 64 bit (omega (arith, few))) (omega (arith, low, pow_pos bit, pow_more 2 bit))

-- ---- the summary of a row

-- where the summary of a row is zero, no column passes the test
pub summary-zero : (test : ℕ → Bool) (summary x : ℕ) → IsSummary test summary → summary ≡ 0
    → test x ≡ false
summary-zero test summary x is nothing =
    first_where-none test (x / 64 * 64) 64 x
    (sym (is (x / 64)) ∙ ap (λ n. n == 1) (ap (λ n. bit_at n (x / 64)) nothing ∙ bit_at-zero (x / 64)))
    (omega arith) (omega arith)

pub summary-next : (s : State) (row from summary : ℕ) → IsSummary (is_live s row) summary
    → summary ≡ 0 → next_live s row from ≡ None
unfolding next_live
summary-next s row from summary is nothing =
    first_where-missing (is_live s row) from (s.dims.w - from)
    (λ x low high. summary-zero (is_live s row) summary x is nothing)

-- the summary of the live columns is that of the words' bits
pub summary-words : (s : State) (row summary : ℕ) (words : List ℕ) → IsLiveRow s row words
    → IsSummary (is_live s row) summary → IsSummary (has_bit words) summary
summary-words s row summary words live is k =
    is k ∙ sym (ap is_some (first_where-same (has_bit words) (is_live s row) (k * 64) 64 live.bits))

-- a word that is not shown has no bit
word-none : (words : List ℕ) (summary x : ℕ) → IsSummary (has_bit words) summary
    → bit_at summary (x / 64) ≡ 0 → has_bit words x ≡ false
word-none words summary x is off =
    first_where-none (has_bit words) (x / 64 * 64) 64 x
    (sym (is (x / 64)) ∙ ap (λ n. n == 1) off) (omega arith) (omega arith)

-- a word that is shown is not zero
word-some : (words : List ℕ) (summary k : ℕ) → IsSummary (has_bit words) summary
    → bit_at summary k ≡ 1 → 0 < slice_index words k
word-some words summary k is on = elim (eqb_tells (slice_index words k) 0) [
  | inl nothing ↦
      let none : first_where (has_bit words) (k * 64) 64 ≡ None =
      first_where-missing (has_bit words) (k * 64) 64
      (λ x low high. has_bit-word words k x low high
      ∙ ap (λ n. n == 1) (ap (λ n. bit_at n (x - k * 64)) nothing.1 ∙ bit_at-zero (x - k * 64)))
      in
      absurd (both_ways _ (ap is_some none) (sym (is k) ∙ ap (λ n. n == 1) on))
  | inr some ↦ omega (arith, some.1)
]

-- the bits of a summary above a bit, as they are computed
abbrev pub later : ℕ → ℕ → ℕ
later summary i = bit_and summary ((2 ^ 64 - 1) * 2 ^ i % 2 ^ 64 * 2 % 2 ^ 64)

pub later_is : (summary i : ℕ) → i < 64 → later summary i ≡ from_bit summary (i + 1)
later_is summary i few = ap (bit_and summary) (ahead_of i few)

-- no later word is shown, so there is no later bit
pub later-missing : (words : List ℕ) (from i summary : ℕ) → IsSummary (has_bit words) summary
    → length words ≤ 16 → ((k : ℕ) → from ≤ k → k < (i + 1) * 64 → has_bit words k ≡ false)
    → i < 64 → later summary i ≡ 0
    → first_where (has_bit words) from (64 * length words - from) ≡ None
later-missing words from i summary is few before small none =
    first_where-missing (has_bit words) from (64 * length words - from)
    (λ x low high. elim (cases_lt x ((i + 1) * 64)) [
      | inl below ↦ before x low below
      | inr above ↦
          word-none words summary x is
          (least_bit-none summary (i + 1) (sym (later_is summary i small) ∙ none) (x / 64)
          (omega (arith, above))
          (omega (arith, high, few)))
    ])

-- the first later word that is shown is one of the words, and not zero
pub later-word : (words : List ℕ) (summary i : ℕ) → IsSummary (has_bit words) summary
    → summary < 2 ^ 64 → i < 64 → 0 < later summary i
    → IsLeastBit summary (i + 1) (Some (trailing_zeros w64 (later summary i)))
    × (trailing_zeros w64 (later summary i) < length words)
    × (0 < slice_index words (trailing_zeros w64 (later summary i)))
later-word words summary i is fits few some =
    let same = later_is summary i few in
    let least = subst
    (λ (n : ℕ). IsLeastBit summary (i + 1) (Some (trailing_zeros w64 n))) (sym same)
    (least_bit-some summary (i + 1) fits (omega (arith, some, same))) in
    let shown = word-some words summary (trailing_zeros w64 (later summary i)) is least.2 in (
      least,
      elim (cases_lt (trailing_zeros w64 (later summary i)) (length words)) [
        | inl inside ↦ inside
        | inr past ↦
            absurd (omega (
              arith,
              shown,
              get_or_past words (trailing_zeros w64 (later summary i)) 0 past,
            ))
      ],
      shown,
    )

-- its lowest bit is the first later bit
pub later-found : (words : List ℕ) (from i summary k : ℕ) → IsSummary (has_bit words) summary
    → from ≤ (i + 1) * 64 → ((k : ℕ) → from ≤ k → k < (i + 1) * 64 → has_bit words k ≡ false)
    → IsLeastBit summary (i + 1) (Some k) → k < length words → 0 < slice_index words k
    → slice_index words k < 2 ^ 64
    → first_where (has_bit words) from (64 * length words - from)
    ≡ Some (k * 64 + trailing_zeros w64 (slice_index words k))
later-found words from i summary k is reached before least inside some fits =
    next_bit-found words from k 0 _ inside (omega (arith, reached, least.0))
    (least_bit-whole (slice_index words k) fits some)
    (λ x low high. elim (cases_lt x ((i + 1) * 64)) [
      | inl below ↦ before x low below
      | inr above ↦
          word-none words summary x is
          (least.3 (x / 64) (omega (arith, above)) (omega (arith, high)))
    ])

-- ---- a cursor

-- it stands after a bit of a word
pub cursor_behind : (word base bit ahead : ℕ) → bit < 64 → base ≡ word * 64
    → ahead ≡ 2 ^ 64 - 2 ^ (bit + 1) → IsCursor (base + bit + 1) word base ahead
cursor_behind word base bit ahead few first bits =
    let same : base + bit + 1 - word * 64 ≡ bit + 1 = omega (arith, first) in
    record { word = omega (arith, few, first); base = first; bits = rw same bits }
