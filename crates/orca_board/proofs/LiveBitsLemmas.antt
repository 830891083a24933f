-- One bit of a word, the words of which none is set, and the summary of a row: which of its words
-- are not zero.
use mir.Val.{bool_byte}
use Rattle.std.proofs.Common.{◌≡◌, ◌≢◌, None, ◌∙◌, ℕ, zero, suc, ◌+◌, ◌-◌, ◌*◌, ◌%◌, ◌/◌, ◌^◌, ◌<◌, ◌==◌, ◌&&◌, not, Bool, true, false, List, take, drop, refl, subst, sym, ap, arith, bit_or, bit_xor, inl, inr, replicate}
use Rattle.std.specs.Int.{bit_at, trailing_zeros, w64}
use Rattle.std.specs.Prelude.{if◌then◌else◌, length, nat_lt, slice_index, slice_set}
use Rattle.orca_base.specs.Glyphs.{IsGlyph, is_operator}
use Rattle.orca_base.specs.declared.limits.TheConstants.{LIVE_WORDS, MAX_COLUMNS, MAX_ROWS, ROW_WORDS, WORD_COLUMNS}
use Rattle.orca_op.specs.First.{first_where}
use Rattle.orca_op.specs.Live.{has_bit, word_has, IsSummary}
use Rattle.orca_op.proofs.FirstFacts.{first_where-missing, first_where-some}
use Rattle.orca_board.specs.LiveBits.{AreLiveBits, no_bits}
use Rattle.std.proofs.lemmas.Bool.Decides.{eqb_tells}
use Rattle.std.proofs.lemmas.Bool.{both_ways, cases_lt, le-ltb, lt-ltb}
use Rattle.std.proofs.lemmas.Grind.{get_or-set_at}
use Rattle.std.proofs.lemmas.List.{get_or-drop, get_or-set_other, get_or-take, length-set}
use Rattle.std.proofs.lemmas.Nat.{one_shl}
use Rattle.std.proofs.lemmas.Nat.Bits.{bit_at_or, bit_at_xor, bit_at-lt, bit_at-zero, bit_at-pow_same, bit_at-pow_other, bit_at-trailing_zeros}

apart : (i k : ℕ) → (i == k) ≡ false → i ≡ k → ⊥
apart i k other same = elim (eqb_tells i k) [
  | inl is ↦ both_ways _ other is.0
  | inr not ↦ not.1 same
]

unequal : (i k : ℕ) → i ≢ k → (i == k) ≡ false
unequal i k other = elim (eqb_tells i k) [
  | inl is ↦ absurd (other is.1)
  | inr not ↦ not.0
]

-- with the bit
pub with_here : (word k : ℕ) → (bit_at (bit_or word (2 ^ k)) k == 1) ≡ true
with_here word k =
    let one : bit_at (bit_or word (2 ^ k)) k ≡ 1 =
    omega (arith, bit_at_or word (2 ^ k) k, bit_at-pow_same k, bit_at-lt word k) in
    rw one refl

pub with_other : (word k i : ℕ) → (i == k) ≡ false → bit_at (bit_or word (2 ^ k)) i ≡ bit_at word i
with_other word k i other =
    omega (
      arith,
      bit_at_or word (2 ^ k) i,
      bit_at-pow_other k i (apart i k other),
      bit_at-lt word
          i,
    )

-- without it
pub without_here : (word k : ℕ) → (bit_at (bit_xor (bit_or word (2 ^ k)) (2 ^ k)) k == 1) ≡ false
without_here word k =
    let none : bit_at (bit_xor (bit_or word (2 ^ k)) (2 ^ k)) k ≡ 0 =
    omega (
      arith,
      bit_at_xor (bit_or word (2 ^ k)) (2 ^ k) k,
      bit_at_or word (2 ^ k) k,
      bit_at-pow_same k,
      bit_at-lt word k,
    ) in
    rw none refl

pub without_other : (word k i : ℕ) → (i == k) ≡ false
    → bit_at (bit_xor (bit_or word (2 ^ k)) (2 ^ k)) i ≡ bit_at word i
without_other word k i other =
    omega (
      arith,
      bit_at_xor (bit_or word (2 ^ k)) (2 ^ k) i,
      with_other word k i other,
      bit_at-pow_other k i (apart i k other),
      bit_at-lt word i,
    )

-- a bit that was not set, set or left
pub or_here : (word k one : ℕ) (on : Bool) → k < 64 → one ≡ bool_byte on → bit_at word k ≡ 0
    → (bit_at (bit_or word ((one * 2 ^ k) % 2 ^ 64)) k == 1) ≡ on
or_here word k one true few is off = rw (is, one_shl k 64 few) (with_here word k)
or_here word k one false few is off =
    let nothing : (0 * 2 ^ k) % 2 ^ 64 ≡ 0 = omega arith in
    let left : bit_at (bit_or word 0) k ≡ 0 =
    omega (arith, bit_at_or word 0 k, bit_at-zero k, off) in
    rw (is, nothing, left) refl

pub or_other : (word k one : ℕ) (on : Bool) (i : ℕ) → k < 64 → one ≡ bool_byte on
    → (i == k) ≡ false → bit_at (bit_or word ((one * 2 ^ k) % 2 ^ 64)) i ≡ bit_at word i
or_other word k one true i few is other = rw (is, one_shl k 64 few) (with_other word k i other)
or_other word k one false i few is other =
    let nothing : (0 * 2 ^ k) % 2 ^ 64 ≡ 0 = omega arith in
    let left : bit_at (bit_or word 0) i ≡ bit_at word i =
    omega (arith, bit_at_or word 0 i, bit_at-zero i, bit_at-lt word i) in
    rw (is, nothing) left

-- no bit of no bits
pub off-none : (n : ℕ) → has_bit no_bits n ≡ false
unfolding no_bits
off-none n =
    let none : slice_index no_bits (n / 64) ≡ 0 =
    zeros LIVE_WORDS (n / 64) in rw (none, bit_at-zero (n % 64)) refl
  where
    zeros : (k i : ℕ) → slice_index (replicate k 0) i ≡ 0
    zeros zero i = refl
    zeros (suc k) zero = refl
    zeros (suc k) (suc i) = zeros k i

-- a word is written, with one bit of it set or taken away
pub bit-written : (words : List ℕ) (number bits : ℕ) (on : Bool) (n : ℕ)
    → number / WORD_COLUMNS < length words → (bit_at bits (number % WORD_COLUMNS) == 1) ≡ on
    → ((k : ℕ) → (k == number % WORD_COLUMNS) ≡ false
    → bit_at bits k ≡ bit_at (slice_index words (number / WORD_COLUMNS)) k)
    → has_bit (slice_set words (number / WORD_COLUMNS) bits) n
    ≡ (if n == number then on else has_bit words n)
bit-written words number bits on n inside here other =
    elim (eqb_tells (n / WORD_COLUMNS) (number / WORD_COLUMNS)) [
      | inl same ↦
          let written : slice_index (slice_set words (number / WORD_COLUMNS) bits) (n / WORD_COLUMNS)
          ≡ bits =
          get_or-set_at words (number / WORD_COLUMNS) (n / WORD_COLUMNS) bits 0 same.1 inside in
          ap (λ m. bit_at m (n % WORD_COLUMNS) == 1) written ∙ elim (eqb_tells n number) [
            | inl at ↦ ap (λ m. bit_at bits (m % WORD_COLUMNS) == 1) at.1 ∙ (here ∙ rw at.0 refl)
            | inr differ ↦
                rw differ.0 (ap (λ m. m == 1) (other (n % WORD_COLUMNS)
                (unequal (n % WORD_COLUMNS) (number % WORD_COLUMNS)
                (λ bit. differ.1 (omega (arith, bit, same.1)))))
                ∙ ap (λ m. bit_at (slice_index words m) (n % WORD_COLUMNS) == 1) (sym same.1))
          ]
      | inr differ ↦
          rw (unequal n number (λ at. differ.1 (ap (λ m. m / WORD_COLUMNS) at)))
          (ap (λ m. bit_at m (n % WORD_COLUMNS) == 1)
          (get_or-set_other words (number / WORD_COLUMNS) (n / WORD_COLUMNS) bits 0 differ.1))
    ]

-- a word is written, whose bits are those of its cells
pub word-set : (words cells : List ℕ) (word bits n : ℕ) → word < length words
    → ((k : ℕ) → k < WORD_COLUMNS → (bit_at bits k == 1) ≡ is_operator (slice_index cells k))
    → has_bit (slice_set words word bits) n ≡ (if n / WORD_COLUMNS == word
    then is_operator (slice_index cells (n % WORD_COLUMNS)) else has_bit words n)
word-set words cells word bits n inside are = elim (eqb_tells (n / WORD_COLUMNS) word) [
  | inl same ↦
      let written : slice_index (slice_set words word bits) (n / WORD_COLUMNS) ≡ bits =
      get_or-set_at words word (n / WORD_COLUMNS) bits 0 same.1 inside in
      rw same.0 (ap (λ m. bit_at m (n % WORD_COLUMNS) == 1) written
      ∙ are (n % WORD_COLUMNS) (omega arith))
  | inr differ ↦
      rw differ.0 (ap (λ m. bit_at m (n % WORD_COLUMNS) == 1)
      (get_or-set_other words word (n / WORD_COLUMNS) bits 0 differ.1))
]

-- the bit of one cell more
pub bits-more : (cells : List ℕ) (word new k cell : ℕ) → cell ≡ slice_index cells k
    → (bit_at new k == 1) ≡ is_operator cell
    → ((j : ℕ) → (j == k) ≡ false → bit_at new j ≡ bit_at word j)
    → ((j : ℕ) → j < k → (bit_at word j == 1) ≡ is_operator (slice_index cells j))
    → (j : ℕ) → j < k + 1 → (bit_at new j == 1) ≡ is_operator (slice_index cells j)
bits-more cells word new k cell is here other before j below = elim (eqb_tells j k) [
  | inl same ↦
      ap (λ i. bit_at new i == 1) same.1
      ∙ (here ∙ (ap is_operator is ∙ ap (λ i. is_operator (slice_index cells i)) (sym same.1)))
  | inr differ ↦
      ap (λ m. m == 1) (other j differ.0) ∙ before j (omega (arith, below, differ.1))
]

-- one glyph more
pub glyphs-more : (cells : List ℕ) (k cell : ℕ) → cell ≡ slice_index cells k → IsGlyph cell
    → ((j : ℕ) → j < k → IsGlyph (slice_index cells j))
    → (j : ℕ) → j < k + 1 → IsGlyph (slice_index cells j)
glyphs-more cells k cell is glyph before j below = elim (eqb_tells j k) [
  | inl same ↦ subst IsGlyph (is ∙ ap (λ i. slice_index cells i) (sym same.1)) glyph
  | inr differ ↦ before j (omega (arith, below, differ.1))
]

-- the bits of the cells of one word more
pub bits-laid : (cells old new part : List ℕ) (word n : ℕ)
    → ((j : ℕ) → j < WORD_COLUMNS
    → slice_index part j ≡ slice_index cells (word * WORD_COLUMNS + j))
    → has_bit new n ≡ (if n / WORD_COLUMNS == word
    then is_operator (slice_index part (n % WORD_COLUMNS)) else has_bit old n)
    → (n / WORD_COLUMNS ≢ word → has_bit old n ≡ is_operator (slice_index cells n))
    → has_bit new n ≡ is_operator (slice_index cells n)
bits-laid cells old new part word n are written apart =
    elim (eqb_tells (n / WORD_COLUMNS) word) [
      | inl same ↦
          let number : word * WORD_COLUMNS + n % WORD_COLUMNS ≡ n = omega (arith, same.1) in
          (rw same.0 at written)
          ∙ (ap is_operator (are (n % WORD_COLUMNS) (omega arith))
          ∙ ap (λ i. is_operator (slice_index cells i)) number)
      | inr differ ↦ (rw differ.0 at written) ∙ apart differ.1
    ]

-- the cells of a word, as the code cuts them out
pub word-cells : (cells : List ℕ) (word columns j : ℕ) → columns ≡ WORD_COLUMNS → j < WORD_COLUMNS
    → slice_index (take (word * columns + columns - word * columns) (drop (word * columns) cells)) j
    ≡ slice_index cells (word * WORD_COLUMNS + j)
word-cells cells word columns j same few =
    let many : word * WORD_COLUMNS + WORD_COLUMNS - word * WORD_COLUMNS ≡ WORD_COLUMNS =
    omega arith in
    rw (same, many) (get_or-take WORD_COLUMNS (drop (word * WORD_COLUMNS) cells) j 0 few
    ∙ get_or-drop (word * WORD_COLUMNS) cells j 0)

-- ---- which words of a row are not zero

-- a word that is not written shows as before
shown_apart : (words : List ℕ) (word bits row k : ℕ) → (k < ROW_WORDS → row * ROW_WORDS + k ≢ word)
    → (nat_lt k ROW_WORDS && not (slice_index words (row * ROW_WORDS + k) == 0))
    ≡ (nat_lt k ROW_WORDS
    && not (slice_index (slice_set words word bits) (row * ROW_WORDS + k) == 0))
shown_apart words word bits row k apart = elim (cases_lt k ROW_WORDS) [
  | inl few ↦ rw (get_or-set_other words word (row * ROW_WORDS + k) bits 0 (apart few)) refl
  | inr past ↦ rw (le-ltb k ROW_WORDS past) refl
]

-- a word is written, and its bit of the row's summary with it
pub word-written : (words rows : List ℕ) (word bits summary : ℕ) → AreLiveBits words rows
    → word < LIVE_WORDS → (bit_at summary (word % ROW_WORDS) == 1) ≡ not (bits == 0)
    → ((k : ℕ) → (k == word % ROW_WORDS) ≡ false
    → bit_at summary k ≡ bit_at (slice_index rows (word / ROW_WORDS)) k)
    → AreLiveBits (slice_set words word bits) (slice_set rows (word / ROW_WORDS) summary)
word-written words rows word bits summary are inside here other =
    record {
      words_whole = length-set words word bits ∙ are.words_whole;
      rows_whole = length-set rows (word / ROW_WORDS) summary ∙ are.rows_whole;
      shown = λ row k few. elim (eqb_tells row (word / ROW_WORDS)) [
        | inl same ↦
            let now : slice_index (slice_set rows (word / ROW_WORDS) summary) row ≡ summary =
            get_or-set_at rows (word / ROW_WORDS) row summary 0 same.1
            (omega (arith, are.rows_whole, few, same.1)) in
            ap (λ n. bit_at n k == 1) now ∙ elim (eqb_tells k (word % ROW_WORDS)) [
              | inl there ↦
                  let written : slice_index (slice_set words word bits) (row * ROW_WORDS + k)
                  ≡ bits =
                  get_or-set_at words word (row * ROW_WORDS + k) bits 0
                  (omega (arith, same.1, there.1)) (omega (arith, are.words_whole, inside)) in
                  ap (λ n. bit_at summary n == 1) there.1 ∙ (here
                  ∙ (rw (written, lt-ltb k ROW_WORDS (omega (arith, there.1))) refl))
              | inr differ ↦
                  ap (λ n. n == 1) (other k differ.0)
                  ∙ (ap (λ n. bit_at (slice_index rows n) k == 1) (sym same.1)
                  ∙ (are.shown row k few
                  ∙ shown_apart words word bits row k
                  (λ less at. differ.1 (omega (arith, at, less)))))
            ]
        | inr differ ↦
            ap (λ n. bit_at n k == 1)
            (get_or-set_other rows (word / ROW_WORDS) row summary 0 differ.1)
            ∙ (are.shown row k few
            ∙ shown_apart words word bits row k (λ less at. differ.1 (omega (arith, at, less))))
      ];
    }

-- the columns of a row in the largest grid whose bits are set
abbrev pub bit_of : List ℕ → ℕ → ℕ → Bool
bit_of words row x = nat_lt x MAX_COLUMNS && has_bit words (row * MAX_COLUMNS + x)

-- a column's bit is one of the word that it stands in
bit_of-word : (words : List ℕ) (row x : ℕ) → x < MAX_COLUMNS
    → bit_of words row x
    ≡ (bit_at (slice_index words (row * ROW_WORDS + x / WORD_COLUMNS)) (x % WORD_COLUMNS) == 1)
bit_of-word words row x few =
    let word : (row * MAX_COLUMNS + x) / WORD_COLUMNS ≡ row * ROW_WORDS + x / WORD_COLUMNS =
    omega arith in
    let bit : (row * MAX_COLUMNS + x) % WORD_COLUMNS ≡ x % WORD_COLUMNS = omega arith in
    rw (lt-ltb x MAX_COLUMNS few, word, bit) refl

-- a word that is zero has no column with a bit, and another one has some
word-shown : (words : List ℕ) (row k : ℕ) → k < ROW_WORDS
    → slice_index words (row * ROW_WORDS + k) < 2 ^ 64
    → not (slice_index words (row * ROW_WORDS + k) == 0) ≡ word_has (bit_of words row) k
word-shown words row k few fits = elim (eqb_tells (slice_index words (row * ROW_WORDS + k)) 0) [
  | inl nothing ↦
      let none : first_where (bit_of words row) (k * WORD_COLUMNS) WORD_COLUMNS ≡ None =
      first_where-missing (bit_of words row) (k * WORD_COLUMNS) WORD_COLUMNS
      (λ x low high.
      let same : x / WORD_COLUMNS ≡ k = omega (arith, low, high) in
      bit_of-word words row x (omega (arith, few, high))
      ∙ (rw (same, nothing.1, bit_at-zero (x % WORD_COLUMNS)) refl))
      in
      rw (nothing.0, none) refl
  | inr some ↦
      let bit = bit_at-trailing_zeros w64 (slice_index words (row * ROW_WORDS + k))
      (omega (arith, some.1)) fits in
      let column =
      k * WORD_COLUMNS + trailing_zeros w64 (slice_index words (row * ROW_WORDS + k)) in
      let word : column / WORD_COLUMNS ≡ k = omega (arith, bit.0) in
      let place : column % WORD_COLUMNS
      ≡ trailing_zeros w64 (slice_index words (row * ROW_WORDS + k)) = omega (arith, bit.0) in
      let on : bit_of words row column ≡ true =
      bit_of-word words row column (omega (arith, few, bit.0)) ∙ (rw (word, place, bit.1) refl) in
      rw some.0 (sym (first_where-some (bit_of words row) (k * WORD_COLUMNS) WORD_COLUMNS column
      (omega arith) (omega (arith, bit.0)) on))
]

-- the number that is kept for a row is its summary
pub summary-told : (words rows : List ℕ) (row : ℕ) → AreLiveBits words rows → row < MAX_ROWS
    → ((i : ℕ) → slice_index words i < 2 ^ 64)
    → IsSummary (bit_of words row) (slice_index rows row)
summary-told words rows row are few fits k = are.shown row k few ∙ elim (cases_lt k ROW_WORDS) [
  | inl less ↦
      rw (lt-ltb k ROW_WORDS less) (word-shown words row k less (fits (row * ROW_WORDS + k)))
  | inr past ↦
      let none : first_where (bit_of words row) (k * WORD_COLUMNS) WORD_COLUMNS ≡ None =
      first_where-missing (bit_of words row) (k * WORD_COLUMNS) WORD_COLUMNS
      (λ x low high. rw (le-ltb x MAX_COLUMNS (omega (arith, past, low))) refl)
      in
      rw (le-ltb k ROW_WORDS past, none) refl
]
