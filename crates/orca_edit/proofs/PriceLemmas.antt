-- Prices don't depend on notes, and their totals split at each moment.
use Rattle.std.proofs.Common.{◌≡◌, ℕ, zero, suc, ◌+◌, ◌-◌, ◌*◌, ◌<◌, ◌≤◌, List, [], ◌∷◌, ◌++◌, length, take, refl, arith, ap, sym, ◌∙◌, zero-add}
use Rattle.std.specs.Prelude.{Option, Some, None, Ok, slice_get, sum_by}
use Rattle.std.specs.List.{range_with_len}
use Rattle.std.specs.Option.{option_map_or}
use Rattle.std.proofs.lemmas.List.{take-take, take_all}
use Rattle.std.proofs.lemmas.List.Sums.{sum_by-append, sum_by-cons}
use Rattle.orca_base.specs.declared.command.Command.{Command}
use Rattle.orca_base.specs.declared.command.Entry.{Entry}
use Rattle.orca_base.specs.declared.command.Entry.TheVariants.{Fill, Put, Move, Resize, Reset, Frame, Hush}
use Rattle.orca_base.specs.declared.command.Reply.{Reply}
use Rattle.orca_base.specs.declared.limits.TheConstants.{COMMAND_PRICE, TOUCH_PRICE}
use Rattle.orca_base.specs.declared.message.Message.{Message}
use Rattle.orca_base.specs.Grids.{Sheet}
use Rattle.orca_edit.specs.Machines.{obeyed}
use Rattle.orca_edit.specs.Obeying.{MachineState, Obeyed, obey, piece_of}
use Rattle.orca_edit.specs.Pieces.{Piece, piece_after, silence}
use Rattle.orca_edit.specs.Prices.{Kept, bill, bill_of, change_price, charge, kept_after, kept_by, of_entry, moment_piece, price, total, touched}
use Rattle.orca_edit.specs.Pricing.{AgreeUpTo, IgnoresNotesOf}
use Rattle.orca_edit.proofs.FoldLemmas.{silence-closes}

-- ---- notes

touched-silence : (p : Piece) (entry : Entry) → touched p entry ≡ touched (silence p) entry
touched-silence p (Fill area glyph) = refl
touched-silence p (Put at block) = refl
touched-silence p (Move area to) = refl
touched-silence p (Resize dims) = refl
touched-silence p Reset = refl
touched-silence p Frame = refl
touched-silence p Hush = refl

price-silence : (p : Piece) (entry : Entry) → price p entry ≡ price (silence p) entry
price-silence p (Fill area glyph) = refl
price-silence p (Put at block) = refl
price-silence p (Move area to) = refl
price-silence p (Resize dims) = refl
price-silence p Reset = refl
price-silence p Frame = refl
price-silence p Hush = refl

-- a number that is that of the piece without notes
silent-number : (f : Piece → Entry → ℕ)
    → ((p : Piece) (entry : Entry) → f p entry ≡ f (silence p) entry) → IgnoresNotesOf f
silent-number f silent p q entry same =
    silent p entry ∙ (ap (λ (s : Piece). f s entry) same ∙ sym (silent q entry))

pub touched-same : IgnoresNotesOf touched
touched-same = silent-number touched touched-silence

pub change_price-same : IgnoresNotesOf change_price
change_price-same p q entry same =
    ap (λ (n : ℕ). COMMAND_PRICE + TOUCH_PRICE * n) (touched-same p q entry same)

pub price-same : IgnoresNotesOf price
price-same = silent-number price price-silence

-- ---- totals

pub piece_at-end : (m : MachineState) → moment_piece m (length m.history) ≡ piece_of m
piece_at-end m =
    ap (λ (h : List Entry). piece_after m.opened m.seed h m.closed)
    (take_all (length m.history) m.history (omega arith))

-- a range in two parts
pub range-split : (a n k : ℕ)
    → range_with_len a (n + k) ≡ range_with_len a n ++ range_with_len (a + n) k
range-split a zero k =
    let many : 0 + k ≡ k = omega arith in
    let start : a + 0 ≡ a = omega arith in
    ap (range_with_len a) many ∙ ap (λ (b : ℕ). range_with_len b k) (sym start)
range-split a (suc n) k =
    let many : suc n + k ≡ suc (n + k) = omega arith in
    let start : a + 1 + n ≡ a + suc n = omega arith in
    ap (range_with_len a) many
    ∙ (ap (λ (l : List ℕ). a ∷ l) (range-split (a + 1) n k)
    ∙ ap (λ (b : ℕ). a ∷ range_with_len (a + 1) n ++ range_with_len b k) start)

pub total-split : (f : Piece → Entry → ℕ) (m : MachineState) (from mid to : ℕ) → from ≤ mid
    → mid ≤ to → total f m from to ≡ total f m from mid + total f m mid to
unfolding total
total-split f m from mid to low high =
    let many : to - from ≡ mid - from + (to - mid) = omega arith in
    let next : from + (mid - from) ≡ mid = omega arith in
    ap (λ (n : ℕ). sum_by (of_entry f m) (range_with_len from n)) many
    ∙ (ap (sum_by (of_entry f m)) (range-split from (mid - from) (to - mid))
    ∙ (sum_by-append (of_entry f m) (range_with_len from (mid - from))
    (range_with_len (from + (mid - from)) (to - mid))
    ∙ ap (λ (b : ℕ). sum_by (of_entry f m) (range_with_len from (mid - from))
    + sum_by (of_entry f m) (range_with_len b (to - mid))) next))

pub total-none : (f : Piece → Entry → ℕ) (m : MachineState) (n : ℕ) → total f m n n ≡ 0
unfolding total
total-none f m n =
    let none : n - n ≡ 0 = omega arith in
    ap (λ (k : ℕ). sum_by (of_entry f m) (range_with_len n k)) none

pub of_entry-at : (f : Piece → Entry → ℕ) (m : MachineState) (n : ℕ) (entry : Entry)
    → slice_get m.history n ≡ Some entry → of_entry f m n ≡ f (moment_piece m n) entry
of_entry-at f m n entry is =
    ap (λ (e : Option Entry). option_map_or (f (moment_piece m n)) e 0) is

pub total-one : (f : Piece → Entry → ℕ) (m : MachineState) (n : ℕ) (entry : Entry)
    → slice_get m.history n ≡ Some entry → total f m n (n + 1) ≡ f (moment_piece m n) entry
unfolding total
total-one f m n entry is =
    let one : n + 1 - n ≡ 1 = omega arith in
    ap (λ (k : ℕ). sum_by (of_entry f m) (range_with_len n k)) one
    ∙ (zero-add (of_entry f m n) ∙ of_entry-at f m n entry is)

-- ---- sessions that agree

pub piece_at-agree : (n moment : ℕ) (m s : MachineState) → AgreeUpTo n m s → moment ≤ n
    → silence (moment_piece m moment) ≡ silence (moment_piece s moment)
piece_at-agree n moment m s agree within =
    let same : take moment m.history ≡ take moment s.history =
    sym (take-take moment n m.history within)
    ∙ (ap (λ (h : List Entry). take moment h) agree.entries
    ∙ take-take moment n s.history within) in
    silence-closes m.opened m.seed (take moment m.history) m.closed s.closed
    ∙ (ap (λ (g : Sheet). silence (piece_after g m.seed (take moment m.history) s.closed))
    agree.opened
    ∙ (ap (λ (w : ℕ). silence (piece_after s.opened w (take moment m.history) s.closed)) agree.seed
    ∙ ap (λ (h : List Entry). silence (piece_after s.opened s.seed h s.closed)) same))

slice_get-first : (h : List Entry) (n i : ℕ) → i < n → slice_get (take n h) i ≡ slice_get h i
slice_get-first h zero i below = absurd (omega (arith, below))
slice_get-first [] (suc n) i below = refl
slice_get-first (e ∷ h) (suc n) zero below = refl
slice_get-first (e ∷ h) (suc n) (suc i) below = slice_get-first h n i (omega (arith, below))

pub of_entry-agree : (f : Piece → Entry → ℕ) → IgnoresNotesOf f
    → (n i : ℕ) (m s : MachineState) → AgreeUpTo n m s → i < n → of_entry f m i ≡ of_entry f s i
of_entry-agree f ignores n i m s agree below =
    let same : slice_get m.history i ≡ slice_get s.history i =
    sym (slice_get-first m.history n i below)
    ∙ (ap (λ (h : List Entry). slice_get h i) agree.entries
    ∙ slice_get-first s.history n i below) in
    ap (λ (e : Option Entry). option_map_or (f (moment_piece m i)) e 0) same
    ∙ at_both (slice_get s.history i)
  where
    at_both : (e : Option Entry)
        → option_map_or (f (moment_piece m i)) e 0 ≡ option_map_or (f (moment_piece s i)) e 0
    at_both None = refl
    at_both (Some entry) =
        ignores (moment_piece m i) (moment_piece s i) entry
        (piece_at-agree n i m s agree (omega (arith, below)))

-- sums of numbers that are the same
sum-same : (f g : ℕ → ℕ) (a n : ℕ) → ((i : ℕ) → a ≤ i → i < a + n → f i ≡ g i)
    → sum_by f (range_with_len a n) ≡ sum_by g (range_with_len a n)
sum-same f g a zero same = refl
sum-same f g a (suc n) same =
    let rest = sum-same f g (a + 1) n
    (λ i low high. same i (omega (arith, low)) (omega (arith, high))) in
    let first = same a (omega arith) (omega arith) in
    omega (
      arith,
      sum_by-cons f a (range_with_len (a + 1) n),
      sum_by-cons g a (range_with_len (a + 1) n),
      rest,
      first,
    )

pub total-agree : (f : Piece → Entry → ℕ) → IgnoresNotesOf f
    → (n from to : ℕ) (m s : MachineState) → AgreeUpTo n m s → to ≤ n
    → total f m from to ≡ total f s from to
unfolding total
total-agree f ignores n from to m s agree within =
    sum-same (of_entry f m) (of_entry f s) from (to - from)
    (λ i low high. of_entry-agree f ignores n i m s agree (omega (arith, low, high, within)))

-- ---- bills

pub charge-reply : (m : MachineState) (k : Kept) (c : Command) (reply : Reply)
    (after : MachineState) (messages : List Message)
    → obey m c ≡ obeyed (Ok reply) after messages
    → (charge (Ok reply) m k c ≡ bill_of (Ok reply) m k c after)
    × (kept_after m k c (Ok reply) ≡ kept_by reply after k)
unfolding charge bill kept_after
charge-reply m k c reply after messages is = (
  ap (λ (o : Obeyed). bill_of o.answer m k c o.machine) is,
  ap (λ (o : Obeyed). kept_by reply o.machine k) is,
)
