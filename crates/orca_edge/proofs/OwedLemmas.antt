-- The table of the ends that are owed: one bit of one of its numbers is set, or taken away.
use Rattle.std.proofs.Common.{◌≡◌, ◌≢◌, ◌∙◌, ℕ, ◌+◌, ◌*◌, ◌-◌, ◌%◌, ◌^◌, ◌<◌, ◌==◌, ◌&&◌, ◌||◌, not, false, List, length, refl, sym, ap, arith, bit_and, bit_or, inl, inr}
use Rattle.std.specs.Prelude.{if◌then◌else◌, slice_index, slice_set}
use Rattle.std.specs.Int.{bit_at, trailing_zeros, w128}
use Rattle.std.proofs.lemmas.Bool.Decides.{eqb_tells}
use Rattle.std.proofs.Math.Bool.{or-true, or-false, and-true, and-false}
use Rattle.std.proofs.lemmas.Grind.{get_or-set_at}
use Rattle.std.proofs.lemmas.List.{get_or-set_other}
use Rattle.std.proofs.lemmas.Nat.Bits.{bit_at-zero, bit_at_set_same, bit_at_set_other, bit_at_clear_same, bit_at_clear_other, bit_at-trailing_zeros}
use Rattle.orca_base.specs.declared.limits.TheConstants.{MAX_CHANNEL}
use Rattle.orca_edge.specs.declared.owed.Voice.{Voice}
use Rattle.orca_edge.specs.Owed.{IsVoice, IsFirst, OwesNone, is_one, is_owed}

-- a channel gets this number
written : (owed : List ℕ) (channel bits : ℕ) (voice : Voice) → channel < length owed
    → is_owed (slice_set owed channel bits) voice
    ≡ (if channel == voice.channel then bit_at bits voice.key == 1 else is_owed owed voice)
written owed channel bits voice inside = elim (eqb_tells channel voice.channel) [
  | inl same ↦
      rw same.0 (ap (λ n. bit_at n voice.key == 1)
      (get_or-set_at owed channel voice.channel bits 0 (sym same.1) inside))
  | inr differ ↦
      rw differ.0 (ap (λ n. bit_at n voice.key == 1)
      (get_or-set_other owed channel voice.channel bits 0 (λ same. differ.1 (sym same))))
]

-- the bit of a voice is set
pub missed : (owed : List ℕ) (one voice : Voice) → one.channel < length owed → IsVoice one
    → is_owed (slice_set owed one.channel
    (bit_or (slice_index owed one.channel) (1 * 2 ^ one.key % 2 ^ 128))) voice
    ≡ (is_owed owed voice || is_one one voice)
missed owed one voice inside is =
    let bits = bit_or (slice_index owed one.channel) (1 * 2 ^ one.key % 2 ^ 128) in
    let fits : one.key < 128 = omega (arith, is.key) in
    written owed one.channel bits voice inside ∙ elim (eqb_tells one.channel voice.channel) [
      | inl same ↦ rw same.0 (elim (eqb_tells one.key voice.key) [
        | inl at ↦
            let set : bit_at bits voice.key ≡ 1 =
            ap (λ k. bit_at bits k) (sym at.1)
            ∙ bit_at_set_same w128 (slice_index owed one.channel) one.key fits in
            rw (at.0, set, or-true) refl
        | inr apart ↦
            let kept : bit_at bits voice.key ≡ bit_at (slice_index owed voice.channel) voice.key =
            bit_at_set_other w128 (slice_index owed one.channel) one.key fits voice.key
            (λ at. apart.1 (sym at))
            ∙ ap (λ n. bit_at (slice_index owed n) voice.key) same.1 in
            rw (apart.0, kept, or-false) refl
      ])
      | inr differ ↦ rw (differ.0, or-false) refl
    ]

-- the bit of a voice is taken away
pub paid : (owed : List ℕ) (one voice : Voice) → one.channel < length owed → IsVoice one
    → IsVoice voice → is_owed (slice_set owed one.channel
    (bit_and (slice_index owed one.channel) (2 ^ 128 - 1 - 1 * 2 ^ one.key % 2 ^ 128))) voice
    ≡ (is_owed owed voice && not (is_one one voice))
paid owed one voice inside is other =
    let bits = bit_and (slice_index owed one.channel)
    (2 ^ 128 - 1 - 1 * 2 ^ one.key % 2 ^ 128) in
    let fits : one.key < 128 = omega (arith, is.key) in
    written owed one.channel bits voice inside ∙ elim (eqb_tells one.channel voice.channel) [
      | inl same ↦ rw same.0 (elim (eqb_tells one.key voice.key) [
        | inl at ↦
            let clear : bit_at bits voice.key ≡ 0 =
            ap (λ k. bit_at bits k) (sym at.1)
            ∙ bit_at_clear_same w128 (slice_index owed one.channel) one.key fits in
            rw (at.0, clear, and-false) refl
        | inr apart ↦
            let kept : bit_at bits voice.key ≡ bit_at (slice_index owed voice.channel) voice.key =
            bit_at_clear_other w128 (slice_index owed one.channel) one.key fits voice.key
            (omega (arith, other.key)) (λ at. apart.1 (sym at))
            ∙ ap (λ n. bit_at (slice_index owed n) voice.key) same.1 in
            rw (apart.0, kept, and-true) refl
      ])
      | inr differ ↦ rw (differ.0, and-true) refl
    ]

-- a channel whose number is zero is owed nothing
none_there : (owed : List ℕ) (voice : Voice) → slice_index owed voice.channel ≡ 0
    → is_owed owed voice ≡ false
none_there owed voice none = rw (none, bit_at-zero voice.key) refl

-- all numbers are zero
pub owes_none : (owed : List ℕ)
    → ((channel : ℕ) → channel < MAX_CHANNEL + 1 → slice_index owed channel ≡ 0) → OwesNone owed
owes_none owed none voice is =
    let here = none voice.channel (omega (arith, is.channel)) in none_there owed voice here

-- the first number that is not zero has the first end
pub first_is : (owed : List ℕ) (channel keys : ℕ) → slice_index owed channel ≡ keys → keys ≢ 0
    → keys < 2 ^ 128 → channel < MAX_CHANNEL + 1
    → ((lower : ℕ) → lower < channel → slice_index owed lower ≡ 0)
    → IsFirst owed (record { channel = channel; key = trailing_zeros w128 keys })
first_is owed channel keys here some fits inside none =
    let lowest = bit_at-trailing_zeros w128 keys (omega (arith, some)) fits in
    record {
      here = rw (here, lowest.1) refl;
      range = record { channel = omega (arith, inside); key = omega (arith, lowest.0) };
      lower_channels = λ other lower. none_there owed other (none other.channel lower);
      lower_keys = λ other same lower. rw (same, here, lowest.2 other.key lower) refl;
    }
