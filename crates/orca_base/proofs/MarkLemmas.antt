-- Marks as bits: the set of both bytes, a mark more, and a test.
use Rattle.std.proofs.Common.{◌≡◌, ℕ, zero, suc, ◌<◌, not, ◌==◌, ◌||◌, arith, ap, ◌∙◌, refl, bit_or, bit_and}
use Rattle.std.specs.Prelude.{max}
use Rattle.std.specs.Int.{bit_at}
use Rattle.std.proofs.lemmas.Nat.Bits.{bit_at_or, bit_at-lt}
use Rattle.std.proofs.lemmas.Bool.{agree_below_at}
use Rattle.std.proofs.Math.Bool.{or-true, or-false}
use Rattle.orca_base.specs.MarkSet.{all_marks, with_mark, has_mark, is_marked}
use Rattle.orca_base.specs.MarkBits.{marks_of, bit_of}
use Rattle.orca_base.specs.declared.marks.Mark.{Mark}
use Rattle.orca_base.specs.declared.marks.Mark.TheVariants.{Lock, Input, Param, Output, Sleep}

or_test : (x y : ℕ) → x < 2 → y < 2 → (max x y == 1) ≡ ((x == 1) || (y == 1))
or_test zero zero a b = refl
or_test zero (suc zero) a b = refl
or_test (suc zero) zero a b = refl
or_test (suc zero) (suc zero) a b = refl
or_test (suc (suc x)) y a b = absurd (omega (arith, a))
or_test x (suc (suc y)) a b = absurd (omega (arith, b))

or_bit : (a b i : ℕ) → (bit_at (bit_or a b) i == 1) ≡ ((bit_at a i == 1) || (bit_at b i == 1))
or_bit a b i = ap (λ n. n == 1) (bit_at_or a b i) ∙ or_test (bit_at a i) (bit_at b i)
    (bit_at-lt a i) (bit_at-lt b i)

pub marks_or : (a b : ℕ) → marks_of (bit_or a b) ≡ all_marks (marks_of a) (marks_of b)
marks_or a b = rw (or_bit a b 0, or_bit a b 1, or_bit a b 2, or_bit a b 3, or_bit a b 4) refl

pub marks_with : (n : ℕ) (m : Mark) → marks_of (bit_or n (bit_of m)) ≡ with_mark (marks_of n) m
marks_with n Lock = marks_or n 1
    ∙ rw (
      or-true (bit_at n 0 == 1),
      or-false (bit_at n 1 == 1),
      or-false (bit_at n 2 == 1),
      or-false (bit_at n 3 == 1),
      or-false (bit_at n 4 == 1),
    ) refl
marks_with n Input = marks_or n 2
    ∙ rw (
      or-false (bit_at n 0 == 1),
      or-true (bit_at n 1 == 1),
      or-false (bit_at n 2 == 1),
      or-false (bit_at n 3 == 1),
      or-false (bit_at n 4 == 1),
    ) refl
marks_with n Param = marks_or n 4
    ∙ rw (
      or-false (bit_at n 0 == 1),
      or-false (bit_at n 1 == 1),
      or-true (bit_at n 2 == 1),
      or-false (bit_at n 3 == 1),
      or-false (bit_at n 4 == 1),
    ) refl
marks_with n Output = marks_or n 8
    ∙ rw (
      or-false (bit_at n 0 == 1),
      or-false (bit_at n 1 == 1),
      or-false (bit_at n 2 == 1),
      or-true (bit_at n 3 == 1),
      or-false (bit_at n 4 == 1),
    ) refl
marks_with n Sleep = marks_or n 16
    ∙ rw (
      or-false (bit_at n 0 == 1),
      or-false (bit_at n 1 == 1),
      or-false (bit_at n 2 == 1),
      or-false (bit_at n 3 == 1),
      or-true (bit_at n 4 == 1),
    ) refl

pub marks_has : (n : ℕ) (m : Mark) → n < 32
    → not (bit_and n (bit_of m) == 0) ≡ has_mark (marks_of n) m
marks_has n Lock below = agree_below_at (λ k. not (bit_and k 1 == 0))
    (λ k. has_mark (marks_of k) Lock) 32 n refl below
marks_has n Input below = agree_below_at (λ k. not (bit_and k 2 == 0))
    (λ k. has_mark (marks_of k) Input) 32 n refl below
marks_has n Param below = agree_below_at (λ k. not (bit_and k 4 == 0))
    (λ k. has_mark (marks_of k) Param) 32 n refl below
marks_has n Output below = agree_below_at (λ k. not (bit_and k 8 == 0))
    (λ k. has_mark (marks_of k) Output) 32 n refl below
marks_has n Sleep below = agree_below_at (λ k. not (bit_and k 16 == 0))
    (λ k. has_mark (marks_of k) Sleep) 32 n refl below

pub marks_empty : (n : ℕ) → n < 32 → (n == 0) ≡ not (is_marked (marks_of n))
marks_empty n below = agree_below_at (λ k. k == 0) (λ k. not (is_marked (marks_of k))) 32 n refl
    below
