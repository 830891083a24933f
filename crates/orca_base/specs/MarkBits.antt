-- A set of marks as the bits of one byte.
use Rattle.std.specs.Prelude.{ℕ, ◌+◌, ◌≡◌, ◌<◌, ◌==◌, true, if◌then◌else◌}
use Rattle.std.specs.Int.{bit_at}
use Rattle.std.proofs.Common.{refl}
use Rattle.std.proofs.lemmas.Bool.{agree_below_at, eqb-true}
use Rattle.orca_base.specs.MarkSet.{MarkSet}
use Rattle.orca_base.specs.declared.marks.Mark.{Mark}
use Rattle.orca_base.specs.declared.marks.Mark.TheVariants.{Lock, Input, Param, Output, Sleep}

abbrev pub marks_of : ℕ → MarkSet
marks_of n = record {
  lock = bit_at n 0 == 1;
  input = bit_at n 1 == 1;
  param = bit_at n 2 == 1;
  output = bit_at n 3 == 1;
  sleep = bit_at n 4 == 1;
}

-- the byte of a set
abbrev pub bits_of : MarkSet → ℕ
bits_of s =
    (if s.lock then 1 else 0) + (if s.input then 2 else 0) + (if s.param then 4 else 0)
    + (if s.output then 8 else 0) + (if s.sleep then 16 else 0)

-- the byte of one mark
abbrev pub bit_of : Mark → ℕ
bit_of Lock = 1
bit_of Input = 2
bit_of Param = 4
bit_of Output = 8
bit_of Sleep = 16

pub bits-back : (n : ℕ) → n < 32 → bits_of (marks_of n) ≡ n
bits-back n below = eqb-true (bits_of (marks_of n)) n
    (agree_below_at (λ k. bits_of (marks_of k) == k) (λ k. true) 32 n refl below)
