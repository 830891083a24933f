-- Lists of bytes that are kept inline: the bytes of the list, and zeros after them.
use Rattle.std.specs.Prelude.{ℕ, ◌-◌, ◌≡◌, ◌≤◌, List, ◌++◌, length, take, drop, replicate}
use Rattle.std.proofs.Common.{arith}
use Rattle.std.proofs.lemmas.List.{length-take-le, take-append-drop}

-- a list of bytes, filled with zeros
abbrev pub filled : ℕ → List ℕ → List ℕ
filled room bytes = bytes ++ replicate (room - length bytes) 0

-- the first len bytes of the room are the list, and the others are zeros
pub record IsInline (room : ℕ) (bytes : List ℕ) (len : ℕ) : Type 0 where
  pub short : len ≤ room
  pub size : length bytes ≡ room
  pub zeros : drop len bytes ≡ replicate (room - len) 0

-- the list gives the bytes and its length back
pub length-inline : (room : ℕ) (bytes : List ℕ) (len : ℕ) → IsInline room bytes len
    → length (take len bytes) ≡ len
length-inline room bytes len inline =
    let fits : len ≤ length bytes = omega (arith, inline.short, inline.size) in
    length-take-le len bytes fits

pub filled-inline : (room : ℕ) (bytes : List ℕ) (len : ℕ) → IsInline room bytes len
    → filled room (take len bytes) ≡ bytes
filled-inline room bytes len inline =
    rw (length-inline room bytes len inline, ← inline.zeros) (take-append-drop len bytes)

pub both-inline : (room : ℕ) (bytes : List ℕ) (len : ℕ) → IsInline room bytes len
    → ◌≡◌ {A = List ℕ × ℕ} (filled room (take len bytes), length (take len bytes)) (bytes, len)
both-inline room bytes len inline =
    let list : filled room (take len bytes) ≡ bytes = filled-inline room bytes len inline in
    let size : length (take len bytes) ≡ len = length-inline room bytes len inline in
    cc
