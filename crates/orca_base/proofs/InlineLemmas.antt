-- A byte more in an inline list.
use Rattle.std.proofs.Common.{◌≡◌, ℕ, ◌+◌, ◌-◌, ◌<◌, List, drop, replicate, arith, ap, ◌∙◌, sym}
use Rattle.std.proofs.Math.ListN.{set}
use Rattle.std.proofs.lemmas.List.{length-set, drop-set-lt, drop-replicate, drop-drop}
use Rattle.orca_base.specs.Inline.{IsInline}

pub push_inline : (room : ℕ) (bytes : List ℕ) (len byte : ℕ) → IsInline room bytes len → len < room
    → IsInline room (set bytes len byte) (len + 1)
push_inline room bytes len byte inline fits =
    let below : len < len + 1 = omega arith in
    let one_less : (room - len) - 1 ≡ room - (len + 1) = omega arith in
    record {
      short = omega arith;
      size = length-set bytes len byte ∙ inline.size;
      zeros = drop-set-lt (len + 1) bytes len byte below
          ∙ (sym (drop-drop 1 len bytes)
          ∙ (ap (λ xs. drop 1 xs) inline.zeros
          ∙ (drop-replicate 1 (room - len) 0 ∙ ap (λ n. replicate n 0) one_less)));
    }
