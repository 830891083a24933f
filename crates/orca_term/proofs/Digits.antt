-- How many decimal digits numbers have, and that they can be shown.
use Rattle.std.proofs.Common.{ℕ, ◌+◌, ◌%◌, ◌<◌, ◌≤◌, ◌^◌, [], ◌∷◌, length, arith}
use Rattle.std.specs.Fmt.{decimal}
use Rattle.std.specs.List.{All}
use Rattle.std.proofs.lemmas.Fmt.{decimal_by_steps, length-decimal-le}
use Rattle.std.proofs.lemmas.List.Elements.{All-append}
use Rattle.orca_base.specs.declared.limits.TheConstants.{MAX_DIGITS}
use Rattle.orca_term.specs.Picture.{IsPrintableByte}
use Rattle.orca_term.specs.declared.limits.TheConstants.{FORM_DIGITS}

-- a number of 32 bits
pub decimal_short : (n : ℕ) → n < 2 ^ 32 → length (decimal n) ≤ MAX_DIGITS
decimal_short n small = length-decimal-le 10 n (omega arith) (omega arith) (omega arith)

-- one digit can be shown
digit : (n : ℕ) → n < 10 → All IsPrintableByte ((48 + n) ∷ [])
digit n low = grind arith

-- all of them can be shown
pub decimal_printable : (n : ℕ) → n < 2 ^ 32 → All IsPrintableByte (decimal n)
decimal_printable n small =
    decimal_by_steps (λ _ digits. All IsPrintableByte digits) (λ m low. digit m (omega arith))
    (λ m front high shown. All-append IsPrintableByte front _ shown (digit (m % 10) (omega arith)))
    n (omega arith)

-- a number of a form
pub decimal_form : (n : ℕ) → n < 10 ^ FORM_DIGITS → length (decimal n) ≤ FORM_DIGITS
decimal_form n small = length-decimal-le 3 n (omega arith) (omega arith) (omega arith)
