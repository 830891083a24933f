-- The last edit of a hand, looked for from the end.
use Rattle.std.proofs.Common.{◌≡◌, ℕ, zero, suc, ◌-◌, ◌<◌, Bool, true, false, List, Some, refl, ap, ◌∙◌, arith}
use Rattle.std.specs.Prelude.{if◌then◌else◌}
use Rattle.orca_base.specs.declared.command.Entry.{Entry}
use Rattle.orca_jam.specs.Crews.{CrewState, is_own, last_own}

step : (c : CrewState) (hand : ℕ) (history : List Entry) (end n : ℕ) → 0 < n
    → last_own c hand history end n
    ≡ (if is_own c hand history (end - 1) then Some (end - 1)
    else last_own c hand history (end - 1) (n - 1))
step c hand history end zero some = absurd (omega (arith, some))
step c hand history end (suc n) some =
    let less : suc n - 1 ≡ n = omega arith in rw less refl

-- by whether the entry before the end is one
by : (c : CrewState) (hand : ℕ) (history : List Entry) (end n : ℕ) (is : Bool) → 0 < n
    → is_own c hand history (end - 1) ≡ is
    → last_own c hand history end n
    ≡ (if is then Some (end - 1) else last_own c hand history (end - 1) (n - 1))
by c hand history end n is some own =
    step c hand history end n some
    ∙ ap (λ (b : Bool).
    if b then Some (end - 1) else last_own c hand history (end - 1) (n - 1)) own

pub last_own-here : (c : CrewState) (hand : ℕ) (history : List Entry) (end n : ℕ) → 0 < n
    → is_own c hand history (end - 1) ≡ true → last_own c hand history end n ≡ Some (end - 1)
last_own-here c hand history end n some own = by c hand history end n true some own

pub last_own-before : (c : CrewState) (hand : ℕ) (history : List Entry) (end n : ℕ) → 0 < n
    → is_own c hand history (end - 1) ≡ false
    → last_own c hand history end n ≡ last_own c hand history (end - 1) (n - 1)
last_own-before c hand history end n some own = by c hand history end n false some own
