use Rattle.std.proofs.Common.{◌≡◌, ◌∷◌, ◌++◌, take}
use Rattle.std.specs.List.{flat_map}
use Rattle.std.specs.Fmt.{decimal}
use Rattle.orca_base.specs.Ascii.{space}
use Rattle.orca_script.proofs.printing.push_numbers.Given as goal

-- the numbers so far are appended
abbrev pub invariant-loop-number : goal.invariant-loop-number
invariant-loop-number l =
    l.into.items ≡ l.fn.into.items ++ flat_map (λ number. space ∷ decimal number)
    (take l.number-index l.numbers)
