-- What is appended stands after what was there.
use Rattle.std.proofs.Common.{List, ℕ, ◌++◌, ◌∙◌, ap, append_assoc}
use Rattle.orca_script.specs.Canonical.{Extends}

pub extends_more : (old middle new : List ℕ) → Extends old middle → Extends middle new →
    Extends old new
extends_more old middle new a b =
    (a.0 ++ b.0, b.1 ∙ (ap (λ xs. xs ++ b.0) a.1 ∙ append_assoc old a.0 b.0))
