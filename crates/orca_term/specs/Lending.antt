-- What becomes of a view after a borrow of its bytes.
use Rattle.std.specs.Prelude.{⊤}
use Rattle.std.specs.Borrow.{follows_so, Fml, MutBor}
use Rattle.orca_term.specs.Viewing.{Seen}
use Rattle.orca_term.specs.contracts.view.View.{the_row}
use mathlib.Core.Option.{none}

-- P holds of the view once the borrow is over
abbrev pub RestsWith : MutBor Seen → (Seen → Type 0) → Fml
RestsWith view P = follows_so the_row the_row view.ghost_name none (λ _ _. ⊤) P
