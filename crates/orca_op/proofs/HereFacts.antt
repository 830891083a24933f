-- What stands at an operator's own place.
use Rattle.std.specs.Prelude.{◌≡◌, refl}
use Rattle.orca_base.specs.declared.place.Place.{Place}
use Rattle.orca_base.specs.Grids.{IsInside, here}
use Rattle.orca_base.proofs.PlaceFacts.{place_in-here}
use Rattle.orca_op.specs.State.{State, peek, marked, state_glyph, marks_at}

pub peek_here : (s : State) (at : Place) → IsInside s.dims at → peek s (here at) ≡ state_glyph s at
unfolding peek
peek_here s at inside = rw (place_in-here s.dims at inside) refl

pub marked_here : (s : State) (at : Place) → IsInside s.dims at → marked s (here at) ≡ marks_at s at
unfolding marked
marked_here s at inside = rw (place_in-here s.dims at inside) refl
