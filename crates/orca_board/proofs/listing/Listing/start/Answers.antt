use Rattle.std.proofs.Common.{arith, refl}
use Rattle.orca_board.proofs.ListingLemmas.{rounded_start}
use Rattle.orca_board.proofs.listing.Listing.start.Goals as goal

pub invariant_of-result : goal.invariant_of-result
invariant_of-result c =
    rw c.in_ok-with_capacity.ensures.items (rounded_start _ _ _ _ _ refl
    c.new-rounds.ensures.items c.new-rounds.ensures.len c.in_ok-resize.ensures.items (omega (arith, c.in_ok-with_capacity.ensures.capacity)))
