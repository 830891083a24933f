use Rattle.std.proofs.Common.{arith, ◌∙◌}
use Rattle.orca_base.proofs.ListFacts.{put_over}
use Rattle.orca_board.proofs.ListingLemmas.{rounded_none}
use Rattle.orca_board.proofs.listing.Listing.begin.Goals as goal

-- in the new round no place is listed
pub invariant_of-self : goal.invariant_of-self
invariant_of-self c =
    let same = rw c.deref_mut.ensures.value at c.next_round-self-inside.ensures.size in
    rw (
      c.clear.ensures.items,
      put_over c.next_round-self-inside.new.rounds c.self.inside.rounds.items
          c.self.inside.rounds.len same (omega (arith, c.self.inside.rounds.ok.0)),
    )
    (rounded_none c.next_round-self-inside.new.rounds c.next_round-self-inside.result _
    (same ∙ c.self.invariant.size)
    c.next_round-self-inside.ensures.later
    (omega (arith, c.clear.ensures.capacity, c.self.invariant.flagged.roomy)))
