-- How a turn of a poll waits.
use Rattle.std.specs.Prelude.{ℕ, ◌+◌, ◌<◌, ◌≤◌, Option, IsNone, IsSomeAnd}
use Rattle.orca_edge.specs.declared.moments.TheConstants.{LEAD, LONGEST_STEP, NAP, MARGIN}
use Rattle.orca_edge.specs.declared.moments.Wait.{Wait}
use Rattle.orca_edge.specs.declared.moments.Wait.TheVariants as wait

-- a wait for events takes time, and ends well before the moment; it has no end only where there is
-- no moment; a sleep takes time, is no longer than a nap, and ends a little before the moment, which
-- is near; and a turn does not wait only where the moment is very near
abbrev pub IsTimely : Option ℕ → ℕ → Wait → Type 0
IsTimely until now wait.Forever = IsNone until
IsTimely until now (wait.Events limit) =
    (0 < limit) × (limit ≤ LONGEST_STEP) × IsSomeAnd until (λ moment. now + limit + LEAD ≤ moment)
IsTimely until now (wait.Sleep pause) = (0 < pause) × (pause ≤ NAP)
    × IsSomeAnd until (λ moment. (now + pause + MARGIN ≤ moment) × (moment ≤ now + LEAD))
IsTimely until now wait.Look = IsSomeAnd until (λ moment. moment ≤ now + MARGIN)
