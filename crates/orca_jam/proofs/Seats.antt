-- The seats that are taken.
use Rattle.std.proofs.Common.{◌≡◌, ℕ, ◌<◌, ◌≤◌, Bool, false, List, [], length, get_or, take, set, arith, ap}
use Rattle.std.specs.Prelude.{map, replicate}
use Rattle.std.specs.List.{All}
use Rattle.std.proofs.Math.Seq.{take-set-lt}
use Rattle.std.proofs.lemmas.List.{get_or-take, length-take-le, take-map, take-replicate}
use Rattle.std.proofs.lemmas.List.Elements.{All-get_or}
use Rattle.orca_base.specs.declared.limits.TheConstants.{MAX_HANDS}
use Rattle.orca_base.specs.Grids.{Size}
use Rattle.orca_jam.specs.Crews.{CrewState, crew_at_start, fitted_crew, fitted_player, new_player, with_player}
use Rattle.orca_jam.specs.Seats.{IsCrew, seated_crew}
use Rattle.orca_jam.specs.declared.crew.Crew.TheInside.{Inside}
use Rattle.orca_jam.specs.declared.owner.Owner.{Owner}
use Rattle.orca_jam.specs.declared.player.Player.{Player}

-- a crew that shares a session, without owners
abbrev crew : Bool → Bool → List Player → ℕ → CrewState
crew full views players room = record {
  alone = false;
  full = full;
  views = views;
  players = players;
  owners = [];
  room = room;
}

-- as many players as hands
pub hands-of : (c : Inside) → IsCrew c → length (take c.hands c.players) ≡ c.hands
hands-of c had = length-take-le c.hands c.players (omega (arith, had.few, had.seats))

-- another player at a seat
pub seated : (c : Inside) (hand : ℕ) (p : Player) → IsCrew c → hand < length (seated_crew c).players
    → seated_crew (record c { players = set c.players hand p }) ≡ with_player hand p (seated_crew c)
seated c hand p had there =
    ap (λ (ps : List Player). record (seated_crew c) { players = ps })
    (take-set-lt c.hands c.players hand p (omega (arith, there, hands-of c had)))

-- each player is fitted
pub fitted : (c : Inside) (d : Size)
    → seated_crew (record c { players = map (fitted_player d) c.players }) ≡ fitted_crew d (seated_crew c)
fitted c d =
    ap (λ (ps : List Player). record (seated_crew c) { players = ps })
    (take-map (fitted_player d) c.hands c.players)

-- what holds of all players holds of one
pub player-of : (P : Player → Type 0) (players : List Player) (n hand : ℕ) (none : Player)
    → All P players → n ≤ length players → hand < length (take n players)
    → P (get_or (take n players) hand none)
player-of P players n hand none all fits there =
    let below : hand < n = omega (arith, there, length-take-le n players fits) in
    rw (get_or-take n players hand none below)
    (All-get_or P players hand none (omega (arith, fits, below)) all)

-- new players at the first seats
pub started : (full views : Bool) (hands room : ℕ) (owners : List Owner) (p : Player)
    → p ≡ new_player full → owners ≡ [] → hands ≤ MAX_HANDS
    → record {
      alone = false;
      full = full;
      views = views;
      players = take hands (replicate MAX_HANDS p);
      owners = owners;
      room = room;
    } ≡ crew_at_start full views hands room
started full views hands room owners p is none few =
    rw (is, none)
    (ap (λ (ps : List Player). crew full views ps room) (take-replicate hands MAX_HANDS (new_player full) few))
