-- How a crew is kept: a seat for each of the most hands, of which the first ones are taken.
use Rattle.std.specs.Prelude.{◌≡◌, ◌≤◌, false, length, take, vec_capacity}
use Rattle.orca_base.specs.declared.limits.TheConstants.{MAX_HANDS}
use Rattle.orca_jam.specs.Crews.{CrewState}
use Rattle.orca_jam.specs.declared.crew.Crew.TheInside.{Inside}

-- the players of the hands that there are
abbrev pub seated_crew : Inside → CrewState
seated_crew c = record {
  alone = c.alone;
  full = c.full;
  views = c.views;
  players = take c.hands c.players;
  owners = c.owners.items;
  room = c.room;
}

-- there is a hand, and a seat for each; the owners have room
pub record IsCrew (c : Inside) : Type 0 where
  pub some : 1 ≤ c.hands
  pub few : c.hands ≤ MAX_HANDS
  pub seats : length c.players ≡ MAX_HANDS
  pub within : length c.owners.items ≤ c.room
  pub room : c.room ≤ vec_capacity c.owners
  pub shared : c.alone ≡ false → 1 ≤ c.room
