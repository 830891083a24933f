-- A performance before its first picture.
use Rattle.std.specs.Prelude.{ℕ, false, [], replicate}
use Rattle.std.specs.Option.{option_map}
use Rattle.orca_course.specs.Standings.{Standing}
use Rattle.orca_course.specs.declared.item.Losses.{Losses}
use Rattle.orca_base.specs.declared.limits.TheConstants.{MAX_HANDS}
use Rattle.orca_jam.specs.Crews.{CrewState, viewers_of}
use Rattle.orca_live.specs.States.{LiveState, Setting, unpainted}
use Rattle.orca_term.specs.Pacing.{pace_from}
use Rattle.orca_term.specs.Traffic.{nothing_sent}
use Rattle.orca_term.specs.declared.came.Came.TheVariants.{Well}

-- no call has failed, as far as was told
abbrev pub nothing_failed : Losses
nothing_failed = record {
  midi = false;
  udp = false;
  osc = false;
  journal = false;
  unsaved = false;
  unstored = false;
}

-- a pacer starts at this moment, nothing was painted, and no command was given, so none waits for
-- the journal, and all is well
abbrev pub live_at_start : Setting → CrewState → ℕ → Standing → LiveState
live_at_start set crew at standing = record {
  setting = set;
  standing = standing;
  crew = crew;
  pace = pace_from set.bpm at;
  views = replicate (viewers_of crew) (unpainted set.screen);
  given = option_map (λ name. []) set.script;
  unwritten = [];
  loose = false;
  at = at;
  came = nothing_failed;
  words = replicate MAX_HANDS Well;
  sent = nothing_sent;
}
