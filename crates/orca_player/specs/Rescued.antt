-- The script of a room, as the code holds it.
use Rattle.std.specs.Prelude.{ℕ, Option}
use Rattle.orca_cues.specs.Scripts.{commands_of_cues}
use Rattle.orca_rooms.specs.Sound.{first_commands, sound_script}
use Rattle.orca_player.specs.Outlines.{Script}
use Rattle.orca_player.specs.declared.recovery.Rescue.{Rescue}

-- so many first commands of it, or all
abbrev pub script_in_rescue : Rescue → Option ℕ → Script
script_in_rescue rescue most = record {
  seed = rescue.seed;
  commands = first_commands most (commands_of_cues (sound_script rescue.text.now));
}
