use Rattle.std.proofs.Common.{drop, map}
use Rattle.orca_course.specs.Acts.{gives}
use Rattle.orca_course.proofs.CallLemmas.{SoCalled}
use Rattle.orca_player.specs.Outlines.{all_notes_off, channels}
use Rattle.orca_player.proofs.recovery.end_all.Given as goal

-- the channels so far were sent, and those from here on are left
abbrev pub invariant-loop-channel : goal.invariant-loop-channel
invariant-loop-channel g l =
    SoCalled (gives (map all_notes_off channels))
    (gives (map all_notes_off (drop l.channel channels))) l.fn.desk l.desk
