use Rattle.std.proofs.Common.{◌≡◌, take}
use Rattle.std.specs.List.{fold}
use Rattle.orca_reports.specs.Songs.{added}
use Rattle.orca_reports.proofs.smf.record.Given as goal

-- the messages so far were added
abbrev pub invariant-loop-message : goal.invariant-loop-message
invariant-loop-message l =
    l.song ≡ fold (added l.tick) l.fn.song (take l.message-index l.messages)
