use Rattle.orca_smf.proofs.Messages.{Taken}
use Rattle.std.proofs.Common.{length}
use Rattle.orca_smf.proofs.reading.read_messages.Given as goal

-- the messages so far, and what comes after them
abbrev pub invariant-loop-message : goal.invariant-loop-message
invariant-loop-message l = Taken l.bytes l.list.items l.last l.rest

-- each message takes bytes
abbrev pub decreases-loop-message : goal.decreases-loop-message
decreases-loop-message l = length l.rest
