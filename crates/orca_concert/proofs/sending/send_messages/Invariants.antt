use Rattle.std.proofs.Common.{drop}
use Rattle.orca_course.specs.Acts.{gives}
use Rattle.orca_course.proofs.CallLemmas.{SoCalled}
use Rattle.orca_send.specs.Sending.{sends_of}
use Rattle.orca_concert.proofs.sending.send_messages.Given as goal

-- the messages so far were sent, and those from here on are left
abbrev pub invariant-loop-message : goal.invariant-loop-message
invariant-loop-message g l =
    SoCalled (gives (sends_of l.messages)) (gives (sends_of (drop l.message-index l.messages)))
    l.fn.desk l.desk
