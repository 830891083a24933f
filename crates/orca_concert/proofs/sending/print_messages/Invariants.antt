use Rattle.std.proofs.Common.{drop}
use Rattle.orca_course.specs.Acts.{gives}
use Rattle.orca_course.proofs.CallLemmas.{SoCalled}
use Rattle.orca_send.specs.Lines.{lines_of}
use Rattle.orca_concert.proofs.sending.print_messages.Given as goal

-- the messages so far were sent, and those from here on are left
abbrev pub invariant-loop-message : goal.invariant-loop-message
invariant-loop-message g l =
    SoCalled (gives (lines_of l.label l.messages)) (gives (lines_of l.label (drop l.message-index
    l.messages)))
    l.fn.desk l.desk
