-- What is printed and kept of a run, and when it ends early.
use Rattle.std.specs.Prelude.{ℕ, Bool, List, [], ◌∷◌, Option, Some, None, Result}
use Rattle.orca_base.specs.declared.command.Reply.{Reply}
use Rattle.orca_base.specs.declared.command.Rule.{Rule}
use Rattle.orca_base.specs.declared.message.Message.{Message}
use Rattle.orca_course.specs.Acts.{Act, gives}
use Rattle.orca_course.specs.Acts.Act.{Save}
use Rattle.orca_course.specs.Courses.{Course}
use Rattle.orca_course.specs.Standings.{Standing}
use Rattle.orca_course.specs.declared.ending.Stop.{Stop}
use Rattle.orca_send.specs.declared.lines.Label.{Label}
use Rattle.orca_send.specs.Lines.{lines_of}
use Rattle.orca_send.specs.Sending.{text_sent}

-- what a report does beside messages: nothing, or it prints a text, or a line for each of these
-- messages, or it saves a file. So it gives no message, and does not ask the inbox
pub data Remark : Type 0 where
  Nothing : Remark
  Text : List ℕ → Remark
  Lines : Label → List Message → Remark
  File : List ℕ → List ℕ → Remark

abbrev pub acts_of : Remark → List Act
acts_of Nothing = []
acts_of (Text bytes) = gives (text_sent bytes ∷ [])
acts_of (Lines label messages) = gives (lines_of label messages)
acts_of (File name bytes) = Save name bytes ∷ []

-- what a report does, what it keeps then, and whether it ends the run
pub record Aside (R : Type 0) : Type 0 where
  pub remark : Remark
  pub state : R
  pub ending : Option Stop

-- nothing is done, and it goes on
abbrev pub silence : {R : Type 0} → R → Aside R
silence r = record { remark = Nothing; state = r; ending = None }

-- nothing is done, and the run ends
abbrev pub halt : {R : Type 0} → Stop → R → Aside R
halt stop r = record { remark = Nothing; state = r; ending = Some stop }

-- this is done, and it goes on
abbrev pub remarks : {R : Type 0} → Remark → R → Aside R
remarks remark r = record { remark = remark; state = r; ending = None }

abbrev pub aside_course : {R : Type 0} → Aside R → Course R Stop
aside_course a =
    record { acts = acts_of a.remark; bill = 0; state = a.state; ending = a.ending }

-- what a report is told: a command that was done, its line, its answer and its messages; where the
-- run stands at last; the messages of the close; and that nothing more comes
pub data News : Type 0 where
  Done : ℕ → Result Reply Rule → List Message → News
  Stands : Standing → News
  Closed : List Message → News
  Last : News

abbrev pub messages_in : News → List Message
messages_in (Done line answer messages) = messages
messages_in (Stands s) = []
messages_in (Closed messages) = messages
messages_in Last = []

-- whether messages are handed out; and what a report does, by what it has kept so far
pub record Manner (R : Type 0) : Type 0 where
  pub hands : Bool
  pub tells : News → R → Aside R
