-- Calls on the outside, with what they were given and what they answered.
use Rattle.std.specs.Prelude.{ℕ, List, Option, Some, None, Result, Ok, Err}
use Rattle.std.specs.Result.{result_err}
use Rattle.orca_base.specs.Ports.{Sent}
use Rattle.orca_rig.specs.Handed.{Attached}
use Rattle.orca_rig.specs.declared.fault.OutsideFault.{OutsideFault}
use Rattle.orca_rig.specs.declared.fault.OutsideFault.TheVariants.{Failed}
use Rattle.orca_rig.specs.declared.files.Claim.{Claim as Claimed}
use Rattle.orca_rig.specs.declared.inbox.Answer.{Answer}
use Rattle.orca_rig.specs.declared.inbox.Answer.TheVariants as answer
use Rattle.orca_trace.specs.declared.kind.Kind.{Kind}
use Rattle.orca_trace.specs.declared.kind.Kind.TheVariants as kind

-- one poll: the moment that it was asked to wait for, where there was one; its answer; and the bytes
-- that came
pub record Poll : Type 0 where
  pub until : Option ℕ
  pub answer : Answer
  pub bytes : List ℕ

-- one call and its answer
pub data Call : Type 0 where
  -- a port is attached to a name
  Attach : Attached → Result (Unit {0}) OutsideFault → Call
  -- bytes are given to a port
  Give : Sent → Result (Unit {0}) OutsideFault → Call
  -- the file of a name is loaded: its text
  Load : List ℕ → Result (List ℕ) OutsideFault → Call
  -- these bytes are saved under a name
  Save : List ℕ → List ℕ → Result (Unit {0}) OutsideFault → Call
  -- a file of a name is begun with these bytes, to be added to
  Begin : List ℕ → List ℕ → Result (Unit {0}) OutsideFault → Call
  -- these bytes are added to the file of a name
  Append : List ℕ → List ℕ → Result (Unit {0}) OutsideFault → Call
  -- a file of a name is claimed with these bytes: whether it was made
  Claim : List ℕ → List ℕ → Result Claimed OutsideFault → Call
  -- the file of a name is taken away
  Remove : List ℕ → Result (Unit {0}) OutsideFault → Call
  -- these bytes are told to a hand
  Tell : ℕ → List ℕ → Result (Unit {0}) OutsideFault → Call
  -- the inbox listens at a name for so many hands: the moment of the start
  Listen : List ℕ → ℕ → Result ℕ OutsideFault → Call
  -- the inbox is polled
  Await : Poll → Call

-- the text of a load, if it gives one
abbrev text_in : Result (Unit {0}) OutsideFault → List ℕ → Result (List ℕ) OutsideFault
text_in (Ok done) bytes = Ok bytes
text_in (Err fault) bytes = Err fault

-- the call of a kind, with its name and its bytes
abbrev pub call_of : Kind → List ℕ → List ℕ → Call
call_of (kind.Attach port answer) name bytes = Attach (record { port = port; name = name }) answer
call_of (kind.Give port answer) name bytes = Give (record { port = port; bytes = bytes }) answer
call_of (kind.Load answer) name bytes = Load name (text_in answer bytes)
call_of (kind.Save answer) name bytes = Save name bytes answer
call_of (kind.Begin answer) name bytes = Begin name bytes answer
call_of (kind.Append answer) name bytes = Append name bytes answer
call_of (kind.Claim answer) name bytes = Claim name bytes answer
call_of (kind.Remove answer) name bytes = Remove name answer
call_of (kind.Tell hand answer) name bytes = Tell hand bytes answer
call_of (kind.Listen hands answer) name bytes = Listen name hands answer
call_of (kind.Await until answer) name bytes =
    Await (record { until = until; answer = answer; bytes = bytes })

-- the fault of a poll, if it has one
abbrev fault_in : Answer → Option OutsideFault
fault_in answer.Failed = Some Failed
fault_in other = None

-- the fault that a call answered, if it did
abbrev pub fault_of : Call → Option OutsideFault
fault_of (Attach attached answer) = result_err answer
fault_of (Give sent answer) = result_err answer
fault_of (Load name answer) = result_err answer
fault_of (Save name bytes answer) = result_err answer
fault_of (Begin name bytes answer) = result_err answer
fault_of (Append name bytes answer) = result_err answer
fault_of (Claim name bytes answer) = result_err answer
fault_of (Remove name answer) = result_err answer
fault_of (Tell hand bytes answer) = result_err answer
fault_of (Listen name hands answer) = result_err answer
fault_of (Await poll) = fault_in poll.answer
