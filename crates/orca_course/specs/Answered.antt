-- What calls did, by what they answered.
use Rattle.std.specs.Prelude.{ℕ, Bool, true, false, ◌||◌, List, [], ◌∷◌, ◌++◌, fold, Option, Some, None, Ok, Err}
use Rattle.std.specs.Result.{result_ok}
use Rattle.orca_base.specs.declared.port.Port.{Port}
use Rattle.orca_base.specs.declared.port.Port.TheVariants as port
use Rattle.orca_rig.specs.Arrived.{is_ending}
use Rattle.orca_rig.specs.declared.fault.OutsideFault.{OutsideFault}
use Rattle.orca_rig.specs.declared.fault.OutsideFault.TheVariants.{Failed, Memory}
use Rattle.orca_rig.specs.declared.inbox.Answer.{Answer}
use Rattle.orca_rig.specs.declared.inbox.Answer.TheVariants as answer
use Rattle.orca_trace.specs.Calls.{Call, fault_of}
use Rattle.orca_trace.specs.Calls.Call.{Append as CallAppend, Attach as CallAttach, Await as CallAwait, Begin as CallBegin, Claim as CallClaim, Give as CallGive, Listen as CallListen, Load as CallLoad, Remove as CallRemove, Save as CallSave, Tell as CallTell}
use Rattle.orca_course.specs.Acts.{Act}
use Rattle.orca_course.specs.Acts.Act.{Append, Attach, Await, Begin, Claim, Give, Listen, Load, Remove, Save, Tell}
use Rattle.orca_course.specs.declared.item.Losses.{Losses}
use Rattle.orca_course.specs.declared.notes.Outcomes.{Outcomes}
use Rattle.orca_course.specs.declared.notes.Ports.{Ports}

-- a call as an act: with its answer where that decides what follows
abbrev pub act_of : Call → Act
act_of (CallAttach attached answer) = Attach attached
act_of (CallGive sent answer) = Give sent
act_of (CallLoad name answer) = Load name (result_ok answer)
act_of (CallSave name bytes answer) = Save name bytes
act_of (CallBegin name bytes answer) = Begin name bytes
act_of (CallAppend name bytes answer) = Append name bytes
act_of (CallClaim name bytes answer) = Claim name bytes (result_ok answer)
act_of (CallRemove name answer) = Remove name
act_of (CallTell hand bytes answer) = Tell hand bytes
act_of (CallListen name hands answer) = Listen name hands (result_ok answer)
act_of (CallAwait poll) = Await poll

-- an act is done, also where its call failed, unless memory was refused to it
abbrev done_by : Option OutsideFault → Act → List Act
done_by (Some Memory) act = []
done_by fault act = act ∷ []

-- the acts that calls did
abbrev pub done_in : List Call → List Act
done_in [] = []
done_in (call ∷ calls) = done_by (fault_of call) (act_of call) ++ done_in calls

abbrev refused_by : Option OutsideFault → Act → List Act
refused_by (Some Memory) act = act ∷ []
refused_by fault act = []

-- the acts to which memory was refused
abbrev pub refused_in : List Call → List Act
refused_in [] = []
refused_in (call ∷ calls) = refused_by (fault_of call) (act_of call) ++ refused_in calls

-- ---- single calls

-- whether a port failed at a call
abbrev pub is_port_fault : Call → Bool
is_port_fault (CallAttach attached (Err Failed)) = true
is_port_fault (CallGive sent (Err Failed)) = true
is_port_fault other = false

-- whether the files failed
abbrev pub is_file_fault : Call → Bool
is_file_fault (CallLoad name (Err Failed)) = true
is_file_fault (CallSave name bytes (Err Failed)) = true
is_file_fault (CallBegin name bytes (Err Failed)) = true
is_file_fault (CallAppend name bytes (Err Failed)) = true
is_file_fault (CallClaim name bytes (Err Failed)) = true
is_file_fault (CallRemove name (Err Failed)) = true
is_file_fault other = false

-- whether a port was refused memory
abbrev pub is_port_want : Call → Bool
is_port_want (CallAttach attached (Err Memory)) = true
is_port_want (CallGive sent (Err Memory)) = true
is_port_want other = false

-- whether the files were refused it
abbrev pub is_file_want : Call → Bool
is_file_want (CallLoad name (Err Memory)) = true
is_file_want (CallSave name bytes (Err Memory)) = true
is_file_want (CallBegin name bytes (Err Memory)) = true
is_file_want (CallAppend name bytes (Err Memory)) = true
is_file_want (CallClaim name bytes (Err Memory)) = true
is_file_want (CallRemove name (Err Memory)) = true
is_file_want other = false

-- whether the inbox was refused it
abbrev pub is_inbox_want : Call → Bool
is_inbox_want (CallListen name hands (Err Memory)) = true
is_inbox_want (CallTell hand bytes (Err Memory)) = true
is_inbox_want other = false

-- whether an answer of the inbox is a failure
abbrev pub is_failure : Answer → Bool
is_failure answer.Failed = true
is_failure other = false

-- whether the inbox failed
abbrev pub is_inbox_fault : Call → Bool
is_inbox_fault (CallListen name hands (Err Failed)) = true
is_inbox_fault (CallAwait poll) = is_failure poll.answer
is_inbox_fault other = false

-- whether a call asks the inbox to listen
abbrev pub is_listen : Call → Bool
is_listen (CallListen name hands answer) = true
is_listen other = false

-- how many hands there are after a call: those that the inbox listened for, once it did
abbrev pub seats_by : Option ℕ → Call → Option ℕ
seats_by seats (CallListen name hands (Ok at)) = Some hands
seats_by seats (CallListen name hands (Err fault)) = None
seats_by seats other = seats

-- and after calls
unfoldable pub seats_of : List Call → Option ℕ
seats_of calls = fold seats_by None calls

-- whether a call is a poll with a last answer
abbrev pub is_last_poll : Call → Bool
is_last_poll (CallAwait poll) = is_ending poll.answer
is_last_poll other = false

-- ---- what calls came to

-- it holds of a port of messages, or not
abbrev pub ports_with : Port → Bool → Ports → Ports
ports_with port.Midi holds ports = record ports { midi = holds }
ports_with port.Udp holds ports = record ports { udp = holds }
ports_with port.Osc holds ports = record ports { osc = holds }
ports_with port.Text holds ports = ports
ports_with port.Fault holds ports = ports
ports_with port.View holds ports = ports

-- after a call: of which ports the last attach has failed, and of which the last send; whether a
-- begin or an append has failed, and whether the last save has. What was refused memory counts for
-- nothing
abbrev pub outcomes_with : Outcomes → Call → Outcomes
outcomes_with o (CallAttach attached (Ok done)) =
    record o { unattached = ports_with attached.port false o.unattached }
outcomes_with o (CallAttach attached (Err Failed)) =
    record o { unattached = ports_with attached.port true o.unattached }
outcomes_with o (CallGive sent (Ok done)) =
    record o { unsent = ports_with sent.port false o.unsent }
outcomes_with o (CallGive sent (Err Failed)) =
    record o { unsent = ports_with sent.port true o.unsent }
outcomes_with o (CallSave name bytes (Ok done)) = record o { unsaved = false }
outcomes_with o (CallSave name bytes (Err Failed)) = record o { unsaved = true }
outcomes_with o (CallBegin name bytes (Err Failed)) = record o { journal = true }
outcomes_with o (CallAppend name bytes (Err Failed)) = record o { journal = true }
outcomes_with o other = o

-- and whether a port or the files ever have
unfoldable pub outcomes_by : Outcomes → Call → Outcomes
outcomes_by o call = record (outcomes_with o call) {
  failed = o.failed || is_port_fault call;
  unstored = o.unstored || is_file_fault call;
}

abbrev pub no_ports : Ports
no_ports = record { midi = false; udp = false; osc = false }

abbrev pub no_outcomes : Outcomes
no_outcomes = record {
  unattached = no_ports;
  unsent = no_ports;
  journal = false;
  unsaved = false;
  unstored = false;
  failed = false;
}

unfoldable pub outcomes_of : List Call → Outcomes
outcomes_of calls = fold outcomes_by no_outcomes calls

abbrev pub losses_in : Outcomes → Losses
losses_in o = record {
  midi = o.unattached.midi || o.unsent.midi;
  udp = o.unattached.udp || o.unsent.udp;
  osc = o.unattached.osc || o.unsent.osc;
  journal = o.journal;
  unsaved = o.unsaved;
  unstored = o.unstored;
}

-- what calls came to
abbrev pub losses_of : List Call → Losses
losses_of calls = losses_in (outcomes_of calls)
