use Rattle.orca_notes.proofs.DeviceFacts.{Leads-none, Leads-append, Leads-byte}
use Rattle.orca_notes.proofs.laws.device_laws.Goals as goal

pub returns-clause-none : goal.returns-clause-none
returns-clause-none c = Leads-none

pub returns-clause-joined : goal.returns-clause-joined
returns-clause-joined c = Leads-append

pub returns-clause-one_byte : goal.returns-clause-one_byte
returns-clause-one_byte c = Leads-byte
