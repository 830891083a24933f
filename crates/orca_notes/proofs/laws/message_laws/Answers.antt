use Rattle.orca_notes.proofs.MessageRanges.{in_range-sound, in_range-ends}
use Rattle.orca_notes.proofs.PlayFacts.{Plays-none, Plays-append, Plays-ends}
use Rattle.orca_notes.proofs.laws.message_laws.Goals as goal

pub returns-clause-none : goal.returns-clause-none
returns-clause-none c = Plays-none

pub returns-clause-joined : goal.returns-clause-joined
returns-clause-joined c = Plays-append

pub returns-clause-ends : goal.returns-clause-ends
returns-clause-ends c = Plays-ends

pub returns-clause-in_range : goal.returns-clause-in_range
returns-clause-in_range c = in_range-sound

pub returns-clause-ends_in_range : goal.returns-clause-ends_in_range
returns-clause-ends_in_range c = in_range-ends
