-- What a contract sees of the parts of a session.
use Rattle.orca_op.specs.Slate.{residue}
use Rattle.orca_session.specs.declared.past.Past.TheInside.{Inside as PastInside}
use Rattle.orca_session.specs.declared.session.Session.TheInside.{Inside as SessionInside}
use Rattle.orca_session.specs.Past.{PastState, machine_of, numbers_of}
use Rattle.orca_session.specs.Session.{SessionState}

abbrev pub past_of : PastInside → PastState
past_of p = record {
  opened = p.opened.value;
  seed = p.seed;
  trail = p.history;
  points = p.checkpoints;
  closed = p.closed;
  peak = p.peak;
}

abbrev pub session_of : SessionInside → SessionState
session_of s = record {
  machine = machine_of s.past s.clip;
  kept = numbers_of s.past;
  residue = residue s.board;
  marks = s.board.scan.marks;
}
