use Rattle.std.proofs.Common.{◌≡◌, take}
use Rattle.std.specs.List.{fold}
use Rattle.orca_reports.specs.Waves.{heard_message}
use Rattle.orca_reports.proofs.listener.Listener.hear.Given as goal

-- the messages so far were heard
abbrev pub invariant-loop-message : goal.invariant-loop-message
invariant-loop-message l = record {
  heard : l.self ≡ fold heard_message l.fn.self (take l.message-index l.messages);
  samples : l.self.samples ≡ l.fn.self.samples;
}
