use Rattle.std.proofs.Common.{◌≡◌, ◌≤◌, take}
use Rattle.std.specs.Prelude.{filter}
use Rattle.std.specs.Vec.{vec_len, vec_capacity}
use Rattle.orca_term.specs.Traffic.{is_told}
use Rattle.orca_term.specs.declared.limits.TheConstants.{TOLD_MESSAGES}
use Rattle.orca_term.proofs.traffic.keep.Given as goal

abbrev pub invariant-loop-message : goal.invariant-loop-message
invariant-loop-message l = record {
  kept : l.kept.items ≡ take TOLD_MESSAGES (filter is_told (take l.message-index l.messages));
  few : vec_len l.kept ≤ TOLD_MESSAGES;
  room : vec_capacity l.kept ≡ vec_capacity l.fn.kept;
}
