use Rattle.std.proofs.Common.{◌≡◌, ◌++◌, take}
use Rattle.std.specs.List.{All}
use Rattle.orca_base.specs.declared.limits.TheConstants.{MAX_SCREEN_COLUMNS}
use Rattle.orca_term.specs.Picture.{IsPrintableByte}
use Rattle.orca_term.specs.Traffic.{words_of}
use Rattle.orca_term.proofs.traffic.push_messages.Given as goal

abbrev pub invariant-loop-message : goal.invariant-loop-message
invariant-loop-message l = record {
  text : take MAX_SCREEN_COLUMNS l.text
      ≡ take MAX_SCREEN_COLUMNS (l.fn.text ++ words_of (take l.message-index l.messages));
  printable : All IsPrintableByte l.text;
}
