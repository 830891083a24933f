use Rattle.std.proofs.Common.{◌≡◌, ◌++◌, take, drop}
use Rattle.std.specs.List.{All}
use Rattle.orca_script.specs.Canonical.{line_of, HasValues, Extends}
use Rattle.orca_script.specs.Runs.{printed_script, text_behind}
use Rattle.orca_script.proofs.runs.push_script.Given as goal

-- the commands that are left come after the text and the frames so far
abbrev pub invariant-loop-command : goal.invariant-loop-command
invariant-loop-command l = record {
  grown : Extends l.fn.into.items l.into.items;
  same : l.into.items ++ text_behind l.runs (drop l.command-index l.commands)
      ≡ l.fn.into.items ++ printed_script l.seed l.commands;
  values : All (λ command. HasValues (line_of command)) (take l.command-index l.commands);
}
