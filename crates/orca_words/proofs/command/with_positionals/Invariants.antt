use Rattle.std.proofs.Common.{◌≡◌, drop, fold, map}
use Rattle.clap.specs.Words.{app_of, with_rule}
use Rattle.clap.specs.Walk.{texts}
use Rattle.orca_words.specs.Forms.{positional_rule}
use Rattle.orca_words.proofs.command.with_positionals.Given as goal

-- the positionals that are left make of the command what all of them make
abbrev pub invariant-loop-name : goal.invariant-loop-name
invariant-loop-name l =
    fold with_rule (app_of l.command) (map positional_rule (texts (drop l.name-index l.names)))
    ≡ fold with_rule (app_of l.fn.command) (map positional_rule (texts l.names))
