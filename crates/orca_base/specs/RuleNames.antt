-- The names of the rules by which a command is refused, as they are printed.
use Rattle.std.specs.Prelude.{ℕ, List, codes}
use Rattle.orca_base.specs.declared.command.Rule.{Rule}
use Rattle.orca_base.specs.declared.command.Rule.TheVariants.{OutOfGrid, EmptyBlock, BadSize, EmptyClip, NothingToUndo, NoSuchMoment, SizeInUse, HistoryFull, NothingToRedo}

-- the name of a rule
abbrev pub rule_name : Rule → List ℕ
rule_name OutOfGrid = codes "OutOfGrid"
rule_name EmptyBlock = codes "EmptyBlock"
rule_name BadSize = codes "BadSize"
rule_name EmptyClip = codes "EmptyClip"
rule_name NothingToUndo = codes "NothingToUndo"
rule_name (NoSuchMoment kept) = codes "NoSuchMoment"
rule_name SizeInUse = codes "SizeInUse"
rule_name HistoryFull = codes "HistoryFull"
rule_name NothingToRedo = codes "NothingToRedo"
