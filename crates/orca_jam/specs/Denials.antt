-- Why keys are denied to a hand, and what it is told.
use Rattle.std.specs.Prelude.{ℕ, ◌==◌, Bool, true, false, if◌then◌else◌, List, [], ◌∷◌, ◌++◌, codes, Option, Some, None}
use Rattle.std.specs.Fmt.{decimal}
use Rattle.orca_base.specs.Ascii.{line_feed}
use Rattle.orca_base.specs.declared.command.Command.TheVariants as command
use Rattle.orca_jam.specs.declared.denial.Denial.{Denial}
use Rattle.orca_jam.specs.declared.denial.Denial.TheVariants.{LeaderOnly, NotYours}
use Rattle.orca_term.specs.Came.{hand_rule_name}
use Rattle.orca_term.specs.declared.came.HandRule.{HandRule}
use Rattle.orca_term.specs.declared.came.HandRule.TheVariants as rule
use Rattle.orca_term.specs.declared.editor.Wish.{Wish}
use Rattle.orca_term.specs.declared.editor.Wish.TheVariants as wish

-- the wish to take back the last edit
abbrev pub is_undo : Wish → Bool
is_undo (wish.Do command.Undo) = true
is_undo _ = false

-- an undo of a hand, where the last edit is the one of this hand, if there is an edit
abbrev pub not_yours : ℕ → Option ℕ → Option Denial
not_yours hand None = None
not_yours hand (Some other) = if other == hand then None else Some (NotYours other)

-- the rule by which a key is denied
abbrev pub rule_of_denial : Denial → HandRule
rule_of_denial LeaderOnly = rule.LeaderOnly
rule_of_denial (NotYours hand) = rule.NotYours

-- the hand whose edit it is
abbrev pub whose : Denial → List ℕ
whose LeaderOnly = []
whose (NotYours hand) = codes " " ++ decimal hand

-- the line of a denied key of a hand
abbrev pub denial_line : ℕ → Denial → List ℕ
denial_line hand denial =
    codes "hand " ++ decimal hand ++ codes " refused " ++ hand_rule_name (rule_of_denial denial)
    ++ whose denial ++ line_feed ∷ []
