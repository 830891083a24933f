-- What keys came to, in words.
use Rattle.std.specs.Prelude.{ℕ, Bool, true, if◌then◌else◌, Option, Some, None, List, codes}
use Rattle.orca_base.specs.RuleNames.{rule_name}
use Rattle.orca_base.specs.declared.command.Rule.{Rule}
use Rattle.orca_term.specs.declared.came.Came.{Came}
use Rattle.orca_term.specs.declared.came.Came.TheVariants.{Well, Refused, Denied, Kept}
use Rattle.orca_term.specs.declared.came.HandRule.{HandRule}
use Rattle.orca_term.specs.declared.came.HandRule.TheVariants.{LeaderOnly, NotYours}

-- the names of the rules by which a key is denied to a hand, as they are printed
abbrev pub hand_rule_name : HandRule → List ℕ
hand_rule_name LeaderOnly = codes "LeaderOnly"
hand_rule_name NotYours = codes "NotYours"

-- what a command came to, by the rule that refused it, if one did
abbrev pub came_to : Option Rule → Came
came_to None = Well
came_to (Some rule) = Refused rule

-- a word that is told only where the last save did not fail
abbrev pub unless_unsaved : Bool → List ℕ → List ℕ
unless_unsaved unsaved word = if unsaved then codes "unsaved" else word

-- what the last key came to, where the last save failed or did not
abbrev pub came_word : Bool → Came → List ℕ
came_word unsaved Well = unless_unsaved unsaved (codes "ok")
came_word unsaved (Refused rule) = rule_name rule
came_word unsaved (Denied rule) = hand_rule_name rule
came_word unsaved Kept = unless_unsaved unsaved (codes "saved")

-- whether the word warns
abbrev pub is_warning : Bool → Came → Bool
is_warning unsaved Well = unsaved
is_warning unsaved Kept = unsaved
is_warning unsaved _ = true
