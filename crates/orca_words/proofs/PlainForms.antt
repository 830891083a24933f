-- Two words that don't begin with a dash, by a form of a grid and one more positional: they are
-- these two, and no option is set, whatever the options of the form are.
use Rattle.std.proofs.Common.{◌≡◌, ◌∙◌, ap, refl, List, [], ◌∷◌, true, false, ℕ, Bool, None, Some, codes, fold, cond}
use Rattle.std.specs.Prelude.{not, ◌&&◌}
use Rattle.std.specs.List.{list_any}
use Rattle.std.proofs.Math.Bool.{or-true}
use Rattle.clap.specs.Words.{Row, Rule, Shape, Text, built, fault_of, matches_of}
use Rattle.clap.specs.Simple.{index_after}
use Rattle.clap.specs.Walk.{Held, Walk, finished, has_row, nothing_held, walk, walked, with_default}
use Rattle.clap.specs.Faults.{defaults_fault, turn_fault, walk_fault}
use Rattle.clap.specs.Takes.{is_given}
use Rattle.clap.specs.declared.parser.matches.ValueSource.TheVariants.{CommandLine}
use Rattle.clap.specs.declared.builder.value_parser.Reading.TheVariants.{AsWritten}
use Rattle.orca_words.specs.Forms.{Form, command_of, option_rule, rules_of}
use Rattle.orca_words.specs.declared.forms.Verb.{Verb}
use Rattle.orca_words.proofs.PlainWalk.{has_no_dash, idle_at, plain_turn, plain_walked}
use Rattle.orca_words.proofs.SimpleForms.{built_options, built_positional, command_is, with_rules}

-- ---- options that no word sets

same_either : {X : Type 0} (b : Bool) (x : X) → cond b x x ≡ x
same_either true x = refl
same_either false x = refl

-- they have no default, so they add nothing to what is found
options_stay : (i : ℕ) (options : List Text) (found : List Row)
    → fold with_default found (built_options i options) ≡ found
options_stay i [] found = refl
options_stay i (name ∷ options) found =
    let next = index_after i (option_rule name) in
    ap (λ rows. fold with_default rows (built_options next options))
    (same_either (has_row name found) found) ∙ options_stay next options found

options_faultless : (i : ℕ) (options : List Text) (found : List Row)
    → defaults_fault found (built_options i options) ≡ []
unfolding defaults_fault
options_faultless i [] found = refl
options_faultless i (name ∷ options) found =
    rw (
      or-true (has_row name found),
      same_either (has_row name found) found,
      options_faultless (index_after i (option_rule name)) options found,
    ) refl

-- a rule lacks its text
abbrev lacks : List Row → Rule → Bool
lacks found rule = rule.required && not (is_given rule.id found)

options_free : (i : ℕ) (options : List Text) (found : List Row)
    → list_any (lacks found) (built_options i options) ≡ false
options_free i [] found = refl
options_free i (name ∷ options) found =
    options_free (index_after i (option_rule name)) options found

-- ---- the walk over the two words

-- a word as it is found
unfoldable pub row : Text → Text → Row
row name word = record {
  id = name;
  values = word ∷ [];
  count = None;
  source = Some CommandLine;
  reading = AsWritten;
}

-- the positional after the grid
pub data Second : Type 0 where
  Frames : Second
  Script : Second

abbrev pub name_of : Second → Text
name_of Frames = codes "FRAMES"
name_of Script = codes "SCRIPT"

-- the rules of a grid and another positional, before those of any options
unfoldable rules : Text → List Rule → List Rule
rules name options = built_positional 1 (codes "GRID") ∷ built_positional 2 name ∷ options

-- what is held after the first word, and after both
grid_held : Text → Held
grid_held grid = record { rows = []; pending = Some (codes "GRID", grid ∷ []); skip = 0 }

both_held : Text → Text → Text → Held
both_held name grid other = record {
  rows = row (codes "GRID") grid ∷ [];
  pending = Some (name, other ∷ []);
  skip = 0;
}

-- the built command
top : Text → Text → List Rule → List Rule → Shape
top name word given options =
    record (built (with_rules word given)).top { rules = rules name options }

module _ (options : List Rule) (grid other : Text) (plain_grid : has_no_dash grid ≡ true)
    (plain_other : has_no_dash other ≡ true) where
  grid_walked : (second : Second)
      → walked (rules (name_of second) options) [] (idle_at nothing_held 1) grid
      ≡ idle_at (grid_held grid) 2
  unfolding rules grid_held
  grid_walked second =
      plain_walked (rules (name_of second) options) nothing_held 1 grid plain_grid

  other_walked : (second : Second)
      → walked (rules (name_of second) options) [] (idle_at (grid_held grid) 2) other
      ≡ idle_at (both_held (name_of second) grid other) 3
  unfolding rules grid_held both_held row
  other_walked Frames =
      plain_walked (rules (name_of Frames) options) (grid_held grid) 2 other plain_other
  other_walked Script =
      plain_walked (rules (name_of Script) options) (grid_held grid) 2 other plain_other

  both_walked : (second : Second)
      → walk (rules (name_of second) options) [] nothing_held (grid ∷ other ∷ [])
      ≡ idle_at (both_held (name_of second) grid other) 3
  both_walked second =
      ap (λ w. walked (rules (name_of second) options) [] w other) (grid_walked second)
      ∙ other_walked second

  grid_faultless : (second : Second) (word : Text) (given : List Rule)
      → turn_fault (top (name_of second) word given options) [] (idle_at nothing_held 1) grid
      ≡ []
  unfolding rules top
  grid_faultless second word given =
      plain_turn (top (name_of second) word given options) nothing_held 1 grid plain_grid

  other_faultless : (second : Second) (word : Text) (given : List Rule)
      → turn_fault (top (name_of second) word given options) [] (idle_at (grid_held grid) 2)
      other ≡ []
  unfolding rules top grid_held
  other_faultless Frames word given =
      plain_turn (top (name_of Frames) word given options) (grid_held grid) 2 other plain_other
  other_faultless Script word given =
      plain_turn (top (name_of Script) word given options) (grid_held grid) 2 other plain_other

  both_faultless : (second : Second) (word : Text) (given : List Rule)
      → walk_fault (top (name_of second) word given options) [] (idle_at nothing_held 1)
      (grid ∷ other ∷ []) ≡ []
  unfolding walk_fault top
  both_faultless second word given =
      rw (
        grid_faultless second word given,
        grid_walked second,
        other_faultless second word given,
      ) refl

-- ---- by a form

abbrev pub grid_form : Second → Text → List Text → Verb → Form
grid_form second word options verb = record {
  word = word;
  positionals = codes "GRID" ∷ name_of second ∷ [];
  options = options;
  verb = verb;
}

unfoldable pub plain_rows : Second → Text → Text → List Row
plain_rows second grid other = row (codes "GRID") grid ∷ row (name_of second) other ∷ []

module _ (word : Text) (options : List Text) (verb : Verb) (grid other : Text)
    (plain_grid : has_no_dash grid ≡ true) (plain_other : has_no_dash other ≡ true) where
  ended : (second : Second)
      → finished (rules (name_of second) (built_options 3 options))
      (both_held (name_of second) grid other)
      ≡ fold with_default (plain_rows second grid other) (built_options 3 options)
  unfolding rules plain_rows both_held row
  ended Frames = refl
  ended Script = refl

  -- the two words are found
  pub plain_found : (second : Second)
      → matches_of (command_of (grid_form second word options verb)) (grid ∷ other ∷ [])
      ≡ plain_rows second grid other
  unfolding rules top
  plain_found second =
      let left = built_options 3 options in
      ap (λ a. matches_of a (grid ∷ other ∷ [])) (command_is (grid_form second word options verb))
      ∙ (ap (λ (w : Walk). finished (rules (name_of second) left) w.held)
      (both_walked left grid other plain_grid plain_other second)
      ∙ (ended second ∙ options_stay 3 options (plain_rows second grid other)))

  -- and have no fault
  pub plain_accepted : (second : Second)
      → fault_of (command_of (grid_form second word options verb)) (grid ∷ other ∷ []) ≡ []
  unfolding rules top plain_rows both_held row defaults_fault
  plain_accepted Frames =
      let left = built_options 3 options in
      let given = rules_of (grid_form Frames word options verb) in
      let words = grid ∷ other ∷ [] in
      let found = finished (rules (name_of Frames) left)
      (walk (rules (name_of Frames) left) [] nothing_held words).held in
      ap (λ a. fault_of a words) (command_is (grid_form Frames word options verb))
      ∙ rw (
        both_walked left grid other plain_grid plain_other Frames,
        both_faultless left grid other plain_grid plain_other Frames word given,
        options_faultless 3 options (plain_rows Frames grid other),
        options_stay 3 options (plain_rows Frames grid other),
        options_free 3 options found,
      ) refl
  plain_accepted Script =
      let left = built_options 3 options in
      let given = rules_of (grid_form Script word options verb) in
      let words = grid ∷ other ∷ [] in
      let found = finished (rules (name_of Script) left)
      (walk (rules (name_of Script) left) [] nothing_held words).held in
      ap (λ a. fault_of a words) (command_is (grid_form Script word options verb))
      ∙ rw (
        both_walked left grid other plain_grid plain_other Script,
        both_faultless left grid other plain_grid plain_other Script word given,
        options_faultless 3 options (plain_rows Script grid other),
        options_stay 3 options (plain_rows Script grid other),
        options_free 3 options found,
      ) refl
