-- The command of every form is one of those of which clap says exactly what they refuse.
use Rattle.std.proofs.Common.{◌≡◌, ◌∙◌, ap, sym, refl, ℕ, Bool, List, [], ◌∷◌, ◌++◌, fold, map, true, false, append_assoc}
use Rattle.std.specs.Prelude.{not, ◌&&◌}
use Rattle.std.specs.List.{list_all, list_any}
use Rattle.std.proofs.lemmas.List.{append-nil}
use Rattle.clap.specs.Words.{App, Rule, Text, with_rule}
use Rattle.clap.specs.Simple.{filled, filled_from, index_after, with_index}
use Rattle.clap.specs.Walk.{is_early_multiple}
use Rattle.clap.specs.Faults.{is_simple_and_free}
use Rattle.orca_words.specs.Forms.{Form, bare, command_of, option_rule, rules_of, positional_rule}

-- ---- the command with all its rules

-- a bare command with these rules
abbrev pub with_rules : Text → List Rule → App
with_rules name rules = record (bare name) { top = record (bare name).top { rules = rules } }

gathered : (name : Text) (before rules : List Rule)
    → fold with_rule (with_rules name before) rules ≡ with_rules name (before ++ rules)
gathered name before [] = ap (with_rules name) (sym (append-nil before))
gathered name before (r ∷ rules) =
    gathered name (before ++ r ∷ []) rules
    ∙ ap (with_rules name) (append_assoc before (r ∷ []) rules)

pub command_is : (form : Form) → command_of form ≡ with_rules form.word (rules_of form)
unfolding command_of
command_is form = gathered form.word [] (rules_of form)

-- ---- tests of all rules

-- the rules as a built command has them, the first of them in place i
abbrev pub built_positional : ℕ → Text → Rule
built_positional i name = with_index i (filled (positional_rule name))

abbrev pub built_option : ℕ → Text → Rule
built_option i name = with_index i (filled (option_rule name))

abbrev pub built_options : ℕ → List Text → List Rule
built_options i options = filled_from i (map option_rule options)

abbrev pub built_rules : ℕ → List Text → List Text → List Rule
built_rules i needed options =
    filled_from i (map positional_rule needed ++ map option_rule options)

-- what every positional and every option passes, all of them pass
module _ (test : Rule → Bool)
    (positional_passes : (i : ℕ) (name : Text) → test (built_positional i name) ≡ true)
    (option_passes : (i : ℕ) (name : Text) → test (built_option i name) ≡ true) where
  options_pass : (i : ℕ) (options : List Text) → list_all test (built_options i options) ≡ true
  options_pass i [] = refl
  options_pass i (name ∷ options) =
      rw (option_passes i name, options_pass (index_after i (option_rule name)) options) refl

  rules_pass : (i : ℕ) (needed options : List Text)
      → list_all test (built_rules i needed options) ≡ true
  rules_pass i [] options = options_pass i options
  rules_pass i (name ∷ needed) options =
      let next = index_after i (positional_rule name) in
      rw (positional_passes i name, rules_pass next needed options) refl

any_cons : {X : Type 0} (test : X → Bool) (x : X) (xs : List X) (t : Bool) → test x ≡ t
    → (not t && list_all (λ y. not (test y)) xs) ≡ true
    → (list_all (λ y. not (test y)) xs ≡ true → list_any test xs ≡ false)
    → list_any test (x ∷ xs) ≡ false
any_cons test x xs true is h others = cc
any_cons test x xs false is h others = rw is (others h)

any_none : {X : Type 0} (test : X → Bool) (xs : List X)
    → list_all (λ x. not (test x)) xs ≡ true → list_any test xs ≡ false
any_none test [] h = refl
any_none test (x ∷ xs) h = any_cons test x xs (test x) refl h (any_none test xs)

-- ---- what clap asks of a simple command

are_simple : (needed options : List Text)
    → list_all (λ (r : Rule). r.is_simple)
    (map positional_rule needed ++ map option_rule options) ≡ true
are_simple [] [] = refl
are_simple [] (name ∷ options) = are_simple [] options
are_simple (name ∷ needed) options = are_simple needed options

from_rules : (name : Text) (rules : List Rule)
    → list_all (λ (r : Rule). r.is_simple) rules ≡ true
    → list_all (λ (r : Rule). r.is_simple) (filled_from 1 rules) ≡ true
    → ((n : ℕ) → list_any (is_early_multiple n) (filled_from 1 rules) ≡ false)
    → list_all (λ (r : Rule). r.is_free) (filled_from 1 rules) ≡ true
    → is_simple_and_free (with_rules name rules) ≡ true
from_rules name rules simple still early free = rw (simple, still, early, free) refl

-- no rule of a form changes how words are read, takes several values or speaks of another rule
pub simple_and_free : (form : Form) → is_simple_and_free (command_of form) ≡ true
simple_and_free form =
    let needed = form.positionals in
    let options = form.options in
    let early : (n : ℕ) → list_any (is_early_multiple n) (built_rules 1 needed options) ≡ false =
    λ n. any_none (is_early_multiple n) (built_rules 1 needed options)
    (rules_pass (λ (r : Rule). not (is_early_multiple n r)) (λ i name. refl) (λ i name. refl) 1
    needed options) in
    rw (command_is form) (from_rules form.word (rules_of form) (are_simple needed options)
    (rules_pass (λ (r : Rule). r.is_simple) (λ i name. refl) (λ i name. refl) 1 needed options)
    early
    (rules_pass (λ (r : Rule). r.is_free) (λ i name. refl) (λ i name. refl) 1 needed options))
