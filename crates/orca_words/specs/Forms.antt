-- The forms of the command line, and the simple command by which clap reads the words of a form.
use Rattle.std.specs.Prelude.{true, Option, Some, List, ◌++◌, fold, find, map}
use Rattle.std.specs.Borrow.{Bor}
use Rattle.std.specs.Str.{bytes_eq}
use Rattle.clap.specs.Words.{App, Rule, Text, new_app, new_rule, with_rule}
use Rattle.clap.specs.Simple.{on_top}
use Rattle.clap.specs.Walk.{texts}
use Rattle.clap.specs.declared.builder.action.ArgAction.TheVariants.{Set}
use Rattle.orca_words.specs.declared.forms.Verb.{Verb}
use Rattle.orca_words.specs.declared.forms.TheConstants.{FORMS}

-- a form: its first word, the names of the positionals that have to follow it, in this order, the
-- names of its options, and what it asks for
pub record Form : Type 0 where
  pub word : Text
  pub positionals : List Text
  pub options : List Text
  pub verb : Verb

-- a row of the table, as the code holds it
abbrev pub form_in : Bor Text × Bor (List (Bor Text)) × Bor (List (Bor Text)) × Verb → Form
form_in row = record {
  word = row.0.now;
  positionals = texts row.1.now;
  options = texts row.2.now;
  verb = row.3;
}

-- the forms of the table
unfoldable pub forms : List Form
forms = map (λ row. record {
  word = row.0.now;
  positionals = map (λ name. name.now) row.1.now;
  options = map (λ name. name.now) row.2.now;
  verb = row.3;
}) FORMS

-- the form that a first word picks
abbrev pub form_by : Text → Option Form
form_by first = find (λ form. bytes_eq form.word first) forms

-- a positional that has to be there
abbrev pub positional_rule : Text → Rule
positional_rule name = record (new_rule name) { required = true; action = Some Set }

-- an option that sets one text: `--name text` or `--name=text`
abbrev pub option_rule : Text → Rule
option_rule name = record (new_rule name) { long = Some name }

-- the rules of a form: those of its positionals, and then those of its options
abbrev pub rules_of : Form → List Rule
rules_of form = map positional_rule form.positionals ++ map option_rule form.options

-- a command with no help or version flag, over the words alone
abbrev pub bare : Text → App
bare name =
    on_top (λ s. record s { no_binary_name = true; disable_help_flag = true }) (new_app name)

-- the command that reads the words after the first one
unfoldable pub command_of : Form → App
command_of form = fold with_rule (bare form.word) (rules_of form)
