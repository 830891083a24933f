-- The command of a form, as the code builds it.
use Rattle.std.proofs.Common.{◌≡◌, ◌∙◌, ap, sym, fold, map, true}
use Rattle.std.proofs.lemmas.List.Sums.{fold-append}
use Rattle.clap.specs.Words.{App, Text, app_of, new_app, with_rule}
use Rattle.clap.specs.Simple.{app_of_fields, on_top}
use Rattle.clap.specs.declared.builder.command.Command.{Command}
use Rattle.clap.specs.declared.builder.command.Command.TheViews.{out-Command}
use Rattle.orca_words.specs.Forms.{Form, bare, command_of, option_rule, positional_rule}

-- a command with no help flag, over the words alone
pub bare_from : (new plain command : Command) (name : Text) → app_of new ≡ new_app name
    → out-Command plain ≡ record (out-Command new) { no_binary_name = true }
    → out-Command command ≡ record (out-Command plain) { disable_help_flag = true }
    → app_of command ≡ bare name
bare_from new plain command name is first second =
    ap app_of_fields second
    ∙ (ap (on_top (λ s. record s { disable_help_flag = true })) (ap app_of_fields first)
    ∙ ap (on_top (λ s. record s { no_binary_name = true; disable_help_flag = true })) is)

-- the positionals of a form, and then its options
pub whole_command : (form : Form) (plain needed options : App) → plain ≡ bare form.word
    → needed ≡ fold with_rule plain (map positional_rule form.positionals)
    → options ≡ fold with_rule needed (map option_rule form.options)
    → options ≡ command_of form
unfolding command_of
whole_command form plain needed options first second third =
    let full : needed
    ≡ fold with_rule (bare form.word) (map positional_rule form.positionals) =
    second ∙ ap (λ a. fold with_rule a (map positional_rule form.positionals)) first in
    let joined = fold-append with_rule (bare form.word) (map positional_rule form.positionals)
    (map option_rule form.options) in
    third ∙ (ap (λ a. fold with_rule a (map option_rule form.options)) full ∙ sym joined)
