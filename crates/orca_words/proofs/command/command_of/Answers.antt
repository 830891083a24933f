use Rattle.std.proofs.lemmas.Result.{IfOk-weaker}
use Rattle.clap.specs.Words.{app_of}
use Rattle.orca_words.specs.Forms.{form_in}
use Rattle.orca_words.proofs.Commands.{bare_from, whole_command}
use Rattle.orca_words.proofs.command.command_of.Goals as goal

-- a bare command, with the positionals of the form, and then with its options
pub returns : goal.returns
returns c =
    let form = form_in c.args.form.now in
    let plain = bare_from _ _ _ form.word c.new.ensures.app c.no_binary_name.ensures
    c.disable_help_flag-command.ensures in
    IfOk-weaker c.with_options.result _ _
    (λ command full. whole_command form _ _ (app_of command) plain c.in_ok-command.ensures full)
    c.with_options.ensures
