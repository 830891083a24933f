use Rattle.std.proofs.Common.{◌≡◌}
use Rattle.orca_words.specs.Forms.{form_in}
use Rattle.orca_words.specs.declared.fault.WordsFault.TheVariants.{Usage}
use Rattle.orca_words.proofs.Parses.{accepted_by, found_by, refused_by}
use Rattle.orca_words.proofs.command.parse.Goals as goal

pub returns-in-Ok-clause-accepted : goal.returns-in-Ok-clause-accepted
returns-in-Ok-clause-accepted c =
    accepted_by (form_in c.args.form.now) _ _ c.in_ok-command.ensures c.in-Ok.ensures.kinds

pub returns-in-Ok-clause-found : goal.returns-in-Ok-clause-found
returns-in-Ok-clause-found c =
    found_by (form_in c.args.form.now) _ _ c.in-Ok.found c.in_ok-command.ensures
    c.in-Ok.ensures.matches

pub returns-in-Err-clause-refused : goal.returns-in-Err-clause-refused
returns-in-Err-clause-refused c = λ usage.
    let same : c.fault.result ≡ Usage = cc in
    refused_by (form_in c.args.form.now) _ _ c.in-Err.error c.fault.result
    c.in_ok-command.ensures c.in-Err.ensures.kinds c.fault.ensures same
