use Rattle.std.proofs.Common.{◌∙◌}
use Rattle.orca_words.proofs.Found.{text_found}
use Rattle.orca_words.proofs.values.option_text.Goals as goal

pub returns : goal.returns
returns c = c.get_str.ensures ∙ text_found c.args.found.now c.args.name.now
