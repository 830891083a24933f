use Rattle.std.proofs.Common.{rules, not}
use Rattle.std.proofs.lemmas.Fn.{filter_same}
use Rattle.orca_notes.specs.Ending.{takes}
use Rattle.orca_notes.proofs.ending.Ending.remove_from.Goals as goal

pub returns-clause-notes : goal.returns-clause-notes
returns-clause-notes c =
    filter_same _ (λ note. not (takes c.args.self note)) _ (λ x b f' k. search rules) _ _
    c.retain.ensures.filtered
