use Rattle.std.proofs.Common.{rules, not}
use Rattle.std.proofs.lemmas.Fn.{filter_same}
use Rattle.orca_wav.specs.Rendering.{is_of}
use Rattle.orca_wav.proofs.tone.remove.Goals as goal

pub returns-clause-tones : goal.returns-clause-tones
returns-clause-tones c =
    filter_same _ (λ tone. not (is_of c.args.channel c.args.key tone.voice)) _
    (λ x b f' k. search rules) _ _ c.retain.ensures.filtered
