use Rattle.std.proofs.Common.{rules, not}
use Rattle.std.proofs.lemmas.Fn.{filter_same}
use Rattle.orca_wav.specs.Rendering.{is_of}
use Rattle.orca_reports.proofs.listener.change.Goals as goal

pub returns-in-Off-clause-voices : goal.returns-in-Off-clause-voices
returns-in-Off-clause-voices c =
    rw c.in-Off.is
    (filter_same _ (λ voice. not (is_of c.in-Off.channel c.in-Off.key voice)) _
    (λ x b f' k. search rules) _ _ c.retain.ensures.filtered)
