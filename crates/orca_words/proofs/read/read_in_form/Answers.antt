use Rattle.orca_words.proofs.RecordedWork.{answered}
use Rattle.orca_words.proofs.read.read_in_form.Goals as goal

pub returns-clause-tempo : goal.returns-clause-tempo
returns-clause-tempo c =
    answered _ _ _ _ _ _ (λ setup work holds. holds.0) c.request_by.ensures c.ok_or.ensures.value

pub returns-clause-portless : goal.returns-clause-portless
returns-clause-portless c =
    answered _ _ _ _ _ _ (λ setup work holds. holds.1) c.request_by.ensures c.ok_or.ensures.value

pub returns-clause-journal : goal.returns-clause-journal
returns-clause-journal c =
    answered _ _ _ _ _ _ (λ setup work holds. holds.2) c.request_by.ensures c.ok_or.ensures.value
