use Rattle.std.proofs.Common.{[], ◌∷◌, sym, refl, ◌∙◌}
use Rattle.orca_cues.proofs.Checking.{Checks, checks-start, checks-more, refused_script, refused_grammar, checked_script}
use Rattle.orca_cues.proofs.script.check_by.Goals as goal
use Rattle.orca_cues.proofs.script.check_by.Goals.{In-Some, In-Err, In_default, In-None}

pub loop-line-init : goal.loop-line-init
loop-line-init c =
    let start = checks-start c.args.format_2 c.args.text.now c.requires in
    (tt, tt, rw (c.into_iter-line-iterator.ensures.into_iter_gives, c.of-line-items.ensures) start)

-- before a line
checks : (c : In-Some)
    → Checks c.args.format_2 c.args.text.now c.loop-line.number (c.in-Some.line.now ∷ c.next.new.self)
checks c = rw c.in-Some.ensures.steps at c.loop-line.invariant.2

pub returns-in-Err-clause-ok : goal.returns-in-Err-clause-ok
returns-in-Err-clause-ok c =
    let before = checks (goal.at.returns-in-Err-clause-ok c).In-Some in
    let read = sym c.read_as.ensures.reading ∙ c.in-Err.is in
    let refused = refused_script _ _ _ _ _ before _ read in
    (λ ok. cc, λ ok. let false_ok = rw refused at ok in cc)

pub returns-in-Err-clause-fault : goal.returns-in-Err-clause-fault
returns-in-Err-clause-fault c =
    let before = checks (goal.at.returns-in-Err-clause-fault c).In-Some in
    refused_script _ _ _ _ _ before _
    (sym c.read_as.ensures.reading ∙ c.in-Err.is)

pub returns-in-Err-clause-first : goal.returns-in-Err-clause-first
returns-in-Err-clause-first c =
    let before = checks (goal.at.returns-in-Err-clause-first c).In-Some in
    refused_grammar _ _ _ _ _ before _
    c.in-Err.ensures.refused

pub loop-line-preserved : goal.loop-line-preserved
loop-line-preserved c =
    let before = checks (goal.at.loop-line-preserved c).In-Some in
    let read = sym c.read_as.ensures.reading ∙ c.in_default.is in
    let is = c.in_default.ensures.grammar in
    (tt, tt, checks-more _ _ _ _ _ before _ read is)

pub returns-clause-ok : goal.returns-clause-ok
returns-clause-ok c =
    let end : Checks c.args.format_2 c.args.text.now c.loop-line.number [] =
    rw c.in-None.ensures.steps.0 at c.loop-line.invariant.2 in
    (λ yes. rw (checked_script _ _ _ end) refl, λ yes. refl)
