use Rattle.std.proofs.Common.{◌≡◌, ◌∷◌, ◌+◌, sym, ap, ◌∙◌}
use Rattle.orca_cues.specs.Readable.{AreReadable}
use Rattle.orca_cues.specs.Scripts.{cues_of}
use Rattle.orca_cues.proofs.Checking.{readable-more}
use Rattle.orca_cues.proofs.CuesLeft.{cues-some, cues-none, cues-nil}
use Rattle.orca_cues.proofs.script.ScriptSource.next.Goals as goal
use Rattle.orca_cues.proofs.script.ScriptSource.next.Goals.{In-Some}

-- after the line
after : (c : In-Some) → AreReadable (c.loop-line.self-inside.number + 1) c.next.new.self
after c = readable-more _ _ _ (rw c.in-Some.ensures.steps at c.loop-line.invariant.readable)

-- before the line
before : (c : In-Some) →
    cues_of c.self.inside.format_2 (c.self.inside.number + 1) c.self.inside.lines
    ≡ cues_of c.self.inside.format_2 (c.loop-line.self-inside.number + 1)
    (c.in-Some.line.now ∷ c.next.new.self)
before c =
    let number = c.loop-line.self-inside.number in
    sym c.loop-line.invariant.same
    ∙ ap (cues_of c.self.inside.format_2 (number + 1)) c.in-Some.ensures.steps

pub invariant_of-self : goal.invariant_of-self
invariant_of-self c = after (goal.at.invariant_of-self c).In-Some

pub returns-in-Some-cue_of_line : goal.returns-in-Some-cue_of_line
returns-in-Some-cue_of_line c =
    let format = c.loop-line.invariant.format in
    let some = cues-some _ _ _ _ _ (rw format at c.in-Some-cue_of_line.ensures) in
    rw format (sym c.self.view_is
    ∙ (before (goal.at.returns-in-Some-cue_of_line c).In-Some ∙ some))

pub loop-line-preserved : goal.loop-line-preserved
loop-line-preserved c =
    let format = c.loop-line.invariant.format in
    let none = cues-none _ _ _ _ (rw format at c.in_default-cue_of_line.ensures) in
    let at = (goal.at.loop-line-preserved c).In-Some in
    record { readable = after at; format = format; same = sym (before at ∙ none) }

pub returns : goal.returns
returns c =
    let none = c.in_default.ensures.steps in
    let number = c.loop-line.self-inside.number in
    let same = sym c.self.view_is ∙ sym c.loop-line.invariant.same in (
      same ∙ (ap (cues_of c.self.inside.format_2 (number + 1)) none.0 ∙ cues-nil _ _),
      ap (cues_of c.loop-line.self-inside.format_2 (number + 1)) none.1 ∙ cues-nil _ _,
    )
