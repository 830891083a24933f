use Rattle.std.proofs.Common.{◌≡◌, ◌∷◌, ◌+◌, Ok, sym, ap, ◌∙◌}
use Rattle.orca_cues.specs.Readable.{AreReadable}
use Rattle.orca_cues.proofs.Checking.{readable-more}
use Rattle.orca_rooms.specs.Sound.{sound_cues}
use Rattle.orca_rooms.proofs.SoundLemmas.{sound-nil, sound-none, sound-some, sound-wrong}
use Rattle.orca_rooms.proofs.sound.SoundScript.asked.Goals as goal
use Rattle.orca_rooms.proofs.sound.SoundScript.asked.Goals.{In-Some}

-- after a line
after : (c : In-Some) → AreReadable (c.loop-line.self-inside.number + 1) c.next.new.self
after c = readable-more _ _ _ (rw c.in-Some.ensures.steps at c.loop-line.invariant.readable)

-- before it
before : (c : In-Some) → sound_cues (c.self.inside.number + 1) c.self.inside.lines
    ≡ sound_cues (c.loop-line.self-inside.number + 1) (c.in-Some.line.now ∷ c.next.new.self)
before c =
    sym c.loop-line.invariant.same
    ∙ ap (sound_cues (c.loop-line.self-inside.number + 1)) c.in-Some.ensures.steps

pub invariant_of-self : goal.invariant_of-self
invariant_of-self c = after (goal.at.invariant_of-self c).In-Some

pub returns-in-Ok-Some : goal.returns-in-Ok-Some
returns-in-Ok-Some c =
    let read = sym c.read_at.ensures ∙ (c.in-Ok-Some.is ∙ ap Ok c.in-Ok-Some.field-0-is) in
    sym c.self.view_is
    ∙ (before (goal.at.returns-in-Ok-Some c).In-Some ∙ sound-some _ _ _ _ read)

pub loop-line-preserved : goal.loop-line-preserved
loop-line-preserved c =
    let read = sym c.read_at.ensures ∙ (c.in-Ok-None.is ∙ ap Ok c.in-Ok-None.field-0-is) in
    let at = (goal.at.loop-line-preserved c).In-Some in
    record { readable = after at; same = sym (before at ∙ sound-none _ _ _ read) }

pub returns-in-Err : goal.returns-in-Err
returns-in-Err c =
    let read = sym c.read_at.ensures ∙ c.in-Err.is in (
      sym c.self.view_is
          ∙ (before (goal.at.returns-in-Err c).In-Some ∙ sound-wrong _ _ _ _ read),
      ap (sound_cues _) c.of-self-inside.ensures ∙ sound-nil _,
    )

pub returns : goal.returns
returns c =
    let none = c.in_default.ensures.steps in
    let number = c.loop-line.self-inside.number in (
      sym c.self.view_is ∙ (sym c.loop-line.invariant.same
          ∙ (ap (sound_cues (number + 1)) none.0 ∙ sound-nil _)),
      ap (sound_cues (number + 1)) none.1 ∙ sound-nil _,
    )
