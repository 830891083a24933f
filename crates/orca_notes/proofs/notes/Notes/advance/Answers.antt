use Rattle.std.proofs.Common.{◌≡◌, ap}
use Rattle.std.proofs.lemmas.List.{take_all}
use Rattle.orca_notes.specs.Sound.{Sounds, sounds_of, sound}
use Rattle.orca_notes.proofs.Follows.{Follows, sound-follows}
use Rattle.orca_notes.proofs.MessageRanges.{few_values-sound}
use Rattle.orca_notes.proofs.notes.Notes.advance.Goals as goal
use Rattle.orca_notes.proofs.notes.Notes.advance.Goals.{After-loop-event}

-- after the last event all have happened
same : (c : After-loop-event)
    → sounds_of c.loop-event.self c.loop-event.messages
    ≡ sound c.args.self.now c.args.tick c.args.events.now
unfolding sound
same c =
    let all = take_all c.loop-event.event-index c.args.events.now c.loop-event-test.false in
    rw all at c.loop-event.invariant.same

pub returns-clause-notes : goal.returns-clause-notes
returns-clause-notes c = ap (λ (s : Sounds). s.notes) (same c)

pub returns-clause-messages : goal.returns-clause-messages
returns-clause-messages c = ap (λ (s : Sounds). s.messages) (same c)

pub returns-clause-plays : goal.returns-clause-plays
returns-clause-plays c =
    let follows : Follows c.args.self.now (sounds_of c.loop-event.self c.loop-event.messages) =
    rw (same c)
    (sound-follows c.args.self.now c.args.tick c.args.events.now c.stop.ensures.chord
    c.requires.playable) in
    follows.plays

pub returns-clause-few_values : goal.returns-clause-few_values
returns-clause-few_values c = λ few.
    rw (ap (λ (s : Sounds). s.messages) (same c))
    (few_values-sound c.args.self.now c.args.tick c.args.events.now few)
