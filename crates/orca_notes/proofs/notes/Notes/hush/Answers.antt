use Rattle.std.proofs.Common.{◌≡◌, ◌≤◌, refl, arith, length}
use Rattle.orca_base.specs.declared.limits.TheConstants.{MAX_NOTES}
use Rattle.orca_notes.specs.Sound.{ends}
use Rattle.orca_notes.specs.Device.{IsChord}
use Rattle.orca_notes.proofs.Chords.{length-IsChord, IsChord-nil}
use Rattle.orca_notes.proofs.MessageRanges.{few_values-ends}
use Rattle.orca_notes.proofs.PlayFacts.{Plays-ends}
use Rattle.orca_notes.proofs.notes.Notes.hush.Goals as goal
use Rattle.orca_notes.proofs.notes.Notes.hush.Goals.{After-clear}

pub say_all_ends-requires : goal.say_all_ends-requires
say_all_ends-requires c =
    let few : length c.deref.result.now ≤ MAX_NOTES =
    rw c.deref.ensures.value (length-IsChord _ c.self.invariant.0) in
    rw c.requires (omega (arith, few))

pub invariant_of-self : goal.invariant_of-self
invariant_of-self c =
    let room = c.clear.ensures.capacity in
    (rw c.clear.ensures.items IsChord-nil, omega (arith, c.self.invariant.1, room))

-- the messages are the ends of all notes
said : (c : After-clear) → c.say_all_ends.new.messages ≡ ends c.args.self.now
said c = rw (c.say_all_ends.ensures, c.requires, c.deref.ensures.value, ← c.self.view_is) refl

pub returns-clause-plays : goal.returns-clause-plays
returns-clause-plays c =
    let chord : IsChord c.args.self.now = rw (← c.self.view_is) c.self.invariant.0 in
    rw (said c) (Plays-ends c.args.self.now chord)

pub returns-clause-few_values : goal.returns-clause-few_values
returns-clause-few_values c = rw (said c) (few_values-ends c.args.self.now)
