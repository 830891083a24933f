use Rattle.std.proofs.Common.{◌≡◌, ◌+◌, ◌≤◌, not, refl, arith, length}
use Rattle.std.specs.List.{filter}
use Rattle.std.proofs.lemmas.List.{length-append, length-map}
use Rattle.std.proofs.lemmas.List.Filters.{length-filter_both}
use Rattle.orca_base.specs.declared.limits.TheConstants.{MAX_NOTES}
use Rattle.orca_base.specs.declared.message.Message.TheVariants as Message
use Rattle.orca_notes.specs.Ending.{takes}
use Rattle.orca_notes.specs.Sound.{ends}
use Rattle.orca_notes.proofs.Chords.{length-IsChord, IsChord-filter}
use Rattle.orca_notes.proofs.notes.Notes.stop.Goals as goal

pub apply-requires : goal.apply-requires
apply-requires c =
    let few : length c.args.self.now ≤ MAX_NOTES =
    rw (← c.self.view_is) (length-IsChord _ c.self.invariant.0) in
    rw c.self.view_is (omega (arith, c.requires few))

pub invariant_of-self : goal.invariant_of-self
invariant_of-self c =
    let chord = IsChord-filter _ c.self.inside.list.items c.self.invariant.0 in
    (rw c.apply.ensures.notes chord, omega (arith, c.self.invariant.1, c.apply.ensures.room))

pub returns-clause-few : goal.returns-clause-few
returns-clause-few c = rw (← c.self.view_is) (length-IsChord _ c.self.invariant.0)

-- a note that leaves the list gives one message
pub returns-clause-count : goal.returns-clause-count
returns-clause-count c =
    let notes = c.self.inside.list.items in
    let gone = filter (takes c.args.ending) notes in
    let left = filter (λ note. not (takes c.args.ending note)) notes in
    let both : length gone + length left ≡ length notes =
    length-filter_both (takes c.args.ending) (λ note. not (takes c.args.ending note))
    (λ _. refl) notes in
    let said = length-append c.args.messages.now (ends gone) in
    let one_each = length-map gone (λ note. Message.Off note.channel note.key) in
    rw (← c.self.view_is, c.apply.ensures.notes, c.apply.ensures.said)
    (omega (arith, both, said, one_each))
