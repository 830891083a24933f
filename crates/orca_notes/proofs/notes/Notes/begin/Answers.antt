use Rattle.std.proofs.Common.{◌≤◌, ◌≡◌, false, ◌++◌, ◌∷◌, [], length, arith}
use Rattle.std.proofs.lemmas.List.{length-append}
use Rattle.orca_base.specs.declared.limits.TheConstants.{MAX_NOTES}
use Rattle.orca_notes.specs.Device.{is_on, voices, voice_of, IsChord}
use Rattle.orca_notes.proofs.Chords.{length-IsChord, IsChord-push}
use Rattle.orca_notes.proofs.notes.Notes.begin.Goals as goal

-- with the new note there are no more notes than channels and keys, so there was room for it
pub push_reserved-requires : goal.push_reserved-requires
push_reserved-requires c =
    let notes = c.self.inside.list.items in
    let silent : is_on (voices notes) (voice_of c.args.note) ≡ false =
    rw (c.self.view_is) c.requires.silent in
    let few : length (notes ++ c.args.note ∷ []) ≤ MAX_NOTES =
    length-IsChord _
    (IsChord-push notes c.args.note c.self.invariant.0 c.requires.in_range silent) in
    let size = length-append notes (c.args.note ∷ []) in
    omega (arith, few, size, c.self.inside.list.ok.0, c.self.invariant.1)

pub invariant_of-self : goal.invariant_of-self
invariant_of-self c =
    let notes = c.self.inside.list.items in
    let silent : is_on (voices notes) (voice_of c.args.note) ≡ false =
    rw (c.self.view_is) c.requires.silent in
    let chord : IsChord (notes ++ c.args.note ∷ []) =
    IsChord-push notes c.args.note c.self.invariant.0 c.requires.in_range silent in (
      rw c.push_reserved.ensures.items chord,
      omega (arith, c.self.invariant.1, c.push_reserved.ensures.capacity),
    )
