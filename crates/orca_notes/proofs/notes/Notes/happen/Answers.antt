use Rattle.std.proofs.Common.{true, false, refl}
use Rattle.orca_notes.specs.Sound.{happens}
use Rattle.orca_notes.proofs.Follows.{absent-after_cut}
use Rattle.orca_notes.proofs.notes.Notes.happen.Goals as goal
use Rattle.orca_notes.proofs.notes.Notes.happen.Goals.{then-mono, else-mono}

-- all notes of the channel have ended, or that of the key
pub begin-requires-clause-silent : goal.begin-requires-clause-silent
begin-requires-clause-silent c =
    let absent = absent-after_cut c.in-Note.channel c.in-Note.key in
    elim c.if-mono.branch [
      | then-mono w ↦ rw (c.stop.ensures.notes, w.ending-is) (absent true c.args.self.now)
      | else-mono w ↦ rw (c.stop.ensures.notes, w.ending-is) (absent false c.args.self.now)
    ]

pub returns-after-mono-clause-happens : goal.returns-after-mono-clause-happens
unfolding happens
returns-after-mono-clause-happens c =
    rw (
      c.begin.ensures.notes,
      c.begin.ensures.messages,
      c.stop.ensures.notes,
      c.stop.ensures.messages,
      c.from.ensures,
    )
    (elim c.if-mono.branch [
      | then-mono w ↦ rw (c.in-Note.is, w.if-mono.true, w.ending-is) refl
      | else-mono w ↦ rw (c.in-Note.is, w.if-mono.false, w.ending-is) refl
    ])
