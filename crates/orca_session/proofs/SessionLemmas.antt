-- What the calls of a session leave, seen by its parts.
use Rattle.std.proofs.Common.{◌≡◌, ℕ, false, true, List, [], Some, None, Ok, Err, refl, ap, sym, ◌∙◌, subst}
use Rattle.std.specs.Prelude.{Option, Result, All, IsSome, is_none}
use Rattle.std.proofs.lemmas.List.Elements.{All-nil}
use Rattle.orca_base.specs.declared.command.Command.{Command}
use Rattle.orca_base.specs.declared.command.Command.TheVariants as command
use Rattle.orca_base.specs.declared.command.Entry.TheVariants as entry
use Rattle.orca_base.specs.declared.command.Fault.TheVariants.{Refused, Memory}
use Rattle.orca_base.specs.declared.command.Reply.TheVariants.{Edited, Framed, Jumped, Redone, Retracted}
use Rattle.orca_base.specs.declared.command.Reply.{Reply}
use Rattle.orca_base.specs.declared.command.Fault.{Fault}
use Rattle.orca_base.specs.declared.command.Rule.{Rule}
use Rattle.orca_base.specs.declared.message.Message.{Message}
use Rattle.orca_base.specs.declared.note.Note.{Note}
use Rattle.orca_base.specs.Grids.{Sheet}
use Rattle.orca_base.specs.Histories.{group_of}
use Rattle.orca_base.specs.Ranges.{CarriesFewValues}
use Rattle.orca_checkpoints.specs.Points.{Points}
use Rattle.orca_edit.specs.Machines.{Acts, Obeys, may_lack_memory, obeyed}
use Rattle.orca_edit.specs.Obeying.{MachineState, jump_to, piece_of, redo, retract, rule_against}
use Rattle.orca_edit.specs.Pieces.{Piece, apply, opened_piece}
use Rattle.orca_edit.proofs.FoldLemmas.{piece_after-zero}
use Rattle.orca_history.specs.declared.ring.Kept.{Kept}
use Rattle.orca_notes.specs.Device.{Plays}
use Rattle.orca_notes.specs.Sound.{ends}
use Rattle.orca_notes.proofs.PlayFacts.{Plays-none}
use Rattle.orca_op.specs.Slate.{Slate, slate_of_sheet}
use Rattle.orca_op.specs.State.{sheet_of}
use Rattle.orca_patch.specs.Patches.{Before}
use Rattle.orca_session.specs.Past.{PastState, machine_of, past_at_start, past_jumped, past_pushed, past_redone, past_retracted, present}
use Rattle.orca_session.specs.Session.{KeepsSession}
use Rattle.orca_session.proofs.ObeyLemmas.{given-up, obey-frame, obey-hush, obey-refused, obey-reset}

-- ---- the start

-- the piece of an opened grid
pub opened-start : (sheet : Sheet) (seed limit : ℕ)
    → present (past_at_start sheet seed limit) ≡ opened_piece sheet seed
opened-start sheet seed limit = piece_after-zero sheet seed []

pub keeps-start : (p : PastState) (d : Slate) (notes : List Note) (sheet : Sheet) (seed limit : ℕ)
    → p ≡ past_at_start sheet seed limit → d ≡ slate_of_sheet sheet → notes ≡ []
    → KeepsSession p d notes 0
keeps-start p d notes sheet seed limit begun laid silent =
    let piece : present p ≡ opened_piece sheet seed =
    ap present begun ∙ opened-start sheet seed limit in
    record {
      grid = ap (λ (x : Slate). sheet_of x.scan) laid ∙ sym (ap (λ (x : Piece). x.sheet) piece);
      sounding = silent ∙ sym (ap (λ (x : Piece). x.notes) piece);
      next = sym (ap (λ (x : Piece). x.tick) piece);
    }

-- ---- nothing was done

-- no message, and the notes stay
pub acts-silent : (old new : MachineState) (c : Command) (answer : Result Reply Fault)
    (messages : List Message) → messages ≡ [] → Obeys old c answer new []
    → (piece_of new).notes ≡ (piece_of old).notes → Acts old c answer new messages
acts-silent old new c answer messages silent obeys same =
    rw silent
    (record {
      obeys = obeys;
      plays = subst (λ (notes : List Note). Plays (piece_of old).notes [] notes) (sym same)
          (Plays-none (piece_of old).notes);
      few_values = All-nil CarriesFewValues;
    })

pub acts-refused : (m : MachineState) (c : Command) (r : Rule) (messages : List Message)
    → messages ≡ [] → rule_against m c ≡ Some r → Acts m c (Err (Refused r)) m messages
acts-refused m c r messages silent is =
    acts-silent m m c (Err (Refused r)) messages silent (obey-refused m c r is) refl

pub acts-given-up : (m : MachineState) (c : Command) → rule_against m c ≡ None
    → may_lack_memory c ≡ true → Acts m c (Err Memory) m []
acts-given-up m c allowed lacking =
    acts-silent m m c (Err Memory) [] refl (given-up m c allowed lacking) refl

-- ---- a frame

pub acts-frame : (p q : PastState) (clip : Option Sheet) (newest : Kept) (points : Points)
    (tick : ℕ) (messages : List Message) → rule_against (machine_of p clip) command.Frame ≡ None
    → q ≡ past_pushed p entry.Frame newest points → tick ≡ (present p).tick
    → messages ≡ (apply (present p) entry.Frame).messages
    → Plays (present p).notes messages (present q).notes → All CarriesFewValues messages
    → Acts (machine_of p clip) command.Frame (Ok (Framed tick)) (machine_of q clip) messages
acts-frame p q clip newest points tick messages allowed pushed next said plays few = record {
  obeys = obey-frame (machine_of p clip) allowed
      ∙ (ap (λ (t : ℕ). obeyed (Ok (Framed t))
      (machine_of (past_pushed p entry.Frame newest points) clip)
      (apply (present p) entry.Frame).messages) (sym next)
      ∙ (ap (λ (x : PastState). obeyed (Ok (Framed tick)) (machine_of x clip)
      (apply (present p) entry.Frame).messages) (sym pushed)
      ∙ ap (λ (ms : List Message). obeyed (Ok (Framed tick)) (machine_of q clip) ms) (sym said)));
  plays = plays;
  few_values = few;
}

-- ---- a reset

pub acts-reset : (p q : PastState) (clip : Option Sheet) (newest : Kept) (points : Points)
    (messages : List Message) → rule_against (machine_of p clip) command.Reset ≡ None
    → q ≡ past_pushed p entry.Reset newest points → messages ≡ ends (present p).notes
    → Plays (present p).notes messages (present q).notes → All CarriesFewValues messages
    → Acts (machine_of p clip) command.Reset (Ok Edited) (machine_of q clip) messages
unfolding apply
acts-reset p q clip newest points messages allowed pushed said plays few = record {
  obeys = obey-reset (machine_of p clip) allowed
      ∙ (ap (λ (x : PastState). obeyed (Ok Edited) (machine_of x clip) (ends (present p).notes))
      (sym pushed)
      ∙ ap (λ (ms : List Message). obeyed (Ok Edited) (machine_of q clip) ms) (sym said));
  plays = plays;
  few_values = few;
}

-- no note sounds after it
pub notes-reset : (p : Piece) → (apply p entry.Reset).piece.notes ≡ []
unfolding apply
notes-reset p = refl

-- ---- a Hush

pub acts-hush : (p q : PastState) (clip : Option Sheet) (newest : Kept) (points : Points)
    (messages : List Message) → rule_against (machine_of p clip) command.Hush ≡ None
    → q ≡ past_pushed p entry.Hush newest points → messages ≡ ends (present p).notes
    → Plays (present p).notes messages (present q).notes → All CarriesFewValues messages
    → Acts (machine_of p clip) command.Hush (Ok Edited) (machine_of q clip) messages
unfolding apply
acts-hush p q clip newest points messages allowed pushed said plays few = record {
  obeys = obey-hush (machine_of p clip) allowed
      ∙ (ap (λ (x : PastState). obeyed (Ok Edited) (machine_of x clip) (ends (present p).notes))
      (sym pushed)
      ∙ ap (λ (ms : List Message). obeyed (Ok Edited) (machine_of q clip) ms) (sym said));
  plays = plays;
  few_values = few;
}

-- no note sounds after it
pub notes-hush : (p : Piece) → (apply p entry.Hush).piece.notes ≡ []
unfolding apply
notes-hush p = refl

-- ---- a jump

pub jump-parts : (p q : PastState) (clip : Option Sheet) (patch : Before) (points : Points)
    (moment : ℕ) (messages : List Message) → q ≡ past_jumped p moment patch points
    → messages ≡ ends (present p).notes
    → jump_to (machine_of p clip) moment
    ≡ obeyed (Ok (Jumped moment)) (machine_of q clip) messages
unfolding jump_to
jump-parts p q clip patch points moment messages jumped said =
    ap (λ (x : PastState). obeyed (Ok (Jumped moment)) (machine_of x clip)
    (ends (present p).notes)) (sym jumped)
    ∙ ap (λ (ms : List Message). obeyed (Ok (Jumped moment)) (machine_of q clip) ms) (sym said)

-- ---- a redo

pub redo-parts : (p q : PastState) (clip : Option Sheet) (patch : Before) (points : Points)
    → q ≡ past_redone p patch points
    → redo (machine_of p clip) ≡ obeyed (Ok (Redone (group_of p.trail.tail))) (machine_of q clip) []
unfolding redo
redo-parts p q clip patch points redone =
    ap (λ (x : PastState). obeyed (Ok (Redone (group_of p.trail.tail))) (machine_of x clip) [])
    (sym redone)

-- ---- a Retract

pub retract-parts : (p q : PastState) (clip : Option Sheet) (patch : Before) (points : Points)
    (moment : ℕ) (messages : List Message) → q ≡ past_retracted p moment patch points
    → messages ≡ ends (present p).notes
    → retract (machine_of p clip) moment
    ≡ obeyed (Ok (Retracted moment)) (machine_of q clip) messages
unfolding retract
retract-parts p q clip patch points moment messages retracted said =
    ap (λ (x : PastState). obeyed (Ok (Retracted moment)) (machine_of x clip)
    (ends (present p).notes)) (sym retracted)
    ∙ ap (λ (ms : List Message). obeyed (Ok (Retracted moment)) (machine_of q clip) ms) (sym said)

-- an option that isn't none is some
pub some-not-none : (o : Option ℕ) → is_none o ≡ false → IsSome o
some-not-none None is = absurd (cc)
some-not-none (Some x) is = refl
