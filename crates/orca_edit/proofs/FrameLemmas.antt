-- Frames of a session: each is accepted, unless a full history refuses it, and their messages lead
-- a device from notes to notes.
use Rattle.std.proofs.Common.{◌≡◌, ℕ, zero, suc, ◌+◌, ◌<◌, ◌≤◌, List, [], ◌∷◌, ◌++◌, length, refl, ◌∙◌, ap, arith, length-append}
use Rattle.std.specs.Prelude.{Ok}
use Rattle.std.proofs.lemmas.List.Elements.{All-weaker}
use Rattle.orca_base.specs.declared.command.Command.TheVariants as command
use Rattle.orca_base.specs.declared.command.Entry.TheVariants as entry
use Rattle.orca_base.specs.declared.command.Reply.TheVariants.{Framed}
use Rattle.orca_base.specs.declared.command.Rule.TheVariants.{HistoryFull}
use Rattle.orca_base.specs.declared.message.Message.{Message}
use Rattle.orca_base.specs.declared.note.Note.{Note}
use Rattle.orca_base.specs.EventRanges.{IsInRange}
use Rattle.orca_base.specs.Grids.{IsSheet}
use Rattle.orca_base.specs.Ranges.{IsPlayable}
use Rattle.orca_base.proofs.RangeFacts.{IsPlayable-in_range}
use Rattle.orca_notes.specs.Device.{IsChord, Plays}
use Rattle.orca_notes.proofs.Follows.{Follows, sound-follows}
use Rattle.orca_notes.proofs.PlayFacts.{Plays-ends}
use Rattle.orca_op.specs.Laws.{IsLawful}
use Rattle.orca_op.specs.Rules.{rule}
use Rattle.orca_op.specs.Scan.{places, scan}
use Rattle.orca_op.proofs.VisitFacts.{visited}
use Rattle.orca_edit.specs.Frames.{close_of, frames_of}
use Rattle.orca_edit.specs.Obeying.{MachineState, Obeyed, accept, entry_of, extend, obey, piece_of, refuse, rule_against, taken_area}
use Rattle.orca_edit.specs.Pieces.{Piece, apply, next_frame, next_sounds}
use Rattle.orca_edit.proofs.FoldLemmas.{piece_after-push}
use Rattle.orca_edit.proofs.SheetLemmas.{IsSheet-scan}

-- ---- one frame

pub frame_obeyed : (m : MachineState) → length m.history < m.limit
    → obey m command.Frame ≡ extend m command.Frame m.clip entry.Frame
unfolding obey rule_against accept entry_of taken_area
frame_obeyed m room = grind arith

pub frame_refused : (m : MachineState) → m.limit ≤ length m.history
    → obey m command.Frame ≡ refuse m HistoryFull
unfolding obey rule_against accept entry_of taken_area
frame_refused m full = grind arith

-- a session at a tick
pub record IsAt (tick : ℕ) (m : MachineState) : Type 0 where
  pub at : (piece_of m).tick ≡ tick
  pub closed : m.closed ≤ length m.history

-- an accepted frame leads to the next tick, and gives the messages of the piece
pub record IsFramed (tick : ℕ) (m : MachineState) (o : Obeyed) : Type 0 where
  pub answer : o.answer ≡ Ok (Framed tick)
  pub piece : piece_of o.machine ≡ (apply (piece_of m) entry.Frame).piece
  pub messages : o.messages ≡ (apply (piece_of m) entry.Frame).messages
  pub next : IsAt (tick + 1) o.machine
  pub longer : length o.machine.history ≡ length m.history + 1
  pub limit : o.machine.limit ≡ m.limit

pub framed : (tick : ℕ) (m : MachineState) → IsAt tick m → length m.history < m.limit
    → IsFramed tick m (obey m command.Frame)
unfolding apply
framed tick m at room =
    let piece = piece_after-push m.opened m.seed m.history entry.Frame m.closed at.closed in
    let longer = length-append m.history (entry.Frame ∷ []) in
    rw (frame_obeyed m room) (record {
      answer = ap (λ t. Ok (Framed t)) at.at;
      piece = piece;
      messages = refl;
      next = record {
        at = ap (λ p. p.tick) piece ∙ ap (λ t. t + 1) at.at;
        closed = omega (arith, longer, at.closed);
      };
      longer = longer;
      limit = refl;
    })

-- ---- the messages of frames

-- a grid, and notes that can sound together
pub record IsPlayed (p : Piece) : Type 0 where
  pub sheet : IsSheet p.sheet
  pub chord : IsChord p.notes

-- a frame leaves such a piece, and its messages lead to the notes of it
pub frame_plays : (p : Piece) → IsLawful rule → IsPlayed p
    → let q = apply p entry.Frame in
    IsPlayed q.piece × Plays p.notes q.messages q.piece.notes
unfolding apply scan
frame_plays p lawful is =
    let now = next_frame p in
    let all = visited (places p.sheet) p.sheet now lawful is.sheet (omega arith) in
    let follows : Follows p.notes (next_sounds p) =
    sound-follows p.notes p.tick (scan p.sheet now).events is.chord
    (All-weaker IsInRange IsPlayable IsPlayable-in_range _ all.events) in (
      record { sheet = IsSheet-scan p.sheet now lawful is.sheet; chord = follows.chord },
      follows.plays,
    )

-- each of these lists leads a device from notes to notes
abbrev pub ArePlayed : List Note → List (List Message) → Type 0
ArePlayed before [] = Unit {0}
ArePlayed before (messages ∷ frames) =
    (after : List Note) × (Plays before messages after × ArePlayed after frames)

-- the messages of frames and of the close
abbrev pub all_of : ℕ → MachineState → List (List Message)
all_of n m = frames_of n m ++ close_of n m ∷ []

pub frames_play : IsLawful rule → (n tick : ℕ) (m : MachineState) → IsAt tick m
    → length m.history + n ≤ m.limit → IsPlayed (piece_of m)
    → ArePlayed (piece_of m).notes (all_of n m)
frames_play lawful zero tick m at room is =
    ([], (Plays-ends (piece_of m).notes is.chord, tt))
frames_play lawful (suc n) tick m at room is =
    let o = obey m command.Frame in
    let did = framed tick m at (omega (arith, room)) in
    let after : IsPlayed (piece_of o.machine)
    × Plays (piece_of m).notes o.messages (piece_of o.machine).notes =
    rw (did.piece, did.messages) (frame_plays (piece_of m) lawful is) in
    let more = frames_play lawful n (tick + 1) o.machine did.next
    (omega (arith, room, did.longer, did.limit)) after.0 in
    ((piece_of o.machine).notes, (after.1, more))

pub frames_count : (n : ℕ) (m : MachineState) → length (frames_of n m) ≡ n
frames_count zero m = refl
frames_count (suc n) m = ap suc (frames_count n (obey m command.Frame).machine)
