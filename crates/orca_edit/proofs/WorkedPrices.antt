-- Whole sessions with the bill of each command and the numbers that are kept after it, computed by
-- the definitions.
use Rattle.std.specs.Prelude.{ℕ, ◌≡◌, List, [], ◌∷◌, drop, length, Result, Ok, Err, codes, refl}
use Rattle.orca_base.specs.declared.area.Rect.{Rect}
use Rattle.orca_base.specs.declared.command.Command.{Command}
use Rattle.orca_base.specs.declared.command.Command.TheVariants.{Frame, Write, Copy, Cut, Clip, Paste, Move, Resize, Reset, Undo, Rewind, Redo, Retract, Hush}
use Rattle.orca_base.specs.declared.command.Fault.{Fault}
use Rattle.orca_base.specs.declared.command.Fault.TheVariants.{Refused}
use Rattle.orca_base.specs.declared.command.Reply.{Reply}
use Rattle.orca_base.specs.declared.command.Rule.{Rule}
use Rattle.orca_base.specs.Grids.{Sheet, by_place}
use Rattle.orca_base.specs.Glyphs.{is_operator, needs_bang, value, cased, from_value}
use Rattle.orca_notes.specs.Sound.{happens, sound}
use Rattle.orca_op.specs.Deeds.{after}
use Rattle.orca_op.specs.Slate.{list_after}
use Rattle.orca_op.specs.First.{first_where}
use Rattle.orca_op.specs.Kinds.{kind_of}
use Rattle.orca_op.specs.MotionRules.{move_to}
use Rattle.orca_op.specs.Rules.{rule}
use Rattle.orca_op.specs.Scan.{busy, scan, visit_deeds, is_idle, written_places}
use Rattle.orca_op.specs.State.{has_bang, holds, peek}
use Rattle.orca_op.specs.ValueRules.{value_or}
use Rattle.orca_edit.specs.Obeying.{MachineState, machine_at_start, rule_against, entry_of, taken_area, jump_to, redo, retract, accept, obey}
use Rattle.orca_edit.specs.Pieces.{apply, piece_after}
use Rattle.orca_edit.specs.Prices.{Kept, best_moment, bill, charge, kept_after, kept_at_start, least_first, spaced, total}
use Rattle.orca_edit.proofs.GridRows.{grid}

abbrev rect : ℕ → ℕ → ℕ → ℕ → Rect
rect y x h w = record { y = y; x = x; h = h; w = w }

-- a line of an account: the bill of a command, how long the history and the tail are after it, and
-- the kept numbers
record Line : Type 0 where
  bill : ℕ
  moments : ℕ
  tail : ℕ
  first : ℕ
  spacing : ℕ
  peak : ℕ

abbrev line : ℕ → ℕ → ℕ → ℕ → ℕ → ℕ → Line
line bill moments tail first spacing peak = record {
  bill = bill;
  moments = moments;
  tail = tail;
  first = first;
  spacing = spacing;
  peak = peak;
}

-- the answer of a session that has all memory
abbrev answered : Result Reply Rule → Result Reply Fault
answered (Ok reply) = Ok reply
answered (Err rule) = Err (Refused rule)

abbrev lines_of : MachineState → Kept → List Command → List Line
lines_of m k [] = []
lines_of m k (c ∷ cs) =
    let o = obey m c in
    let kept = kept_after m k c (answered o.answer) in
    line (charge (answered o.answer) m k c) (length o.machine.history) (length o.machine.tail)
    kept.first kept.spacing kept.peak
    ∷ lines_of o.machine kept cs

account : ℕ → Sheet → List Command → List Line
unfolding obey accept rule_against entry_of taken_area jump_to redo retract apply piece_after by_place
    scan busy written_places list_after visit_deeds is_idle is_operator needs_bang has_bang peek
    holds rule kind_of after value_or value cased from_value move_to sound happens
    bill charge kept_after least_first first_where total
account limit sheet cs = lines_of (machine_at_start sheet 1 limit) kept_at_start cs

-- an undo and a redo at a short history
redo_at_a_short_history : account 3 (grid (codes "." ∷ []))
    (Frame ∷ Write 0 0 53 ∷ Undo ∷ Redo ∷ Undo ∷ Undo ∷ Redo ∷ Frame ∷ Rewind 9 ∷ [])
    ≡ line 9 1 0 0 256 1
    ∷ line 12 2 0 0 256 2
    ∷ line 20 2 1 0 256 2
    ∷ line 20 3 0 2 256 3
    ∷ line 19 2 1 1 256 3
    ∷ line 8 2 1 1 256 3
    ∷ line 20 3 0 2 256 3
    ∷ line 8 3 0 2 256 3
    ∷ line 8 3 0 2 256 3
    ∷ []
unfolding account
redo_at_a_short_history = refl

-- a glyph that is put into the clip adds no entry, and leaves the tail and the kept numbers
clip_leaves_the_tail : account 3 (grid (codes "." ∷ []))
    (Write 0 0 53 ∷ Undo ∷ Clip 0 0 97 ∷ Clip 4 9 98 ∷ Redo ∷ [])
    ≡ line 12 1 0 0 256 1
    ∷ line 20 1 1 0 256 1
    ∷ line 8 1 1 0 256 1
    ∷ line 8 1 1 0 256 1
    ∷ line 20 2 0 1 256 2
    ∷ []
unfolding account
clip_leaves_the_tail = refl

-- a Retract plays all entries from the checkpoint on again; it leaves no tail, and one patch
retract_at_a_short_history : account 3 (grid (codes "." ∷ []))
    (Frame ∷ Write 0 0 53 ∷ Write 0 0 54 ∷ Undo ∷ Retract 0 ∷ Retract 3 ∷ Hush ∷ Retract 1 ∷ [])
    ≡ line 9 1 0 0 256 1
    ∷ line 12 2 0 0 256 2
    ∷ line 12 3 0 0 256 3
    ∷ line 20 3 1 0 256 3
    ∷ line 30 3 0 2 256 3
    ∷ line 8 3 0 2 256 3
    ∷ line 8 3 0 2 256 3
    ∷ line 30 3 0 2 256 3
    ∷ []
unfolding account
retract_at_a_short_history = refl

-- a change of size, which goes once the edit after it has gone
size_retracted : account 9 (grid (codes "...." ∷ codes "...." ∷ []))
    (Resize 1 4 ∷ Write 0 0 97 ∷ Retract 0 ∷ Retract 1 ∷ Retract 0 ∷ Retract 2 ∷ [])
    ≡ line 56 1 0 0 256 1
    ∷ line 12 2 0 0 256 2
    ∷ line 8 2 0 0 256 2
    ∷ line 76 2 0 1 256 2
    ∷ line 28 2 0 1 256 2
    ∷ line 8 2 0 1 256 2
    ∷ []
unfolding account
size_retracted = refl

-- a clock that counts below
abbrev clock : Sheet
clock = grid (codes ".Cz" ∷ codes "..." ∷ [])

-- frames with two operators each, and a tail that a frame cuts off
frames_undone_and_redone : account 4000 clock
    (Frame ∷ Write 0 0 53 ∷ Frame ∷ Frame ∷ Undo ∷ Redo ∷ Undo ∷ Frame ∷ Redo ∷ [])
    ≡ line 2410 1 0 0 256 1
    ∷ line 12 2 0 0 256 2
    ∷ line 2410 3 0 0 256 3
    ∷ line 2410 4 0 0 256 4
    ∷ line 44 2 3 0 256 4
    ∷ line 4840 5 0 4 256 5
    ∷ line 2430 2 3 1 256 5
    ∷ line 2410 3 0 1 256 5
    ∷ line 8 3 0 1 256 5
    ∷ []
unfolding account
frames_undone_and_redone = refl

-- a delay, a mover and a bang over a clock
abbrev mixed : Sheet
mixed = grid (codes "D2E.*" ∷ codes "..C.4" ∷ [])

-- each kind of edit, and a jump below the first patch; of the first five frames the last is shown
edits_undone_and_redone : drop 4 (account 1000 mixed
    (Frame ∷ Frame ∷ Frame ∷ Frame ∷ Frame
    ∷ Move (rect 0 0 1 3) 1 1 ∷ Copy (rect 0 0 2 2) ∷ Paste 1 4 ∷ Cut (rect 0 1 2 9)
    ∷ Resize 3 2 ∷ Frame ∷ Resize 1 7 ∷ Reset ∷ Undo ∷ Undo ∷ Redo ∷ Rewind 2 ∷ Redo ∷ Redo
    ∷ Redo ∷ []))
    ≡ line 3610 5 0 0 256 5
    ∷ line 32 6 0 0 256 6
    ∷ line 8 6 0 0 256 6
    ∷ line 12 7 0 0 256 7
    ∷ line 40 8 0 0 256 8
    ∷ line 72 9 0 0 256 9
    ∷ line 1211 10 0 0 256 10
    ∷ line 60 11 0 0 256 11
    ∷ line 8 12 0 0 256 12
    ∷ line 16 12 1 0 256 12
    ∷ line 76 11 2 0 256 12
    ∷ line 68 12 1 11 256 12
    ∷ line 12045 3 10 2 256 12
    ∷ line 12038 6 7 5 256 12
    ∷ line 40 7 6 6 256 12
    ∷ line 20 8 5 7 256 12
    ∷ []
unfolding account
edits_undone_and_redone = refl

-- the spacing doubles where a 66th checkpoint would be kept, and a jump loads the one below it
spacing_at_the_most_checkpoints : spaced 256 16639 ∷ spaced 256 16640 ∷ spaced 512 16640 ∷ []
    ≡ 256 ∷ 512 ∷ 512 ∷ []
spacing_at_the_most_checkpoints = refl

best_of_moments : best_moment 256 255 ∷ best_moment 256 256 ∷ best_moment 256 900 ∷ []
    ≡ 0 ∷ 256 ∷ 768 ∷ []
best_of_moments = refl
