-- Whole sessions, computed by the definitions: what each command answers, and what is left.
use Rattle.std.specs.Prelude.{ℕ, ◌≡◌, List, [], ◌∷◌, ◌++◌, length, replicate, Option, Some, None, Result, Ok, Err, codes, refl}
use Rattle.orca_base.specs.declared.area.Rect.{Rect}
use Rattle.orca_base.specs.declared.command.Command.{Command}
use Rattle.orca_base.specs.declared.command.Command.TheVariants.{Frame, Write, Fill, Erase, Copy, Cut, Clip, Paste, Move, Resize, Reset, Undo, Rewind, Retract, Hush}
use Rattle.orca_base.specs.declared.command.Reply.{Reply}
use Rattle.orca_base.specs.declared.command.Reply.TheVariants.{Edited, Copied, Framed, Jumped, Retracted}
use Rattle.orca_base.specs.declared.command.Rule.{Rule}
use Rattle.orca_base.specs.declared.command.Rule.TheVariants.{OutOfGrid, EmptyBlock, BadSize, EmptyClip, NothingToUndo, NoSuchMoment, SizeInUse, HistoryFull}
use Rattle.orca_base.specs.declared.message.Message.{Message}
use Rattle.orca_base.specs.declared.message.Message.TheVariants.{On, Off}
use Rattle.orca_base.specs.Grids.{Sheet, by_place}
use Rattle.orca_base.specs.Glyphs.{is_operator, needs_bang, note_number, value}
use Rattle.orca_notes.specs.Sound.{happens, sound}
use Rattle.orca_op.specs.Deeds.{after}
use Rattle.orca_op.specs.EventRules.{note_of}
use Rattle.orca_op.specs.Kinds.{kind_of}
use Rattle.orca_op.specs.Rules.{rule}
use Rattle.orca_op.specs.Scan.{scan, visit_deeds, is_idle}
use Rattle.orca_op.specs.State.{has_bang, peek}
use Rattle.orca_op.specs.ValueRules.{value_or}
use Rattle.orca_edit.specs.Obeying.{MachineState, machine_at_start, machine_closed, piece_of, rule_against, entry_of, taken_area, jump_to, retract, accept, obey}
use Rattle.orca_edit.specs.Pieces.{apply, piece_after}
use Rattle.orca_edit.proofs.GridRows.{grid}

-- the answers to commands, in order, their messages, and the session after them
record Course : Type 0 where
  answers : List (Result Reply Rule)
  messages : List Message
  machine : MachineState

abbrev course : MachineState → List Command → Course
course m [] = record { answers = []; messages = []; machine = m }
course m (c ∷ cs) =
    let o = obey m c in
    let rest = course o.machine cs in
    record {
      answers = o.answer ∷ rest.answers;
      messages = o.messages ++ rest.messages;
      machine = rest.machine;
    }

-- what can be seen of a session
record Seen : Type 0 where
  answers : List (Result Reply Rule)
  messages : List Message
  grid : Sheet
  tick : ℕ
  moments : ℕ
  sounding : ℕ
  clip : Option Sheet

-- what is seen of a session after commands
seen_after : MachineState → List Command → Seen
unfolding obey accept rule_against entry_of taken_area jump_to retract apply piece_after by_place
    scan visit_deeds is_idle is_operator needs_bang has_bang peek rule kind_of after
    value_or value note_of note_number sound happens
seen_after m cs =
    let c = course m cs in
    record {
      answers = c.answers;
      messages = c.messages;
      grid = (piece_of c.machine).sheet;
      tick = (piece_of c.machine).tick;
      moments = length c.machine.history;
      sounding = length (piece_of c.machine).notes;
      clip = c.machine.clip;
    }

abbrev rect : ℕ → ℕ → ℕ → ℕ → Rect
rect y x h w = record { y = y; x = x; h = h; w = w }

-- a session on a grid, with seed 1
abbrev session : Sheet → MachineState
session sheet = machine_at_start sheet 1 1000000

-- ---- going back

-- a clock of four frames that bangs a note of 35 frames
abbrev sounding_clock : Sheet
sounding_clock = grid (codes "D4......" ∷ codes ".:03Cfz." ∷ [])

-- the same after its first frame
abbrev clock_after_a_frame : Sheet
clock_after_a_frame = grid (codes "D4......" ∷ codes "*:03Cfz." ∷ [])

-- an undo goes back to before the last edit, with the frames since, and ends the note
undo_while_a_note_sounds : seen_after (session sounding_clock)
    (Frame ∷ Write 0 7 57 ∷ Frame ∷ Frame ∷ Undo ∷ [])
    ≡ record {
      answers = Ok (Framed 0) ∷ Ok Edited ∷ Ok (Framed 1) ∷ Ok (Framed 2) ∷ Ok (Jumped 1) ∷ [];
      messages = On 0 36 119 ∷ Off 0 36 ∷ [];
      grid = clock_after_a_frame;
      tick = 1;
      moments = 2;
      sounding = 0;
      clip = None;
    }
unfolding seen_after
undo_while_a_note_sounds = refl

rewind_while_a_note_sounds : seen_after (session sounding_clock) (Frame ∷ Rewind 0 ∷ [])
    ≡ record {
      answers = Ok (Framed 0) ∷ Ok (Jumped 0) ∷ [];
      messages = On 0 36 119 ∷ Off 0 36 ∷ [];
      grid = sounding_clock;
      tick = 0;
      moments = 1;
      sounding = 0;
      clip = None;
    }
unfolding seen_after
rewind_while_a_note_sounds = refl

-- a reset ends the note, and the next frame is that of tick 0
reset_while_a_note_sounds : seen_after (session sounding_clock) (Frame ∷ Reset ∷ Frame ∷ [])
    ≡ record {
      answers = Ok (Framed 0) ∷ Ok Edited ∷ Ok (Framed 0) ∷ [];
      messages = On 0 36 119 ∷ Off 0 36 ∷ On 0 36 119 ∷ [];
      grid = clock_after_a_frame;
      tick = 1;
      moments = 3;
      sounding = 1;
      clip = None;
    }
unfolding seen_after
reset_while_a_note_sounds = refl

-- an undo of a reset brings the tick back, and not the note
undo_of_a_reset : seen_after (session sounding_clock) (Frame ∷ Reset ∷ Undo ∷ [])
    ≡ record {
      answers = Ok (Framed 0) ∷ Ok Edited ∷ Ok (Jumped 1) ∷ [];
      messages = On 0 36 119 ∷ Off 0 36 ∷ [];
      grid = clock_after_a_frame;
      tick = 1;
      moments = 2;
      sounding = 0;
      clip = None;
    }
unfolding seen_after
undo_of_a_reset = refl

-- after a close no note sounds, and the session goes on
frame_after_a_close :
    seen_after (machine_closed (course (session sounding_clock) (Frame ∷ [])).machine) (Frame ∷ [])
    ≡ record {
      answers = Ok (Framed 1) ∷ [];
      messages = [];
      grid = sounding_clock;
      tick = 2;
      moments = 2;
      sounding = 0;
      clip = None;
    }
unfolding seen_after
frame_after_a_close = refl

-- a jump cuts the history, so a second undo goes back to the edit before
two_edits_undone : seen_after (session (grid (codes "...." ∷ [])))
    (Write 0 0 49 ∷ Write 0 0 50 ∷ Undo ∷ Undo ∷ [])
    ≡ record {
      answers = Ok Edited ∷ Ok Edited ∷ Ok (Jumped 1) ∷ Ok (Jumped 0) ∷ [];
      messages = [];
      grid = grid (codes "...." ∷ []);
      tick = 0;
      moments = 1;
      sounding = 0;
      clip = None;
    }
unfolding seen_after
two_edits_undone = refl

nothing_to_go_back_to : seen_after (session (grid (codes "." ∷ []))) (Undo ∷ Rewind 0 ∷ [])
    ≡ record {
      answers = Err NothingToUndo ∷ Err (NoSuchMoment 0) ∷ [];
      messages = [];
      grid = grid (codes "." ∷ []);
      tick = 0;
      moments = 0;
      sounding = 0;
      clip = None;
    }
unfolding seen_after
nothing_to_go_back_to = refl

-- ---- entries taken out

-- a size that a later edit may need stays, and goes once that edit has gone
size_taken_out : seen_after (session (grid (codes "...." ∷ codes "...." ∷ [])))
    (Resize 1 4 ∷ Write 0 0 97 ∷ Retract 0 ∷ Retract 1 ∷ Retract 0 ∷ Retract 2 ∷ [])
    ≡ record {
      answers = Ok Edited ∷ Ok Edited ∷ Err SizeInUse ∷ Ok (Retracted 1) ∷ Ok (Retracted 0)
          ∷ Err NothingToUndo ∷ [];
      messages = [];
      grid = grid (codes "...." ∷ codes "...." ∷ []);
      tick = 0;
      moments = 2;
      sounding = 0;
      clip = None;
    }
unfolding seen_after
size_taken_out = refl

-- a reset after it needs no size
size_before_a_reset_taken_out : seen_after (session (grid (codes "...." ∷ [])))
    (Write 0 0 55 ∷ Resize 2 4 ∷ Reset ∷ Retract 1 ∷ Retract 0 ∷ [])
    ≡ record {
      answers = Ok Edited ∷ Ok Edited ∷ Ok Edited ∷ Ok (Retracted 1) ∷ Ok (Retracted 0) ∷ [];
      messages = [];
      grid = grid (codes "...." ∷ []);
      tick = 0;
      moments = 3;
      sounding = 0;
      clip = None;
    }
unfolding seen_after
size_before_a_reset_taken_out = refl

-- a frame is taken out like any entry, and the tick is one less
frame_taken_out : seen_after (session (grid (codes "...." ∷ [])))
    (Frame ∷ Write 0 0 55 ∷ Frame ∷ Retract 0 ∷ [])
    ≡ record {
      answers = Ok (Framed 0) ∷ Ok Edited ∷ Ok (Framed 1) ∷ Ok (Retracted 0) ∷ [];
      messages = [];
      grid = grid (codes "7..." ∷ []);
      tick = 1;
      moments = 3;
      sounding = 0;
      clip = None;
    }
unfolding seen_after
frame_taken_out = refl

-- an edit under a note that sounds is taken out: the note ends, and the tick stays
retract_while_a_note_sounds : seen_after (session sounding_clock)
    (Write 0 7 57 ∷ Frame ∷ Retract 0 ∷ [])
    ≡ record {
      answers = Ok Edited ∷ Ok (Framed 0) ∷ Ok (Retracted 0) ∷ [];
      messages = On 0 36 119 ∷ Off 0 36 ∷ [];
      grid = clock_after_a_frame;
      tick = 1;
      moments = 2;
      sounding = 0;
      clip = None;
    }
unfolding seen_after
retract_while_a_note_sounds = refl

-- a Hush ends the note, and leaves the grid and the tick
hush_while_a_note_sounds : seen_after (session sounding_clock) (Frame ∷ Hush ∷ Frame ∷ [])
    ≡ record {
      answers = Ok (Framed 0) ∷ Ok Edited ∷ Ok (Framed 1) ∷ [];
      messages = On 0 36 119 ∷ Off 0 36 ∷ [];
      grid = sounding_clock;
      tick = 2;
      moments = 3;
      sounding = 0;
      clip = None;
    }
unfolding seen_after
hush_while_a_note_sounds = refl

-- ---- full histories

-- a session with a history of this many entries at most
abbrev session_of : ℕ → Sheet → MachineState
session_of limit sheet = machine_at_start sheet 1 limit

-- a full history refuses a write, and a rewind makes room
write_at_a_full_history : seen_after (session_of 3 (grid (codes "." ∷ [])))
    (Frame ∷ Frame ∷ Frame ∷ Write 0 0 53 ∷ Rewind 1 ∷ [])
    ≡ record {
      answers = Ok (Framed 0) ∷ Ok (Framed 1) ∷ Ok (Framed 2) ∷ Err HistoryFull
          ∷ Ok (Jumped 1) ∷ [];
      messages = [];
      grid = grid (codes "." ∷ []);
      tick = 1;
      moments = 2;
      sounding = 0;
      clip = None;
    }
unfolding seen_after
write_at_a_full_history = refl

-- it refuses a Hush, and no Retract
hush_at_a_full_history : seen_after (session_of 1 (grid (codes "." ∷ [])))
    (Write 0 0 53 ∷ Hush ∷ Retract 0 ∷ [])
    ≡ record {
      answers = Ok Edited ∷ Err HistoryFull ∷ Ok (Retracted 0) ∷ [];
      messages = [];
      grid = grid (codes "." ∷ []);
      tick = 0;
      moments = 1;
      sounding = 0;
      clip = None;
    }
unfolding seen_after
hush_at_a_full_history = refl

-- a copy adds no entry; a cut that is refused leaves the clip
copy_at_a_full_history : seen_after (session_of 1 (grid (codes "ab" ∷ [])))
    (Write 0 0 120 ∷ Copy (rect 0 0 1 2) ∷ Paste 0 0 ∷ Cut (rect 0 0 1 1) ∷ Reset ∷ Frame ∷ [])
    ≡ record {
      answers = Ok Edited ∷ Ok Copied ∷ Err HistoryFull ∷ Err HistoryFull ∷ Err HistoryFull
          ∷ Err HistoryFull ∷ [];
      messages = [];
      grid = grid (codes "xb" ∷ []);
      tick = 0;
      moments = 1;
      sounding = 0;
      clip = Some (grid (codes "xb" ∷ []));
    }
unfolding seen_after
copy_at_a_full_history = refl

-- a glyph that is put into the clip adds no entry either; the first cell begins a new clip
clip_at_a_full_history : seen_after (session_of 1 (grid (codes "ab" ∷ [])))
    (Write 0 0 120 ∷ Clip 0 0 97 ∷ Clip 1 1 98 ∷ Paste 0 0 ∷ Clip 0 0 99 ∷ Clip 0 1024 99 ∷ [])
    ≡ record {
      answers = Ok Edited ∷ Ok Copied ∷ Ok Copied ∷ Err HistoryFull ∷ Ok Copied
          ∷ Err BadSize ∷ [];
      messages = [];
      grid = grid (codes "xb" ∷ []);
      tick = 0;
      moments = 1;
      sounding = 0;
      clip = Some (grid (codes "c" ∷ []));
    }
unfolding seen_after
clip_at_a_full_history = refl

-- ---- clips

-- an undo of a smaller grid brings the cells back that were cut off, and a paste is cut off at the
-- last place
undo_of_a_smaller_grid :
    seen_after (session (grid (codes "0123" ∷ codes "4567" ∷ codes "89.." ∷ codes "...." ∷ [])))
    (Resize 2 2 ∷ Undo ∷ Copy (rect 0 0 2 2) ∷ Paste 3 3 ∷ Paste 4 0 ∷ [])
    ≡ record {
      answers = Ok Edited ∷ Ok (Jumped 0) ∷ Ok Copied ∷ Ok Edited ∷ Err OutOfGrid ∷ [];
      messages = [];
      grid = grid (codes "0123" ∷ codes "4567" ∷ codes "89.." ∷ codes "...0" ∷ []);
      tick = 0;
      moments = 2;
      sounding = 0;
      clip = Some (grid (codes "01" ∷ codes "45" ∷ []));
    }
unfolding seen_after
undo_of_a_smaller_grid = refl

cut_replaces_an_older_clip : seen_after (session (grid (codes "ab" ∷ codes "cd" ∷ [])))
    (Copy (rect 0 0 1 1) ∷ Cut (rect 1 0 1 2) ∷ Paste 0 0 ∷ [])
    ≡ record {
      answers = Ok Copied ∷ Ok Edited ∷ Ok Edited ∷ [];
      messages = [];
      grid = grid (codes "cd" ∷ codes ".." ∷ []);
      tick = 0;
      moments = 2;
      sounding = 0;
      clip = Some (grid (codes "cd" ∷ []));
    }
unfolding seen_after
cut_replaces_an_older_clip = refl

-- no jump changes the clip
undo_of_a_cut_leaves_the_clip : seen_after (session (grid (codes "ab" ∷ [])))
    (Cut (rect 0 0 1 1) ∷ Undo ∷ Paste 0 1 ∷ [])
    ≡ record {
      answers = Ok Edited ∷ Ok (Jumped 0) ∷ Ok Edited ∷ [];
      messages = [];
      grid = grid (codes "aa" ∷ []);
      tick = 0;
      moments = 2;
      sounding = 0;
      clip = Some (grid (codes "a" ∷ []));
    }
unfolding seen_after
undo_of_a_cut_leaves_the_clip = refl

-- a clip grows cell by cell, also between its pastes; an undo takes none of its cells
clip_cell_by_cell : seen_after (session (grid (codes "...." ∷ codes "...." ∷ [])))
    (Clip 0 1 97 ∷ Clip 1024 0 97 ∷ Clip 0 0 68 ∷ Clip 1 2 55 ∷ Paste 0 1 ∷ Clip 0 1 98 ∷ Undo
    ∷ Paste 1 2 ∷ [])
    ≡ record {
      answers = Err EmptyClip ∷ Err BadSize ∷ Ok Copied ∷ Ok Copied ∷ Ok Edited ∷ Ok Copied
          ∷ Ok (Jumped 0) ∷ Ok Edited ∷ [];
      messages = [];
      grid = grid (codes "...." ∷ codes "..Db" ∷ []);
      tick = 0;
      moments = 2;
      sounding = 0;
      clip = Some (grid (codes "Db." ∷ codes "..7" ∷ []));
    }
unfolding seen_after
clip_cell_by_cell = refl

-- ---- blocks and the edges of the grid

-- sixteen letters
abbrev letters : Sheet
letters = grid (codes "abcd" ∷ codes "efgh" ∷ codes "ijkl" ∷ codes "mnop" ∷ [])

-- the grid after commands on the letters
letters_after : List Command → Sheet
unfolding seen_after
letters_after cs = (seen_after (session letters) cs).grid

-- the square `fg` over `jk`, moved to a place
letters_moved : ℕ → ℕ → Sheet
unfolding letters_after
letters_moved y x = letters_after (Move (rect 1 1 2 2) y x ∷ [])

-- by a column to the right and to the left, by a row down and up, and to where it stands
move_onto_itself :
    letters_moved 1 2 ∷ letters_moved 1 0 ∷ letters_moved 2 1 ∷ letters_moved 0 1
    ∷ letters_moved 1 1 ∷ []
    ≡ grid (codes "abcd" ∷ codes "e.fg" ∷ codes "i.jk" ∷ codes "mnop" ∷ [])
    ∷ grid (codes "abcd" ∷ codes "fg.h" ∷ codes "jk.l" ∷ codes "mnop" ∷ [])
    ∷ grid (codes "abcd" ∷ codes "e..h" ∷ codes "ifgl" ∷ codes "mjkp" ∷ [])
    ∷ grid (codes "afgd" ∷ codes "ejkh" ∷ codes "i..l" ∷ codes "mnop" ∷ [])
    ∷ letters
    ∷ []
unfolding letters_moved
move_onto_itself = refl

-- over the right edge, over the lower edge, and to the last place
move_partly_outside :
    letters_moved 2 3 ∷ letters_moved 3 1 ∷ letters_moved 3 3 ∷ []
    ≡ grid (codes "abcd" ∷ codes "e..h" ∷ codes "i..f" ∷ codes "mnoj" ∷ [])
    ∷ grid (codes "abcd" ∷ codes "e..h" ∷ codes "i..l" ∷ codes "mfgp" ∷ [])
    ∷ grid (codes "abcd" ∷ codes "e..h" ∷ codes "i..l" ∷ codes "mnof" ∷ [])
    ∷ []
unfolding letters_moved
move_partly_outside = refl

-- the square `ab` over `ef`, put to a place
letters_put : ℕ → ℕ → Sheet
unfolding letters_after
letters_put y x = letters_after (Copy (rect 0 0 2 2) ∷ Paste y x ∷ [])

-- inside, over the right edge, over the lower edge, and at the last place
paste_cut_off_at_the_edges :
    letters_put 2 1 ∷ letters_put 1 3 ∷ letters_put 3 1 ∷ letters_put 3 3 ∷ []
    ≡ grid (codes "abcd" ∷ codes "efgh" ∷ codes "iabl" ∷ codes "mefp" ∷ [])
    ∷ grid (codes "abcd" ∷ codes "efga" ∷ codes "ijke" ∷ codes "mnop" ∷ [])
    ∷ grid (codes "abcd" ∷ codes "efgh" ∷ codes "ijkl" ∷ codes "mabp" ∷ [])
    ∷ grid (codes "abcd" ∷ codes "efgh" ∷ codes "ijkl" ∷ codes "mnoa" ∷ [])
    ∷ []
unfolding letters_put
paste_cut_off_at_the_edges = refl

-- two rows of three letters
abbrev small : Sheet
small = grid (codes "abc" ∷ codes "def" ∷ [])

-- a block is cut to the grid, however long its sides are
blocks_that_reach_over_the_edge : seen_after (session small)
    (Fill (rect 1 1 9 9) 55 ∷ Erase (rect 0 2 5 1) ∷ Cut (rect 0 0 1 4294967295)
    ∷ Move (rect 1 0 4 4) 0 1 ∷ [])
    ≡ record {
      answers = Ok Edited ∷ Ok Edited ∷ Ok Edited ∷ Ok Edited ∷ [];
      messages = [];
      grid = grid (codes ".d7" ∷ codes "..." ∷ []);
      tick = 0;
      moments = 4;
      sounding = 0;
      clip = Some (grid (codes "ab." ∷ []));
    }
unfolding seen_after
blocks_that_reach_over_the_edge = refl

-- ---- refusals

-- the first row and the first column outside, for each place that a command names
first_places_outside : seen_after (session small)
    (Write 2 0 55 ∷ Write 0 3 55
    ∷ Fill (rect 2 0 1 1) 55 ∷ Fill (rect 0 3 1 1) 55
    ∷ Erase (rect 2 0 1 1) ∷ Erase (rect 0 3 1 1)
    ∷ Copy (rect 2 0 1 1) ∷ Copy (rect 0 3 1 1)
    ∷ Cut (rect 2 0 1 1) ∷ Cut (rect 0 3 1 1)
    ∷ Paste 2 0 ∷ Paste 0 3
    ∷ Move (rect 2 0 1 1) 0 0 ∷ Move (rect 0 3 1 1) 0 0
    ∷ Move (rect 0 0 1 1) 2 0 ∷ Move (rect 0 0 1 1) 0 3
    ∷ [])
    ≡ record {
      answers = replicate 16 (Err OutOfGrid);
      messages = [];
      grid = small;
      tick = 0;
      moments = 0;
      sounding = 0;
      clip = None;
    }
unfolding seen_after
first_places_outside = refl

-- the last place inside, for each of them
last_places_inside : seen_after (session small)
    (Write 1 2 55 ∷ Fill (rect 1 2 1 1) 56 ∷ Copy (rect 1 2 1 1) ∷ Erase (rect 1 2 1 1)
    ∷ Paste 1 2 ∷ Cut (rect 1 2 1 1) ∷ Move (rect 1 2 1 1) 0 0 ∷ Paste 1 2
    ∷ Move (rect 0 1 1 1) 1 2 ∷ [])
    ≡ record {
      answers = Ok Edited ∷ Ok Edited ∷ Ok Copied ∷ Ok Edited ∷ Ok Edited ∷ Ok Edited
          ∷ Ok Edited ∷ Ok Edited ∷ Ok Edited ∷ [];
      messages = [];
      grid = grid (codes "..c" ∷ codes "deb" ∷ []);
      tick = 0;
      moments = 8;
      sounding = 0;
      clip = Some (grid (codes "8" ∷ []));
    }
unfolding seen_after
last_places_inside = refl

refusals_and_a_move : seen_after (session (grid (codes "12.." ∷ [])))
    (Paste 0 0 ∷ Fill (rect 0 0 0 1) 55 ∷ Resize 0 4 ∷ Move (rect 0 0 1 2) 0 1 ∷ [])
    ≡ record {
      answers = Err EmptyClip ∷ Err EmptyBlock ∷ Err BadSize ∷ Ok Edited ∷ [];
      messages = [];
      grid = grid (codes ".12." ∷ []);
      tick = 0;
      moments = 1;
      sounding = 0;
      clip = None;
    }
unfolding seen_after
refusals_and_a_move = refl

-- each command with a side that is 0, and each side of a size that is 0 or too long
sides_of_0_and_1025 : (seen_after (session small)
    (Fill (rect 0 0 1 0) 55 ∷ Erase (rect 0 0 0 1) ∷ Copy (rect 0 0 1 0) ∷ Cut (rect 0 0 0 1)
    ∷ Move (rect 0 0 1 0) 0 0 ∷ Resize 0 1 ∷ Resize 1 0 ∷ Resize 1025 1 ∷ Resize 1 1025 ∷ [])).answers
    ≡ replicate 5 (Err EmptyBlock) ++ replicate 4 (Err BadSize)
unfolding seen_after
sides_of_0_and_1025 = refl

-- where several rules stand, the first decides
first_rule_decides : (seen_after (session_of 1 small)
    (Reset ∷ Fill (rect 2 0 0 1) 55 ∷ Move (rect 0 0 0 1) 0 3 ∷ Paste 2 0 ∷ Erase (rect 0 0 0 1)
    ∷ Resize 0 1 ∷ Paste 0 0 ∷ Write 0 0 55 ∷ Rewind 1 ∷ [])).answers
    ≡ Ok Edited ∷ Err OutOfGrid ∷ Err OutOfGrid ∷ Err OutOfGrid ∷ Err EmptyBlock ∷ Err BadSize
    ∷ Err EmptyClip ∷ Err HistoryFull ∷ Err (NoSuchMoment 1) ∷ []
unfolding seen_after
first_rule_decides = refl
