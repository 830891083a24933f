-- A piece as it stands, and what the entries of a history make of it.
use Rattle.std.specs.Prelude.{ℕ, ◌+◌, List, [], ◌∷◌, take, drop}
use Rattle.orca_base.specs.declared.command.Entry.{Entry}
use Rattle.orca_base.specs.declared.command.Entry.TheVariants.{Fill, Put, Move, Resize, Reset, Frame, Hush}
use Rattle.orca_base.specs.declared.message.Message.{Message}
use Rattle.orca_base.specs.declared.note.Note.{Note}
use Rattle.orca_base.specs.declared.now.Now.{Now}
use Rattle.orca_base.specs.Edits.{sheet_after_fill, sheet_after_put, sheet_after_move, sheet_after_resize}
use Rattle.orca_base.specs.Grids.{Sheet}
use Rattle.orca_notes.specs.Sound.{Sounds, sound, ends}
use Rattle.orca_op.specs.Scan.{scan}
use Rattle.orca_op.specs.State.{sheet_of}

-- a piece as it stands: its grid, the tick of its next frame, the notes that sound, and the seed
-- of its random numbers
pub record Piece : Type 0 where
  pub sheet : Sheet
  pub tick : ℕ
  pub notes : List Note
  pub seed : ℕ

-- an opened grid: no frame was played, and no note sounds
abbrev pub opened_piece : Sheet → ℕ → Piece
opened_piece sheet seed = record { sheet = sheet; tick = 0; notes = []; seed = seed }

-- the tick and the seed of the next frame
abbrev pub next_frame : Piece → Now
next_frame p = record { tick = p.tick; seed = p.seed }

-- the piece without notes
abbrev pub silence : Piece → Piece
silence p = record p { notes = [] }

-- the piece that an entry leaves, and the messages that it gives
pub record Outcome : Type 0 where
  pub piece : Piece
  pub messages : List Message

-- another grid, and no message
abbrev pub regrid : Piece → Sheet → Outcome
regrid p sheet = record { piece = record p { sheet = sheet }; messages = [] }

-- the notes and messages of the next frame: those of the events of its scan
abbrev pub next_sounds : Piece → Sounds
next_sounds p = sound p.notes p.tick (scan p.sheet (next_frame p)).events

-- a frame: the grid is that of a full scan of every cell, and the notes are those of its events
abbrev pub play_frame : Piece → Outcome
play_frame p = record {
  piece = record p {
    sheet = sheet_of (scan p.sheet (next_frame p));
    tick = p.tick + 1;
    notes = (next_sounds p).notes;
  };
  messages = (next_sounds p).messages;
}

-- what an entry makes of a piece
unfoldable pub apply : Piece → Entry → Outcome
apply p (Fill area glyph) = regrid p (sheet_after_fill p.sheet area glyph)
apply p (Put at block) = regrid p (sheet_after_put p.sheet at block)
apply p (Move area to) = regrid p (sheet_after_move p.sheet area to)
apply p (Resize dims) = regrid p (sheet_after_resize p.sheet dims)
apply p Reset = record { piece = record p { tick = 0; notes = [] }; messages = ends p.notes }
apply p Frame = play_frame p
apply p Hush = record { piece = silence p; messages = ends p.notes }

-- a piece after entries, in order
abbrev pub fold_entries : Piece → List Entry → Piece
fold_entries p [] = p
fold_entries p (entry ∷ entries) = fold_entries (apply p entry).piece entries

-- an opened grid after a history; after its first `closed` entries, those before the last close,
-- no note sounds
unfoldable pub piece_after : Sheet → ℕ → List Entry → ℕ → Piece
piece_after opened seed history closed =
    fold_entries (silence (fold_entries (opened_piece opened seed) (take closed history)))
    (drop closed history)
