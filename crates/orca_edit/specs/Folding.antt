-- What holds of the folds of histories: the statements of the laws.
use Rattle.std.specs.Prelude.{ℕ, ◌+◌, ◌<◌, ◌≤◌, ◌≡◌, Bool, true, false, List, [], ◌∷◌, ◌++◌, length, take, drop, slice_get, Some, None, All}
use Rattle.std.specs.List.{remove}
use Rattle.orca_base.specs.declared.command.Command.TheVariants.{Undo, Redo}
use Rattle.orca_base.specs.declared.command.Entry.{Entry}
use Rattle.orca_base.specs.declared.command.Entry.TheVariants.{Hush}
use Rattle.orca_base.specs.Grids.{Sheet, IsSheet}
use Rattle.orca_base.specs.Histories.{is_edit, is_size_used}
use Rattle.orca_op.specs.Laws.{IsLawful}
use Rattle.orca_op.specs.Rules.{rule}
use Rattle.orca_edit.specs.Editing.{AllFit, FitsIn, WritesGlyphs}
use Rattle.orca_edit.specs.Obeying.{MachineState, obey, piece_of, rule_against}
use Rattle.orca_edit.specs.Pieces.{Piece, apply, fold_entries, opened_piece, piece_after, silence}

-- ---- one entry after the other

-- an entry more is applied to the piece as it stands
abbrev pub FoldsOneMore : Type 0
FoldsOneMore =
    (opened : Sheet) (seed : ℕ) (history : List Entry) (entry : Entry) (closed : ℕ)
    → closed ≤ length history
    → piece_after opened seed (history ++ entry ∷ []) closed
    ≡ (apply (piece_after opened seed history closed) entry).piece

-- more entries go on from the piece as it stands
abbrev pub FoldsMore : Type 0
FoldsMore =
    (opened : Sheet) (seed : ℕ) (history more : List Entry) (closed : ℕ)
    → closed ≤ length history
    → piece_after opened seed (history ++ more) closed
    ≡ fold_entries (piece_after opened seed history closed) more

-- the same from any piece
abbrev pub FoldsOn : Type 0
FoldsOn =
    (p : Piece) (entries more : List Entry)
    → fold_entries p (entries ++ more) ≡ fold_entries (fold_entries p entries) more

-- a session that was never closed: the whole history is folded from the opened grid
abbrev pub FoldsFromOpened : Type 0
FoldsFromOpened =
    (opened : Sheet) (seed : ℕ) (history : List Entry)
    → piece_after opened seed history 0 ≡ fold_entries (opened_piece opened seed) history

-- no entry changes the seed
abbrev pub KeepsSeed : Type 0
KeepsSeed = (p : Piece) (entries : List Entry) → (fold_entries p entries).seed ≡ p.seed

-- ---- notes

-- pieces that differ in their notes alone go on to do so: no grid and no tick depends on notes
abbrev pub IgnoresNotes : Type 0
IgnoresNotes =
    (p q : Piece) (entries : List Entry) → silence p ≡ silence q
    → silence (fold_entries p entries) ≡ silence (fold_entries q entries)

-- so they don't depend on when a session was closed
abbrev pub IgnoresCloses : Type 0
IgnoresCloses =
    (opened : Sheet) (seed : ℕ) (history : List Entry) (closed other : ℕ)
    → silence (piece_after opened seed history closed)
    ≡ silence (piece_after opened seed history other)

-- a close ends every note, and leaves all else
abbrev pub ClosesAll : Type 0
ClosesAll =
    (opened : Sheet) (seed : ℕ) (history : List Entry) (closed : ℕ)
    → piece_after opened seed history (length history)
    ≡ silence (piece_after opened seed history closed)

-- so does the end of a jump, whenever the session was closed
abbrev pub HushesAll : Type 0
HushesAll =
    (opened : Sheet) (seed : ℕ) (history : List Entry) (closed other : ℕ)
    → piece_after opened seed (history ++ Hush ∷ []) closed
    ≡ silence (piece_after opened seed history other)

-- the next entry of a history leads from one moment to the next, but for the notes
abbrev pub FoldsNext : Type 0
FoldsNext =
    (opened : Sheet) (seed : ℕ) (history : List Entry) (moment : ℕ) (entry : Entry)
    (closed other : ℕ) → slice_get history moment ≡ Some entry
    → silence (piece_after opened seed (take (moment + 1) history) closed)
    ≡ silence (apply (piece_after opened seed (take moment history) other) entry).piece

-- the other entries lead from any moment to the last one, but for the notes
abbrev pub FoldsFromMoment : Type 0
FoldsFromMoment =
    (opened : Sheet) (seed : ℕ) (history : List Entry) (moment closed other : ℕ)
    → silence (piece_after opened seed history closed)
    ≡ silence (fold_entries (piece_after opened seed (take moment history) other)
    (drop moment history))

-- ---- what was cut off

-- nothing, or an edit first
abbrev pub begins_anew : List Entry → Bool
begins_anew [] = true
begins_anew (entry ∷ entries) = is_edit entry

-- a redo brings back what an undo took: after both, the grid and the tick are those from before. A
-- tail that begins otherwise would come back with it
abbrev pub RedoesUndo : Type 0
RedoesUndo =
    (m : MachineState) → begins_anew m.tail ≡ true → rule_against m Undo ≡ None
    → rule_against (obey m Undo).machine Redo ≡ None
    → silence (piece_of (obey (obey m Undo).machine Redo).machine) ≡ silence (piece_of m)

-- ---- entries that fit

-- entries that fit, and others that fit after them
abbrev pub FitsOn : Type 0
FitsOn =
    (p : Piece) (entries more : List Entry) → AllFit p entries
    → AllFit (fold_entries p entries) more → AllFit p (entries ++ more)

-- entries that all fit: the first ones fit, and the others fit after them
abbrev pub FitsInParts : Type 0
FitsInParts =
    (p : Piece) (entries more : List Entry) → AllFit p (entries ++ more)
    → AllFit p entries × AllFit (fold_entries p entries) more

-- the first so many of them fit
abbrev pub FitsAtFirst : Type 0
FitsAtFirst =
    (p : Piece) (entries : List Entry) (count : ℕ) → AllFit p entries
    → AllFit p (take count entries)

-- each of a history fits the piece of its moment
abbrev pub FitsAtMoment : Type 0
FitsAtMoment =
    (opened : Sheet) (seed : ℕ) (history : List Entry) (moment : ℕ) (entry : Entry) (closed : ℕ)
    → AllFit (opened_piece opened seed) history → slice_get history moment ≡ Some entry
    → FitsIn (piece_after opened seed (take moment history) closed).sheet.dims entry

-- an entry more, which fits the piece as it stands
abbrev pub FitsOneMore : Type 0
FitsOneMore =
    (opened : Sheet) (seed : ℕ) (history : List Entry) (entry : Entry) (closed : ℕ)
    → AllFit (opened_piece opened seed) history
    → FitsIn (piece_after opened seed history closed).sheet.dims entry
    → AllFit (opened_piece opened seed) (history ++ entry ∷ [])

-- the others without one of them, if no edit may need the size that it gave
abbrev pub FitsWithout : Type 0
FitsWithout =
    (p : Piece) (entries : List Entry) (number : ℕ) → number < length entries → AllFit p entries
    → is_size_used (drop number entries) ≡ false → AllFit p (remove entries number)

-- what fits doesn't depend on notes
abbrev pub FitsWithoutNotes : Type 0
FitsWithoutNotes =
    (p q : Piece) (entries : List Entry) → silence p ≡ silence q → AllFit p entries
    → AllFit q entries

-- ---- grids

-- a grid stays one, of a size that a grid may have and with a glyph for each place, if operators
-- write glyphs alone, and the entries fit and write glyphs
abbrev pub KeepsSheet : Type 0
KeepsSheet =
    IsLawful rule → (p : Piece) (entries : List Entry) → IsSheet p.sheet → AllFit p entries
    → All WritesGlyphs entries → IsSheet (fold_entries p entries).sheet

-- the same of a history
abbrev pub IsSheetAfter : Type 0
IsSheetAfter =
    IsLawful rule → (opened : Sheet) (seed : ℕ) (history : List Entry) (closed : ℕ)
    → IsSheet opened → AllFit (opened_piece opened seed) history → All WritesGlyphs history
    → IsSheet (piece_after opened seed history closed).sheet
