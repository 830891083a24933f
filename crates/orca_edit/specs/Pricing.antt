-- What holds of prices and of the kept numbers: the statements of the laws.
use Rattle.std.specs.Prelude.{ℕ, ◌+◌, ◌-◌, ◌*◌, ◌≤◌, ◌<◌, ◌≡◌, true, List, [], ◌∷◌, ◌++◌, length, map, take, drop, min, slice_get, Some, Ok}
use Rattle.std.specs.List.{range_with_len}
use Rattle.orca_base.specs.declared.command.Command.{Command}
use Rattle.orca_base.specs.declared.command.Entry.{Entry}
use Rattle.orca_base.specs.declared.command.Entry.TheVariants.{Fill, Put, Move, Resize, Frame, Hush}
use Rattle.orca_base.specs.declared.command.Reply.{Reply}
use Rattle.orca_base.specs.declared.limits.TheConstants.{MAX_TOUCHED}
use Rattle.orca_base.specs.declared.message.Message.{Message}
use Rattle.orca_base.specs.declared.place.Place.{Place}
use Rattle.orca_base.specs.Grids.{IsSize}
use Rattle.orca_base.specs.Histories.{few_touched, worn_of}
use Rattle.orca_board.specs.Blocks.{fill_places, put_places, shift_places}
use Rattle.orca_board.specs.Sizes.{cut_places}
use Rattle.orca_op.specs.Slate.{slate_of_sheet}
use Rattle.orca_op.specs.Scan.{written_places}
use Rattle.orca_edit.specs.Editing.{FitsIn, IsGridEdit, slate_with, steps_of}
use Rattle.orca_edit.specs.Machines.{obeyed}
use Rattle.orca_edit.specs.Obeying.{MachineState, obey, piece_of}
use Rattle.orca_edit.specs.Pieces.{Piece, apply, next_frame, silence}
use Rattle.orca_edit.specs.Prices.{Kept, bill_of, charge, kept_after, kept_by, least_first, of_entry, moment_piece, price, total, touched}

-- ---- notes

-- a number of an entry doesn't depend on notes
abbrev pub IgnoresNotesOf : (Piece → Entry → ℕ) → Type 0
IgnoresNotesOf f =
    (p q : Piece) (entry : Entry) → silence p ≡ silence q → f p entry ≡ f q entry

-- ---- totals

-- the last moment is the piece as it stands
abbrev pub EndsAtPiece : Type 0
EndsAtPiece = (m : MachineState) → moment_piece m (length m.history) ≡ piece_of m

-- a total splits at a moment
abbrev pub TotalsSplit : Type 0
TotalsSplit =
    (f : Piece → Entry → ℕ) (m : MachineState) (from mid to : ℕ) → from ≤ mid → mid ≤ to
    → total f m from to ≡ total f m from mid + total f m mid to

-- the total of one entry
abbrev pub TotalsOne : Type 0
TotalsOne =
    (f : Piece → Entry → ℕ) (m : MachineState) (n : ℕ) (entry : Entry)
    → slice_get m.history n ≡ Some entry → total f m n (n + 1) ≡ f (moment_piece m n) entry

-- the total of no entry
abbrev pub TotalsNone : Type 0
TotalsNone = (f : Piece → Entry → ℕ) (m : MachineState) (n : ℕ) → total f m n n ≡ 0

-- two sessions began with the same grid and seed, and their first n entries are the same
pub record AgreeUpTo (n : ℕ) (m s : MachineState) : Type 0 where
  pub opened : m.opened ≡ s.opened
  pub seed : m.seed ≡ s.seed
  pub entries : take n m.history ≡ take n s.history

-- such sessions had the same pieces, but for the notes
abbrev pub PiecesAgree : Type 0
PiecesAgree =
    (n moment : ℕ) (m s : MachineState) → AgreeUpTo n m s → moment ≤ n
    → silence (moment_piece m moment) ≡ silence (moment_piece s moment)

-- and the same totals, of numbers that don't depend on notes
abbrev pub TotalsAgree : Type 0
TotalsAgree =
    (f : Piece → Entry → ℕ) → IgnoresNotesOf f
    → (n from to : ℕ) (m s : MachineState) → AgreeUpTo n m s → to ≤ n
    → total f m from to ≡ total f s from to

-- ---- grid edits

-- the places that an entry lists on a board, where nothing was listed before it
abbrev pub listed_by : Piece → Entry → List Place
listed_by p (Fill area glyph) = fill_places area
listed_by p (Put at block) = put_places p.sheet.dims at block.dims
listed_by p (Move area to) = shift_places p.sheet.dims area to
listed_by p (Resize dims) = cut_places p.sheet.dims dims
listed_by p Frame = written_places p.sheet (next_frame p)
listed_by p _ = []

-- the entry changes no size
abbrev pub KeepsSize : Entry → Type 0
KeepsSize (Resize dims) = ⊥
KeepsSize _ = Unit {0}

-- a grid edit lists these places
abbrev pub ListsPlaces : Type 0
ListsPlaces =
    (p : Piece) (entry : Entry) → IsGridEdit entry → FitsIn p.sheet.dims entry
    → (slate_with (slate_of_sheet p.sheet) entry).listed ≡ listed_by p entry

-- an entry that changes no size touches exactly these places
abbrev pub TouchesListed : Type 0
TouchesListed =
    (p : Piece) (entry : Entry) → KeepsSize entry → length (listed_by p entry) ≡ touched p entry

-- together with the places that going back cuts off, they are no more than the entry touches
abbrev pub TouchesBothWays : Type 0
TouchesBothWays =
    (p : Piece) (entry : Entry)
    → length (listed_by p entry)
    + length (cut_places (apply p entry).piece.sheet.dims p.sheet.dims)
    ≤ touched p entry

-- an entry that fits touches no more cells than two of the largest grids have
abbrev pub TouchesFew : Type 0
TouchesFew =
    (p : Piece) (entry : Entry) → IsSize p.sheet.dims → FitsIn p.sheet.dims entry
    → touched p entry ≤ MAX_TOUCHED

-- the price of a grid edit pays twice for each of its steps, and for a begin before it
abbrev pub PaysTwice : Type 0
PaysTwice =
    (p : Piece) (entry : Entry) → IsGridEdit entry → FitsIn p.sheet.dims entry
    → 2 * steps_of p.sheet.dims entry + 1 ≤ price p entry

-- ---- the first patch

-- how many cells each entry touched, from one on
abbrev pub touched_from : MachineState → ℕ → List ℕ
touched_from m first = map (of_entry touched m) (range_with_len first (length m.history - first))

-- as many patches are worn as serve
abbrev pub FirstIsWorn : Type 0
FirstIsWorn =
    (m : MachineState) (first : ℕ) → first ≤ length m.history
    → least_first m first ≡ first + worn_of (touched_from m first)

-- a later entry on: the first numbers are left out
abbrev pub TouchedLater : Type 0
TouchedLater =
    (m : MachineState) (first count : ℕ)
    → touched_from m (first + count) ≡ drop count (touched_from m first)

-- an entry more
abbrev pub TouchedMore : Type 0
TouchedMore =
    (m s : MachineState) (entry : Entry) (first : ℕ) → m.opened ≡ s.opened → m.seed ≡ s.seed
    → s.history ≡ m.history ++ entry ∷ [] → first ≤ length m.history
    → touched_from s first ≡ touched_from m first ++ touched (piece_of m) entry ∷ []

-- after a jump to a moment
abbrev pub TouchedJumped : Type 0
TouchedJumped =
    (m s : MachineState) (moment first : ℕ) → m.opened ≡ s.opened → m.seed ≡ s.seed
    → s.history ≡ take moment m.history ++ Hush ∷ [] → moment < length m.history
    → touched_from s (min first moment) ≡ take (moment - first) (touched_from m first) ++ 0 ∷ []

-- a jump wears no patch
abbrev pub JumpWearsNone : Type 0
JumpWearsNone =
    (m s : MachineState) (moment first : ℕ) → m.opened ≡ s.opened → m.seed ≡ s.seed
    → s.history ≡ take moment m.history ++ Hush ∷ [] → moment < length m.history
    → few_touched (touched_from m first) ≡ true
    → least_first s (min first moment) ≡ min first moment

-- the Hush at the end alone
abbrev pub TouchedByHush : Type 0
TouchedByHush =
    (m : MachineState) → slice_get m.history (length m.history - 1) ≡ Some Hush
    → touched_from m (length m.history - 1) ≡ 0 ∷ []

-- ---- bills

-- what may be taken for a reply, and the numbers that are kept after it, by what obeying led to
abbrev pub ChargesReply : Type 0
ChargesReply =
    (m : MachineState) (k : Kept) (c : Command) (reply : Reply) (after : MachineState)
    (messages : List Message) → obey m c ≡ obeyed (Ok reply) after messages
    → (charge (Ok reply) m k c ≡ bill_of (Ok reply) m k c after)
    × (kept_after m k c (Ok reply) ≡ kept_by reply after k)
