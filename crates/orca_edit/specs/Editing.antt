-- The commands that edit a grid or take a clip, what their entries need of a grid, and what they
-- leave of a board.
use Rattle.std.specs.Prelude.{ℕ, ◌+◌, ◌*◌, ◌≡◌, false, List, [], ◌∷◌, length, Option}
use Rattle.orca_base.specs.declared.command.Command.{Command}
use Rattle.orca_base.specs.declared.command.Command.TheVariants as command
use Rattle.orca_base.specs.declared.command.Entry.{Entry}
use Rattle.orca_base.specs.declared.command.Entry.TheVariants.{Fill, Put, Move, Resize, Reset, Frame, Hush}
use Rattle.orca_base.specs.Areas.{IsArea}
use Rattle.orca_base.specs.Edits.{sheet_after_fill, sheet_after_put, sheet_after_move}
use Rattle.orca_base.specs.Glyphs.{IsGlyph, AreGlyphs}
use Rattle.orca_base.specs.Grids.{Size, Sheet, IsSize, IsInside, cells_of}
use Rattle.orca_board.specs.Blocks.{slate_after_edit, fill_places, put_places, shift_places}
use Rattle.orca_board.specs.Sizes.{cut_places, slate_after_resize}
use Rattle.orca_op.specs.Slate.{Slate}
use Rattle.orca_op.specs.State.{sheet_of}
use Rattle.orca_edit.specs.Obeying.{names_outside, names_empty_block, names_bad_size, wants_clip}
use Rattle.orca_edit.specs.Pieces.{Piece, apply}

-- a command that edits the grid or takes the clip: any but a frame, the three jumps and a Retract
abbrev pub IsEditing : Command → Type 0
IsEditing command.Frame = ⊥
IsEditing command.Undo = ⊥
IsEditing (command.Rewind moment) = ⊥
IsEditing command.Redo = ⊥
IsEditing (command.Retract moment) = ⊥
IsEditing _ = Unit {0}

-- the command puts the clip into the grid
abbrev pub IsPaste : Command → Type 0
IsPaste (command.Paste y x) = Unit {0}
IsPaste _ = ⊥

-- no rule stands against the command for its places, its block, its size or the clip
pub record IsAllowed (d : Size) (clip : Option Sheet) (c : Command) : Type 0 where
  pub inside : names_outside d c ≡ false
  pub block : names_empty_block c ≡ false
  pub size : names_bad_size c ≡ false
  pub clipped : wants_clip clip c ≡ false

-- an entry that changes the grid by itself, without a frame
abbrev pub IsGridEdit : Entry → Type 0
IsGridEdit Reset = ⊥
IsGridEdit Frame = ⊥
IsGridEdit Hush = ⊥
IsGridEdit _ = Unit {0}

-- what an entry needs of the grid that it is applied to, by the grid's size
abbrev pub FitsIn : Size → Entry → Type 0
FitsIn d (Fill area glyph) = IsArea d area
FitsIn d (Put at block) = IsInside d at
FitsIn d (Move area to) = IsArea d area × IsInside d to
FitsIn d (Resize dims) = IsSize dims
FitsIn d _ = Unit {0}

-- a copied block: a glyph for each of its places
pub record IsBlock (block : Sheet) : Type 0 where
  pub whole : length block.cells ≡ cells_of block.dims
  pub glyphs : AreGlyphs block.cells

-- what an entry writes is glyphs
abbrev pub WritesGlyphs : Entry → Type 0
WritesGlyphs (Fill area glyph) = IsGlyph glyph
WritesGlyphs (Put at block) = IsBlock block
WritesGlyphs _ = Unit {0}

-- the slate that a grid edit leaves
abbrev pub slate_with : Slate → Entry → Slate
slate_with d (Fill area glyph) =
    slate_after_edit d (sheet_after_fill (sheet_of d.scan) area glyph) (fill_places area)
slate_with d (Put at block) =
    slate_after_edit d (sheet_after_put (sheet_of d.scan) at block)
    (put_places d.scan.dims at block.dims)
slate_with d (Move area to) =
    slate_after_edit d (sheet_after_move (sheet_of d.scan) area to)
    (shift_places d.scan.dims area to)
slate_with d (Resize dims) = slate_after_resize d dims
slate_with d _ = d

-- the steps of a grid edit: one for each place that it reads, writes or cuts off
abbrev pub steps_of : Size → Entry → ℕ
steps_of d (Fill area glyph) = area.h * area.w
steps_of d (Put at block) = length (put_places d at block.dims)
steps_of d (Move area to) = area.h * area.w + length (shift_places d area to)
steps_of d (Resize dims) = length (cut_places d dims)
steps_of d _ = 0

-- each entry fits the grid that it is applied to
abbrev pub AllFit : Piece → List Entry → Type 0
AllFit p [] = Unit {0}
AllFit p (entry ∷ entries) = FitsIn p.sheet.dims entry × AllFit (apply p entry).piece entries
