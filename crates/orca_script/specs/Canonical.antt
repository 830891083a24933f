-- The canonical line of a command: single spaces between its words, no leading zeros, and no space
-- at its end.
use Rattle.std.specs.Prelude.{ℕ, ◌^◌, ◌<◌, ◌≡◌, IfSome, List, [], ◌∷◌, ◌++◌, Option, Some, None, codes}
use Rattle.std.specs.List.{flat_map, All}
use Rattle.std.specs.Option.{option_to_list}
use Rattle.std.specs.Fmt.{decimal}
use Rattle.orca_base.specs.Ascii.{line_feed, space}
use Rattle.orca_base.specs.Glyphs.{IsGlyph}
use Rattle.orca_base.specs.declared.area.Rect.{Rect}
use Rattle.orca_base.specs.declared.command.Command.{Command}
use Rattle.orca_base.specs.declared.command.Command.TheVariants.{Frame, Write, Fill, Erase, Copy, Cut, Clip, Paste, Move, Resize, Reset, Undo, Rewind, Redo, Retract, Hush}

-- a line: its first word, its numbers in order, and its glyph, where it has one
pub record Line : Type 0 where
  pub word : List ℕ
  pub numbers : List ℕ
  pub glyph : Option ℕ

abbrev pub line_with : List ℕ → List ℕ → Option ℕ → Line
line_with word numbers glyph = record { word = word; numbers = numbers; glyph = glyph }

-- a word, and its values after it, each after a space
abbrev pub line_text : Line → List ℕ
line_text l =
    l.word
    ++ (flat_map (λ number. space ∷ decimal number) l.numbers
    ++ flat_map (λ glyph. space ∷ glyph ∷ []) (option_to_list l.glyph))

-- the numbers of a block
abbrev pub sides : Rect → List ℕ
sides rect = rect.y ∷ rect.x ∷ rect.h ∷ rect.w ∷ []

-- the line of a command
unfoldable pub line_of : Command → Line
line_of Frame = line_with (codes "frame") [] None
line_of (Write y x glyph) = line_with (codes "write") (y ∷ x ∷ []) (Some glyph)
line_of (Fill rect glyph) = line_with (codes "fill") (sides rect) (Some glyph)
line_of (Erase rect) = line_with (codes "erase") (sides rect) None
line_of (Copy rect) = line_with (codes "copy") (sides rect) None
line_of (Cut rect) = line_with (codes "cut") (sides rect) None
line_of (Clip y x glyph) = line_with (codes "clip") (y ∷ x ∷ []) (Some glyph)
line_of (Paste y x) = line_with (codes "paste") (y ∷ x ∷ []) None
line_of (Move rect y x) = line_with (codes "move") (sides rect ++ y ∷ x ∷ []) None
line_of (Resize h w) = line_with (codes "resize") (h ∷ w ∷ []) None
line_of Reset = line_with (codes "reset") [] None
line_of Undo = line_with (codes "undo") [] None
line_of (Rewind moment) = line_with (codes "rewind") (moment ∷ []) None
line_of Redo = line_with (codes "redo") [] None
line_of (Retract moment) = line_with (codes "retract") (moment ∷ []) None
line_of Hush = line_with (codes "hush") [] None

-- the canonical line of a command
abbrev pub canonical : Command → List ℕ
canonical command = line_text (line_of command)

-- the numbers have 32 bits, and the glyph is one
pub record HasValues (l : Line) : Type 0 where
  pub small : All (λ number. number < 2 ^ 32) l.numbers
  pub visible : IfSome l.glyph IsGlyph

-- what is printed of a command: its canonical line and a line feed
abbrev pub printed : Command → List ℕ
printed command = canonical command ++ line_feed ∷ []

-- old stands at the front of new
abbrev pub Extends : List ℕ → List ℕ → Type 0
Extends old new = (tail : List ℕ) × (new ≡ old ++ tail)
