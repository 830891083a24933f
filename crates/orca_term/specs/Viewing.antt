-- What a view is: the size of the screen, the last picture that was painted, if any, and the bytes
-- of that painting. And what a terminal shows that was sent all paintings so far.
use Rattle.std.specs.Prelude.{ℕ, ◌≡◌, Option, Some, None, List, [], length}
use Rattle.orca_term.specs.Forms.{bytes_of}
use Rattle.orca_term.specs.Painting.{painting}
use Rattle.orca_term.specs.Picture.{screen_cells}
use Rattle.orca_term.specs.Terminal.{Terminal, IsWhole, after_bytes}
use Rattle.orca_term.specs.declared.cell.Cell.{Cell}
use Rattle.orca_term.specs.declared.cell.ScreenSize.{ScreenSize}

pub record Seen : Type 0 where
  pub size : ScreenSize
  pub last : Option (List Cell)
  pub bytes : List ℕ

-- the bytes of the painting of these cells after the last picture, or after none
abbrev pub painting_bytes : ScreenSize → Option (List Cell) → List Cell → List ℕ
painting_bytes d last cells = bytes_of (painting d last cells)

-- a terminal of this size, whatever it shows, with its cursor anywhere and in any style
pub record IsOf (d : ScreenSize) (t : Terminal) : Type 0 where
  pub size : t.size ≡ d
  pub whole : length t.cells ≡ screen_cells d

-- the bytes that were sent so far are whole forms, and after them each such terminal shows the last
-- picture; before the first painting nothing was sent
abbrev pub Shows : ScreenSize → List ℕ → Option (List Cell) → Type 0
Shows d sent None = sent ≡ []
Shows d sent (Some cells) =
    IsWhole sent × ((t : Terminal) → IsOf d t → (after_bytes t sent).cells ≡ cells)
