-- Places that the scan may pass over.
use Rattle.std.specs.Prelude.{ℕ, ◌+◌, ◌<◌, ◌≡◌, true, false, slice_index}
use Rattle.orca_base.specs.declared.now.Now.{Now}
use Rattle.orca_base.specs.Glyphs.{is_operator}
use Rattle.orca_base.specs.Grids.{Sheet, place_of}
use Rattle.orca_op.specs.Slate.{Slate, slate_of_sheet}
use Rattle.orca_op.specs.Scan.{Rules, is_idle, state_after_places, places}
use Rattle.orca_frame.specs.Frames.{IsFramed, most_steps}

-- after n places were visited, each of the next `many` is idle
abbrev pub AreIdle : Rules → ℕ → ℕ → Sheet → Now → Type 0
AreIdle rules n many g now =
    (i : ℕ) → i < many
    → is_idle (state_after_places rules n g now) (place_of g.dims (n + i)) ≡ true

-- the scan changes nothing over idle places, so a walk may pass over them
abbrev pub IsSkipping : Rules → Type 0
IsSkipping rules =
    (n many : ℕ) (g : Sheet) (now : Now) → AreIdle rules n many g now
    → state_after_places rules (n + many) g now ≡ state_after_places rules n g now

-- no place of the grid holds an operator
abbrev pub IsInert : Sheet → Type 0
IsInert g = (n : ℕ) → n < places g → is_operator (slice_index g.cells n) ≡ false

-- a grid at rest: where a frame has just begun on it, the next one changes nothing, and takes no
-- more steps than one for each row and one for `begin`
pub record IsAtRest (g : Sheet) (now : Now) : Type 0 where
  pub same : (d : Slate) → IsFramed (slate_of_sheet g) d now → d ≡ slate_of_sheet g
  pub steps : most_steps (slate_of_sheet g) now ≡ g.dims.h + 1
