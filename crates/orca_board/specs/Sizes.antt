-- What a change of size leaves of a slate.
use Rattle.std.specs.Prelude.{◌==◌, Bool, ◌&&◌, List, [], if◌then◌else◌}
use Rattle.orca_base.specs.declared.area.Area.{Area}
use Rattle.orca_base.specs.declared.place.Place.{Place}
use Rattle.orca_base.specs.Edits.{sheet_after_resize}
use Rattle.orca_base.specs.Grids.{Size, Sheet}
use Rattle.orca_op.specs.Slate.{Slate}
use Rattle.orca_op.specs.State.{State, sheet_of, blank_marks}
use Rattle.orca_board.specs.Blocks.{list_each, places_outside}

-- whether two sizes are one
abbrev pub is_size : Size → Size → Bool
is_size a b = (a.h == b.h) && (a.w == b.w)

-- the state with another grid: a grid of another size has no marks and no events
abbrev pub with_sheet : State → Sheet → State
with_sheet s g =
    if is_size g.dims s.dims then record s { dims = g.dims; cells = g.cells }
    else record s { dims = g.dims; cells = g.cells; marks = blank_marks g.dims; events = [] }

-- all places of a grid
abbrev pub whole : Size → Area
whole d = record { y = 0; x = 0; h = d.h; w = d.w }

-- the places that another size cuts off, in reading order
abbrev pub cut_places : Size → Size → List Place
cut_places d to = places_outside (whole d) (whole to)

-- Resize: the common part stays, new places are empty, and the places that are cut off are listed
abbrev pub slate_after_resize : Slate → Size → Slate
slate_after_resize d to = record {
  scan = with_sheet d.scan (sheet_after_resize (sheet_of d.scan) to);
  began = d.began;
  listed = list_each d.began.dims d.listed (cut_places d.scan.dims to);
}

-- the grid of the last `begin`, and no changes
abbrev pub slate_reverted : Slate → Slate
slate_reverted d = record { scan = with_sheet d.scan d.began; began = d.began; listed = [] }
