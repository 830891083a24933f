-- The slate that the parts of a plain board stand for, and what its parts keep.
use Rattle.std.specs.Prelude.{ℕ, ◌≤◌, List}
use Rattle.orca_base.specs.declared.change.Change.{Change}
use Rattle.orca_base.specs.declared.limits.TheConstants.{MAX_CELLS, MAX_EVENTS}
use Rattle.orca_board.specs.declared.plain_board.PlainBoard.TheInside.{Inside}
use Rattle.orca_board.specs.Listing.{ListsChanges, places_of}
use Rattle.orca_op.specs.Slate.{Slate}

abbrev pub plain_slate_of : Inside → Slate
plain_slate_of b = record {
  scan = record {
    dims = b.dims;
    cells = b.cells.items;
    marks = b.marks.items;
    vars = b.vars.items;
    events = b.events.items;
  };
  began = record { dims = b.listing.began; cells = b.before.value.items };
  listed = places_of b.listing.changes;
}

-- the parts are a slate with its changes, and there is room for the largest grid
pub record KeepsSlate (d : Slate) (known : List Change) (cells marks events : ℕ) : Type 0 where
  pub lists : ListsChanges d known
  pub cells_roomy : MAX_CELLS ≤ cells
  pub marks_roomy : MAX_CELLS ≤ marks
  pub events_roomy : MAX_EVENTS ≤ events
