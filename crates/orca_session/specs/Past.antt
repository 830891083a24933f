-- The past of a session: the opened grid, what was done since, what jumps cut off, the patches of
-- the newest of what was done, and checkpoints.
use Rattle.std.specs.Prelude.{ℕ, ◌+◌, ◌<◌, ◌≤◌, ◌≡◌, length, take, min, max, Option, Some, None}
use Rattle.orca_base.specs.declared.command.Entry.{Entry}
use Rattle.orca_base.specs.declared.command.Entry.TheVariants.{Resize}
use Rattle.orca_base.specs.Grids.{Size, Sheet, cells_of}
use Rattle.orca_base.specs.Histories.{group_of}
use Rattle.orca_board.specs.Sizes.{cut_places}
use Rattle.orca_checkpoints.specs.Laws.{AreOf}
use Rattle.orca_checkpoints.specs.Points.{Point, Points, points_at_start}
use Rattle.orca_edit.specs.Editing.{AllFit}
use Rattle.orca_edit.specs.Obeying.{MachineState}
use Rattle.orca_edit.specs.Pieces.{Piece, fold_entries, opened_piece, piece_after}
use Rattle.orca_edit.specs.Prices.{Kept as Numbers, of_entry, touched}
use Rattle.orca_edit.specs.Pricing.{touched_from}
use Rattle.orca_history.specs.declared.ring.Kept.{Kept}
use Rattle.orca_history.specs.Trails.{Trail, IsTrail, patch_at, touched_of, trail_at_start, trail_jumped, trail_pushed, trail_redone, trail_retracted}
use Rattle.orca_op.specs.Slate.{Slate}
use Rattle.orca_patch.specs.Patches.{Before, CoversCut, before_of, no_change, sheet_before}

-- the opened grid, the seed, the history with its tail and its patches, the checkpoints, how many
-- entries the history had at the last close, and the most that it has had
pub record PastState : Type 0 where
  pub opened : Sheet
  pub seed : ℕ
  pub trail : Trail
  pub points : Points
  pub closed : ℕ
  pub peak : ℕ

-- the session with this past and this clip
abbrev pub machine_of : PastState → Option Sheet → MachineState
machine_of p clip = record {
  opened = p.opened;
  seed = p.seed;
  limit = p.trail.limit;
  history = p.trail.entries;
  clip = clip;
  closed = p.closed;
  tail = p.trail.tail;
}

-- the same without a clip, and never closed: its pieces are those of the moments
abbrev pub plain_machine : PastState → MachineState
plain_machine p = record {
  opened = p.opened;
  seed = p.seed;
  limit = p.trail.limit;
  history = p.trail.entries;
  clip = None;
  closed = 0;
  tail = p.trail.tail;
}

-- the numbers that are kept
abbrev pub numbers_of : PastState → Numbers
numbers_of p = record { first = p.trail.first; spacing = p.points.spacing; peak = p.peak }

-- the piece as it stands
abbrev pub present : PastState → Piece
present p = piece_after p.opened p.seed p.trail.entries p.closed

-- the piece of a moment: the opened grid after the first so many entries
abbrev pub moment_of : PastState → ℕ → Piece
moment_of p moment = piece_after p.opened p.seed (take moment p.trail.entries) 0

-- the grid and the tick of a moment
abbrev pub point_at : PastState → ℕ → Point
point_at p moment = record {
  sheet = (moment_of p moment).sheet;
  tick = (moment_of p moment).tick;
}

-- how many cells the entry of a moment touched
abbrev pub touched_at : PastState → ℕ → ℕ
touched_at p moment = of_entry touched (plain_machine p) moment

-- the piece after so many entries of the tail
abbrev pub piece_with : PastState → ℕ → Piece
piece_with p count = fold_entries (present p) (take count p.trail.tail)

-- the piece after a redo, but for its notes
abbrev pub redone : PastState → Piece
redone p = piece_with p (group_of p.trail.tail)

-- nothing was done
abbrev pub past_at_start : Sheet → ℕ → ℕ → PastState
past_at_start sheet seed limit = record {
  opened = sheet;
  seed = seed;
  trail = trail_at_start limit;
  points = points_at_start sheet;
  closed = 0;
  peak = 0;
}

-- how many cells an entry touched, by its patch and the size after it: those of both grids for a
-- change of size, else the places that changed
abbrev pub touched_by : Entry → Before → Size → ℕ
touched_by (Resize dims) patch now = cells_of patch.dims + cells_of now
touched_by entry patch now = length patch.changes

-- what is kept of an entry that was done on a slate since its last `begin`, with the tick before it
abbrev pub kept_entry : Entry → Slate → ℕ → Kept
kept_entry entry d tick = record {
  patch = before_of d tick;
  touched = touched_by entry (before_of d tick) d.scan.dims;
}

-- an entry more, with what is kept of it, and these checkpoints; what was cut off is lost
abbrev pub past_pushed : PastState → Entry → Kept → Points → PastState
past_pushed p entry kept points = record p {
  trail = trail_pushed p.trail entry kept;
  points = points;
  peak = max p.peak (length p.trail.entries + 1);
}

-- the first entries and a Hush, with its patch, and these checkpoints; the others are cut off
abbrev pub past_jumped : PastState → ℕ → Before → Points → PastState
past_jumped p moment patch points = record p {
  trail = trail_jumped p.trail moment patch;
  points = points;
  closed = min p.closed (moment + 1);
}

-- the first group of what was cut off comes back before the last Hush, which has this patch, with
-- these checkpoints
abbrev pub past_redone : PastState → Before → Points → PastState
past_redone p patch points = record p {
  trail = trail_redone p.trail patch;
  points = points;
  peak = max p.peak (length p.trail.entries + group_of p.trail.tail);
}

-- the past after a redo, but for its patch and its checkpoints
abbrev pub brought_back : PastState → PastState
brought_back p = past_redone p (no_change p.opened.dims 0) p.points

-- an entry is taken out, and then comes a Hush with this patch; these checkpoints, and no tail
abbrev pub past_retracted : PastState → ℕ → Before → Points → PastState
past_retracted p moment patch points = record p {
  trail = trail_retracted p.trail moment patch;
  points = points;
}

-- the past after a Retract, but for its patch and its checkpoints
abbrev pub left_by : PastState → ℕ → PastState
left_by p moment = past_retracted p moment (no_change p.opened.dims 0) p.points

-- every note ends
abbrev pub past_closed : PastState → PastState
past_closed p = record p { closed = length p.trail.entries }

-- the patch leads back from the piece after a change to the grid and the tick before it, and
-- changes or cuts off no more places than so many
pub record Undoes (patch : Before) (before after : Piece) (most : ℕ) : Type 0 where
  pub sheet : sheet_before patch after.sheet ≡ before.sheet
  pub tick : patch.tick ≡ before.tick
  pub covers : CoversCut patch after.sheet.dims
  pub few : length patch.changes + length (cut_places after.sheet.dims patch.dims) ≤ most

-- each patch that is kept leads back from the moment after its entry to the moment before it, by no
-- more places than the entry touched
pub record KeepsPatches (p : PastState) : Type 0 where
  pub each : (n : ℕ) (patch : Before) → n < length p.trail.entries
      → patch_at p.trail n ≡ Some patch
      → Undoes patch (moment_of p n) (moment_of p (n + 1)) (touched_at p n)

-- what holds of every past: the entries fit, what was cut off fits the piece as it stands, each
-- patch leads back, the cells that are counted are those that the entries touched, and the
-- checkpoints are those of their moments
pub record IsPast (p : PastState) : Type 0 where
  pub fits : AllFit (opened_piece p.opened p.seed) p.trail.entries
  pub tail : AllFit (present p) p.trail.tail
  pub patches : KeepsPatches p
  pub touched : touched_of p.trail.kept ≡ touched_from (plain_machine p) p.trail.first
  pub points : AreOf (point_at p) (length p.trail.entries) p.peak p.points
  pub trail : IsTrail p.trail
  pub closed : p.closed ≤ length p.trail.entries
  pub most : length p.trail.entries ≤ p.peak
