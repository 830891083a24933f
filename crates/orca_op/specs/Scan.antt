-- The scan: every place is visited, in reading order.
use Rattle.std.specs.Prelude.{ℕ, zero, suc, ◌+◌, Bool, not, ◌&&◌, ◌||◌, if◌then◌else◌, List, [], ◌++◌}
use Rattle.orca_base.specs.declared.now.Now.{Now}
use Rattle.orca_base.specs.declared.place.Place.{Place}
use Rattle.orca_base.specs.Glyphs.{is_operator, needs_bang}
use Rattle.orca_base.specs.Grids.{Sheet, cells_of, place_of}
use Rattle.orca_op.specs.State.{State, fresh, state_glyph, marks_at, has_bang}
use Rattle.orca_op.specs.Deeds.{Deed, after_all}
use Rattle.orca_op.specs.Slate.{list_after_all}
use Rattle.orca_op.specs.Rules.{rule}

-- a place is idle where it holds no operator, is locked or asleep, or holds a lower-case letter
-- without a bang
unfoldable pub is_idle : State → Place → Bool
is_idle s at =
    not (is_operator (state_glyph s at)) || (marks_at s at).lock || (marks_at s at).sleep
    || (needs_bang (state_glyph s at) && not (has_bang s at))

-- a rule for each glyph
abbrev pub Rules : Type 0
Rules = ℕ → State → Place → Now → List Deed

-- the deeds of a visit: none where the place is idle, else those of the rule of its glyph
unfoldable pub visit_deeds : Rules → State → Place → Now → List Deed
visit_deeds rules s at now = if is_idle s at then [] else rules (state_glyph s at) s at now

-- the state after a visit
abbrev pub state_after_visit : Rules → State → Place → Now → State
state_after_visit rules s at now = after_all s (visit_deeds rules s at now)

-- the state after the first n places were visited
abbrev pub state_after_places : Rules → ℕ → Sheet → Now → State
state_after_places rules zero g now = fresh g
state_after_places rules (suc n) g now =
    state_after_visit rules (state_after_places rules n g now) (place_of g.dims n) now

-- the deeds of the first n visits
abbrev pub scan_deeds : ℕ → Sheet → Now → List Deed
scan_deeds zero g now = []
scan_deeds (suc n) g now =
    scan_deeds n g now
    ++ visit_deeds rule (state_after_places rule n g now) (place_of g.dims n) now

-- how many of the first n places hold an operator when the scan reaches them
abbrev pub busy_of : ℕ → Sheet → Now → ℕ
busy_of zero g now = 0
busy_of (suc n) g now =
    let reached = state_after_places rule n g now in
    busy_of n g now + (if is_operator (state_glyph reached (place_of g.dims n)) then 1 else 0)

abbrev pub places : Sheet → ℕ
places g = cells_of g.dims

-- the state after a frame
unfoldable pub scan : Sheet → Now → State
scan g now = state_after_places rule (places g) g now

-- the places of the grid that the deeds of a frame write, each once
unfoldable pub written_places : Sheet → Now → List Place
written_places g now = list_after_all g.dims g.dims [] (scan_deeds (places g) g now)

-- how many places hold an operator when the scan of a frame reaches them
unfoldable pub busy : Sheet → Now → ℕ
busy g now = busy_of (places g) g now
