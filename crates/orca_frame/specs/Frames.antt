-- What a frame leaves, and how many steps it takes.
use Rattle.std.specs.Prelude.{ℕ, ◌+◌, ◌*◌, ◌≡◌, ◌≤◌, ◌↔◌, [], All, Contains}
use Rattle.orca_base.specs.declared.limits.TheConstants.{MAX_DEEDS, MAX_STEPS, MAX_VISIT_STEPS}
use Rattle.orca_base.specs.declared.now.Now.{Now}
use Rattle.orca_base.specs.declared.place.Place.{Place}
use Rattle.orca_base.specs.EventRanges.{IsInRange}
use Rattle.orca_base.specs.Grids.{Sheet}
use Rattle.orca_op.specs.Deeds.{after_all}
use Rattle.orca_op.specs.Slate.{Slate, IsSlate, list_after_all, residue}
use Rattle.orca_op.specs.Rules.{rule}
use Rattle.orca_op.specs.Scan.{state_after_places, scan_deeds, scan, written_places, busy, places}
use Rattle.orca_op.specs.State.{sheet_of, fresh}
use Rattle.orca_frame.specs.Written.{frame_deeds, IsWritten}

-- the slate after the first n places were visited
abbrev pub slate_after_places : ℕ → Sheet → Now → Slate
slate_after_places n g now = record {
  scan = state_after_places rule n g now;
  began = g;
  listed = list_after_all g.dims g.dims [] (scan_deeds n g now);
}

-- what a frame leaves of a slate: the scan of its grid, that grid as the one before, and the places
-- that the deeds of the scan write, each once; all other places are as before
pub record IsFramed (old new : Slate) (now : Now) : Type 0 where
  pub scan : new.scan ≡ scan (sheet_of old.scan) now
  pub deeds : new.scan ≡ after_all (fresh (sheet_of old.scan)) (frame_deeds (sheet_of old.scan) now)
  pub began : new.began ≡ sheet_of old.scan
  pub size : new.scan.dims ≡ old.scan.dims
  pub listed : new.listed ≡ written_places (sheet_of old.scan) now
  pub written : (at : Place) → Contains new.listed at ↔ IsWritten (sheet_of old.scan) now at
  pub slate : IsSlate new
  pub events : All IsInRange new.scan.events
  pub residue : residue new ≤ MAX_DEEDS * busy (sheet_of old.scan) now

-- a visit looks at the glyph of its place, at the marks, and at the four neighbours
abbrev pub looks : ℕ
looks = 6

-- the most steps of a frame that visits every place: those of `begin`, the looks at each place, and
-- those of the operators that the scan reaches
abbrev pub most_plain_steps : Slate → Now → ℕ
most_plain_steps d now =
    let g = sheet_of d.scan in
    1 + residue d + looks * places g + MAX_STEPS * busy g now

-- the most steps of a frame that goes from one operator to the next: those of `begin`, one for each
-- row, and those of the visits of the operators that the scan reaches
abbrev pub most_steps : Slate → Now → ℕ
most_steps d now = 1 + residue d + d.scan.dims.h + MAX_VISIT_STEPS * busy (sheet_of d.scan) now
