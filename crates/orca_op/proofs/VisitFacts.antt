-- What the deeds of a visit write and send, and what they leave in the middle of a frame.
use Rattle.std.proofs.Common.{◌≡◌, ℕ, zero, suc, ◌≤◌, Bool, true, false, List, [], length, refl, arith, ap, sym, ◌∙◌, subst}
use Rattle.std.specs.Prelude.{All, count_by, if◌then◌else◌}
use Rattle.std.proofs.lemmas.List.Elements.{All-nil}
use Rattle.orca_base.specs.declared.now.Now.{Now}
use Rattle.orca_base.specs.declared.place.Place.{Place}
use Rattle.orca_base.specs.EventRanges.{IsInRange}
use Rattle.orca_base.specs.Grids.{Size, Sheet, IsSheet, IsInside, cells_of, place_of}
use Rattle.orca_base.proofs.PlaceFacts.{inside-place_of}
use Rattle.orca_base.proofs.SheetFacts.{IsGlyph-glyph_at}
use Rattle.orca_op.specs.Deeds.{Deed}
use Rattle.orca_op.specs.Laws.{EmitsInRange, Every, IsLawful, WritesGlyph, is_emit}
use Rattle.orca_op.specs.Rules.{rule}
use Rattle.orca_op.specs.Scan.{Rules, is_idle, places, state_after_places, visit_deeds}
use Rattle.orca_op.specs.State.{IsState, State, state_glyph, sheet_of}
use Rattle.orca_op.proofs.LawFacts.{in_range-after_all}
use Rattle.orca_op.proofs.StateFacts.{IsState-after_all, IsState-fresh, dims_after_all, events_after_all}

every_if : (P : Deed → Type 0) (idle : Bool) (deeds : List Deed) → Every P deeds
    → Every P (if idle then [] else deeds)
every_if P true deeds all = tt
every_if P false deeds all = all

few_if : (idle : Bool) (deeds : List Deed) → count_by is_emit deeds ≤ 1
    → count_by is_emit (if idle then [] else deeds) ≤ 1
few_if true deeds one = omega arith
few_if false deeds one = one

-- a visit writes glyphs, sends events in range, and one at most
pub writes_glyphs : (s : State) (at : Place) (now : Now) → IsLawful rule → IsState s
    → IsInside s.dims at → Every WritesGlyph (visit_deeds rule s at now)
unfolding visit_deeds
writes_glyphs s at now lawful state inside =
    every_if WritesGlyph (is_idle s at) (rule (state_glyph s at) s at now)
    (lawful.glyphs (state_glyph s at) s at now state
    (IsGlyph-glyph_at (sheet_of s) at state.sheet inside))

pub sends_in_range : (s : State) (at : Place) (now : Now) → IsLawful rule → IsState s
    → Every EmitsInRange (visit_deeds rule s at now)
unfolding visit_deeds
sends_in_range s at now lawful state =
    every_if EmitsInRange (is_idle s at) (rule (state_glyph s at) s at now)
    (lawful.events (state_glyph s at) s at now state)

pub sends_one : (s : State) (at : Place) (now : Now) → IsLawful rule
    → count_by is_emit (visit_deeds rule s at now) ≤ 1
unfolding visit_deeds
sends_one s at now lawful = few_if (is_idle s at) (rule (state_glyph s at) s at now)
    (lawful.one_event (state_glyph s at) s at now)

-- no visit changes the size
pub dims_after_places : (rules : Rules) (n : ℕ) (g : Sheet) (now : Now)
    → (state_after_places rules n g now).dims ≡ g.dims
dims_after_places rules zero g now = refl
dims_after_places rules (suc n) g now =
    dims_after_all (state_after_places rules n g now)
    (visit_deeds rules (state_after_places rules n g now) (place_of g.dims n) now)
    ∙ dims_after_places rules n g now

-- the state in the middle of a frame: at most one event for each place that was visited, each in
-- range
pub record IsVisited (s : State) (n : ℕ) : Type 0 where
  pub state : IsState s
  pub few : length s.events ≤ n
  pub events : All IsInRange s.events

pub visited : (n : ℕ) (g : Sheet) (now : Now) → IsLawful rule → IsSheet g → n ≤ places g
    → IsVisited (state_after_places rule n g now) n
visited zero g now lawful sheet reached =
    record { state = IsState-fresh g sheet; few = omega arith; events = All-nil IsInRange }
visited (suc n) g now lawful sheet reached =
    let s = state_after_places rule n g now in
    let at = place_of g.dims n in
    let deeds = visit_deeds rule s at now in
    let before : IsVisited s n = visited n g now lawful sheet (omega arith) in
    let same : s.dims ≡ g.dims = dims_after_places rule n g now in
    let as_many : cells_of s.dims ≡ cells_of g.dims = ap cells_of same in
    let inside : IsInside s.dims at =
    subst (λ (d : Size). IsInside d at) (sym same)
    (inside-place_of g.dims n sheet.size (omega arith)) in
    let one = sends_one s at now lawful in
    record {
      state = IsState-after_all s deeds before.state
          (writes_glyphs s at now lawful before.state inside)
          (omega (arith, before.few, one, as_many, reached));
      few = omega (arith, events_after_all s deeds, before.few, one);
      events = in_range-after_all s deeds before.events
          (sends_in_range s at now lawful before.state);
    }
