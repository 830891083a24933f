-- What holds of every slate holds throughout a frame, and every event of a frame is in range.
use Rattle.std.proofs.Common.{◌≡◌, ℕ, zero, suc, ◌≤◌, length, arith, ap, sym, subst}
use Rattle.std.specs.Prelude.{All}
use Rattle.std.proofs.lemmas.List.Elements.{All-nil}
use Rattle.orca_base.specs.declared.now.Now.{Now}
use Rattle.orca_base.specs.EventRanges.{IsInRange}
use Rattle.orca_base.specs.Grids.{Size, Sheet, IsSheet, IsInside, cells_of, place_of}
use Rattle.orca_base.proofs.PlaceFacts.{inside-place_of}
use Rattle.orca_op.specs.Slate.{Slate, IsSlate, slate_after_all}
use Rattle.orca_op.specs.Laws.{IsLawful}
use Rattle.orca_op.proofs.LawFacts.{in_range-after_all}
use Rattle.orca_op.specs.Rules.{rule}
use Rattle.orca_op.specs.Scan.{visit_deeds, state_after_places, places}
use Rattle.orca_op.proofs.SlateFacts.{IsSlate-after_all, IsSlate-of_sheet}
use Rattle.orca_op.proofs.StateFacts.{events_after_all}
use Rattle.orca_op.proofs.VisitFacts.{sends_in_range, sends_one, writes_glyphs, dims_after_places}
use Rattle.orca_frame.specs.Frames.{slate_after_places}
use Rattle.orca_frame.proofs.SlateLemmas.{slate_suc}

-- a slate in the middle of a frame: at most one event for each place that was visited, each in range
pub record IsPlayed (d : Slate) (n : ℕ) : Type 0 where
  pub slate : IsSlate d
  pub few : length d.scan.events ≤ n
  pub events : All IsInRange d.scan.events

pub played : (n : ℕ) (g : Sheet) (now : Now) → IsLawful rule → IsSheet g → n ≤ places g
    → IsPlayed (slate_after_places n g now) n
played zero g now lawful sheet reached =
    record { slate = IsSlate-of_sheet g sheet; few = omega arith; events = All-nil IsInRange }
played (suc n) g now lawful sheet reached =
    let d = slate_after_places n g now in
    let s = state_after_places rule n g now in
    let at = place_of g.dims n in
    let deeds = visit_deeds rule s at now in
    let before : IsPlayed d n = played n g now lawful sheet (omega arith) in
    let same : s.dims ≡ g.dims = dims_after_places rule n g now in
    let as_many : cells_of s.dims ≡ cells_of g.dims = ap cells_of same in
    let inside : IsInside s.dims at = subst (λ (d : Size). IsInside d at) (sym same)
    (inside-place_of g.dims n sheet.size (omega arith)) in
    let one = sends_one s at now lawful in
    let slate : IsSlate (slate_after_all d deeds) =
    IsSlate-after_all d deeds before.slate (writes_glyphs s at now lawful before.slate.state inside)
    (omega (arith, before.few, one, as_many, reached)) in
    record {
      slate = subst IsSlate (slate_suc n g now) slate;
      few = omega (arith, events_after_all s deeds, before.few, one);
      events = in_range-after_all s deeds before.events
          (sends_in_range s at now lawful before.slate.state);
    }
