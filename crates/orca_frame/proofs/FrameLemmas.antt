-- A frame: before, during and after the visits.
use Rattle.std.proofs.Common.{◌≡◌, ℕ, ◌+◌, ◌*◌, ◌<◌, ◌≤◌, arith, ap, sym, ◌∙◌, subst, add-one, length, refl}
use Rattle.std.specs.Prelude.{Contains, ◌↔◌, if◌then◌else◌, List}
use Rattle.orca_base.specs.declared.limits.TheConstants.{MAX_DEEDS, MAX_STEPS}
use Rattle.orca_base.specs.declared.now.Now.{Now}
use Rattle.orca_base.specs.declared.place.Place.{Place}
use Rattle.orca_base.specs.Glyphs.{is_operator}
use Rattle.orca_base.specs.Grids.{Size, Sheet, IsSheet, IsInside, cells_of, place_of}
use Rattle.orca_op.specs.Slate.{HasEventRoom, Slate, IsSlate, slate_after_all, residue}
use Rattle.orca_op.specs.Laws.{IsLawful}
use Rattle.orca_op.specs.State.{sheet_of, state_glyph}
use Rattle.orca_op.specs.Rules.{rule}
use Rattle.orca_op.specs.Scan.{visit_deeds, state_after_places, scan, written_places, busy, busy_of, places}
use Rattle.orca_op.proofs.VisitFacts.{dims_after_places}
use Rattle.orca_frame.specs.Frames.{IsFramed, slate_after_places, looks, most_plain_steps}
use Rattle.orca_frame.specs.Written.{IsWritten}
use Rattle.orca_frame.proofs.SlateLemmas.{slate_suc}
use Rattle.orca_frame.proofs.RangeLemmas.{IsPlayed, played}
use Rattle.orca_frame.proofs.ResidueLemmas.{residue_slate}
use Rattle.orca_frame.proofs.WrittenLemmas.{written_places-exactly, scan-deeds}

-- the size stays
pub dims_slate : (d : Slate) (n : ℕ) (g : Sheet) (now : Now) → d ≡ slate_after_places n g now
    → d.scan.dims ≡ g.dims
dims_slate d n g now is = ap (λ (e : Slate). e.scan.dims) is ∙ dims_after_places rule n g now

-- a place of the grid lies in it throughout
pub inside_slate : (d : Slate) (n : ℕ) (g : Sheet) (now : Now) (at : Place)
    → d ≡ slate_after_places n g now → IsInside g.dims at → IsInside d.scan.dims at
inside_slate d n g now at is inside =
    subst (λ (e : Size). IsInside e at) (sym (dims_slate d n g now is)) inside

-- there is room for one event more while a place is left
pub room_slate : (d : Slate) (n : ℕ) (g : Sheet) (now : Now) → d ≡ slate_after_places n g now
    → IsLawful rule → IsSheet g → n < places g → HasEventRoom d
room_slate d n g now is lawful sheet below =
    let few : length d.scan.events ≤ n =
    subst (λ (e : Slate). length e.scan.events ≤ n) (sym is)
    (played n g now lawful sheet (omega arith)).few in
    let as_many : cells_of d.scan.dims ≡ cells_of g.dims = ap cells_of (dims_slate d n g now is) in
    omega (arith, few, as_many, below)

-- one visit more
pub visit_slate : (d e : Slate) (n : ℕ) (g : Sheet) (now : Now) (at : Place)
    → d ≡ slate_after_places n g now → at ≡ place_of g.dims n
    → e ≡ slate_after_all d (visit_deeds rule d.scan at now) → e ≡ slate_after_places (n + 1) g now
visit_slate d e n g now at is here visited =
    rw add-one (visited
    ∙ (ap (λ (x : Slate). slate_after_all x (visit_deeds rule x.scan at now)) is
    ∙ (ap (λ (p : Place). slate_after_all (slate_after_places n g now)
    (visit_deeds rule (state_after_places rule n g now) p now)) here
    ∙ slate_suc n g now)))

-- whether the place that is visited holds an operator
pub busy_more : (d : Slate) (n : ℕ) (g : Sheet) (now : Now) (at : Place)
    → d ≡ slate_after_places n g now → at ≡ place_of g.dims n
    → busy_of (n + 1) g now ≡ busy_of n g now + (if is_operator (state_glyph d.scan at) then 1 else 0)
busy_more d n g now at is here =
    let operator : state_glyph d.scan at ≡ state_glyph (state_after_places rule n g now)
    (place_of g.dims n) =
    ap (λ (e : Slate). state_glyph e.scan at) is
    ∙ ap (λ (p : Place). state_glyph (state_after_places rule n g now) p) here in
    rw (add-one, operator) refl

-- every place was visited
framed_sheet : (d : Slate) (g : Sheet) (now : Now) → d ≡ slate_after_places (places g) g now
    → IsLawful rule → IsSheet g
    → (d.scan ≡ scan g now) × (d.listed ≡ written_places g now)
    × (residue d ≤ MAX_DEEDS * busy g now)
unfolding scan written_places busy
framed_sheet d g now is lawful sheet = (
  ap (λ (e : Slate). e.scan) is,
  ap (λ (e : Slate). e.listed) is,
  subst (λ (e : Slate). residue e ≤ MAX_DEEDS * busy_of (places g) g now) (sym is)
      (residue_slate (places g) g now lawful),
)

pub framed : (d e : Slate) (n : ℕ) (now : Now) → IsSlate d → IsLawful rule → n ≡ cells_of d.scan.dims
    → e ≡ slate_after_places n (sheet_of d.scan) now → IsFramed d e now
framed d e n now slate lawful all is =
    let g : Sheet = sheet_of d.scan in
    let whole : e ≡ slate_after_places (places g) g now =
    is ∙ ap (λ (m : ℕ). slate_after_places m g now) all in
    let leaves = framed_sheet e g now whole lawful slate.state.sheet in
    let last : IsPlayed e (places g) =
    subst (λ (x : Slate). IsPlayed x (places g)) (sym whole)
    (played (places g) g now lawful slate.state.sheet (omega arith)) in
    record {
      scan = leaves.0;
      deeds = leaves.0 ∙ scan-deeds g now;
      began = ap (λ (x : Slate). x.began) whole;
      size = dims_slate e (places g) g now whole;
      listed = leaves.1;
      written = λ at.
          subst (λ (listed : List Place). Contains listed at ↔ IsWritten g now at) (sym leaves.1)
          (written_places-exactly g now at);
      slate = last.slate;
      events = last.events;
      residue = leaves.2;
    }

-- ---- the steps of a frame that visits every place

-- one visit more
pub steps_more : (d : Slate) (n : ℕ) (g : Sheet) (now : Now) (at : Place) (first before after : ℕ)
    → d ≡ slate_after_places n g now → at ≡ place_of g.dims n
    → before ≤ first + looks * n + MAX_STEPS * busy_of n g now
    → after ≤ before + looks + MAX_STEPS * (if is_operator (state_glyph d.scan at) then 1 else 0)
    → after ≤ first + looks * (n + 1) + MAX_STEPS * busy_of (n + 1) g now
steps_more d n g now at first before after is here so_far visited =
    rw (busy_more d n g now at is here) (omega (arith, so_far, visited))

-- every visit
pub steps_all : (d : Slate) (n : ℕ) (now : Now) (first last : ℕ)
    → n ≡ cells_of d.scan.dims
    → last ≤ first + 1 + residue d + looks * n + MAX_STEPS * busy_of n (sheet_of d.scan) now
    → last ≤ first + most_plain_steps d now
unfolding busy
steps_all d n now first last all so_far =
    let last_of = rw all at so_far in
    omega (arith, last_of)
