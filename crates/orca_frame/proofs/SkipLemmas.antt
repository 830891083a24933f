-- Over idle places the scan changes nothing, and over those that hold no operator none is counted.
use Rattle.std.proofs.Common.{◌≡◌, ℕ, zero, suc, ◌+◌, ◌*◌, ◌<◌, ◌≤◌, Bool, true, false, ◌&&◌, ◌||◌, arith, ap, sym, ◌∙◌, subst, refl, List, [], add-zero}
use Rattle.std.specs.Prelude.{if◌then◌else◌, IfSome, IsTrue, None, Option, Some, ◌-◌, nat_lt, not, unwrap_or}
use Rattle.std.proofs.lemmas.List.{append-nil}
use Rattle.std.proofs.lemmas.Bool.{lt-ltb, ltb-true}
use Rattle.orca_base.specs.declared.limits.TheConstants.{MAX_VISIT_STEPS}
use Rattle.orca_base.specs.declared.now.Now.{Now}
use Rattle.orca_base.specs.declared.place.Place.{Place}
use Rattle.orca_base.specs.Glyphs.{is_operator, needs_bang}
use Rattle.orca_base.specs.Grids.{Size, Sheet, IsInside, cells_of, place_of}
use Rattle.orca_base.proofs.PlaceFacts.{place_of-index_of, index_of-below}
use Rattle.orca_op.specs.Deeds.{Deed, after_all}
use Rattle.orca_op.specs.Slate.{Slate, slate_after_all, list_after_all, residue}
use Rattle.orca_op.specs.Live.{is_live, HasNoLive}
use Rattle.orca_op.specs.Rules.{rule}
use Rattle.orca_op.specs.Scan.{Rules, visit_deeds, is_idle, state_after_visit, state_after_places, scan_deeds, busy, busy_of}
use Rattle.orca_op.specs.State.{State, has_bang, marks_at, sheet_of, state_glyph}
use Rattle.orca_frame.specs.Frames.{slate_after_places, most_steps}
use Rattle.orca_frame.specs.Skips.{AreIdle}
use Rattle.orca_frame.proofs.FrameLemmas.{dims_slate, inside_slate, visit_slate, busy_more}

-- an idle place has no deeds
no_deeds : (rules : Rules) (s : State) (at : Place) (now : Now) → is_idle s at ≡ true
    → visit_deeds rules s at now ≡ []
unfolding visit_deeds
no_deeds rules s at now idle = rw idle refl

after_none : (s : State) (deeds : List Deed) → deeds ≡ [] → after_all s deeds ≡ s
after_none s deeds none = ap (after_all s) none

-- the state stays over idle places
pub state-skip : (rules : Rules) (n many : ℕ) (g : Sheet) (now : Now) → AreIdle rules n many g now
    → state_after_places rules (n + many) g now ≡ state_after_places rules n g now
state-skip rules n zero g now idle = rw add-zero refl
state-skip rules n (suc many) g now idle =
    let s = state_after_places rules n g now in
    let at = place_of g.dims (n + many) in
    let before : state_after_places rules (n + many) g now ≡ s = state-skip rules n many g now
    (λ i below. idle i (omega arith)) in
    let next : n + suc many ≡ suc (n + many) = omega arith in
    rw next (
    ap (λ (t : State). state_after_visit rules t at now) before
    ∙ after_none s (visit_deeds rules s at now) (no_deeds rules s at now (idle many (omega arith))))

-- so do the deeds of the frame
pub deeds-skip : (n many : ℕ) (g : Sheet) (now : Now) → AreIdle rule n many g now
    → scan_deeds (n + many) g now ≡ scan_deeds n g now
deeds-skip n zero g now idle = rw add-zero refl
deeds-skip n (suc many) g now idle =
    let s = state_after_places rule n g now in
    let at = place_of g.dims (n + many) in
    let less : AreIdle rule n many g now = λ i below. idle i (omega arith) in
    let before : scan_deeds (n + many) g now ≡ scan_deeds n g now = deeds-skip n many g now less in
    let here : visit_deeds rule (state_after_places rule (n + many) g now) at now ≡ [] =
    ap (λ (t : State). visit_deeds rule t at now) (state-skip rule n many g now less)
    ∙ no_deeds rule s at now (idle many (omega arith)) in
    let next : n + suc many ≡ suc (n + many) = omega arith in
    rw (next, before, here) (append-nil (scan_deeds n g now))

-- ---- places that hold no operator

-- after n places were visited, none of the next `many` holds an operator
abbrev pub HoldsNone : Rules → ℕ → ℕ → Sheet → Now → Type 0
HoldsNone rules n many g now =
    (i : ℕ) → i < many
    → is_operator (state_glyph (state_after_places rules n g now) (place_of g.dims (n + i))) ≡ false

-- they are idle
pub idle-none : (rules : Rules) (n many : ℕ) (g : Sheet) (now : Now) → HoldsNone rules n many g now
    → AreIdle rules n many g now
unfolding is_idle
idle-none rules n many g now none i below = rw (none i below) refl

-- the count of busy places stays over them
pub busy-skip : (n many : ℕ) (g : Sheet) (now : Now) → HoldsNone rule n many g now
    → busy_of (n + many) g now ≡ busy_of n g now
busy-skip n zero g now none = rw add-zero refl
busy-skip n (suc many) g now none =
    let at = place_of g.dims (n + many) in
    let less : HoldsNone rule n many g now = λ i below. none i (omega arith) in
    let before : busy_of (n + many) g now ≡ busy_of n g now = busy-skip n many g now less in
    let here : is_operator (state_glyph (state_after_places rule (n + many) g now) at) ≡ false =
    ap (λ (t : State). is_operator (state_glyph t at))
    (state-skip rule n many g now (idle-none rule n many g now less))
    ∙ none many (omega arith) in
    let next : n + suc many ≡ suc (n + many) = omega arith in
    rw (next, here) (omega (arith, before))

slate-skip : (n many : ℕ) (g : Sheet) (now : Now) → AreIdle rule n many g now
    → slate_after_places (n + many) g now ≡ slate_after_places n g now
slate-skip n many g now idle =
    ap (λ (s : State). record {
      scan = s;
      began = g;
      listed = list_after_all g.dims g.dims []
          (scan_deeds (n + many) g now);
    }) (state-skip rule n many g now idle)
    ∙ ap (λ (deeds : List Deed). record {
      scan = state_after_places rule n g now;
      began = g;
      listed = list_after_all g.dims g.dims [] deeds;
    }) (deeds-skip n many g now idle)

-- ---- a row

-- the place of a column of a row
pub row_place : (d : Size) (row x : ℕ) → row < d.h → x < d.w
    → ◌≡◌ {A = Place} (record { y = row; x = x }) (place_of d (row * d.w + x))
row_place d row x high wide = sym (place_of-index_of d (record { y = row; x = x })
    (record { row = high; column = wide }))

not_live : (inside operator : Bool) → inside ≡ true → (inside && operator) ≡ false
    → operator ≡ false
not_live true operator is none = none
not_live false operator is none = cc

none_in_row : (d : Slate) (g : Sheet) (now : Now) (row from to : ℕ)
    → d ≡ slate_after_places (row * g.dims.w + from) g now → row < g.dims.h → to ≤ g.dims.w
    → HasNoLive d.scan row from to → HoldsNone rule (row * g.dims.w + from) (to - from) g now
none_in_row d g now row from to is high wide none i below =
    let x : ℕ = from + i in
    let inside : x < g.dims.w = omega arith in
    let here = row_place g.dims row x high inside in
    let number : row * g.dims.w + from + i ≡ row * g.dims.w + x = omega arith in
    let same : d.scan.dims ≡ g.dims = dims_slate d (row * g.dims.w + from) g now is in
    let column : nat_lt x d.scan.dims.w ≡ true = ap (λ (e : Size). nat_lt x e.w) same
    ∙ lt-ltb x g.dims.w inside in
    let dead : is_operator (state_glyph d.scan (record { y = row; x = x })) ≡ false =
    not_live _ _ column (none x (omega arith) (omega arith)) in
    ap (λ (m : ℕ). is_operator (state_glyph (state_after_places rule (row * g.dims.w + from) g now)
    (place_of g.dims m))) number
    ∙ (ap (λ (p : Place). is_operator
    (state_glyph (state_after_places rule (row * g.dims.w + from) g now) p)) (sym here)
    ∙ (ap (λ (e : Slate). is_operator (state_glyph e.scan (record { y = row; x = x }))) (sym is)
    ∙ dead))

-- the columns up to the next live one are passed over
pub pass_over : (d : Slate) (g : Sheet) (now : Now) (row from to : ℕ)
    → d ≡ slate_after_places (row * g.dims.w + from) g now → row < g.dims.h → from ≤ to
    → to ≤ g.dims.w → HasNoLive d.scan row from to
    → (d ≡ slate_after_places (row * g.dims.w + to) g now)
    × (busy_of (row * g.dims.w + to) g now ≡ busy_of (row * g.dims.w + from) g now)
pass_over d g now row from to is high grows wide none =
    let passed = none_in_row d g now row from to is high wide none in
    let number : row * g.dims.w + from + (to - from) ≡ row * g.dims.w + to = omega arith in (
      is ∙ (sym (slate-skip (row * g.dims.w + from) (to - from) g now
          (idle-none rule (row * g.dims.w + from) (to - from) g now passed))
          ∙ ap (λ (m : ℕ). slate_after_places m g now) number),
      ap (λ (m : ℕ). busy_of m g now) (sym number) ∙ busy-skip (row * g.dims.w + from) (to - from) g
          now passed,
    )

live_inside : (inside operator : Bool) → (inside && operator) ≡ true → inside ≡ true
live_inside true operator live = refl
live_inside false operator live = cc

live_operator : (inside operator : Bool) → (inside && operator) ≡ true → operator ≡ true
live_operator true operator live = live
live_operator false operator live = cc

-- a live column lies in the row, and holds an operator
pub live_column : (d : Slate) (g : Sheet) (n : ℕ) (now : Now) (row x : ℕ)
    → d ≡ slate_after_places n g now → IsTrue (is_live d.scan row x) → x < g.dims.w
live_column d g n now row x is live =
    let inside : nat_lt x d.scan.dims.w ≡ true = live_inside _ _ live in
    let same : d.scan.dims ≡ g.dims = dims_slate d n g now is in
    subst (λ (e : Size). x < e.w) same (ltb-true x d.scan.dims.w inside)

pub live_glyph : (s : State) (row x : ℕ) → IsTrue (is_live s row x)
    → IsTrue (is_operator (state_glyph s (record { y = row; x = x })))
live_glyph s row x live = live_operator _ _ live

-- ---- one operator of a row more

-- what is known where the walk of a row found its next operator
pub record Finds (d : Slate) (g : Sheet) (now : Now) (row from x : ℕ) : Type 0 where
  pub after : from ≤ x
  pub column : x < g.dims.w
  pub inside : IsInside d.scan.dims (record { y = row; x = x })
  pub operator : IsTrue (is_operator (state_glyph d.scan (record { y = row; x = x })))
  pub below : row * g.dims.w + x < cells_of g.dims
  pub reached : d ≡ slate_after_places (row * g.dims.w + x) g now
  pub busy : busy_of (row * g.dims.w + x) g now ≡ busy_of (row * g.dims.w + from) g now

pub finds : (d : Slate) (g : Sheet) (now : Now) (row from x : ℕ)
    → d ≡ slate_after_places (row * g.dims.w + from) g now → row < g.dims.h
    → from ≤ x → IsTrue (is_live d.scan row x) → HasNoLive d.scan row from x
    → Finds d g now row from x
finds d g now row from x is high after live none =
    let column : x < g.dims.w = live_column d g (row * g.dims.w + from) now row x is live in
    let at : Place = record { y = row; x = x } in
    let here : IsInside g.dims at = record { row = high; column = column } in
    let passed = pass_over d g now row from x is high after (omega arith) none in
    record {
      after = after;
      column = column;
      inside = inside_slate d (row * g.dims.w + from) g now at is here;
      operator = live_glyph d.scan row x live;
      below = index_of-below g.dims at here;
      reached = passed.0;
      busy = passed.1;
    }

-- and where it was visited
pub record Visited (e : Slate) (g : Sheet) (now : Now) (row from x : ℕ) : Type 0 where
  pub reached : e ≡ slate_after_places (row * g.dims.w + (x + 1)) g now
  pub busy : busy_of (row * g.dims.w + (x + 1)) g now ≡ busy_of (row * g.dims.w + from) g now + 1

pub visited : (d e : Slate) (g : Sheet) (now : Now) (row from x : ℕ) → Finds d g now row from x
    → row < g.dims.h
    → e ≡ slate_after_all d (visit_deeds rule d.scan (record { y = row; x = x }) now)
    → Visited e g now row from x
visited d e g now row from x finds high done =
    let n : ℕ = row * g.dims.w + x in
    let at : Place = record { y = row; x = x } in
    let here : at ≡ place_of g.dims n = row_place g.dims row x high finds.column in
    let next : row * g.dims.w + (x + 1) ≡ n + 1 = omega arith in
    let one : (if is_operator (state_glyph d.scan at) then 1 else 0) ≡ 1 = rw finds.operator refl in
    record {
      reached = visit_slate d e n g now at finds.reached here done
          ∙ ap (λ (m : ℕ). slate_after_places m g now) (sym next);
      busy = rw next (busy_more d n g now at finds.reached here
          ∙ (ap (λ m. busy_of n g now + m) one ∙ ap (λ m. m + 1) finds.busy));
    }

still_idle : (none lock sleep waits : Bool) → (lock || sleep) ≡ true
    → (none || lock || sleep || waits) ≡ true
still_idle true lock sleep waits still = refl
still_idle false true sleep waits still = refl
still_idle false false sleep waits still = rw still refl

-- an operator that is locked or asleep is visited where it is passed over
pub still_visited : (d : Slate) (g : Sheet) (now : Now) (row from x : ℕ) → Finds d g now row from x
    → row < g.dims.h
    → (let marks = marks_at d.scan (record { y = row; x = x }) in (marks.lock || marks.sleep) ≡ true)
    → Visited d g now row from x
unfolding is_idle
still_visited d g now row from x finds high still =
    let at : Place = record { y = row; x = x } in
    let glyph = state_glyph d.scan at in
    let idle = still_idle (not (is_operator glyph)) (marks_at d.scan at).lock (marks_at d.scan at).sleep
    (needs_bang glyph && not (has_bang d.scan at)) still in
    let none : visit_deeds rule d.scan at now ≡ [] = no_deeds rule d.scan at now idle in
    visited d d g now row from x finds high (rw none refl)

-- the columns up to the next operator, or to the end of the row, are passed over
pub next_reached : (d : Slate) (g : Sheet) (now : Now) (row from : ℕ) (found : Option ℕ)
    → d ≡ slate_after_places (row * g.dims.w + from) g now → row < g.dims.h → from ≤ g.dims.w
    → IfSome found (λ x. (from ≤ x) × IsTrue (is_live d.scan row x))
    → HasNoLive d.scan row from (unwrap_or found d.scan.dims.w)
    → (d ≡ slate_after_places (row * g.dims.w + unwrap_or found g.dims.w) g now)
    × (busy_of (row * g.dims.w + unwrap_or found g.dims.w) g now
    ≡ busy_of (row * g.dims.w + from) g now)
next_reached d g now row from (Some x) is high inside live none =
    let found = finds d g now row from x is high live.0 live.1 none in (found.reached, found.busy)
next_reached d g now row from None is high inside live none =
    let width : d.scan.dims.w ≡ g.dims.w =
    ap (λ (e : Size). e.w) (dims_slate d (row * g.dims.w + from) g now is) in
    let all : HasNoLive d.scan row from g.dims.w = λ x low below. none x low
    (omega (arith, below, width)) in
    pass_over d g now row from g.dims.w is high inside (omega arith) all

-- the operator that the walk of a row has found
pub held : (d : Slate) (g : Sheet) (now : Now) (row : ℕ) (found : Option ℕ) (x : ℕ) → found ≡ Some x
    → d ≡ slate_after_places (row * g.dims.w + unwrap_or found g.dims.w) g now → row < g.dims.h
    → IfSome found (λ x. IsTrue (is_live d.scan row x)) → Finds d g now row x x
held d g now row found x is reached high live =
    finds d g now row x x (rw is at reached) high (omega arith) (rw is at live)
    (λ k low below. absurd (omega (arith, low, below)))

-- it is live, and lies at the column or after it
pub live_of : (s : State) (row from : ℕ) (found : Option ℕ)
    → IfSome found (λ x. (from ≤ x) × IsTrue (is_live s row x))
    → IfSome found (λ x. IsTrue (is_live s row x))
live_of s row from None live = tt
live_of s row from (Some x) live = live.1

pub later_of : (s : State) (row from w : ℕ) (found : Option ℕ) → from ≤ w
    → IfSome found (λ x. (from ≤ x) × IsTrue (is_live s row x)) → from ≤ unwrap_or found w
later_of s row from w None few live = few
later_of s row from w (Some x) few live = live.0

-- the steps of all rows
pub steps_of_rows : (d : Slate) (rows : ℕ) (now : Now) (first last : ℕ) → rows ≡ d.scan.dims.h
    → last ≤ first + 1 + residue d + rows + MAX_VISIT_STEPS * busy_of (rows * d.scan.dims.w)
    (sheet_of d.scan) now
    → last ≤ first + most_steps d now
unfolding busy
steps_of_rows d rows now first last all so_far =
    let last_of = rw all at so_far in
    omega (arith, last_of)
