-- The way of a Retract: the checkpoints on it, and what it takes.
use Rattle.std.proofs.Common.{◌≡◌, ℕ, ◌+◌, ◌-◌, ◌*◌, ◌/◌, ◌%◌, ◌<◌, ◌≤◌, true, length, Some, refl, arith, ap, sym, ◌∙◌, subst}
use Rattle.std.specs.Prelude.{◌==◌, if◌then◌else◌, slice_get, sum_by}
use Rattle.std.specs.List.{range_with_len}
use Rattle.std.proofs.Math.Nat.{div-add-mod, mod-lt, mul-div-le, mul-le-mul_right}
use Rattle.std.proofs.lemmas.Bool.{ne_eqb}
use Rattle.std.proofs.lemmas.List.Sums.{sum_by-append, sum_by_push}
use Rattle.orca_base.specs.declared.command.Entry.{Entry}
use Rattle.orca_base.specs.declared.limits.TheConstants.{COMMAND_PRICE, FIRST_SPACING, MAX_CHECKPOINTS}
use Rattle.orca_base.specs.Grids.{Sheet, cells_of}
use Rattle.orca_base.proofs.ListFacts.{range-more}
use Rattle.orca_checkpoints.specs.Laws.{AreOf, points_after}
use Rattle.orca_checkpoints.specs.Points.{ArePoints, Point, Points, is_point_due, next_moment, points_dropped}
use Rattle.orca_checkpoints.proofs.PointLemmas.{due-next, next-after, spacing-after}
use Rattle.orca_edit.specs.Obeying.{MachineState, piece_of}
use Rattle.orca_edit.specs.Prices.{IsSpaced, best_moment, kept_cells, kept_retracted, load_price, moment_piece, price, retract_price, total}
use Rattle.orca_edit.proofs.PriceLemmas.{price-same, range-split, total-agree, total-split}
use Rattle.orca_patch.specs.Patches.{Before}
use Rattle.orca_session.specs.Past.{IsPast, PastState, left_by, moment_of, numbers_of, past_retracted, plain_machine, point_at}
use Rattle.orca_session.proofs.BillLemmas.{total-after}
use Rattle.orca_session.proofs.RetractLemmas.{agree-left, length-left, points-left}

-- ---- the checkpoints on the way

-- the checkpoints of the history without the entry, up to a moment
pub record AreOnWay (p : PastState) (moment at : ℕ) (c : Points) : Type 0 where
  pub are : AreOf (point_at (left_by p moment)) at p.peak c
  pub spacing : c.spacing ≡ p.points.spacing

pub way-start : (p : PastState) (moment : ℕ) (c : Points) → IsPast p
    → moment < length p.trail.entries → c ≡ points_dropped p.points moment
    → AreOnWay p moment moment c
way-start p moment c past below is =
    rw is (record { are = points-left p moment past below; spacing = refl })

-- the checkpoint of the next moment is kept if it is due
pub way-due : (p : PastState) (moment at n : ℕ) (c : Points) → AreOnWay p moment at c
    → n ≡ at + 1 → is_point_due c n ≡ true → n ≡ next_moment c
way-due p moment at n c way is =
    subst (λ (k : ℕ). is_point_due c k ≡ true → k ≡ next_moment c) (sym is)
    (due-next (point_at (left_by p moment)) at p.peak c way.are)

-- a history that is no longer than before needs no wider spacing
few-stay : (s n at : ℕ) → 0 < s → n / s + 1 ≤ MAX_CHECKPOINTS → at ≤ n
    → at ≡ MAX_CHECKPOINTS * s → ⊥
few-stay s n at some few within is =
    let parts : s * (n / s) + n % s ≡ n = div-add-mod n s in
    let rest : n % s < s = mod-lt n some in
    let most : (n / s + 1) * s ≤ MAX_CHECKPOINTS * s = mul-le-mul_right s few in
    omega (arith, parts, rest, most, within, is)

pub way-next : (p : PastState) (moment at n : ℕ) (c new : Points) (point : Point) → IsPast p
    → IsSpaced (plain_machine p) (numbers_of p) → AreOnWay p moment at c → ArePoints c
    → n ≡ at + 1 → n ≤ length p.trail.entries → point ≡ point_at (left_by p moment) n
    → new ≡ points_after c n point → AreOnWay p moment n new
way-next p moment at n c new point past spaced way all is within same kept =
    let of : ℕ → Point = point_at (left_by p moment) in
    let made : new ≡ points_after c (at + 1) (of (at + 1)) =
    kept ∙ (ap (points_after c n) same ∙ ap (λ (k : ℕ). points_after c k (of k)) is) in
    let narrow : (at + 1 ≡ MAX_CHECKPOINTS * c.spacing → ⊥) =
    λ wide. few-stay p.points.spacing (length p.trail.entries) (at + 1)
    (omega (arith, past.points.apart)) spaced.few (omega (arith, is, within))
    (wide ∙ ap (λ (s : ℕ). MAX_CHECKPOINTS * s) way.spacing) in
    subst (λ (k : ℕ). AreOnWay p moment k new) (sym is)
    (record {
      are = subst (λ (x : Points). AreOf of (at + 1) p.peak x) (sym made)
          (next-after of of at p.peak p.peak c way.are (λ k below. refl) (omega arith)
          (omega (arith, is, within, past.most)));
      spacing = ap (λ (x : Points). x.spacing) made
          ∙ (spacing-after of at p.peak c (of (at + 1)) way.are all
          ∙ ((rw (ne_eqb (at + 1) (MAX_CHECKPOINTS * c.spacing) narrow) refl) ∙ way.spacing));
    })

-- ---- what it takes

-- the sum of the kept cells with a moment more
cells-next : (cells : ℕ → ℕ) (moment at : ℕ) → moment ≤ at
    → sum_by cells (range_with_len (moment + 1) (at + 1 - moment))
    ≡ sum_by cells (range_with_len (moment + 1) (at - moment)) + cells (at + 1)
cells-next cells moment at above =
    let many : at + 1 - moment ≡ at - moment + 1 = omega (arith, above) in
    let next : moment + 1 + (at - moment) ≡ at + 1 = omega (arith, above) in
    ap (λ (n : ℕ). sum_by cells (range_with_len (moment + 1) n)) many
    ∙ (ap (sum_by cells) (range-more (moment + 1) (at - moment))
    ∙ (sum_by_push cells (range_with_len (moment + 1) (at - moment)) (moment + 1 + (at - moment))
    ∙ ap (λ (n : ℕ). sum_by cells (range_with_len (moment + 1) (at - moment)) + cells n) next))

-- the same from an earlier moment on
cells-from : (cells : ℕ → ℕ) (best moment n : ℕ) → best ≤ moment → moment ≤ n
    → sum_by cells (range_with_len (best + 1) (n - best))
    ≡ sum_by cells (range_with_len (best + 1) (moment - best))
    + sum_by cells (range_with_len (moment + 1) (n - moment))
cells-from cells best moment n low high =
    let many : n - best ≡ moment - best + (n - moment) = omega (arith, low, high) in
    let next : best + 1 + (moment - best) ≡ moment + 1 = omega (arith, low) in
    ap (λ (k : ℕ). sum_by cells (range_with_len (best + 1) k)) many
    ∙ (ap (sum_by cells) (range-split (best + 1) (moment - best) (n - moment))
    ∙ (sum_by-append cells (range_with_len (best + 1) (moment - best))
    (range_with_len (best + 1 + (moment - best)) (n - moment))
    ∙ ap (λ (k : ℕ). sum_by cells (range_with_len (best + 1) (moment - best))
    + sum_by cells (range_with_len k (n - moment))) next))

-- a checkpoint on the way
pub way-cells : (p : PastState) (moment at n : ℕ) (c : Points) (g : Sheet) (from to : ℕ)
    → AreOnWay p moment at c → g ≡ (moment_of (left_by p moment) n).sheet
    → to ≤ from + (if is_point_due c n then cells_of g.dims else 0)
    → to ≤ from + kept_cells p.points.spacing (plain_machine (left_by p moment)) n
way-cells p moment at n c g from to way same most =
    subst (λ (x : Sheet). to ≤ from + (if n % p.points.spacing == 0 then cells_of x.dims else 0))
    same
    (subst (λ (s : ℕ). to ≤ from + (if n % s == 0 then cells_of g.dims else 0)) way.spacing most)

-- an entry on the way
pub way-pays : (p : PastState) (moment at : ℕ) (entry : Entry) (base before mid : ℕ)
    → moment ≤ at → slice_get (left_by p moment).trail.entries at ≡ Some entry
    → before ≤ base + total price (plain_machine (left_by p moment)) moment at
    + sum_by (kept_cells p.points.spacing (plain_machine (left_by p moment)))
    (range_with_len (moment + 1) (at - moment))
    → mid ≤ before + price (moment_of (left_by p moment) at) entry
    + kept_cells p.points.spacing (plain_machine (left_by p moment)) (at + 1)
    → mid ≤ base + total price (plain_machine (left_by p moment)) moment (at + 1)
    + sum_by (kept_cells p.points.spacing (plain_machine (left_by p moment)))
    (range_with_len (moment + 1) (at + 1 - moment))
way-pays p moment at entry base before mid above is paid now =
    omega (
      arith,
      paid,
      now,
      total-after price (plain_machine (left_by p moment)) moment at entry above is,
      cells-next (kept_cells p.points.spacing (plain_machine (left_by p moment))) moment at above,
    )

-- the whole
abbrev whole : PastState → ℕ → ℕ → ℕ
whole p moment n =
    let best = best_moment p.points.spacing moment in
    COMMAND_PRICE + cells_of (piece_of (plain_machine p)).sheet.dims
    + cells_of (moment_piece (plain_machine p) best).sheet.dims
    + total price (plain_machine (left_by p moment)) best (n - 1)
    + sum_by (kept_cells p.points.spacing (plain_machine (left_by p moment)))
    (range_with_len (best + 1) (n - best))

pub way-all : (p : PastState) (moment last : ℕ) (patch : Before) (points : Points)
    (base loaded before to : ℕ) → moment < length p.trail.entries
    → last + 1 ≡ length p.trail.entries
    → loaded ≤ base + load_price (plain_machine p) (best_moment p.points.spacing moment) moment
    → before ≤ loaded + total price (plain_machine (left_by p moment)) moment last
    + sum_by (kept_cells p.points.spacing (plain_machine (left_by p moment)))
    (range_with_len (moment + 1) (last - moment))
    → to ≤ before + kept_cells p.points.spacing (plain_machine (left_by p moment)) (last + 1)
    → to ≤ base + retract_price (plain_machine p) (numbers_of p) moment
    (plain_machine (past_retracted p moment patch points))
way-all p moment last patch points base loaded before to below end load paid kept =
    let s : ℕ = p.points.spacing in
    let after : MachineState = plain_machine (left_by p moment) in
    let best : ℕ = best_moment s moment in
    let low : best ≤ moment = mul-div-le moment s in
    let high : moment ≤ last = omega (arith, below, end) in
    let same : total price (plain_machine p) best moment ≡ total price after best moment =
    total-agree price price-same moment best moment (plain_machine p) after
    (agree-left p moment below) (omega arith) in
    let all : last + 1 - 1 ≡ last = omega arith in
    let most : to ≤ base + whole p moment (last + 1) =
    omega (
      arith,
      load,
      paid,
      kept,
      same,
      ap (total price after best) all,
      total-split price after best moment last low high,
      cells-next (kept_cells s after) moment last high,
      cells-from (kept_cells s after) best moment (last + 1) low (omega (arith, high)),
    ) in
    subst (λ (n : ℕ). to ≤ base + whole p moment n)
    (end ∙ sym (length-left p moment patch points below)) most

-- the numbers that are kept
pub numbers-left : (p : PastState) (moment : ℕ) (patch : Before) (points : Points)
    → moment < length p.trail.entries → points.spacing ≡ p.points.spacing
    → numbers_of (past_retracted p moment patch points)
    ≡ kept_retracted (plain_machine (past_retracted p moment patch points)) (numbers_of p)
numbers-left p moment patch points below same =
    ap (λ (s : ℕ). record {
      first = length p.trail.entries - 1;
      spacing = s;
      peak = p.peak;
    }) same
    ∙ ap (λ (n : ℕ). record { first = n - 1; spacing = p.points.spacing; peak = p.peak })
    (sym (length-left p moment patch points below))
