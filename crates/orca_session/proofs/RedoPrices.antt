-- The way of a redo: the checkpoints on it, and what it takes.
use Rattle.std.proofs.Common.{◌≡◌, ℕ, ◌+◌, ◌-◌, ◌*◌, ◌/◌, ◌%◌, ◌<◌, ◌≤◌, true, length, max, Some, refl, arith, ap, sym, ◌∙◌, subst, inl, inr, add-zero}
use Rattle.std.specs.Prelude.{◌==◌, fold, if◌then◌else◌, slice_get, sum_by}
use Rattle.std.specs.List.{range_with_len}
use Rattle.std.proofs.lemmas.Bool.{cases_eq, eq-eqb, ne_eqb}
use Rattle.std.proofs.lemmas.List.Sums.{fold_push, sum_by_push}
use Rattle.std.proofs.lemmas.Nat.{div-add-mod', mod-mul-add}
use Rattle.orca_base.specs.declared.command.Entry.{Entry}
use Rattle.orca_base.specs.declared.limits.TheConstants.{MAX_CHECKPOINTS}
use Rattle.orca_base.specs.Grids.{Sheet, cells_of}
use Rattle.orca_base.specs.Histories.{group_of}
use Rattle.orca_base.proofs.ListFacts.{range-more}
use Rattle.orca_checkpoints.specs.Laws.{AreOf, points_after}
use Rattle.orca_checkpoints.specs.Points.{ArePoints, Point, Points, is_point_due, next_moment, points_dropped}
use Rattle.orca_checkpoints.proofs.PointLemmas.{due-next, next-after, spacing-after}
use Rattle.orca_edit.specs.Prices.{kept_cells, price, redo_price, kept_redone, spaced, total}
use Rattle.orca_edit.proofs.PriceLemmas.{price-same}
use Rattle.orca_patch.specs.Patches.{Before}
use Rattle.orca_session.specs.Past.{IsPast, PastState, brought_back, moment_of, numbers_of, past_redone, piece_with, plain_machine, point_at}
use Rattle.orca_session.proofs.BillLemmas.{total-after}
use Rattle.orca_session.proofs.RedoLemmas.{entry-with, length-redone, moment-with, points-back, some-entry}

-- ---- multiples

-- a multiple of a multiple
whole-through : (m s t : ℕ) → 0 < t → m % s ≡ 0 → s % t ≡ 0 → m % t ≡ 0
whole-through m s t some first second =
    let outer : m / s * s + m % s ≡ m = div-add-mod' m s in
    let parts : s / t * t + s % t ≡ s = div-add-mod' s t in
    let inner : s ≡ s / t * t = omega (arith, parts, second) in
    let is : m ≡ m / s * (s / t) * t + 0 =
    omega (arith, outer, first, ap (λ (k : ℕ). m / s * k) inner) in
    ap (λ (k : ℕ). k % t) is ∙ mod-mul-add (m / s * (s / t)) t 0 some

twice-whole : (s t : ℕ) → 0 < t → s % t ≡ 0 → 2 * s % t ≡ 0
twice-whole s t some whole =
    let parts : s / t * t + s % t ≡ s = div-add-mod' s t in
    let is : 2 * s ≡ 2 * (s / t) * t + 0 = omega (arith, parts, whole) in
    ap (λ (k : ℕ). k % t) is ∙ mod-mul-add (2 * (s / t)) t 0 some

spaced-whole : (s t n : ℕ) → 0 < t → s % t ≡ 0 → spaced s n % t ≡ 0
spaced-whole s t n some whole = elim (cases_eq n (MAX_CHECKPOINTS * s)) [
  | inl same ↦ rw (eq-eqb n (MAX_CHECKPOINTS * s) same) (twice-whole s t some whole)
  | inr other ↦ rw (ne_eqb n (MAX_CHECKPOINTS * s) other) whole
]

self-whole : (s : ℕ) → 0 < s → s % s ≡ 0
self-whole s some =
    let is : s ≡ 1 * s + 0 = omega arith in ap (λ (k : ℕ). k % s) is ∙ mod-mul-add 1 s 0 some

-- what is due by the wider spacing is due by the first one
due-through : (m s t cells : ℕ) → 0 < t → s % t ≡ 0
    → (if m % s == 0 then cells else 0) ≤ (if m % t == 0 then cells else 0)
due-through m s t cells some whole = elim (cases_eq (m % s) 0) [
  | inl due ↦
      rw (eq-eqb (m % s) 0 due, eq-eqb (m % t) 0 (whole-through m s t some due whole)) (omega arith)
  | inr not ↦ rw (ne_eqb (m % s) 0 not) (omega arith)
]

-- ---- the checkpoints on the way

-- the checkpoints after so many entries of the group
pub record AreBack (p : PastState) (j : ℕ) (c : Points) : Type 0 where
  pub are : AreOf (point_at (brought_back p)) (length p.trail.entries - 1 + j)
      (brought_back p).peak c
  pub spacing : c.spacing
      ≡ fold spaced p.points.spacing (range_with_len (length p.trail.entries) j)
  pub whole : c.spacing % p.points.spacing ≡ 0

some-spacing : (p : PastState) → IsPast p → 0 < p.points.spacing
some-spacing p past = omega (arith, past.points.apart)

pub back-start : (p : PastState) (c : Points) → IsPast p → 0 < length p.trail.tail
    → c ≡ points_dropped p.points (length p.trail.entries - 1) → AreBack p 0 c
back-start p c past some is =
    rw is
    (record {
      are = subst (λ (n : ℕ). AreOf (point_at (brought_back p)) n (brought_back p).peak
          (points_dropped p.points (length p.trail.entries - 1)))
          (sym (add-zero (length p.trail.entries - 1))) (points-back p past some);
      spacing = refl;
      whole = self-whole p.points.spacing (some-spacing p past);
    })

-- the checkpoint of the next moment is kept if it is due
pub back-due : (p : PastState) (j m : ℕ) (c : Points) → AreBack p j c
    → 0 < length p.trail.entries → m ≡ length p.trail.entries + j → is_point_due c m ≡ true
    → m ≡ next_moment c
back-due p j m c back some is =
    let next : m ≡ length p.trail.entries - 1 + j + 1 = omega (arith, is, some) in
    subst (λ (n : ℕ). is_point_due c n ≡ true → n ≡ next_moment c) (sym next)
    (due-next (point_at (brought_back p)) (length p.trail.entries - 1 + j) (brought_back p).peak c
    back.are)

pub back-next : (p : PastState) (j m : ℕ) (c new : Points) (point : Point) → IsPast p
    → AreBack p j c → ArePoints c → 0 < length p.trail.entries → j ≤ group_of p.trail.tail
    → m ≡ length p.trail.entries + j → point ≡ point_at (brought_back p) m
    → new ≡ points_after c m point → AreBack p (j + 1) new
back-next p j m c new point past back all some within is same kept =
    let at : ℕ → Point = point_at (brought_back p) in
    let n : ℕ = length p.trail.entries - 1 + j in
    let most : ℕ = (brought_back p).peak in
    let next : m ≡ n + 1 = omega (arith, is, some) in
    let more : n + 1 ≡ length p.trail.entries - 1 + (j + 1) = omega arith in
    let made : new ≡ points_after c (n + 1) (at (n + 1)) =
    kept
    ∙ (ap (points_after c m) same ∙ ap (λ (k : ℕ). points_after c k (at k)) next) in
    let wide : new.spacing ≡ spaced c.spacing m =
    ap (λ (x : Points). x.spacing) made
    ∙ (spacing-after at n most c (at (n + 1)) back.are all
    ∙ ap (spaced c.spacing) (sym next)) in
    record {
      are = subst (λ (x : Points). AreOf at (length p.trail.entries - 1 + (j + 1)) most x)
          (sym made)
          (subst (λ (k : ℕ). AreOf at k most (points_after c (n + 1) (at (n + 1)))) more
          (next-after at at n most most c back.are (λ k below. refl) (omega arith)
          (omega (arith, within, some))));
      spacing = wide
          ∙ (ap (λ (s : ℕ). spaced s m) back.spacing
          ∙ (ap (spaced (fold spaced p.points.spacing
          (range_with_len (length p.trail.entries) j))) is
          ∙ (sym (fold_push spaced p.points.spacing
          (range_with_len (length p.trail.entries) j) (length p.trail.entries + j))
          ∙ ap (fold spaced p.points.spacing)
          (sym (range-more (length p.trail.entries) j)))));
      whole = ap (λ (s : ℕ). s % p.points.spacing) wide
          ∙ spaced-whole c.spacing p.points.spacing m (some-spacing p past) back.whole;
    }

-- ---- what it takes

-- the sum of the kept cells with a moment more
cells-more : (p : PastState) (j : ℕ)
    → sum_by (kept_cells p.points.spacing (plain_machine (brought_back p)))
    (range_with_len (length p.trail.entries) (j + 1))
    ≡ sum_by (kept_cells p.points.spacing (plain_machine (brought_back p)))
    (range_with_len (length p.trail.entries) j)
    + kept_cells p.points.spacing (plain_machine (brought_back p)) (length p.trail.entries + j)
cells-more p j =
    let cells : ℕ → ℕ = kept_cells p.points.spacing (plain_machine (brought_back p)) in
    ap (sum_by cells) (range-more (length p.trail.entries) j)
    ∙ sum_by_push cells (range_with_len (length p.trail.entries) j) (length p.trail.entries + j)

-- a checkpoint on the way
pub back-cells : (p : PastState) (j m : ℕ) (c : Points) (g : Sheet) (from to : ℕ) → IsPast p
    → AreBack p j c → m ≡ length p.trail.entries + j
    → g ≡ (moment_of (brought_back p) m).sheet
    → to ≤ from + (if is_point_due c m then cells_of g.dims else 0)
    → to ≤ from + kept_cells p.points.spacing (plain_machine (brought_back p))
    (length p.trail.entries + j)
back-cells p j m c g from to past back is same most =
    let less = due-through m c.spacing p.points.spacing (cells_of g.dims) (some-spacing p past)
    back.whole in
    let cells : (if m % p.points.spacing == 0 then cells_of g.dims else 0)
    ≡ kept_cells p.points.spacing (plain_machine (brought_back p)) (length p.trail.entries + j) =
    ap (λ (x : Sheet). if m % p.points.spacing == 0 then cells_of x.dims else 0) same
    ∙ ap (kept_cells p.points.spacing (plain_machine (brought_back p))) is in
    subst (λ (n : ℕ). to ≤ from + n) cells (omega (arith, most, less))

-- an entry on the way
pub back-pays : (p : PastState) (j : ℕ) (entry : Entry) (base before mid : ℕ) → IsPast p
    → 0 < length p.trail.tail → j < group_of p.trail.tail
    → slice_get p.trail.tail j ≡ Some entry
    → before ≤ base + total price (plain_machine (brought_back p)) (length p.trail.entries - 1)
    (length p.trail.entries - 1 + j)
    + sum_by (kept_cells p.points.spacing (plain_machine (brought_back p)))
    (range_with_len (length p.trail.entries) j)
    → mid ≤ before + price (piece_with p j) entry
    + kept_cells p.points.spacing (plain_machine (brought_back p)) (length p.trail.entries + j)
    → mid ≤ base + total price (plain_machine (brought_back p)) (length p.trail.entries - 1)
    (length p.trail.entries - 1 + (j + 1))
    + sum_by (kept_cells p.points.spacing (plain_machine (brought_back p)))
    (range_with_len (length p.trail.entries) (j + 1))
back-pays p j entry base before mid past some below is paid now =
    let n : ℕ = length p.trail.entries - 1 in
    let more : n + j + 1 ≡ n + (j + 1) = omega arith in
    let its : total price (plain_machine (brought_back p)) n (n + (j + 1))
    ≡ total price (plain_machine (brought_back p)) n (n + j) + price (piece_with p j) entry =
    ap (total price (plain_machine (brought_back p)) n) (sym more)
    ∙ (total-after price (plain_machine (brought_back p)) n (n + j) entry (omega arith)
    (entry-with p j below ∙ is)
    ∙ ap (λ (k : ℕ). total price (plain_machine (brought_back p)) n (n + j) + k)
    (price-same (moment_of (brought_back p) (n + j)) (piece_with p j) entry
    (moment-with p j past some (omega (arith, below))))) in
    omega (arith, paid, now, its, cells-more p j)

-- the whole
pub back-all : (p : PastState) (patch : Before) (points : Points) (base before to : ℕ) → IsPast p
    → 0 < length p.trail.tail
    → before ≤ base + total price (plain_machine (brought_back p)) (length p.trail.entries - 1)
    (length p.trail.entries - 1 + group_of p.trail.tail)
    + sum_by (kept_cells p.points.spacing (plain_machine (brought_back p)))
    (range_with_len (length p.trail.entries) (group_of p.trail.tail))
    → to ≤ before + kept_cells p.points.spacing (plain_machine (brought_back p))
    (length p.trail.entries + group_of p.trail.tail)
    → to ≤ base + redo_price (plain_machine (past_redone p patch points)) (numbers_of p)
    (group_of p.trail.tail)
back-all p patch points base before to past some paid last =
    let n : ℕ = length p.trail.entries in
    let group : ℕ = group_of p.trail.tail in
    let cells : ℕ → ℕ = kept_cells p.points.spacing (plain_machine (brought_back p)) in
    let long : length (past_redone p patch points).trail.entries ≡ n + group =
    length-redone p patch points past some in
    let first : n ≡ length (past_redone p patch points).trail.entries - group =
    omega (arith, long) in
    let from : n - 1 ≡ length (past_redone p patch points).trail.entries - group - 1 =
    omega (arith, long) in
    let end : n - 1 + group ≡ length (past_redone p patch points).trail.entries - 1 =
    omega (arith, long, some-entry p past some) in
    omega (
      arith,
      paid,
      last,
      cells-more p group,
      ap (λ (k : ℕ). sum_by cells (range_with_len k (group + 1))) first,
      ap (λ (k : ℕ). total price (plain_machine (brought_back p)) k (n - 1 + group)) from,
      ap (total price (plain_machine (brought_back p))
          (length (past_redone p patch points).trail.entries - group - 1)) end,
    )

-- the numbers that are kept
pub back-numbers : (p : PastState) (patch : Before) (points : Points) → IsPast p
    → 0 < length p.trail.tail → AreBack p (group_of p.trail.tail + 1) points
    → numbers_of (past_redone p patch points)
    ≡ kept_redone (plain_machine (past_redone p patch points)) (numbers_of p) (group_of p.trail.tail)
back-numbers p patch points past some back =
    let n : ℕ = length p.trail.entries in
    let group : ℕ = group_of p.trail.tail in
    let long : length (past_redone p patch points).trail.entries ≡ n + group =
    length-redone p patch points past some in
    let first : n ≡ length (past_redone p patch points).trail.entries - group =
    omega (arith, long) in
    let wide : points.spacing
    ≡ fold spaced p.points.spacing
    (range_with_len (length (past_redone p patch points).trail.entries - group) (group + 1)) =
    back.spacing
    ∙ ap (λ (k : ℕ). fold spaced p.points.spacing (range_with_len k (group + 1))) first in
    ap (λ (s : ℕ). record {
      first = n + group - 1;
      spacing = s;
      peak = max p.peak (n + group);
    }) wide
    ∙ ap (λ (k : ℕ). record {
      first = k - 1;
      spacing = fold spaced p.points.spacing
          (range_with_len (length (past_redone p patch points).trail.entries - group)
          (group + 1));
      peak = max p.peak k;
    }) (sym long)
