-- Checkpoints, and the moments that they are of.
use Rattle.std.proofs.Common.{◌≡◌, ℕ, zero, suc, ◌+◌, ◌*◌, ◌/◌, ◌%◌, ◌<◌, ◌≤◌, ◌⊎◌, true, List, [], ◌∷◌, ◌++◌, length, take, Some, refl, arith, ap, sym, ◌∙◌, inl, inr, subst, length-append, add-zero, get_or, Option}
use Rattle.std.specs.Prelude.{◌==◌, slice_get, if◌then◌else◌, unwrap_or, All}
use Rattle.std.proofs.Math.Nat.{mul-le-mul_right, mul-lt-mul_of_pos_right}
use Rattle.std.proofs.lemmas.Bool.{cases_lt, eq-eqb, eqb-true, le-leb, lt-leb, ne_eqb}
use Rattle.std.proofs.lemmas.List.{ext_get_or, get_or-take, get_or_append_left, length-take-le}
use Rattle.std.proofs.lemmas.List.Elements.{All-push}
use Rattle.std.proofs.lemmas.Option.{unwrap_or-slice_get}
use Rattle.std.proofs.lemmas.Nat.{div-add-mod', div-mul-add, le-div, mod-mul-add, mod_below}
use Rattle.orca_base.specs.declared.limits.TheConstants.{MAX_CHECKPOINTS}
use Rattle.orca_base.specs.Grids.{IsSheet}
use Rattle.orca_checkpoints.specs.Laws.{AreOf, points_after}
use Rattle.orca_checkpoints.specs.Points.{ArePoints, Point, Points, best_of, every_second, is_point_due, next_moment, points_dropped, points_kept}

-- ---- multiples

-- the next number is a multiple, or it isn't
pub record IsNext (n s : ℕ) : Type 0 where
  pub whole : (n + 1) % s ≡ 0
  pub count : (n + 1) / s ≡ n / s + 1
  pub is : n + 1 ≡ (n / s + 1) * s

pub record IsBetween (n s : ℕ) : Type 0 where
  pub part : 0 < (n + 1) % s
  pub count : (n + 1) / s ≡ n / s

pub next-multiple : (n s : ℕ) → 0 < s → IsNext n s ⊎ IsBetween n s
next-multiple n s some =
    let parts : n / s * s + n % s ≡ n = div-add-mod' n s in
    let below : n % s < s = mod_below n s some in
    elim (cases_lt (n % s + 1) s) [
      | inl part ↦
          let is : n + 1 ≡ n / s * s + (n % s + 1) = omega arith in
          inr (record {
            part = rw is (rw (mod-mul-add (n / s) s (n % s + 1) part) (omega arith));
            count = ap (λ (k : ℕ). k / s) is ∙ div-mul-add (n / s) s (n % s + 1) part;
          })
      | inr whole ↦
          let is : n + 1 ≡ (n / s + 1) * s + 0 = omega arith in
          inl (record {
            whole = ap (λ (k : ℕ). k % s) is ∙ mod-mul-add (n / s + 1) s 0 some;
            count = ap (λ (k : ℕ). k / s) is ∙ div-mul-add (n / s + 1) s 0 some;
            is = omega arith;
          })
    ]

less-moment : (len moment s : ℕ) → 0 < s → moment ≤ len → moment / s ≤ len / s
less-moment len moment s some within =
    le-div (moment / s) len s some (omega (arith, div-add-mod' moment s, within))

-- half of a multiple
half-div : (n s : ℕ) → 0 < s → n * s / (2 * s) ≡ n / 2
half-div n s some =
    let parts : n / 2 * 2 + n % 2 ≡ n = div-add-mod' n 2 in
    let below : n % 2 * s < 2 * s = mul-lt-mul_of_pos_right (mod_below n 2 (omega arith)) some in
    let is : n * s ≡ n / 2 * (2 * s) + n % 2 * s =
    ap (λ (k : ℕ). k * s) (sym parts) ∙ omega arith in
    ap (λ (k : ℕ). k / (2 * s)) is ∙ div-mul-add (n / 2) (2 * s) (n % 2 * s) below

-- ---- every second one

pub length-second : (ps : List Point) → length (every_second ps) ≡ (length ps + 1) / 2
length-second [] = refl
length-second (p ∷ []) = refl
length-second (p ∷ q ∷ ps) = omega (arith, length-second ps)

pub get-second : (ps : List Point) (k : ℕ) → slice_get (every_second ps) k ≡ slice_get ps (2 * k)
get-second [] k = refl
get-second (p ∷ []) zero = refl
get-second (p ∷ []) (suc k) =
    let next : 2 * suc k ≡ suc (2 * k + 1) = omega arith in rw next refl
get-second (p ∷ q ∷ ps) zero = refl
get-second (p ∷ q ∷ ps) (suc k) =
    let next : 2 * suc k ≡ suc (suc (2 * k)) = omega arith in rw next (get-second ps k)

-- ---- one more

-- there is room for it
pub kept-room : (c : Points) (p : Point) → length c.kept < MAX_CHECKPOINTS
    → points_kept c p ≡ record { spacing = c.spacing; kept = c.kept ++ p ∷ [] }
kept-room c p room =
    rw (le-leb (length (c.kept ++ p ∷ [])) MAX_CHECKPOINTS
    (omega (arith, room, length-append c.kept (p ∷ [])))) refl

-- or there is none
pub kept-full : (c : Points) (p : Point) → MAX_CHECKPOINTS ≤ length c.kept
    → points_kept c p ≡ record { spacing = 2 * c.spacing; kept = every_second (c.kept ++ p ∷ []) }
kept-full c p full =
    rw (lt-leb (length (c.kept ++ p ∷ [])) MAX_CHECKPOINTS
    (omega (arith, full, length-append c.kept (p ∷ [])))) refl

-- ---- elements

get-left : (ps qs : List Point) (k : ℕ) → k < length ps → slice_get (ps ++ qs) k ≡ slice_get ps k
get-left [] qs k below = absurd (omega arith)
get-left (p ∷ ps) qs zero below = refl
get-left (p ∷ ps) qs (suc k) below = get-left ps qs k (omega (arith, below))

get-last : (ps : List Point) (p : Point) (k : ℕ) → k ≡ length ps
    → slice_get (ps ++ p ∷ []) k ≡ Some p
get-last [] p k is = rw is refl
get-last (q ∷ ps) p zero is = absurd (omega (arith, is))
get-last (q ∷ ps) p (suc k) is = get-last ps p k (omega (arith, is))

get-take : (n : ℕ) (ps : List Point) (k : ℕ) → k < n → slice_get (take n ps) k ≡ slice_get ps k
get-take zero ps k below = absurd (omega arith)
get-take (suc n) [] k below = refl
get-take (suc n) (p ∷ ps) zero below = refl
get-take (suc n) (p ∷ ps) (suc k) below = get-take n ps k (omega (arith, below))

-- each of a list is what the function gives to the moment of its number
abbrev Each : (ℕ → Point) → ℕ → List Point → Type 0
Each at s ps = (k : ℕ) → k < length ps → slice_get ps k ≡ Some (at (k * s))

each-push : (at new : ℕ → Point) (s : ℕ) (ps : List Point) (p : Point) → Each at s ps
    → ((k : ℕ) → k < length ps → new (k * s) ≡ at (k * s)) → p ≡ new (length ps * s)
    → Each new s (ps ++ p ∷ [])
each-push at new s ps p each same is k below = elim (cases_lt k (length ps)) [
  | inl earlier ↦
      get-left ps (p ∷ []) k earlier ∙ (each k earlier ∙ ap (λ (x : Point). Some x)
      (sym (same k earlier)))
  | inr later ↦
      let last : k ≡ length ps = omega (arith, later, below, length-append ps (p ∷ [])) in
      get-last ps p k last
      ∙ ap (λ (x : Point). Some x) (is ∙ ap (λ (n : ℕ). new (n * s)) (sym last))
]

each-second : (at : ℕ → Point) (s : ℕ) (ps : List Point) → Each at s ps
    → Each at (2 * s) (every_second ps)
each-second at s ps each k below =
    let twice : 2 * k * s ≡ k * (2 * s) = omega arith in
    get-second ps k
    ∙ (each (2 * k) (omega (arith, below, length-second ps))
    ∙ ap (λ (n : ℕ). Some (at n)) twice)

-- ---- the laws

-- the moments of those that are kept are at most the length
kept-within : (at : ℕ → Point) (len peak : ℕ) (c : Points) → AreOf at len peak c
    → (k : ℕ) → k < length c.kept → k * c.spacing ≤ len
kept-within at len peak c are k below =
    let row : k * c.spacing ≤ len / c.spacing * c.spacing =
    mul-le-mul_right c.spacing (omega (arith, below, are.reach)) in
    omega (arith, row, div-add-mod' len c.spacing)

some-spacing : (at : ℕ → Point) (len peak : ℕ) (c : Points) → AreOf at len peak c → 0 < c.spacing
some-spacing at len peak c are = omega (arith, are.apart)

-- a checkpoint that is due is that of the next moment
pub due-next : (at : ℕ → Point) (len peak : ℕ) (c : Points) → AreOf at len peak c
    → is_point_due c (len + 1) ≡ true → len + 1 ≡ next_moment c
due-next at len peak c are due =
    elim (next-multiple len c.spacing (some-spacing at len peak c are)) [
      | inl next ↦ next.is ∙ ap (λ (n : ℕ). n * c.spacing) (sym are.reach)
      | inr between ↦ absurd (omega (arith, between.part, eqb-true _ _ due))
    ]

-- nothing is due between two of them
after-between : (c : Points) (len : ℕ) (p : Point) → IsBetween len c.spacing
    → points_after c (len + 1) p ≡ c
after-between c len p between =
    rw (ne_eqb ((len + 1) % c.spacing) 0 (λ none. omega (arith, none, between.part))) refl

after-due : (c : Points) (len : ℕ) (p : Point) → IsNext len c.spacing
    → points_after c (len + 1) p ≡ points_kept c p
after-due c len p next = rw (eq-eqb ((len + 1) % c.spacing) 0 next.whole) refl

-- one more is kept
kept-next : (at new : ℕ → Point) (len peak most : ℕ) (c : Points) → AreOf at len peak c
    → ((k : ℕ) → k ≤ len → new k ≡ at k) → peak ≤ most → len + 1 ≤ most → IsNext len c.spacing
    → AreOf new (len + 1) most (points_kept c (new (len + 1)))
kept-next at new len peak most c are same higher below next =
    let p : Point = new (len + 1) in
    let s : ℕ = c.spacing in
    let all : List Point = c.kept ++ p ∷ [] in
    let long : length all ≡ length c.kept + 1 = length-append c.kept (p ∷ []) in
    let moment : len + 1 ≡ length c.kept * s = next.is ∙ ap (λ (n : ℕ). n * s) (sym are.reach) in
    let each : Each new s all =
    each-push at new s c.kept p are.each
    (λ k earlier. same (k * s) (kept-within at len peak c are k earlier)) (ap new moment) in
    elim (cases_lt (length c.kept) MAX_CHECKPOINTS) [
      | inl room ↦
          rw (kept-room c p room)
          (record {
            each = each;
            reach = omega (arith, long, are.reach, next.count);
            apart = are.apart;
            near = elim are.near [
              | inl first ↦ inl first
              | inr near ↦ inr (omega (arith, near, higher))
            ];
          })
      | inr full ↦
          let many : MAX_CHECKPOINTS * s ≤ length c.kept * s = mul-le-mul_right s full in
          rw (kept-full c p full)
          (record {
            each = each-second new s all each;
            reach = length-second all
                ∙ (omega (arith, long)
                ∙ ap (λ (n : ℕ). n + 1) (sym (half-div (length c.kept) s
                (some-spacing at len peak c are))
                ∙ ap (λ (n : ℕ). n / (2 * s)) (sym moment)));
            apart = omega (arith, are.apart);
            near = inr (omega (arith, many, below, moment));
          })
    ]

pub next-after : (at new : ℕ → Point) (len peak most : ℕ) (c : Points) → AreOf at len peak c
    → ((k : ℕ) → k ≤ len → new k ≡ at k) → peak ≤ most → len + 1 ≤ most
    → AreOf new (len + 1) most (points_after c (len + 1) (new (len + 1)))
next-after at new len peak most c are same higher below =
    elim (next-multiple len c.spacing (some-spacing at len peak c are)) [
      | inl next ↦
          rw (after-due c len (new (len + 1)) next)
          (kept-next at new len peak most c are same higher below next)
      | inr between ↦
          rw (after-between c len (new (len + 1)) between)
          (record {
            each = λ k within. are.each k within
                ∙ ap (λ (x : Point). Some x)
                (sym (same (k * c.spacing) (kept-within at len peak c are k within)));
            reach = omega (arith, are.reach, between.count);
            apart = are.apart;
            near = elim are.near [
              | inl first ↦ inl first
              | inr near ↦ inr (omega (arith, near, higher))
            ];
          })
    ]

-- those up to a moment
pub dropped-of : (at new : ℕ → Point) (len moment peak : ℕ) (c : Points) → AreOf at len peak c
    → moment ≤ len → ((k : ℕ) → k ≤ moment → new k ≡ at k)
    → AreOf new moment peak (points_dropped c moment)
dropped-of at new len moment peak c are within same =
    let s : ℕ = c.spacing in
    let count : ℕ = moment / s + 1 in
    let some : 0 < s = some-spacing at len peak c are in
    let less : moment / s ≤ len / s = less-moment len moment s some within in
    let long : length (take count c.kept) ≡ count =
    length-take-le count c.kept (omega (arith, less, are.reach)) in
    let parts : moment / s * s + moment % s ≡ moment = div-add-mod' moment s in
    record {
      each = λ k below.
          let row : k * s ≤ moment / s * s = mul-le-mul_right s (omega (arith, below, long)) in
          get-take count c.kept k (omega (arith, below, long))
          ∙ (are.each k (omega (arith, below, long, less, are.reach))
          ∙ ap (λ (x : Point). Some x) (sym (same (k * s) (omega (arith, row, parts)))));
      reach = long;
      apart = are.apart;
      near = are.near;
    }

-- the last one at a moment or before it
pub best-is : (at : ℕ → Point) (len moment peak : ℕ) (c : Points) → AreOf at len peak c
    → moment ≤ len → best_of c moment ≡ moment / c.spacing
best-is at len moment peak c are within =
    let less : moment / c.spacing ≤ len / c.spacing =
    less-moment len moment c.spacing (some-spacing at len peak c are) within in
    omega (arith, less, are.reach)

pub best-point : (at : ℕ → Point) (len moment peak : ℕ) (c : Points) → AreOf at len peak c
    → moment ≤ len
    → slice_get c.kept (best_of c moment) ≡ Some (at (moment / c.spacing * c.spacing))
best-point at len moment peak c are within =
    let less : moment / c.spacing ≤ len / c.spacing =
    less-moment len moment c.spacing (some-spacing at len peak c are) within in
    ap (slice_get c.kept) (best-is at len moment peak c are within)
    ∙ are.each (moment / c.spacing) (omega (arith, less, are.reach))

-- the spacing afterwards
pub spacing-after : (at : ℕ → Point) (len peak : ℕ) (c : Points) (p : Point)
    → AreOf at len peak c → ArePoints c
    → (points_after c (len + 1) p).spacing
    ≡ (if len + 1 == MAX_CHECKPOINTS * c.spacing then 2 * c.spacing else c.spacing)
spacing-after at len peak c p are points =
    let s : ℕ = c.spacing in
    let some : 0 < s = some-spacing at len peak c are in
    elim (next-multiple len s some) [
      | inl next ↦
          let moment : len + 1 ≡ length c.kept * s =
          next.is ∙ ap (λ (n : ℕ). n * s) (sym are.reach) in
          elim (cases_lt (length c.kept) MAX_CHECKPOINTS) [
            | inl room ↦
                let few : length c.kept * s < MAX_CHECKPOINTS * s =
                mul-lt-mul_of_pos_right room some in
                rw (
                  after-due c len p next,
                  kept-room c p room,
                  ne_eqb (len + 1) (MAX_CHECKPOINTS * s) (λ same. omega (arith, same, few, moment)),
                ) refl
            | inr full ↦
                let all : length c.kept ≡ MAX_CHECKPOINTS = omega (arith, full, points.few) in
                rw (
                  after-due c len p next,
                  kept-full c p full,
                  eq-eqb (len + 1) (MAX_CHECKPOINTS * s) (moment ∙ ap (λ (n : ℕ). n * s) all),
                ) refl
          ]
      | inr between ↦
          rw (
            after-between c len p between,
            ne_eqb (len + 1) (MAX_CHECKPOINTS * s)
                (λ same. let none : (len + 1) % s ≡ 0 =
                ap (λ (n : ℕ). n % s) (same ∙ sym (add-zero (MAX_CHECKPOINTS * s)))
                ∙ mod-mul-add MAX_CHECKPOINTS s 0 some in
                omega (arith, none, between.part)),
          ) refl
    ]

-- ---- what is kept, whole

getor-second : (ps : List Point) (k : ℕ) (d : Point)
    → get_or (every_second ps) k d ≡ get_or ps (2 * k) d
getor-second ps k d =
    sym (unwrap_or-slice_get (every_second ps) k d)
    ∙ (ap (λ (o : Option Point). unwrap_or o d) (get-second ps k)
    ∙ unwrap_or-slice_get ps (2 * k) d)

abbrev IsWhole : Point → Type 0
IsWhole p = IsSheet p.sheet

whole-second : (ps : List Point) → All IsWhole ps → All IsWhole (every_second ps)
whole-second ps whole k d below =
    subst IsWhole (sym (getor-second ps k d))
    (whole (2 * k) d (omega (arith, below, length-second ps)))

pub kept-points : (c : Points) (p : Point) → ArePoints c → IsSheet p.sheet
    → ArePoints (points_kept c p)
kept-points c p points whole =
    let all : List Point = c.kept ++ p ∷ [] in
    let long : length all ≡ length c.kept + 1 = length-append c.kept (p ∷ []) in
    let wholes : All IsWhole all = All-push IsWhole c.kept p points.whole whole in
    elim (cases_lt (length c.kept) MAX_CHECKPOINTS) [
      | inl room ↦
          rw (kept-room c p room)
          (record {
            some = omega (arith, long);
            few = omega (arith, long, room);
            apart = points.apart;
            whole = wholes;
          })
      | inr full ↦
          rw (kept-full c p full)
          (record {
            some = omega (arith, long, length-second all, points.some);
            few = omega (arith, long, length-second all, points.few);
            apart = omega (arith, points.apart);
            whole = whole-second all wholes;
          })
    ]

-- the slots once every second one has moved to the front
pub slots-second : (before after : List Point) (p : Point) → length before ≡ MAX_CHECKPOINTS
    → length after ≡ MAX_CHECKPOINTS
    → ((k : ℕ) (d : Point) → 2 * k < MAX_CHECKPOINTS
    → get_or after k d ≡ get_or before (2 * k) d)
    → take (MAX_CHECKPOINTS / 2 + 1) after ≡ every_second (before ++ p ∷ [])
slots-second before after p long also moved =
    let all : length (before ++ p ∷ []) ≡ MAX_CHECKPOINTS + 1 =
    omega (arith, length-append before (p ∷ []), long) in
    let first : length (take (MAX_CHECKPOINTS / 2 + 1) after) ≡ MAX_CHECKPOINTS / 2 + 1 =
    length-take-le (MAX_CHECKPOINTS / 2 + 1) after (omega (arith, also)) in
    ext_get_or p (take (MAX_CHECKPOINTS / 2 + 1) after) (every_second (before ++ p ∷ []))
    (omega (arith, first, all, length-second (before ++ p ∷ [])))
    (λ k below.
    get_or-take (MAX_CHECKPOINTS / 2 + 1) after k p (omega (arith, below, first))
    ∙ (moved k p (omega (arith, below, first))
    ∙ sym (getor-second (before ++ p ∷ []) k p
    ∙ get_or_append_left before (p ∷ []) p (2 * k) (omega (arith, below, first, long)))))
