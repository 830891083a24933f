-- What a Retract keeps of a past.
use Rattle.std.proofs.Common.{◌≡◌, ℕ, ◌+◌, ◌-◌, ◌<◌, ◌≤◌, false, zero, suc, List, [], ◌∷◌, ◌++◌, length, take, drop, Some, None, refl, arith, ap, sym, ◌∙◌, inl, inr, subst}
use Rattle.std.specs.Prelude.{slice_get}
use Rattle.std.specs.List.{remove}
use Rattle.std.proofs.lemmas.Bool.{cases_lt}
use Rattle.std.proofs.lemmas.List.{length-append, length-take-le, take-append-le, take-take, take_all}
use Rattle.std.proofs.lemmas.List.Edits.{length-remove}
use Rattle.orca_base.specs.declared.command.Entry.{Entry}
use Rattle.orca_base.specs.declared.command.Entry.TheVariants.{Hush}
use Rattle.orca_base.specs.Histories.{is_size_used}
use Rattle.orca_checkpoints.specs.Laws.{AreOf}
use Rattle.orca_checkpoints.specs.Points.{Points, points_dropped}
use Rattle.orca_checkpoints.proofs.PointLemmas.{dropped-of}
use Rattle.orca_edit.specs.Editing.{AllFit, FitsIn}
use Rattle.orca_edit.specs.Pieces.{Piece, opened_piece, piece_after, silence}
use Rattle.orca_edit.specs.Pricing.{AgreeUpTo, touched_from}
use Rattle.orca_edit.proofs.FirstLemmas.{touched_from-hush}
use Rattle.orca_edit.proofs.FitLemmas.{AllFit-push, AllFit-without, fits-moment}
use Rattle.orca_edit.proofs.FoldLemmas.{piece_after-hush}
use Rattle.orca_history.specs.Trails.{IsTrail, RetractedLaw, Trail, patch_at, touched_of, trail_retracted}
use Rattle.orca_history.proofs.Room.{ends-in-hush, length-retracted}
use Rattle.orca_patch.specs.Patches.{Before}
use Rattle.orca_session.specs.Past.{IsPast, PastState, Undoes, left_by, moment_of, past_retracted, plain_machine, point_at, present, touched_at}
use Rattle.orca_session.proofs.PastLemmas.{undoes-more, undoes-same}
use Rattle.orca_session.proofs.RedoLemmas.{get-first, get-past}

-- the other entries
abbrev others : PastState → ℕ → List Entry
others p moment = remove p.trail.entries moment

length-others : (p : PastState) (moment : ℕ) → moment < length p.trail.entries
    → length (others p moment) + 1 ≡ length p.trail.entries
length-others p moment below = length-remove p.trail.entries moment below

pub length-left : (p : PastState) (moment : ℕ) (patch : Before) (points : Points)
    → moment < length p.trail.entries
    → length (past_retracted p moment patch points).trail.entries ≡ length p.trail.entries
length-left p moment patch points below = length-retracted p.trail.entries moment below

-- ---- the moments before it

first-left : (p : PastState) (moment n : ℕ) → n ≤ moment → moment < length p.trail.entries
    → take n (others p moment ++ Hush ∷ []) ≡ take n p.trail.entries
first-left p moment n within below =
    let first : List Entry = take moment p.trail.entries in
    let long : length first ≡ moment =
    length-take-le moment p.trail.entries (omega (arith, below)) in
    take-append-le n (others p moment) (Hush ∷ [])
    (omega (arith, within, below, length-others p moment below))
    ∙ (take-append-le n first (drop (suc moment) p.trail.entries) (omega (arith, within, long))
    ∙ take-take n moment p.trail.entries within)

moment-left : (p : PastState) (moment n : ℕ) → n ≤ moment → moment < length p.trail.entries
    → moment_of (left_by p moment) n ≡ moment_of p n
moment-left p moment n within below =
    ap (λ (h : List Entry). piece_after p.opened p.seed h 0) (first-left p moment n within below)

pub sheet-left : (p : PastState) (moment : ℕ) → moment < length p.trail.entries
    → (moment_of p moment).sheet ≡ (moment_of (left_by p moment) moment).sheet
sheet-left p moment below =
    ap (λ (x : Piece). x.sheet) (sym (moment-left p moment moment (omega arith) below))

pub tick-left : (p : PastState) (moment : ℕ) → moment < length p.trail.entries
    → (moment_of p moment).tick ≡ (moment_of (left_by p moment) moment).tick
tick-left p moment below =
    ap (λ (x : Piece). x.tick) (sym (moment-left p moment moment (omega arith) below))

pub agree-left : (p : PastState) (moment : ℕ) → moment < length p.trail.entries
    → AgreeUpTo moment (plain_machine p) (plain_machine (left_by p moment))
agree-left p moment below = record {
  opened = refl;
  seed = refl;
  entries = sym (first-left p moment moment (omega arith) below);
}

-- the checkpoints up to it
pub points-left : (p : PastState) (moment : ℕ) → IsPast p → moment < length p.trail.entries
    → AreOf (point_at (left_by p moment)) moment p.peak (points_dropped p.points moment)
points-left p moment past below =
    dropped-of (point_at p) (point_at (left_by p moment)) (length p.trail.entries) moment p.peak
    p.points past.points (omega (arith, below))
    (λ k within. ap (λ (x : Piece). record { sheet = x.sheet; tick = x.tick })
    (moment-left p moment k within below))

-- ---- the entries after it

get-later : (k : ℕ) (es : List Entry) (i j : ℕ) → j ≡ k + i → slice_get (drop k es) i ≡ slice_get es j
get-later zero es i j is =
    let same : i ≡ j = omega arith in ap (slice_get es) same
get-later (suc k) [] i j is = refl
get-later (suc k) (e ∷ es) i zero is = absurd (omega arith)
get-later (suc k) (e ∷ es) i (suc j) is = get-later k es i j (omega arith)

-- each moves down by one
pub entry-left : (p : PastState) (moment at : ℕ) (entry : Entry) → moment ≤ at
    → at + 1 < length p.trail.entries → slice_get p.trail.entries (at + 1) ≡ Some entry
    → slice_get (left_by p moment).trail.entries at ≡ Some entry
entry-left p moment at entry above below is =
    let first : List Entry = take moment p.trail.entries in
    let rest : List Entry = drop (suc moment) p.trail.entries in
    let long : length first ≡ moment =
    length-take-le moment p.trail.entries (omega (arith, above, below)) in
    let where_it_is : at ≡ length first + (at - moment) = omega (arith, above, long) in
    get-first (others p moment) (Hush ∷ []) at
    (omega (arith, above, below, length-others p moment (omega (arith, above, below))))
    ∙ (ap (slice_get (first ++ rest)) where_it_is
    ∙ (get-past first rest (at - moment)
    ∙ (get-later (suc moment) p.trail.entries (at - moment) (at + 1) (omega (arith, above))
    ∙ is)))

-- all fit
pub fits-left : (p : PastState) (moment : ℕ) → IsPast p → moment < length p.trail.entries
    → is_size_used (drop moment p.trail.entries) ≡ false
    → AllFit (opened_piece p.opened p.seed) (left_by p moment).trail.entries
fits-left p moment past below free =
    AllFit-push p.opened p.seed (others p moment) Hush 0
    (AllFit-without (opened_piece p.opened p.seed) p.trail.entries moment below past.fits free) tt

pub fits-entry-left : (p : PastState) (moment at : ℕ) (entry : Entry) → IsPast p
    → moment < length p.trail.entries → is_size_used (drop moment p.trail.entries) ≡ false
    → slice_get (left_by p moment).trail.entries at ≡ Some entry
    → FitsIn (moment_of (left_by p moment) at).sheet.dims entry
fits-entry-left p moment at entry past below free is =
    fits-moment p.opened p.seed (left_by p moment).trail.entries at entry 0
    (fits-left p moment past below free) is

-- ---- the Hush after them

all-left : (p : PastState) (moment : ℕ) → moment < length p.trail.entries
    → take (length p.trail.entries - 1) (left_by p moment).trail.entries ≡ others p moment
all-left p moment below =
    let long = length-others p moment below in
    take-append-le (length p.trail.entries - 1) (others p moment) (Hush ∷ []) (omega (arith, long))
    ∙ take_all (length p.trail.entries - 1) (others p moment) (omega (arith, long))

-- the moment before it
abbrev pub before_hush : PastState → ℕ → Piece
before_hush p moment = moment_of (left_by p moment) (length p.trail.entries - 1)

before-is : (p : PastState) (moment : ℕ) → moment < length p.trail.entries
    → before_hush p moment ≡ piece_after p.opened p.seed (others p moment) 0
before-is p moment below =
    ap (λ (h : List Entry). piece_after p.opened p.seed h 0) (all-left p moment below)

pub present-left : (p : PastState) (moment : ℕ) (patch : Before) (points : Points)
    → moment < length p.trail.entries
    → present (past_retracted p moment patch points) ≡ silence (before_hush p moment)
present-left p moment patch points below =
    piece_after-hush p.opened p.seed (others p moment) p.closed 0
    ∙ ap silence (sym (before-is p moment below))

-- it leaves the grid and the tick
last-left : (p : PastState) (moment : ℕ) → moment < length p.trail.entries
    → moment_of (left_by p moment) (length p.trail.entries) ≡ silence (before_hush p moment)
last-left p moment below =
    ap (λ (h : List Entry). piece_after p.opened p.seed h 0)
    (take_all (length p.trail.entries) (others p moment ++ Hush ∷ [])
    (omega (arith, length-retracted p.trail.entries moment below)))
    ∙ (piece_after-hush p.opened p.seed (others p moment) 0 0
    ∙ ap silence (sym (before-is p moment below)))

pub point-left : (p : PastState) (moment : ℕ) → moment < length p.trail.entries
    → point_at (left_by p moment) (length p.trail.entries)
    ≡ record { sheet = (before_hush p moment).sheet; tick = (before_hush p moment).tick }
point-left p moment below =
    ap (λ (x : Piece). record { sheet = x.sheet; tick = x.tick }) (last-left p moment below)

-- its patch is the only one
keeps-left : (p : PastState) (moment : ℕ) (patch : Before) (points : Points)
    → moment < length p.trail.entries → RetractedLaw
    → Undoes patch (before_hush p moment) (before_hush p moment) 0
    → (n : ℕ) (b : Before) → n < length p.trail.entries
    → patch_at (past_retracted p moment patch points).trail n ≡ Some b
    → Undoes b (moment_of (past_retracted p moment patch points) n)
    (moment_of (past_retracted p moment patch points) (n + 1))
    (touched_at (past_retracted p moment patch points) n)
keeps-left p moment patch points below law undoes n b within is =
    let q : PastState = past_retracted p moment patch points in
    let last : ℕ = length p.trail.entries - 1 in
    let newest = law p.trail moment patch (omega (arith, below)) in
    elim (cases_lt n last) [
      | inl earlier ↦
          let none : patch_at q.trail n ≡ None = newest.1 n earlier in absurd (cc)
      | inr later ↦
          let end : n ≡ last = omega (arith, later, within) in
          let next : n + 1 ≡ length p.trail.entries = omega (arith, later, within) in
          let its : patch_at q.trail n ≡ Some patch = ap (patch_at q.trail) end ∙ newest.0 in
          let same : b ≡ patch = cc in
          rw same
          (undoes-more patch (moment_of q n) (moment_of q (n + 1)) 0 (touched_at q n)
          (omega arith)
          (undoes-same patch (before_hush p moment) (before_hush p moment) (moment_of q n)
          (moment_of q (n + 1)) 0 0
          (ap (λ (k : ℕ). silence (moment_of q k)) (sym end))
          (ap silence (sym (ap (moment_of q) next ∙ last-left p moment below))) refl
          undoes))
    ]

-- the Hush touched nothing
touched-left : (p : PastState) (moment : ℕ) (patch : Before) (points : Points)
    → moment < length p.trail.entries
    → touched_of (past_retracted p moment patch points).trail.kept
    ≡ touched_from (plain_machine (past_retracted p moment patch points))
    (past_retracted p moment patch points).trail.first
touched-left p moment patch points below =
    let q : PastState = past_retracted p moment patch points in
    sym (touched_from-hush (plain_machine q) (ends-in-hush (others p moment)))
    ∙ ap (touched_from (plain_machine q))
    (ap (λ (n : ℕ). n - 1) (length-left p moment patch points below))

pub IsPast-retracted : (p : PastState) (moment : ℕ) (patch : Before) (points : Points) → IsPast p
    → moment < length p.trail.entries → is_size_used (drop moment p.trail.entries) ≡ false
    → RetractedLaw → Undoes patch (before_hush p moment) (before_hush p moment) 0
    → AreOf (point_at (left_by p moment)) (length p.trail.entries) p.peak points
    → IsTrail (past_retracted p moment patch points).trail
    → IsPast (past_retracted p moment patch points)
IsPast-retracted p moment patch points past below free law undoes are trail =
    let q : PastState = past_retracted p moment patch points in
    let long = length-left p moment patch points below in
    record {
      fits = fits-left p moment past below free;
      tail = tt;
      patches = record {
        each = λ n b within is. keeps-left p moment patch points below law undoes n b
            (omega (arith, long, within)) is;
      };
      touched = touched-left p moment patch points below;
      trail = trail;
      points = subst (λ (n : ℕ). AreOf (point_at q) n p.peak points) (sym long) are;
      closed = omega (arith, past.closed, long);
      most = omega (arith, past.most, long);
    }

-- the parts after a Retract
pub retracted-parts : (p : PastState) (moment : ℕ) (patch : Before) (points : Points) (t : Trail)
    → t ≡ trail_retracted p.trail moment patch
    → record p { trail = t; points = points } ≡ past_retracted p moment patch points
retracted-parts p moment patch points t is =
    ap (λ (x : Trail). record p { trail = x; points = points }) is
