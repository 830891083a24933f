-- What a redo keeps of a past, and the pieces on its way.
use Rattle.std.proofs.Common.{◌≡◌, ℕ, ◌+◌, ◌-◌, ◌<◌, ◌≤◌, List, [], ◌∷◌, ◌++◌, length, take, drop, max, Some, None, refl, arith, ap, sym, ◌∙◌, inl, inr, zero, suc, subst, append_assoc, zero-add, drop-cons, length-append}
use Rattle.std.specs.Prelude.{not, slice_get}
use Rattle.std.specs.List.{prefix_len}
use Rattle.std.proofs.lemmas.Bool.{cases_lt}
use Rattle.std.proofs.lemmas.List.{get_or_push, length-take, length-take-le, take-append-drop, take-append-le, take-take, take_all, take_more}
use Rattle.std.proofs.lemmas.Option.{get_or_from_slice_get, slice_get-get_or, slice_get_within}
use Rattle.orca_base.specs.declared.command.Entry.{Entry}
use Rattle.orca_base.specs.declared.command.Entry.TheVariants.{Hush}
use Rattle.orca_base.specs.Histories.{group_of, is_edit}
use Rattle.orca_checkpoints.specs.Laws.{AreOf}
use Rattle.orca_checkpoints.specs.Points.{Points, points_dropped}
use Rattle.orca_checkpoints.proofs.PointLemmas.{dropped-of}
use Rattle.orca_edit.specs.Editing.{AllFit, FitsIn}
use Rattle.orca_edit.specs.Pieces.{Piece, apply, fold_entries, opened_piece, piece_after, silence}
use Rattle.orca_edit.specs.Pricing.{touched_from}
use Rattle.orca_edit.proofs.FirstLemmas.{touched_from-hush}
use Rattle.orca_edit.proofs.FitLemmas.{AllFit-append, AllFit-parts, AllFit-push, AllFit-same, AllFit-take}
use Rattle.orca_edit.proofs.FoldLemmas.{fold_entries-append, fold_entries-same, piece_after-hush, seed-fold_entries, silence-piece_after, tick-fold_entries}
use Rattle.orca_history.specs.Trails.{Trail, IsTrail, RedoneLaw, patch_at, touched_of, trail_redone}
use Rattle.orca_patch.specs.Patches.{Before, no_change}
use Rattle.orca_session.specs.Past.{PastState, IsPast, Undoes, brought_back, moment_of, past_redone, piece_with, plain_machine, point_at, present, redone, touched_at}
use Rattle.orca_session.proofs.PastLemmas.{seed-present, tick-present, undoes-more, undoes-same}

-- ---- a redo

-- a group is a part of the tail
group-most : (tail : List Entry) → group_of tail ≤ length tail
group-most [] = omega arith
group-most (entry ∷ tail) =
    omega (
      arith,
      length-take (prefix_len (λ (e : Entry). not (is_edit e)) tail) tail,
    )

-- Hush stands at the end of the entries
pub some-entry : (p : PastState) → IsPast p → 0 < length p.trail.tail → 0 < length p.trail.entries
some-entry p past some =
    omega (
      arith,
      slice_get_within p.trail.entries (length p.trail.entries - 1) Hush
          (past.trail.hushed some),
    )

-- the entries before it
abbrev before_hush : PastState → List Entry
before_hush p = take (length p.trail.entries - 1) p.trail.entries

last-hush : (p : PastState) → IsPast p → 0 < length p.trail.tail
    → p.trail.entries ≡ before_hush p ++ Hush ∷ []
last-hush p past some =
    let n : ℕ = length p.trail.entries - 1 in
    let within : n < length p.trail.entries =
    slice_get_within p.trail.entries n Hush (past.trail.hushed some) in
    sym (take_all (n + 1) p.trail.entries (omega arith))
    ∙ (take_more p.trail.entries n Hush within
    ∙ ap (λ (e : Entry). take n p.trail.entries ++ e ∷ [])
    (get_or_from_slice_get p.trail.entries n Hush Hush (past.trail.hushed some)))

-- so the piece as it stands is that before it, without its notes
present-hush : (p : PastState) → IsPast p → 0 < length p.trail.tail
    → present p ≡ silence (piece_after p.opened p.seed (before_hush p) 0)
present-hush p past some =
    ap (λ (h : List Entry). piece_after p.opened p.seed h p.closed) (last-hush p past some)
    ∙ piece_after-hush p.opened p.seed (before_hush p) p.closed 0

pub silent-hush : (p : PastState) → IsPast p → 0 < length p.trail.tail → (present p).notes ≡ []
silent-hush p past some = ap (λ (s : Piece). s.notes) (present-hush p past some)

silent-before : (p : PastState) → IsPast p → 0 < length p.trail.tail
    → silence (fold_entries (opened_piece p.opened p.seed) (before_hush p))
    ≡ silence (present p)
silent-before p past some =
    sym (ap (λ (s : Piece). silence s) (present-hush p past some)
    ∙ silence-piece_after p.opened p.seed (before_hush p) 0)

-- the group of the tail
abbrev group : PastState → List Entry
group p = take (group_of p.trail.tail) p.trail.tail

length-group : (p : PastState) → length (group p) ≡ group_of p.trail.tail
length-group p = length-take-le (group_of p.trail.tail) p.trail.tail (group-most p.trail.tail)

-- the entries after a redo, without the last Hush
abbrev back : PastState → List Entry
back p = before_hush p ++ group p

length-back : (p : PastState) → IsPast p → 0 < length p.trail.tail
    → length (back p) + 1 ≡ length p.trail.entries + group_of p.trail.tail
length-back p past some =
    omega (
      arith,
      length-append (before_hush p) (group p),
      length-take-le (length p.trail.entries - 1) p.trail.entries (omega arith),
      length-group p,
      some-entry p past some,
    )

entries-back : (p : PastState) (patch : Before) (points : Points)
    → (past_redone p patch points).trail.entries ≡ back p ++ Hush ∷ []
entries-back p patch points = sym (append_assoc (before_hush p) (group p) (Hush ∷ []))

pub length-redone : (p : PastState) (patch : Before) (points : Points) → IsPast p
    → 0 < length p.trail.tail
    → length (past_redone p patch points).trail.entries
    ≡ length p.trail.entries + group_of p.trail.tail
length-redone p patch points past some =
    ap length (entries-back p patch points)
    ∙ (length-append (back p) (Hush ∷ []) ∙ length-back p past some)

-- they lead to the piece after the redo
silent-back : (p : PastState) → IsPast p → 0 < length p.trail.tail
    → silence (piece_after p.opened p.seed (back p) 0) ≡ silence (redone p)
silent-back p past some =
    let opened : Piece = opened_piece p.opened p.seed in
    silence-piece_after p.opened p.seed (back p) 0
    ∙ (ap (λ (s : Piece). silence s) (fold_entries-append opened (before_hush p) (group p))
    ∙ fold_entries-same (fold_entries opened (before_hush p)) (present p) (group p)
    (silent-before p past some))

before-redone : (p : PastState) (patch : Before) (points : Points) (n : ℕ) → IsPast p
    → 0 < length p.trail.tail → n ≡ length (back p)
    → silence (redone p) ≡ silence (moment_of (past_redone p patch points) n)
before-redone p patch points n past some last =
    sym (ap (λ (h : List Entry). silence (piece_after p.opened p.seed h 0))
    (ap (take n) (entries-back p patch points)
    ∙ (take-append-le n (back p) (Hush ∷ []) (omega (arith, last))
    ∙ take_all n (back p) (omega (arith, last))))
    ∙ silent-back p past some)

after-redone : (p : PastState) (patch : Before) (points : Points) (n : ℕ) → IsPast p
    → 0 < length p.trail.tail → n ≡ length (back p) + 1
    → silence (redone p) ≡ silence (moment_of (past_redone p patch points) n)
after-redone p patch points n past some last =
    sym (ap (λ (h : List Entry). silence (piece_after p.opened p.seed h 0))
    (ap (take n) (entries-back p patch points)
    ∙ take_all n (back p ++ Hush ∷ [])
    (omega (arith, last, length-append (back p) (Hush ∷ []))))
    ∙ (ap (λ (s : Piece). silence s) (piece_after-hush p.opened p.seed (back p) 0 0)
    ∙ silent-back p past some))

-- the patch of the last Hush is the only one
keeps-redone : (p : PastState) (patch : Before) (points : Points) → IsPast p
    → 0 < length p.trail.tail → RedoneLaw → Undoes patch (redone p) (redone p) 0
    → (n : ℕ) (b : Before) → n < length (back p) + 1
    → patch_at (past_redone p patch points).trail n ≡ Some b
    → Undoes b (moment_of (past_redone p patch points) n)
    (moment_of (past_redone p patch points) (n + 1))
    (touched_at (past_redone p patch points) n)
keeps-redone p patch points past some law undoes n b below is =
    let q : PastState = past_redone p patch points in
    let last : ℕ = length p.trail.entries + group_of p.trail.tail - 1 in
    let long = length-back p past some in
    let newest = law p.trail patch (some-entry p past some) in
    elim (cases_lt n last) [
      | inl earlier ↦
          let none : patch_at q.trail n ≡ None = newest.1 n earlier in absurd (cc)
      | inr later ↦
          let its : patch_at q.trail n ≡ Some patch =
          ap (patch_at q.trail) (omega (arith, later, below, long)) ∙ newest.0 in
          let same : b ≡ patch = cc in
          rw same
          (undoes-more patch (moment_of q n) (moment_of q (n + 1)) 0 (touched_at q n)
          (omega arith)
          (undoes-same patch (redone p) (redone p) (moment_of q n) (moment_of q (n + 1)) 0 0
          (before-redone p patch points n past some (omega (arith, later, below, long)))
          (after-redone p patch points (n + 1) past some (omega (arith, later, below, long))) refl
          undoes))
    ]

pub present-redone : (p : PastState) (patch : Before) (points : Points) → IsPast p
    → 0 < length p.trail.tail → present (past_redone p patch points) ≡ silence (redone p)
present-redone p patch points past some =
    ap (λ (h : List Entry). piece_after p.opened p.seed h p.closed) (entries-back p patch points)
    ∙ (piece_after-hush p.opened p.seed (back p) p.closed 0 ∙ silent-back p past some)

-- what comes back fits, and so does what is left
fits-redone : (p : PastState) (patch : Before) (points : Points) → IsPast p
    → 0 < length p.trail.tail
    → AllFit (opened_piece p.opened p.seed) (past_redone p patch points).trail.entries
fits-redone p patch points past some =
    let opened : Piece = opened_piece p.opened p.seed in
    subst (λ (es : List Entry). AllFit opened es) (sym (entries-back p patch points))
    (AllFit-push p.opened p.seed (back p) Hush 0
    (AllFit-append opened (before_hush p) (group p)
    (AllFit-take opened p.trail.entries (length p.trail.entries - 1) past.fits)
    (AllFit-same (present p) (fold_entries opened (before_hush p)) (group p)
    (sym (silent-before p past some))
    (AllFit-take (present p) p.trail.tail (group_of p.trail.tail) past.tail)))
    tt)

tail-redone : (p : PastState) (patch : Before) (points : Points) → IsPast p
    → 0 < length p.trail.tail
    → AllFit (present (past_redone p patch points)) (past_redone p patch points).trail.tail
tail-redone p patch points past some =
    let count : ℕ = group_of p.trail.tail in
    AllFit-same (redone p) (present (past_redone p patch points)) (drop count p.trail.tail)
    (sym (ap (λ (s : Piece). silence s) (present-redone p patch points past some)))
    (AllFit-parts (present p) (take count p.trail.tail) (drop count p.trail.tail)
    (subst (λ (es : List Entry). AllFit (present p) es)
    (sym (take-append-drop count p.trail.tail)) past.tail)).1

-- the last Hush touched nothing
touched-redone : (p : PastState) (patch : Before) (points : Points) → IsPast p
    → 0 < length p.trail.tail
    → touched_of (past_redone p patch points).trail.kept
    ≡ touched_from (plain_machine (past_redone p patch points))
    (past_redone p patch points).trail.first
touched-redone p patch points past some =
    let q : PastState = past_redone p patch points in
    let long : length q.trail.entries ≡ length p.trail.entries + group_of p.trail.tail =
    length-redone p patch points past some in
    let its : slice_get q.trail.entries (length q.trail.entries - 1) ≡ Some Hush =
    ap (λ (h : List Entry). slice_get h (length h - 1)) (entries-back p patch points)
    ∙ (slice_get-get_or (back p ++ Hush ∷ []) (length (back p ++ Hush ∷ []) - 1) Hush
    (omega (arith, length-append (back p) (Hush ∷ [])))
    ∙ ap (λ (e : Entry). Some e)
    (get_or_push (back p) Hush Hush (length (back p ++ Hush ∷ []) - 1)
    (omega (arith, length-append (back p) (Hush ∷ []))))) in
    sym (touched_from-hush (plain_machine q) its)
    ∙ ap (touched_from (plain_machine q)) (ap (λ (n : ℕ). n - 1) long)

pub IsPast-redone : (p : PastState) (patch : Before) (points : Points) → IsPast p
    → 0 < length p.trail.tail → RedoneLaw → Undoes patch (redone p) (redone p) 0
    → AreOf (point_at (past_redone p patch points))
    (length p.trail.entries + group_of p.trail.tail) (past_redone p patch points).peak points
    → IsTrail (past_redone p patch points).trail → IsPast (past_redone p patch points)
IsPast-redone p patch points past some law undoes are trail =
    let q : PastState = past_redone p patch points in
    let long : length q.trail.entries ≡ length p.trail.entries + group_of p.trail.tail =
    length-redone p patch points past some in
    let all = length-back p past some in
    record {
      fits = fits-redone p patch points past some;
      tail = tail-redone p patch points past some;
      patches = record {
        each = λ n b below is. keeps-redone p patch points past some law undoes n b
            (omega (arith, long, all, below)) is;
      };
      touched = touched-redone p patch points past some;
      trail = trail;
      points = subst (λ (n : ℕ). AreOf (point_at q) n q.peak points) (sym long) are;
      closed = omega (arith, past.closed, long);
      most = omega (arith, long);
    }

-- ---- the way to a redo

take-past : (es more : List Entry) (j : ℕ) → take (length es + j) (es ++ more) ≡ es ++ take j more
take-past [] more j = ap (λ (n : ℕ). take n more) (zero-add j)
take-past (e ∷ es) more j =
    let next : suc (length es) + j ≡ suc (length es + j) = omega arith in
    rw next (ap (λ (l : List Entry). e ∷ l) (take-past es more j))

pub get-past : (es more : List Entry) (j : ℕ)
    → slice_get (es ++ more) (length es + j) ≡ slice_get more j
get-past [] more j = ap (slice_get more) (zero-add j)
get-past (e ∷ es) more j =
    let next : suc (length es) + j ≡ suc (length es + j) = omega arith in
    rw next (get-past es more j)

pub get-first : (es more : List Entry) (j : ℕ) → j < length es
    → slice_get (es ++ more) j ≡ slice_get es j
get-first [] more j below = absurd (omega arith)
get-first (e ∷ es) more zero below = refl
get-first (e ∷ es) more (suc j) below = get-first es more j (omega (arith, below))

get-taken : (n : ℕ) (es : List Entry) (j : ℕ) → j < n → slice_get (take n es) j ≡ slice_get es j
get-taken zero es j below = absurd (omega arith)
get-taken (suc n) [] j below = refl
get-taken (suc n) (e ∷ es) zero below = refl
get-taken (suc n) (e ∷ es) (suc j) below = get-taken n es j (omega (arith, below))

length-before : (p : PastState) → length (before_hush p) ≡ length p.trail.entries - 1
length-before p = length-take-le (length p.trail.entries - 1) p.trail.entries (omega arith)

-- the moments on the way are those of the pieces with a part of the group
pub moment-with : (p : PastState) (j : ℕ) → IsPast p → 0 < length p.trail.tail
    → j ≤ group_of p.trail.tail
    → silence (moment_of (brought_back p) (length p.trail.entries - 1 + j))
    ≡ silence (piece_with p j)
moment-with p j past some within =
    let opened : Piece = opened_piece p.opened p.seed in
    let first : List Entry = before_hush p in
    let taken : take (length p.trail.entries - 1 + j) (brought_back p).trail.entries
    ≡ first ++ take j p.trail.tail =
    ap (λ (n : ℕ). take (n + j) (first ++ (group p ++ Hush ∷ []))) (sym (length-before p))
    ∙ (take-past first (group p ++ Hush ∷ []) j
    ∙ ap (λ (l : List Entry). first ++ l)
    (take-append-le j (group p) (Hush ∷ []) (omega (arith, within, length-group p))
    ∙ take-take j (group_of p.trail.tail) p.trail.tail within)) in
    ap (λ (h : List Entry). silence (piece_after p.opened p.seed h 0)) taken
    ∙ (silence-piece_after p.opened p.seed (first ++ take j p.trail.tail) 0
    ∙ (ap (λ (s : Piece). silence s) (fold_entries-append opened first (take j p.trail.tail))
    ∙ fold_entries-same (fold_entries opened first) (present p) (take j p.trail.tail)
    (silent-before p past some)))

-- and their entries are those of the group
pub entry-with : (p : PastState) (j : ℕ) → j < group_of p.trail.tail
    → slice_get (brought_back p).trail.entries (length p.trail.entries - 1 + j)
    ≡ slice_get p.trail.tail j
entry-with p j below =
    let first : List Entry = before_hush p in
    ap (λ (n : ℕ). slice_get (first ++ (group p ++ Hush ∷ [])) (n + j)) (sym (length-before p))
    ∙ (get-past first (group p ++ Hush ∷ []) j
    ∙ (get-first (group p) (Hush ∷ []) j (omega (arith, below, length-group p))
    ∙ get-taken (group_of p.trail.tail) p.trail.tail j below))

-- the last Hush leaves the grid and the tick
pub point-redone : (p : PastState) (n : ℕ) → IsPast p → 0 < length p.trail.tail
    → n ≡ length p.trail.entries + group_of p.trail.tail
    → point_at (brought_back p) n ≡ record { sheet = (redone p).sheet; tick = (redone p).tick }
point-redone p n past some is =
    sym (ap (λ (x : Piece). record { sheet = x.sheet; tick = x.tick })
    (after-redone p (no_change p.opened.dims 0) p.points n past some
    (is ∙ sym (length-back p past some))))

pub point-with : (p : PastState) (j n : ℕ) → IsPast p → 0 < length p.trail.tail
    → j ≤ group_of p.trail.tail → n ≡ length p.trail.entries - 1 + j
    → point_at (brought_back p) n
    ≡ record { sheet = (piece_with p j).sheet; tick = (piece_with p j).tick }
point-with p j n past some within is =
    ap (point_at (brought_back p)) is
    ∙ ap (λ (x : Piece). record { sheet = x.sheet; tick = x.tick })
    (moment-with p j past some within)

-- the checkpoints before the last Hush
pub points-back : (p : PastState) → IsPast p → 0 < length p.trail.tail
    → AreOf (point_at (brought_back p)) (length p.trail.entries - 1) (brought_back p).peak
    (points_dropped p.points (length p.trail.entries - 1))
points-back p past some =
    let n : ℕ = length p.trail.entries - 1 in
    let are : AreOf (point_at (brought_back p)) n p.peak (points_dropped p.points n) =
    dropped-of (point_at p) (point_at (brought_back p)) (length p.trail.entries) n p.peak
    p.points past.points (omega arith)
    (λ k within. ap (λ (h : List Entry). record {
      sheet = (piece_after p.opened p.seed h 0).sheet;
      tick = (piece_after p.opened p.seed h 0).tick;
    })
    (take-append-le k (before_hush p) (group p ++ Hush ∷ [])
    (omega (arith, within, length-before p))
    ∙ take-take k n p.trail.entries within)) in
    record {
      each = are.each;
      reach = are.reach;
      apart = are.apart;
      near = elim are.near [ inl first ↦ inl first | inr near ↦ inr (omega (arith, near)) ];
    }

-- ---- entries of the tail

-- the entry of a number fits the piece after those before it
pub fits-tail : (p : PastState) (n : ℕ) (entry : Entry) → IsPast p
    → slice_get p.trail.tail n ≡ Some entry → FitsIn (piece_with p n).sheet.dims entry
fits-tail p n entry past is =
    let tail : List Entry = p.trail.tail in
    let next : drop n tail ≡ entry ∷ drop (suc n) tail =
    drop-cons tail n entry (slice_get_within tail n entry is)
    ∙ ap (λ (e : Entry). e ∷ drop (suc n) tail) (get_or_from_slice_get tail n entry entry is) in
    (subst (λ (es : List Entry). AllFit (piece_with p n) es) next
    (AllFit-parts (present p) (take n tail) (drop n tail)
    (subst (λ (es : List Entry). AllFit (present p) es) (sym (take-append-drop n tail))
    past.tail)).1).0

-- and leads to the piece after it
pub next-with : (p : PastState) (n : ℕ) (entry : Entry) → slice_get p.trail.tail n ≡ Some entry
    → (apply (piece_with p n) entry).piece ≡ piece_with p (n + 1)
next-with p n entry is =
    sym (ap (λ (es : List Entry). fold_entries (present p) es)
    (take_more p.trail.tail n entry (slice_get_within p.trail.tail n entry is)
    ∙ ap (λ (e : Entry). take n p.trail.tail ++ e ∷ [])
    (get_or_from_slice_get p.trail.tail n entry entry is))
    ∙ fold_entries-append (present p) (take n p.trail.tail) (entry ∷ []))

pub seed-with : (p : PastState) (n : ℕ) → (piece_with p n).seed ≡ p.seed
seed-with p n = seed-fold_entries (present p) (take n p.trail.tail) ∙ seed-present p

pub tick-with : (p : PastState) (n : ℕ) → n ≤ length p.trail.tail
    → (piece_with p n).tick ≤ length p.trail.entries + n
tick-with p n within =
    omega (
      arith,
      tick-fold_entries (present p) (take n p.trail.tail),
      length-take-le n p.trail.tail within,
      tick-present p,
    )

-- the parts after a redo
pub redone-parts : (p : PastState) (patch : Before) (points : Points) (t : Trail) (peak : ℕ)
    → IsPast p → 0 < length p.trail.tail → t ≡ trail_redone p.trail patch
    → peak ≡ max p.peak (length t.entries)
    → record p { trail = t; points = points; peak = peak } ≡ past_redone p patch points
redone-parts p patch points t peak past some redone most =
    let long : length t.entries ≡ length p.trail.entries + group_of p.trail.tail =
    ap (λ (x : Trail). length x.entries) redone ∙ length-redone p patch points past some in
    let same : peak ≡ max p.peak (length p.trail.entries + group_of p.trail.tail) =
    most ∙ ap (λ (n : ℕ). max p.peak n) long in
    ap (λ (x : Trail). record p { trail = x; points = points; peak = peak }) redone
    ∙ ap (λ (n : ℕ). record p { trail = trail_redone p.trail patch; points = points; peak = n })
    same
