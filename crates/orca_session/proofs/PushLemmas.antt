-- What a push keeps of a past.
use Rattle.std.proofs.Common.{◌≡◌, ℕ, ◌+◌, ◌<◌, ◌≤◌, List, [], ◌∷◌, ◌++◌, length, drop, max, Some, refl, arith, ap, sym, ◌∙◌, inl, inr, subst, length-append}
use Rattle.std.specs.Prelude.{slice_get}
use Rattle.std.proofs.lemmas.Bool.{cases_lt}
use Rattle.std.proofs.lemmas.List.{drop-map, get_or_push, map-append, take-append-le, take_all}
use Rattle.std.proofs.lemmas.Option.{slice_get-get_or}
use Rattle.orca_base.specs.declared.command.Entry.{Entry}
use Rattle.orca_base.specs.Histories.{worn_of}
use Rattle.orca_checkpoints.specs.Laws.{AreOf, points_after}
use Rattle.orca_checkpoints.specs.Points.{Points}
use Rattle.orca_checkpoints.proofs.PointLemmas.{next-after}
use Rattle.orca_edit.specs.Editing.{FitsIn}
use Rattle.orca_edit.specs.Pieces.{Piece, apply, piece_after, silence}
use Rattle.orca_edit.specs.Obeying.{piece_of}
use Rattle.orca_edit.specs.Prices.{least_first, touched}
use Rattle.orca_edit.specs.Pricing.{AgreeUpTo, touched_from}
use Rattle.orca_edit.proofs.FirstLemmas.{first-worn, touched_from-later, touched_from-more}
use Rattle.orca_edit.proofs.PriceLemmas.{of_entry-agree, of_entry-at, touched-same}
use Rattle.orca_edit.proofs.FitLemmas.{AllFit-push}
use Rattle.orca_edit.proofs.FoldLemmas.{apply-same, piece_after-push, silence-closes}
use Rattle.orca_history.specs.declared.ring.Kept.{Kept}
use Rattle.orca_history.specs.Trails.{Trail, IsKept, IsTrail, patch_at, touched_of, trail_pushed}
use Rattle.orca_history.proofs.Keeping.{kept-pushed, newest-pushed}
use Rattle.orca_patch.specs.Patches.{Before}
use Rattle.orca_session.specs.Past.{PastState, IsPast, Undoes, moment_of, past_pushed, plain_machine, point_at, present, touched_at}
use Rattle.orca_session.proofs.PastLemmas.{kept-above, silent-present, undoes-same}

-- the first entries stay
moment-pushed : (p : PastState) (entry : Entry) (newest : Kept) (points : Points) (n : ℕ)
    → n ≤ length p.trail.entries → moment_of (past_pushed p entry newest points) n ≡ moment_of p n
moment-pushed p entry newest points n within =
    ap (λ (h : List Entry). piece_after p.opened p.seed h 0)
    (take-append-le n p.trail.entries (entry ∷ []) within)

-- the last one is that of the new entry
last-pushed : (p : PastState) (entry : Entry) (newest : Kept) (points : Points)
    → silence (moment_of (past_pushed p entry newest points) (length p.trail.entries + 1))
    ≡ silence (apply (present p) entry).piece
last-pushed p entry newest points =
    let h : List Entry = p.trail.entries in
    ap (λ (es : List Entry). silence (piece_after p.opened p.seed es 0))
    (take_all (length h + 1) (h ++ entry ∷ []) (omega (arith, length-append h (entry ∷ []))))
    ∙ (ap (λ (s : Piece). silence s) (piece_after-push p.opened p.seed h entry 0 (omega arith))
    ∙ apply-same (piece_after p.opened p.seed h 0) (present p) entry
    (silence-closes p.opened p.seed h 0 p.closed))

-- the first entries and their pieces are the same
agree-pushed : (p : PastState) (entry : Entry) (newest : Kept) (points : Points)
    → AgreeUpTo (length p.trail.entries) (plain_machine p) (plain_machine (past_pushed p entry newest points))
agree-pushed p entry newest points = record {
  opened = refl;
  seed = refl;
  entries = sym (take-append-le (length p.trail.entries) p.trail.entries (entry ∷ [])
      (omega arith));
}

touched-pushed : (p : PastState) (entry : Entry) (newest : Kept) (points : Points) (n : ℕ)
    → n < length p.trail.entries
    → touched_at p n ≡ touched_at (past_pushed p entry newest points) n
touched-pushed p entry newest points n below =
    of_entry-agree touched touched-same (length p.trail.entries) n (plain_machine p)
    (plain_machine (past_pushed p entry newest points)) (agree-pushed p entry newest points) below

-- the new entry touched what it touches of the piece as it stands
touched-last : (p : PastState) (entry : Entry) (newest : Kept) (points : Points)
    → touched (present p) entry
    ≡ touched_at (past_pushed p entry newest points) (length p.trail.entries)
touched-last p entry newest points =
    let h : List Entry = p.trail.entries in
    let q : PastState = past_pushed p entry newest points in
    let its : slice_get (h ++ entry ∷ []) (length h) ≡ Some entry =
    slice_get-get_or (h ++ entry ∷ []) (length h) entry
    (omega (arith, length-append h (entry ∷ [])))
    ∙ ap (λ (e : Entry). Some e) (get_or_push h entry entry (length h) refl) in
    touched-same (present p) (moment_of q (length h)) entry
    (silent-present p
    ∙ ap silence (sym (moment-pushed p entry newest points (length h) (omega arith))))
    ∙ sym (of_entry-at touched (plain_machine q) (length h) entry its)

-- the patch of the new entry, and those before it
keeps-pushed : (p : PastState) (entry : Entry) (newest : Kept) (points : Points) → IsPast p
    → IsKept newest
    → Undoes newest.patch (present p) (apply (present p) entry).piece (touched (present p) entry)
    → (n : ℕ) (b : Before) → n < length p.trail.entries + 1
    → patch_at (past_pushed p entry newest points).trail n ≡ Some b
    → Undoes b (moment_of (past_pushed p entry newest points) n)
    (moment_of (past_pushed p entry newest points) (n + 1))
    (touched_at (past_pushed p entry newest points) n)
keeps-pushed p entry newest points past kept undoes n b below is =
    let t : Trail = p.trail in
    let q : PastState = past_pushed p entry newest points in
    let above : q.trail.first ≤ n = kept-above q.trail n b is in
    elim (cases_lt n (length t.entries)) [
      | inl earlier ↦
          undoes-same b (moment_of p n) (moment_of p (n + 1)) (moment_of q n)
          (moment_of q (n + 1)) (touched_at p n) (touched_at q n)
          (ap silence (sym (moment-pushed p entry newest points n (omega (arith, earlier)))))
          (ap silence (sym (moment-pushed p entry newest points (n + 1) (omega (arith, earlier)))))
          (touched-pushed p entry newest points n earlier)
          (past.patches.each n b earlier
          (sym (kept-pushed t entry newest n past.trail above earlier) ∙ is))
      | inr later ↦
          let last : n ≡ length t.entries = omega (arith, later, below) in
          let its : patch_at q.trail n ≡ Some newest.patch =
          ap (patch_at q.trail) last ∙ newest-pushed t entry newest past.trail kept in
          let same : b ≡ newest.patch = cc in
          let before : silence (present p) ≡ silence (moment_of q n) =
          silent-present p
          ∙ ap (λ (s : Piece). silence s)
          (sym (ap (moment_of q) last
          ∙ moment-pushed p entry newest points (length t.entries) (omega arith))) in
          let after : silence (apply (present p) entry).piece ≡ silence (moment_of q (n + 1)) =
          sym (ap (λ (k : ℕ). silence (moment_of q (k + 1))) last
          ∙ last-pushed p entry newest points) in
          rw same
          (undoes-same newest.patch (present p) (apply (present p) entry).piece (moment_of q n)
          (moment_of q (n + 1)) (touched (present p) entry) (touched_at q n) before after
          (touched-last p entry newest points ∙ ap (touched_at q) (sym last)) undoes)
    ]

-- how many cells the entries touched, with the new one
touched-more : (p : PastState) (entry : Entry) (newest : Kept) (points : Points) → IsPast p
    → newest.touched ≡ touched (present p) entry
    → touched_of (p.trail.kept ++ newest ∷ [])
    ≡ touched_from (plain_machine (past_pushed p entry newest points)) p.trail.first
touched-more p entry newest points past same =
    let now : newest.touched ≡ touched (piece_of (plain_machine p)) entry =
    same ∙ touched-same (present p) (piece_of (plain_machine p)) entry
    (silence-closes p.opened p.seed p.trail.entries p.closed 0) in
    map-append (λ (k : Kept). k.touched) p.trail.kept (newest ∷ [])
    ∙ (ap (λ (l : List ℕ). l ++ newest.touched ∷ []) past.touched
    ∙ (ap (λ (n : ℕ). touched_from (plain_machine p) p.trail.first ++ n ∷ []) now
    ∙ sym (touched_from-more (plain_machine p) (plain_machine (past_pushed p entry newest points)) entry
    p.trail.first refl refl refl (omega (arith, past.trail.each)))))

touched-worn : (p : PastState) (entry : Entry) (newest : Kept) (points : Points) → IsPast p
    → newest.touched ≡ touched (present p) entry
    → touched_of (past_pushed p entry newest points).trail.kept
    ≡ touched_from (plain_machine (past_pushed p entry newest points))
    (past_pushed p entry newest points).trail.first
touched-worn p entry newest points past same =
    let all : List Kept = p.trail.kept ++ newest ∷ [] in
    let worn : ℕ = worn_of (touched_of all) in
    sym (drop-map (λ (k : Kept). k.touched) worn all)
    ∙ (ap (drop worn) (touched-more p entry newest points past same)
    ∙ sym (touched_from-later (plain_machine (past_pushed p entry newest points)) p.trail.first worn))

-- the first entry that is undone by its patch
pub first-pushed : (p : PastState) (entry : Entry) (newest : Kept) (points : Points) → IsPast p
    → newest.touched ≡ touched (present p) entry
    → least_first (plain_machine (past_pushed p entry newest points)) p.trail.first
    ≡ (past_pushed p entry newest points).trail.first
first-pushed p entry newest points past same =
    first-worn (plain_machine (past_pushed p entry newest points)) p.trail.first
    (omega (arith, past.trail.each, length-append p.trail.entries (entry ∷ [])))
    ∙ ap (λ (l : List ℕ). p.trail.first + worn_of l)
    (sym (touched-more p entry newest points past same))

-- the point of the new moment
pub point-pushed : (p : PastState) (entry : Entry) (newest : Kept) (points : Points) (n : ℕ)
    → n ≡ length p.trail.entries + 1
    → point_at (past_pushed p entry newest points) n
    ≡ record {
      sheet = (apply (present p) entry).piece.sheet;
      tick = (apply (present p) entry).piece.tick;
    }
point-pushed p entry newest points n is =
    ap (point_at (past_pushed p entry newest points)) is
    ∙ ap (λ (x : Piece). record { sheet = x.sheet; tick = x.tick })
    (last-pushed p entry newest points)

-- the checkpoints, where that of the new moment was kept if it is due
pub points-pushed : (p : PastState) (entry : Entry) (newest : Kept) (points : Points) → IsPast p
    → points ≡ points_after p.points (length p.trail.entries + 1)
    (point_at (past_pushed p entry newest points) (length p.trail.entries + 1))
    → AreOf (point_at (past_pushed p entry newest points)) (length p.trail.entries + 1)
    (past_pushed p entry newest points).peak points
points-pushed p entry newest points past is =
    let q : PastState = past_pushed p entry newest points in
    subst (λ (c : Points). AreOf (point_at q) (length p.trail.entries + 1) q.peak c) (sym is)
    (next-after (point_at p) (point_at q) (length p.trail.entries) p.peak q.peak p.points
    past.points
    (λ k within. ap (λ (x : Piece). record { sheet = x.sheet; tick = x.tick })
    (moment-pushed p entry newest points k within))
    (omega arith) (omega arith))

pub IsPast-pushed : (p : PastState) (entry : Entry) (newest : Kept) (points : Points) → IsPast p
    → FitsIn (present p).sheet.dims entry → IsKept newest
    → newest.touched ≡ touched (present p) entry
    → Undoes newest.patch (present p) (apply (present p) entry).piece (touched (present p) entry)
    → points ≡ points_after p.points (length p.trail.entries + 1)
    (point_at (past_pushed p entry newest points) (length p.trail.entries + 1))
    → IsTrail (past_pushed p entry newest points).trail
    → IsPast (past_pushed p entry newest points)
IsPast-pushed p entry newest points past fits kept same undoes due trail =
    let long : length (p.trail.entries ++ entry ∷ []) ≡ length p.trail.entries + 1 =
    length-append p.trail.entries (entry ∷ []) in
    let q : PastState = past_pushed p entry newest points in
    record {
      fits = AllFit-push p.opened p.seed p.trail.entries entry p.closed past.fits fits;
      tail = tt;
      patches = record {
        each = λ n b below is. keeps-pushed p entry newest points past kept undoes n b
            (omega (arith, long, below)) is;
      };
      touched = touched-worn p entry newest points past same;
      trail = trail;
      points = subst (λ (n : ℕ). AreOf (point_at q) n q.peak points) (sym long)
          (points-pushed p entry newest points past due);
      closed = omega (arith, past.closed, long);
      most = omega (arith, long);
    }

pub present-pushed : (p : PastState) (entry : Entry) (newest : Kept) (points : Points) → IsPast p
    → present (past_pushed p entry newest points) ≡ (apply (present p) entry).piece
present-pushed p entry newest points past =
    piece_after-push p.opened p.seed p.trail.entries entry p.closed past.closed

-- the parts after a push
pub pushed-parts : (p : PastState) (entry : Entry) (newest : Kept) (points : Points) (t : Trail)
    (peak : ℕ) → t ≡ trail_pushed p.trail entry newest → peak ≡ max p.peak (length t.entries)
    → record p { trail = t; points = points; peak = peak } ≡ past_pushed p entry newest points
pushed-parts p entry newest points t peak pushed most =
    let long : length t.entries ≡ length p.trail.entries + 1 =
    ap (λ (x : Trail). length x.entries) pushed ∙ length-append p.trail.entries (entry ∷ []) in
    let same : peak ≡ max p.peak (length p.trail.entries + 1) =
    most ∙ ap (λ (n : ℕ). max p.peak n) long in
    ap (λ (x : Trail). record p { trail = x; points = points; peak = peak }) pushed
    ∙ ap (λ (n : ℕ). record p {
      trail = trail_pushed p.trail entry newest;
      points = points;
      peak = n;
    }) same
