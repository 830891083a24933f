-- What a jump keeps of a past.
use Rattle.std.proofs.Common.{◌≡◌, ℕ, ◌+◌, ◌-◌, ◌<◌, ◌≤◌, List, [], ◌∷◌, ◌++◌, length, take, drop, min, Some, refl, arith, ap, sym, ◌∙◌, inl, inr, subst, length-append}
use Rattle.std.proofs.lemmas.Bool.{cases_lt}
use Rattle.std.proofs.lemmas.List.{length-take-le, map-append, take-append-drop, take-append-le, take-map, take-take, take_all}
use Rattle.orca_base.specs.declared.command.Entry.{Entry}
use Rattle.orca_base.specs.declared.command.Entry.TheVariants.{Hush}
use Rattle.orca_base.specs.Histories.{done_of, few_touched}
use Rattle.orca_checkpoints.specs.Laws.{AreOf, points_after}
use Rattle.orca_checkpoints.specs.Points.{Points, points_dropped}
use Rattle.orca_checkpoints.proofs.PointLemmas.{dropped-of, next-after}
use Rattle.orca_edit.specs.Editing.{AllFit}
use Rattle.orca_edit.specs.Pieces.{Piece, fold_entries, opened_piece, piece_after, silence}
use Rattle.orca_edit.specs.Prices.{least_first, touched}
use Rattle.orca_edit.specs.Pricing.{AgreeUpTo, touched_from}
use Rattle.orca_edit.proofs.FirstLemmas.{jump_wears_none, touched_from-jumped}
use Rattle.orca_edit.proofs.PriceLemmas.{of_entry-agree, touched-same}
use Rattle.orca_edit.proofs.FitLemmas.{AllFit-append, AllFit-parts, AllFit-push, AllFit-same, AllFit-take}
use Rattle.orca_edit.proofs.FoldLemmas.{fold_entries-append, piece_after-hush, silence-piece_after}
use Rattle.orca_edit.proofs.RedoLemmas.{AllFit-done, fold-done}
use Rattle.orca_history.specs.declared.ring.Kept.{Kept}
use Rattle.orca_history.specs.Trails.{Trail, IsTrail, patch_at, touched_of, trail_jumped, untouched}
use Rattle.orca_history.proofs.Keeping.{kept-jumped, newest-jumped}
use Rattle.orca_patch.specs.Patches.{Before}
use Rattle.orca_session.specs.Past.{PastState, IsPast, Undoes, moment_of, past_jumped, plain_machine, point_at, present, touched_at}
use Rattle.orca_session.proofs.PastLemmas.{undoes-more, undoes-same}

moment-jumped : (p : PastState) (moment : ℕ) (patch : Before) (points : Points) (n : ℕ)
    → n ≤ moment
    → moment < length p.trail.entries
    → moment_of (past_jumped p moment patch points) n ≡ moment_of p n
moment-jumped p moment patch points n within below =
    let long : length (take moment p.trail.entries) ≡ moment =
    length-take-le moment p.trail.entries (omega (arith, below)) in
    ap (λ (h : List Entry). piece_after p.opened p.seed h 0)
    (take-append-le n (take moment p.trail.entries) (Hush ∷ []) (omega (arith, long, within))
    ∙ take-take n moment p.trail.entries within)

-- the last one is the moment without its notes
last-jumped : (p : PastState) (moment : ℕ) (patch : Before) (points : Points)
    → moment < length p.trail.entries
    → moment_of (past_jumped p moment patch points) (moment + 1) ≡ silence (moment_of p moment)
last-jumped p moment patch points below =
    let first : List Entry = take moment p.trail.entries in
    let long : length (first ++ Hush ∷ []) ≡ moment + 1 =
    length-append first (Hush ∷ [])
    ∙ ap (λ (k : ℕ). k + 1) (length-take-le moment p.trail.entries (omega (arith, below))) in
    ap (λ (h : List Entry). piece_after p.opened p.seed h 0)
    (take_all (moment + 1) (first ++ Hush ∷ []) (omega (arith, long)))
    ∙ piece_after-hush p.opened p.seed first 0 0

-- the first entries and their pieces are the same
agree-jumped : (p : PastState) (moment : ℕ) (patch : Before) (points : Points)
    → moment < length p.trail.entries
    → AgreeUpTo moment (plain_machine p) (plain_machine (past_jumped p moment patch points))
agree-jumped p moment patch points below =
    let long : length (take moment p.trail.entries) ≡ moment =
    length-take-le moment p.trail.entries (omega (arith, below)) in
    record {
      opened = refl;
      seed = refl;
      entries = sym (take-append-le moment (take moment p.trail.entries) (Hush ∷ [])
          (omega (arith, long))
          ∙ take-take moment moment p.trail.entries (omega arith));
    }

keeps-jumped : (p : PastState) (moment : ℕ) (patch : Before) (points : Points) → IsPast p
    → moment < length p.trail.entries
    → Undoes patch (moment_of p moment) (moment_of p moment) 0
    → (n : ℕ) (b : Before) → n < moment + 1
    → patch_at (past_jumped p moment patch points).trail n ≡ Some b
    → Undoes b (moment_of (past_jumped p moment patch points) n)
    (moment_of (past_jumped p moment patch points) (n + 1))
    (touched_at (past_jumped p moment patch points) n)
keeps-jumped p moment patch points past within undoes n b below is =
    let t : Trail = p.trail in
    let q : PastState = past_jumped p moment patch points in
    elim (cases_lt n moment) [
      | inl earlier ↦
          undoes-same b (moment_of p n) (moment_of p (n + 1)) (moment_of q n)
          (moment_of q (n + 1)) (touched_at p n) (touched_at q n)
          (ap silence (sym (moment-jumped p moment patch points n (omega (arith, earlier)) within)))
          (ap silence
          (sym (moment-jumped p moment patch points (n + 1) (omega (arith, earlier)) within)))
          (of_entry-agree touched touched-same moment n (plain_machine p) (plain_machine q)
          (agree-jumped p moment patch points within) earlier)
          (past.patches.each n b (omega (arith, earlier, within))
          (sym (kept-jumped t moment patch n past.trail within earlier) ∙ is))
      | inr later ↦
          let last : n ≡ moment = omega (arith, later, below) in
          let newest : patch_at q.trail n ≡ Some patch =
          ap (patch_at q.trail) last ∙ newest-jumped t moment patch past.trail within in
          let same : b ≡ patch = cc in
          let before : silence (moment_of p moment) ≡ silence (moment_of q n) =
          ap (λ (s : Piece). silence s)
          (sym (ap (moment_of q) last
          ∙ moment-jumped p moment patch points moment (omega arith) within)) in
          let after : silence (moment_of p moment) ≡ silence (moment_of q (n + 1)) =
          sym (ap (λ (k : ℕ). silence (moment_of q (k + 1))) last
          ∙ ap (λ (s : Piece). silence s) (last-jumped p moment patch points within)) in
          rw same
          (undoes-more patch (moment_of q n) (moment_of q (n + 1)) 0 (touched_at q n)
          (omega arith)
          (undoes-same patch (moment_of p moment) (moment_of p moment) (moment_of q n)
          (moment_of q (n + 1)) 0 0 before after refl undoes))
    ]

touched-jumped : (p : PastState) (moment : ℕ) (patch : Before) (points : Points) → IsPast p
    → moment < length p.trail.entries
    → touched_of (past_jumped p moment patch points).trail.kept
    ≡ touched_from (plain_machine (past_jumped p moment patch points)) (min p.trail.first moment)
touched-jumped p moment patch points past within =
    let first : List Kept = take (moment - p.trail.first) p.trail.kept in
    map-append (λ (k : Kept). k.touched) first (untouched patch ∷ [])
    ∙ (ap (λ (l : List ℕ). l ++ 0 ∷ [])
    (sym (take-map (λ (k : Kept). k.touched) (moment - p.trail.first) p.trail.kept)
    ∙ ap (take (moment - p.trail.first)) past.touched)
    ∙ sym (touched_from-jumped (plain_machine p) (plain_machine (past_jumped p moment patch points)) moment
    p.trail.first refl refl refl within))

-- a jump wears no patch
pub first-jumped : (p : PastState) (moment : ℕ) (patch : Before) (points : Points) → IsPast p
    → moment < length p.trail.entries
    → least_first (plain_machine (past_jumped p moment patch points)) (min p.trail.first moment)
    ≡ (past_jumped p moment patch points).trail.first
first-jumped p moment patch points past within =
    jump_wears_none (plain_machine p) (plain_machine (past_jumped p moment patch points)) moment p.trail.first
    refl refl refl within
    (ap few_touched (sym past.touched) ∙ past.trail.few)

-- the point of the moment, and that after its Hush
pub point-jumped : (p : PastState) (moment : ℕ) (patch : Before) (points : Points)
    → moment < length p.trail.entries
    → point_at (past_jumped p moment patch points) (moment + 1) ≡ point_at p moment
point-jumped p moment patch points below =
    ap (λ (x : Piece). record { sheet = x.sheet; tick = x.tick })
    (last-jumped p moment patch points below)

pub points-jumped : (p : PastState) (moment : ℕ) (patch : Before) (points : Points) → IsPast p
    → moment < length p.trail.entries
    → points ≡ points_after (points_dropped p.points moment) (moment + 1)
    (point_at (past_jumped p moment patch points) (moment + 1))
    → AreOf (point_at (past_jumped p moment patch points)) (moment + 1) p.peak points
points-jumped p moment patch points past below is =
    let q : PastState = past_jumped p moment patch points in
    subst (λ (c : Points). AreOf (point_at q) (moment + 1) p.peak c) (sym is)
    (next-after (point_at q) (point_at q) moment p.peak p.peak (points_dropped p.points moment)
    (dropped-of (point_at p) (point_at q) (length p.trail.entries) moment p.peak p.points
    past.points (omega (arith, below))
    (λ k within. ap (λ (x : Piece). record { sheet = x.sheet; tick = x.tick })
    (moment-jumped p moment patch points k within below)))
    (λ k within. refl) (omega arith) (omega (arith, below, past.most)))

pub present-jumped : (p : PastState) (moment : ℕ) (patch : Before) (points : Points)
    → present (past_jumped p moment patch points) ≡ silence (moment_of p moment)
present-jumped p moment patch points =
    piece_after-hush p.opened p.seed (take moment p.trail.entries) (min p.closed (moment + 1)) 0

-- what is cut off fits, and after it what was cut off before
tail-jumped : (p : PastState) (moment : ℕ) (patch : Before) (points : Points) → IsPast p
    → AllFit (present (past_jumped p moment patch points))
    (past_jumped p moment patch points).trail.tail
tail-jumped p moment patch points past =
    let opened : Piece = opened_piece p.opened p.seed in
    let first : List Entry = take moment p.trail.entries in
    let cut : List Entry = drop moment p.trail.entries in
    let middle : Piece = fold_entries opened first in
    let fits : AllFit middle cut =
    (AllFit-parts opened first cut
    (subst (λ (es : List Entry). AllFit opened es) (sym (take-append-drop moment p.trail.entries))
    past.fits)).1 in
    let now : silence (present p) ≡ silence (fold_entries middle (done_of cut)) =
    silence-piece_after p.opened p.seed p.trail.entries p.closed
    ∙ (ap (λ (es : List Entry). silence (fold_entries opened es))
    (sym (take-append-drop moment p.trail.entries))
    ∙ (ap silence (fold_entries-append opened first cut) ∙ sym (fold-done middle cut))) in
    let same : silence middle ≡ silence (present (past_jumped p moment patch points)) =
    sym (ap silence (present-jumped p moment patch points)
    ∙ silence-piece_after p.opened p.seed first 0) in
    AllFit-same middle (present (past_jumped p moment patch points))
    (done_of cut ++ p.trail.tail) same
    (AllFit-append middle (done_of cut) p.trail.tail (AllFit-done middle cut fits)
    (AllFit-same (present p) (fold_entries middle (done_of cut)) p.trail.tail now past.tail))

pub IsPast-jumped : (p : PastState) (moment : ℕ) (patch : Before) (points : Points) → IsPast p
    → moment < length p.trail.entries → Undoes patch (moment_of p moment) (moment_of p moment) 0
    → points ≡ points_after (points_dropped p.points moment) (moment + 1)
    (point_at (past_jumped p moment patch points) (moment + 1))
    → IsTrail (past_jumped p moment patch points).trail
    → IsPast (past_jumped p moment patch points)
IsPast-jumped p moment patch points past within undoes due trail =
    let first : List Entry = take moment p.trail.entries in
    let q : PastState = past_jumped p moment patch points in
    let long : length (first ++ Hush ∷ []) ≡ moment + 1 =
    length-append first (Hush ∷ [])
    ∙ ap (λ (k : ℕ). k + 1) (length-take-le moment p.trail.entries (omega (arith, within))) in
    record {
      fits = AllFit-push p.opened p.seed first Hush 0
          (AllFit-take (opened_piece p.opened p.seed) p.trail.entries moment past.fits) tt;
      tail = tail-jumped p moment patch points past;
      patches = record {
        each = λ n b below is. keeps-jumped p moment patch points past within undoes n b
            (omega (arith, long, below)) is;
      };
      touched = touched-jumped p moment patch points past within;
      trail = trail;
      points = subst (λ (n : ℕ). AreOf (point_at q) n p.peak points) (sym long)
          (points-jumped p moment patch points past within due);
      closed = omega (arith, long);
      most = omega (arith, long, within, past.most);
    }

-- the parts after a jump
pub jumped-parts : (p : PastState) (moment : ℕ) (patch : Before) (points : Points) (t : Trail)
    (closed : ℕ) → t ≡ trail_jumped p.trail moment patch → closed ≡ min p.closed (moment + 1)
    → record p { trail = t; points = points; closed = closed }
    ≡ past_jumped p moment patch points
jumped-parts p moment patch points t closed jumped same =
    ap (λ (x : Trail). record p { trail = x; points = points; closed = closed }) jumped
    ∙ ap (λ (n : ℕ). record p {
      trail = trail_jumped p.trail moment patch;
      points = points;
      closed = n;
    }) same
