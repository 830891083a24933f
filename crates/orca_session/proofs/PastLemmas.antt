-- The past of a session: its moments, its patches, its start and its close, and how a board goes
-- back.
use Rattle.std.proofs.Common.{◌≡◌, ℕ, true, ◌+◌, ◌-◌, ◌<◌, ◌≤◌, List, [], length, take, Some, None, refl, arith, ap, sym, ◌∙◌, inl, inr, subst}
use Rattle.std.specs.Prelude.{slice_get}
use Rattle.std.proofs.lemmas.Bool.{cases_lt, lt-ltb}
use Rattle.std.proofs.lemmas.List.{length-map, length-take-le, take_all}
use Rattle.std.proofs.lemmas.List.Elements.{All-nil}
use Rattle.orca_base.specs.declared.change.Change.{Change}
use Rattle.orca_base.specs.declared.command.Entry.{Entry}
use Rattle.orca_base.specs.declared.limits.TheConstants.{MAX_HISTORY}
use Rattle.orca_base.specs.declared.place.Place.{Place}
use Rattle.orca_base.specs.Grids.{Size, Sheet, IsSheet, glyph_at}
use Rattle.orca_base.specs.Histories.{is_done}
use Rattle.orca_board.specs.Sizes.{cut_places}
use Rattle.orca_checkpoints.specs.Laws.{StartLaw}
use Rattle.orca_edit.specs.Editing.{FitsIn}
use Rattle.orca_edit.specs.Pieces.{Piece, apply, opened_piece, piece_after, silence}
use Rattle.orca_edit.specs.Pricing.{TouchesBothWays}
use Rattle.orca_edit.proofs.FitLemmas.{AllFit-same, fits-moment}
use Rattle.orca_edit.proofs.FoldLemmas.{piece_after-closed, piece_after-next, piece_after-zero, seed-fold_entries, silence-closes, silence-piece_after, tick-piece_after}
use Rattle.orca_history.specs.Trails.{Trail, IsKept, IsTrail, patch_at, trail_at_start}
use Rattle.orca_op.specs.Slate.{Slate, IsSlate, changes_of}
use Rattle.orca_op.specs.State.{sheet_of}
use Rattle.orca_patch.specs.Patches.{Before, CoversCut, before_of, no_change, sheet_before}
use Rattle.orca_patch.proofs.Inverse.{covers-cut, covers-no_change, sheet-back, sheet-no_change}
use Rattle.orca_session.specs.Past.{PastState, IsPast, Undoes, moment_of, past_at_start, past_closed, point_at, present, touched_at}
use Rattle.orca_session.proofs.PriceLemmas.{no-cut}

-- ---- moments

-- the piece as it stands is that of the last moment, but for the notes
pub silent-present : (p : PastState)
    → silence (present p) ≡ silence (moment_of p (length p.trail.entries))
silent-present p =
    silence-closes p.opened p.seed p.trail.entries p.closed 0
    ∙ ap (λ (h : List Entry). silence (piece_after p.opened p.seed h 0))
    (sym (take_all (length p.trail.entries) p.trail.entries (omega arith)))

pub sheet-present : (p : PastState)
    → (present p).sheet ≡ (moment_of p (length p.trail.entries)).sheet
sheet-present p = ap (λ (s : Piece). s.sheet) (silent-present p)

-- an entry of the history leads from its moment to the next, but for the notes
next-moment : (p : PastState) (n : ℕ) (entry : Entry)
    → slice_get p.trail.entries n ≡ Some entry
    → silence (moment_of p (n + 1)) ≡ silence (apply (moment_of p n) entry).piece
next-moment p n entry is = piece_after-next p.opened p.seed p.trail.entries n entry 0 0 is

pub seed-moment : (p : PastState) (n : ℕ) → (moment_of p n).seed ≡ p.seed
seed-moment p n =
    ap (λ (s : Piece). s.seed) (silence-piece_after p.opened p.seed (take n p.trail.entries) 0)
    ∙ seed-fold_entries (opened_piece p.opened p.seed) (take n p.trail.entries)

pub seed-present : (p : PastState) → (present p).seed ≡ p.seed
seed-present p =
    ap (λ (s : Piece). s.seed) (silence-piece_after p.opened p.seed p.trail.entries p.closed)
    ∙ seed-fold_entries (opened_piece p.opened p.seed) p.trail.entries

pub tick-present : (p : PastState) → (present p).tick ≤ length p.trail.entries
tick-present p = tick-piece_after p.opened p.seed p.trail.entries p.closed

pub tick-moment : (p : PastState) (n : ℕ) → n ≤ length p.trail.entries → (moment_of p n).tick ≤ n
tick-moment p n within =
    omega (
      arith,
      tick-piece_after p.opened p.seed (take n p.trail.entries) 0,
      length-take-le n p.trail.entries within,
    )

pub fits-entry : (p : PastState) (n : ℕ) (entry : Entry) → IsPast p
    → slice_get p.trail.entries n ≡ Some entry → FitsIn (moment_of p n).sheet.dims entry
fits-entry p n entry past is =
    fits-moment p.opened p.seed p.trail.entries n entry 0 past.fits is

-- ---- patches

-- what a patch undoes doesn't depend on notes
pub undoes-same : (patch : Before) (p q r s : Piece) (m n : ℕ) → silence p ≡ silence r
    → silence q ≡ silence s → m ≡ n → Undoes patch p q m → Undoes patch r s n
undoes-same patch p q r s m n before after same undoes =
    let grid : q.sheet ≡ s.sheet = ap (λ (x : Piece). x.sheet) after in
    record {
      sheet = ap (λ (g : Sheet). sheet_before patch g) (sym grid)
          ∙ (undoes.sheet ∙ ap (λ (x : Piece). x.sheet) before);
      tick = undoes.tick ∙ ap (λ (x : Piece). x.tick) before;
      covers = subst (λ (g : Sheet). CoversCut patch g.dims) grid undoes.covers;
      few = omega (
        arith,
        undoes.few,
        same,
        ap (λ (g : Sheet). length (cut_places g.dims patch.dims)) grid,
      );
    }

-- no fewer places
pub undoes-more : (patch : Before) (p q : Piece) (m n : ℕ) → m ≤ n → Undoes patch p q m
    → Undoes patch p q n
undoes-more patch p q m n more undoes = record {
  sheet = undoes.sheet;
  tick = undoes.tick;
  covers = undoes.covers;
  few = omega (arith, undoes.few, more);
}

-- the patch of what a board has changed
pub undoes-changes : (d : Slate) (tick : ℕ) (before after : Piece) (most : ℕ) → IsSlate d
    → d.began ≡ before.sheet → tick ≡ before.tick → sheet_of d.scan ≡ after.sheet
    → length d.listed + length (cut_places after.sheet.dims before.sheet.dims) ≤ most
    → Undoes (before_of d tick) before after most
undoes-changes d tick before after most slate began same sheet few = record {
  sheet = ap (λ (g : Sheet). sheet_before (before_of d tick) g) (sym sheet)
      ∙ (sheet-back d tick slate ∙ began);
  tick = same;
  covers = subst (λ (g : Sheet). CoversCut (before_of d tick) g.dims) sheet
      (covers-cut d tick slate);
  few = omega (
    arith,
    few,
    length-map {B = Change} d.listed
        (λ (at : Place). record { at = at; old = glyph_at d.began at }),
    ap (λ (g : Sheet). length (cut_places after.sheet.dims g.dims)) began,
  );
}

-- the patch of no change
pub undoes-nothing : TouchesBothWays → (g : Sheet) (tick : ℕ) (piece : Piece) (most : ℕ) → IsSheet g
    → g ≡ piece.sheet → tick ≡ piece.tick → Undoes (no_change g.dims tick) piece piece most
undoes-nothing both g tick piece most whole sheet same = record {
  sheet = ap (λ (x : Sheet). sheet_before (no_change g.dims tick) x) (sym sheet)
      ∙ (sheet-no_change g tick whole ∙ sheet);
  tick = same;
  covers = subst (λ (x : Sheet). CoversCut (no_change g.dims tick) x.dims) sheet
      (covers-no_change g tick);
  few = omega (
    arith,
    no-cut both piece,
    ap (λ (x : Sheet). length (cut_places piece.sheet.dims x.dims)) sheet,
  );
}

-- a patch that is kept belongs to an entry from the first one on
pub kept-above : (t : Trail) (n : ℕ) (patch : Before) → patch_at t n ≡ Some patch → t.first ≤ n
kept-above t n patch is = elim (cases_lt n t.first) [
  | inl below ↦ let none : patch_at t n ≡ None = rw (lt-ltb n t.first below) refl in absurd (cc)
  | inr above ↦ above
]

-- ---- the start

start-trail : (limit : ℕ) → 1 ≤ limit → limit ≤ MAX_HISTORY → IsTrail (trail_at_start limit)
start-trail limit some most = record {
  some = some;
  most = most;
  within = omega arith;
  both = omega arith;
  done = All-nil (λ e. is_done e ≡ true);
  hushed = λ below. absurd (omega (arith, below));
  each = refl;
  few = refl;
  sizes = All-nil IsKept;
}

pub IsPast-start : StartLaw → (sheet : Sheet) (seed limit : ℕ) → 1 ≤ limit → limit ≤ MAX_HISTORY
    → IsPast (past_at_start sheet seed limit)
IsPast-start law sheet seed limit some most =
    let p : PastState = past_at_start sheet seed limit in
    record {
      fits = tt;
      tail = tt;
      patches = record { each = λ n b below is. absurd (omega (arith, below)) };
      touched = refl;
      trail = start-trail limit some most;
      points = law (point_at p) sheet 0
          (ap (λ (x : Piece). record { sheet = x.sheet; tick = x.tick })
          (piece_after-zero sheet seed []));
      closed = omega arith;
      most = omega arith;
    }

-- ---- a close

pub present-closed : (p : PastState) → present (past_closed p) ≡ silence (present p)
present-closed p =
    piece_after-closed p.opened p.seed p.trail.entries (length p.trail.entries) p.closed
    (omega arith)

pub IsPast-closed : (p : PastState) → IsPast p → IsPast (past_closed p)
IsPast-closed p past = record {
  fits = past.fits;
  tail = AllFit-same (present p) (present (past_closed p)) p.trail.tail
      (sym (ap (λ (s : Piece). silence s) (present-closed p))) past.tail;
  patches = record { each = past.patches.each };
  touched = past.touched;
  trail = past.trail;
  points = past.points;
  closed = omega arith;
  most = past.most;
}

-- ---- going back

-- the patch of the entry before a moment leads back to the moment before
undoes-last : (p : PastState) (at : ℕ) (patch : Before) → IsPast p → 0 < at
    → at ≤ length p.trail.entries → patch_at p.trail (at - 1) ≡ Some patch
    → Undoes patch (moment_of p (at - 1)) (moment_of p at) (touched_at p (at - 1))
undoes-last p at patch past some within is =
    let next : at - 1 + 1 ≡ at = omega (arith, some) in
    subst (λ (k : ℕ). Undoes patch (moment_of p (at - 1)) (moment_of p k) (touched_at p (at - 1)))
    next
    (past.patches.each (at - 1) patch (omega (arith, some, within)) is)

-- the same, where the patch was read from the parts of the past
pub undoes-kept : (q p : PastState) (at : ℕ) (patch : Before) → q ≡ p → IsPast q → 0 < at
    → at ≤ length p.trail.entries → patch_at q.trail (at - 1) ≡ Some patch
    → Undoes patch (moment_of p (at - 1)) (moment_of p at) (touched_at p (at - 1))
undoes-kept q p at patch same past some within is =
    undoes-last p at patch (subst IsPast same past) some within
    (ap (λ (x : PastState). patch_at x.trail (at - 1)) (sym same) ∙ is)

pub covers-grid : (patch : Before) (before after : Piece) (most : ℕ) (g : Sheet)
    → Undoes patch before after most → g ≡ after.sheet → CoversCut patch g.dims
covers-grid patch before after most g undoes same =
    subst (λ (x : Sheet). CoversCut patch x.dims) (sym same) undoes.covers

pub sheet-undone : (patch : Before) (before after : Piece) (most : ℕ) (g : Sheet)
    → Undoes patch before after most → g ≡ after.sheet → sheet_before patch g ≡ before.sheet
sheet-undone patch before after most g undoes same =
    ap (λ (x : Sheet). sheet_before patch x) same ∙ undoes.sheet

-- what the entry of a moment makes of its grid and tick
pub sheet-next : (p : PastState) (n : ℕ) (entry : Entry)
    → slice_get p.trail.entries n ≡ Some entry
    → (apply (moment_of p n) entry).piece.sheet ≡ (moment_of p (n + 1)).sheet
sheet-next p n entry is = sym (ap (λ (s : Piece). s.sheet) (next-moment p n entry is))

pub tick-next : (p : PastState) (n : ℕ) (entry : Entry)
    → slice_get p.trail.entries n ≡ Some entry
    → (apply (moment_of p n) entry).piece.tick ≡ (moment_of p (n + 1)).tick
tick-next p n entry is = sym (ap (λ (s : Piece). s.tick) (next-moment p n entry is))

-- the patch of what a board has changed, from its parts
pub changes-parts : (d : Slate) (dims : Size) (tick : ℕ) (changes : List Change)
    → dims ≡ d.began.dims → changes ≡ changes_of d
    → record { dims = dims; tick = tick; changes = changes } ≡ before_of d tick
changes-parts d dims tick changes size same =
    ap (λ (s : Size). record { dims = s; tick = tick; changes = changes }) size
    ∙ ap (λ (cs : List Change). record { dims = d.began.dims; tick = tick; changes = cs }) same
