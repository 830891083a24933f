-- Entries that fit the grids that they are applied to.
use Rattle.std.proofs.Common.{◌≡◌, ℕ, ◌<◌, zero, suc, Bool, true, false, true≢false, List, [], ◌∷◌, ◌++◌, length, take, drop, refl, inl, inr, ap, sym, ◌∙◌, subst, drop-cons}
use Rattle.std.specs.Prelude.{Some, get_or, slice_get}
use Rattle.std.specs.List.{list_any, remove}
use Rattle.std.proofs.lemmas.Bool.{cases_Bool}
use Rattle.std.proofs.lemmas.List.{take-append-drop}
use Rattle.orca_base.specs.declared.command.Entry.{Entry}
use Rattle.orca_base.specs.declared.command.Entry.TheVariants.{Fill, Put, Move, Resize, Reset, Frame, Hush}
use Rattle.orca_base.specs.Grids.{Size, Sheet}
use Rattle.orca_base.specs.Histories.{edits_grid, is_size_used, sets_size}
use Rattle.orca_op.specs.Rules.{rule}
use Rattle.orca_op.specs.Scan.{places, scan}
use Rattle.orca_op.proofs.VisitFacts.{dims_after_places}
use Rattle.orca_edit.specs.Editing.{AllFit, FitsIn}
use Rattle.orca_edit.specs.Pieces.{Piece, apply, fold_entries, next_frame, opened_piece, piece_after, silence}
use Rattle.orca_edit.proofs.FoldLemmas.{apply-same, silence-piece_after}

pub AllFit-append : (p : Piece) (entries more : List Entry) → AllFit p entries
    → AllFit (fold_entries p entries) more → AllFit p (entries ++ more)
AllFit-append p [] more first rest = rest
AllFit-append p (e ∷ entries) more first rest =
    (first.0, AllFit-append (apply p e).piece entries more first.1 rest)

pub AllFit-parts : (p : Piece) (entries more : List Entry) → AllFit p (entries ++ more)
    → AllFit p entries × AllFit (fold_entries p entries) more
AllFit-parts p [] more all = (tt, all)
AllFit-parts p (e ∷ entries) more all =
    let rest = AllFit-parts (apply p e).piece entries more all.1 in
    ((all.0, rest.0), rest.1)

pub AllFit-take : (p : Piece) (entries : List Entry) (count : ℕ) → AllFit p entries
    → AllFit p (take count entries)
AllFit-take p entries count all =
    (AllFit-parts p (take count entries) (drop count entries)
    (subst (λ (es : List Entry). AllFit p es) (sym (take-append-drop count entries)) all)).0

-- what fits but for the notes
fits-same : (p q : Piece) (entry : Entry) → silence p ≡ silence q → FitsIn p.sheet.dims entry
    → FitsIn q.sheet.dims entry
fits-same p q entry same fits =
    subst (λ (d : Size). FitsIn d entry) (ap (λ (s : Piece). s.sheet.dims) same) fits

pub AllFit-same : (p q : Piece) (entries : List Entry) → silence p ≡ silence q → AllFit p entries
    → AllFit q entries
AllFit-same p q [] same all = tt
AllFit-same p q (e ∷ entries) same all = (
  fits-same p q e same all.0,
  AllFit-same (apply p e).piece (apply q e).piece entries (apply-same p q e same) all.1,
)

fits-nth : (p : Piece) (entries : List Entry) (i : ℕ) (entry : Entry) → AllFit p entries
    → slice_get entries i ≡ Some entry → FitsIn (fold_entries p (take i entries)).sheet.dims entry
fits-nth p [] i entry all is = absurd (cc)
fits-nth p (e ∷ entries) zero entry all is =
    let same : e ≡ entry = cc in
    subst (λ (x : Entry). FitsIn p.sheet.dims x) same all.0
fits-nth p (e ∷ entries) (suc i) entry all is = fits-nth (apply p e).piece entries i entry all.1 is

pub fits-moment : (opened : Sheet) (seed : ℕ) (history : List Entry) (moment : ℕ) (entry : Entry)
    (closed : ℕ) → AllFit (opened_piece opened seed) history
    → slice_get history moment ≡ Some entry
    → FitsIn (piece_after opened seed (take moment history) closed).sheet.dims entry
fits-moment opened seed history moment entry closed all is =
    fits-same (fold_entries (opened_piece opened seed) (take moment history))
    (piece_after opened seed (take moment history) closed) entry
    (sym (silence-piece_after opened seed (take moment history) closed))
    (fits-nth (opened_piece opened seed) history moment entry all is)

pub AllFit-push : (opened : Sheet) (seed : ℕ) (history : List Entry) (entry : Entry) (closed : ℕ)
    → AllFit (opened_piece opened seed) history
    → FitsIn (piece_after opened seed history closed).sheet.dims entry
    → AllFit (opened_piece opened seed) (history ++ entry ∷ [])
AllFit-push opened seed history entry closed all fits =
    AllFit-append (opened_piece opened seed) history (entry ∷ []) all (
      fits-same (piece_after opened seed history closed)
          (fold_entries (opened_piece opened seed) history) entry
          (silence-piece_after opened seed history closed) fits,
      tt,
    )

-- ---- without an entry

-- the size stays
size-stays : (p : Piece) (entry : Entry) → sets_size entry ≡ false
    → (apply p entry).piece.sheet.dims ≡ p.sheet.dims
unfolding apply scan
size-stays p (Fill area glyph) stays = refl
size-stays p (Put at block) stays = refl
size-stays p (Move area to) stays = refl
size-stays p (Resize dims) stays = absurd (true≢false stays)
size-stays p Reset stays = refl
size-stays p Frame stays = dims_after_places rule (places p.sheet) p.sheet (next_frame p)
size-stays p Hush stays = refl

-- or is the same, whatever it was
size-set : (p q : Piece) (entry : Entry) → sets_size entry ≡ true
    → (apply p entry).piece.sheet.dims ≡ (apply q entry).piece.sheet.dims
unfolding apply
size-set p q (Fill area glyph) sets = absurd (true≢false (sym sets))
size-set p q (Put at block) sets = absurd (true≢false (sym sets))
size-set p q (Move area to) sets = absurd (true≢false (sym sets))
size-set p q (Resize dims) sets = refl
size-set p q Reset sets = absurd (true≢false (sym sets))
size-set p q Frame sets = absurd (true≢false (sym sets))
size-set p q Hush sets = absurd (true≢false (sym sets))

size-after : (p q : Piece) (entry : Entry) → p.sheet.dims ≡ q.sheet.dims
    → (apply p entry).piece.sheet.dims ≡ (apply q entry).piece.sheet.dims
size-after p q entry same = elim (cases_Bool (sets_size entry)) [
  | inl sets ↦ size-set p q entry sets
  | inr stays ↦ size-stays p entry stays ∙ (same ∙ sym (size-stays q entry stays))
]

-- so what fits depends on the size alone
AllFit-sized : (p q : Piece) (entries : List Entry) → p.sheet.dims ≡ q.sheet.dims
    → AllFit p entries → AllFit q entries
AllFit-sized p q [] same all = tt
AllFit-sized p q (e ∷ entries) same all = (
  subst (λ (d : Size). FitsIn d e) same all.0,
  AllFit-sized (apply p e).piece (apply q e).piece entries (size-after p q e same) all.1,
)

-- and where nothing edits the grid all fit
AllFit-plain : (p : Piece) (entries : List Entry) → list_any edits_grid entries ≡ false
    → AllFit p entries
AllFit-plain p [] plain = tt
AllFit-plain p (Fill area glyph ∷ entries) plain = absurd (true≢false plain)
AllFit-plain p (Put at block ∷ entries) plain = absurd (true≢false plain)
AllFit-plain p (Move area to ∷ entries) plain = absurd (true≢false plain)
AllFit-plain p (Resize dims ∷ entries) plain = absurd (true≢false plain)
AllFit-plain p (Reset ∷ entries) plain = (tt, AllFit-plain (apply p Reset).piece entries plain)
AllFit-plain p (Frame ∷ entries) plain = (tt, AllFit-plain (apply p Frame).piece entries plain)
AllFit-plain p (Hush ∷ entries) plain = (tt, AllFit-plain (apply p Hush).piece entries plain)

without-first : (p : Piece) (entry : Entry) (entries : List Entry) → AllFit p (entry ∷ entries)
    → is_size_used (entry ∷ entries) ≡ false → AllFit p entries
without-first p entry entries all free = elim (cases_Bool (sets_size entry)) [
  | inl sets ↦ AllFit-plain p entries (rw sets at free)
  | inr stays ↦
      AllFit-sized (apply p entry).piece p entries (size-stays p entry stays) all.1
]

pub AllFit-without : (p : Piece) (entries : List Entry) (number : ℕ) → number < length entries
    → AllFit p entries → is_size_used (drop number entries) ≡ false
    → AllFit p (remove entries number)
AllFit-without p entries number below all free =
    let first : List Entry = take number entries in
    let its : Entry = get_or entries number Hush in
    let rest : drop number entries ≡ its ∷ drop (suc number) entries =
    drop-cons entries number Hush below in
    let parts : AllFit p first × AllFit (fold_entries p first) (drop number entries) =
    AllFit-parts p first (drop number entries)
    (subst (λ (es : List Entry). AllFit p es) (sym (take-append-drop number entries)) all) in
    AllFit-append p first (drop (suc number) entries) parts.0
    (without-first (fold_entries p first) its (drop (suc number) entries)
    (subst (λ (es : List Entry). AllFit (fold_entries p first) es) rest parts.1)
    (ap is_size_used (sym rest) ∙ free))
