-- Histories, folded.
use Rattle.std.proofs.Common.{◌≡◌, ℕ, ◌+◌, ◌≤◌, List, [], ◌∷◌, ◌++◌, length, take, drop, refl, arith, ap, sym, ◌∙◌, inl, inr, length-append}
use Rattle.std.specs.Prelude.{Some, slice_get}
use Rattle.std.proofs.lemmas.Bool.{cases_lt}
use Rattle.std.proofs.lemmas.List.{drop-append-le, drop_all, take-append-drop, take-append-le, take_all, take_more}
use Rattle.std.proofs.lemmas.Option.{get_or_from_slice_get, slice_get_within}
use Rattle.orca_base.specs.declared.command.Entry.{Entry}
use Rattle.orca_base.specs.declared.command.Entry.TheVariants.{Fill, Put, Move, Resize, Reset, Frame, Hush}
use Rattle.orca_base.specs.Grids.{Sheet}
use Rattle.orca_edit.specs.Pieces.{Piece, apply, fold_entries, opened_piece, piece_after, silence}

-- ---- one entry after the other

pub fold_entries-append : (p : Piece) (entries more : List Entry)
    → fold_entries p (entries ++ more) ≡ fold_entries (fold_entries p entries) more
fold_entries-append p [] more = refl
fold_entries-append p (e ∷ entries) more = fold_entries-append (apply p e).piece entries more

pub piece_after-append : (opened : Sheet) (seed : ℕ) (history more : List Entry) (closed : ℕ)
    → closed ≤ length history
    → piece_after opened seed (history ++ more) closed
    ≡ fold_entries (piece_after opened seed history closed) more
unfolding piece_after
piece_after-append opened seed history more closed within =
    rw (take-append-le closed history more within, drop-append-le closed history more within)
    (fold_entries-append
    (silence (fold_entries (opened_piece opened seed) (take closed history)))
    (drop closed history) more)

pub piece_after-push : (opened : Sheet) (seed : ℕ) (history : List Entry) (entry : Entry)
    (closed : ℕ) → closed ≤ length history
    → piece_after opened seed (history ++ entry ∷ []) closed
    ≡ (apply (piece_after opened seed history closed) entry).piece
piece_after-push opened seed history entry closed within =
    piece_after-append opened seed history (entry ∷ []) closed within

pub piece_after-zero : (opened : Sheet) (seed : ℕ) (history : List Entry)
    → piece_after opened seed history 0 ≡ fold_entries (opened_piece opened seed) history
unfolding piece_after
piece_after-zero opened seed history = refl

seed-apply : (p : Piece) (entry : Entry) → (apply p entry).piece.seed ≡ p.seed
unfolding apply
seed-apply p (Fill area glyph) = refl
seed-apply p (Put at block) = refl
seed-apply p (Move area to) = refl
seed-apply p (Resize dims) = refl
seed-apply p Reset = refl
seed-apply p Frame = refl
seed-apply p Hush = refl

pub seed-fold_entries : (p : Piece) (entries : List Entry)
    → (fold_entries p entries).seed ≡ p.seed
seed-fold_entries p [] = refl
seed-fold_entries p (e ∷ entries) =
    seed-fold_entries (apply p e).piece entries ∙ seed-apply p e

-- ---- notes

-- an entry reads no note, but for those that end
silence-apply : (p : Piece) (entry : Entry)
    → silence (apply p entry).piece ≡ silence (apply (silence p) entry).piece
unfolding apply
silence-apply p (Fill area glyph) = refl
silence-apply p (Put at block) = refl
silence-apply p (Move area to) = refl
silence-apply p (Resize dims) = refl
silence-apply p Reset = refl
silence-apply p Frame = refl
silence-apply p Hush = refl

pub apply-same : (p q : Piece) (entry : Entry) → silence p ≡ silence q
    → silence (apply p entry).piece ≡ silence (apply q entry).piece
apply-same p q entry same =
    silence-apply p entry
    ∙ (ap (λ (s : Piece). silence (apply s entry).piece) same ∙ sym (silence-apply q entry))

pub fold_entries-same : (p q : Piece) (entries : List Entry) → silence p ≡ silence q
    → silence (fold_entries p entries) ≡ silence (fold_entries q entries)
fold_entries-same p q [] same = same
fold_entries-same p q (e ∷ entries) same =
    fold_entries-same (apply p e).piece (apply q e).piece entries (apply-same p q e same)

-- but for its notes, a piece is the fold of the whole history
pub silence-piece_after : (opened : Sheet) (seed : ℕ) (history : List Entry) (closed : ℕ)
    → silence (piece_after opened seed history closed)
    ≡ silence (fold_entries (opened_piece opened seed) history)
unfolding piece_after
silence-piece_after opened seed history closed =
    let before : Piece = fold_entries (opened_piece opened seed) (take closed history) in
    fold_entries-same (silence before) before (drop closed history) refl
    ∙ (ap (λ (p : Piece). silence p)
    (sym (fold_entries-append (opened_piece opened seed) (take closed history)
    (drop closed history)))
    ∙ ap (λ (entries : List Entry). silence (fold_entries (opened_piece opened seed) entries))
    (take-append-drop closed history))

pub silence-closes : (opened : Sheet) (seed : ℕ) (history : List Entry) (closed other : ℕ)
    → silence (piece_after opened seed history closed)
    ≡ silence (piece_after opened seed history other)
silence-closes opened seed history closed other =
    silence-piece_after opened seed history closed
    ∙ sym (silence-piece_after opened seed history other)

-- a history that ends before the close
pub piece_after-closed : (opened : Sheet) (seed : ℕ) (history : List Entry) (closed other : ℕ)
    → length history ≤ closed
    → piece_after opened seed history closed ≡ silence (piece_after opened seed history other)
unfolding piece_after
piece_after-closed opened seed history closed other past =
    rw (take_all closed history past, drop_all closed history past)
    (sym (silence-piece_after opened seed history other))

pub piece_after-hush : (opened : Sheet) (seed : ℕ) (history : List Entry) (closed other : ℕ)
    → piece_after opened seed (history ++ Hush ∷ []) closed
    ≡ silence (piece_after opened seed history other)
unfolding apply
piece_after-hush opened seed history closed other = elim (cases_lt (length history) closed) [
  | inl past ↦
      let all : length (history ++ Hush ∷ []) ≤ closed =
      omega (arith, length-append history (Hush ∷ [])) in
      piece_after-closed opened seed (history ++ Hush ∷ []) closed 0 all
      ∙ (ap (λ (p : Piece). silence p) (piece_after-push opened seed history Hush 0 (omega arith))
      ∙ silence-closes opened seed history 0 other)
  | inr within ↦
      piece_after-push opened seed history Hush closed within
      ∙ silence-closes opened seed history closed other
]

-- ---- moments

-- one entry more of a list
take-next : (entries : List Entry) (i : ℕ) (entry : Entry) → slice_get entries i ≡ Some entry
    → take (i + 1) entries ≡ take i entries ++ entry ∷ []
take-next entries i entry is =
    take_more entries i entry (slice_get_within entries i entry is)
    ∙ ap (λ (e : Entry). take i entries ++ e ∷ [])
    (get_or_from_slice_get entries i entry entry is)

pub piece_after-next : (opened : Sheet) (seed : ℕ) (history : List Entry) (moment : ℕ)
    (entry : Entry) (closed other : ℕ) → slice_get history moment ≡ Some entry
    → silence (piece_after opened seed (take (moment + 1) history) closed)
    ≡ silence (apply (piece_after opened seed (take moment history) other) entry).piece
piece_after-next opened seed history moment entry closed other is =
    let before : List Entry = take moment history in
    silence-closes opened seed (take (moment + 1) history) closed 0
    ∙ (ap (λ (entries : List Entry). silence (piece_after opened seed entries 0))
    (take-next history moment entry is)
    ∙ (ap (λ (p : Piece). silence p)
    (piece_after-push opened seed before entry 0 (omega arith))
    ∙ apply-same (piece_after opened seed before 0) (piece_after opened seed before other) entry
    (silence-closes opened seed before 0 other)))

pub piece_after-from : (opened : Sheet) (seed : ℕ) (history : List Entry)
    (moment closed other : ℕ)
    → silence (piece_after opened seed history closed)
    ≡ silence (fold_entries (piece_after opened seed (take moment history) other)
    (drop moment history))
piece_after-from opened seed history moment closed other =
    let before : List Entry = take moment history in
    let rest : List Entry = drop moment history in
    silence-closes opened seed history closed 0
    ∙ (ap (λ (entries : List Entry). silence (piece_after opened seed entries 0))
    (sym (take-append-drop moment history))
    ∙ (ap (λ (p : Piece). silence p) (piece_after-append opened seed before rest 0 (omega arith))
    ∙ fold_entries-same (piece_after opened seed before 0) (piece_after opened seed before other)
    rest (silence-closes opened seed before 0 other)))

-- ---- ticks

tick-apply : (p : Piece) (entry : Entry) → (apply p entry).piece.tick ≤ p.tick + 1
unfolding apply
tick-apply p (Fill area glyph) = omega arith
tick-apply p (Put at block) = omega arith
tick-apply p (Move area to) = omega arith
tick-apply p (Resize dims) = omega arith
tick-apply p Reset = omega arith
tick-apply p Frame = omega arith
tick-apply p Hush = omega arith

pub tick-fold_entries : (p : Piece) (entries : List Entry)
    → (fold_entries p entries).tick ≤ p.tick + length entries
tick-fold_entries p [] = omega arith
tick-fold_entries p (e ∷ entries) =
    omega (arith, tick-fold_entries (apply p e).piece entries, tick-apply p e)

pub tick-piece_after : (opened : Sheet) (seed : ℕ) (history : List Entry) (closed : ℕ)
    → (piece_after opened seed history closed).tick ≤ length history
tick-piece_after opened seed history closed =
    let same : (piece_after opened seed history closed).tick
    ≡ (fold_entries (opened_piece opened seed) history).tick =
    ap (λ (p : Piece). p.tick) (silence-piece_after opened seed history closed) in
    omega (arith, same, tick-fold_entries (opened_piece opened seed) history)
