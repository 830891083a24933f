-- One sample more.
use Rattle.std.proofs.Common.{◌≡◌, ℕ, ◌+◌, List, [], ◌∷◌, ◌++◌, get_or, map, refl, ap, ◌∙◌, append_assoc, ℤ, w16, to_z, of_z}
use Rattle.std.specs.Int.{to_le_bytes}
use Rattle.std.specs.Int.RustNames.{FitsSigned}
use Rattle.std.specs.List.{flat_map, range_with_len}
use Rattle.std.proofs.lemmas.Int.{to_z-of_z}
use Rattle.std.proofs.lemmas.List.{append-nil}
use Rattle.std.proofs.lemmas.List.Concat.{flat_map-append}
use Rattle.orca_base.proofs.ListFacts.{range-more}
use Rattle.orca_wav.specs.Waves.{sample_at, sample_bytes}
use Rattle.orca_wav.specs.Rendering.{Rendering, next_bytes}

map-same : (xs : List ℕ) → map (λ x. x) xs ≡ xs
map-same [] = refl
map-same (x ∷ xs) = ap (λ ys. x ∷ ys) (map-same xs)

pub next_bytes-none : (s : Rendering) → next_bytes s 0 ≡ []
unfolding next_bytes
next_bytes-none s = refl

pub next_bytes-more : (s : Rendering) (n : ℕ)
    → next_bytes s (n + 1) ≡ next_bytes s n ++ sample_bytes (sample_at s.voices (s.samples + n))
unfolding next_bytes
next_bytes-more s n =
    let bytes : ℕ → List ℕ = λ k. sample_bytes (sample_at s.voices k) in
    rw (range-more s.samples n)
    (flat_map-append bytes (range_with_len s.samples n) ((s.samples + n) ∷ [])
    ∙ ap (λ bs. flat_map bytes (range_with_len s.samples n) ++ bs)
    (append-nil (bytes (s.samples + n))))

-- the two bytes that the code writes are those of the sample
pub two_bytes : (z : ℤ) (bytes : List ℕ) → FitsSigned w16 z
    → bytes ≡ to_le_bytes w16 (of_z w16 (to_z w16 (of_z w16 z)))
    → get_or bytes 0 0 ∷ get_or bytes 1 0 ∷ [] ≡ sample_bytes z
two_bytes z bytes fits e =
    let whole = e ∙ ap (λ y. to_le_bytes w16 (of_z w16 y)) (to_z-of_z w16 z fits) in
    rw whole refl

-- two bytes after what was there
pub pushed : (xs ys zs : List ℕ) (a b : ℕ) → ys ≡ xs ++ a ∷ [] → zs ≡ ys ++ b ∷ []
    → zs ≡ xs ++ (a ∷ b ∷ [])
pushed xs ys zs a b e f = f ∙ (ap (λ l. l ++ b ∷ []) e ∙ append_assoc xs (a ∷ []) (b ∷ []))
