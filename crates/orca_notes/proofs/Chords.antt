-- Notes that can sound together: how many there are at most, and how they stay so.
use Rattle.std.proofs.Common.{◌≡◌, ◌≤◌, Bool, true, false, cond, not, List, [], ◌∷◌, ◌++◌, length, refl, arith}
use Rattle.std.specs.List.{IsDistinct, AllByRecursion, filter}
use Rattle.std.proofs.lemmas.Bool.{both_ways, or_from, false_from_ne_true}
use Rattle.std.proofs.lemmas.List.{length-map, map-append}
use Rattle.std.proofs.lemmas.List.Elements.{All-nil, All-push, All-filter, recursion_from_All, All-map}
use Rattle.std.proofs.lemmas.Map.Keys.{IsDistinct-push}
use Rattle.orca_base.specs.declared.limits.TheConstants.{MAX_NOTES}
use Rattle.orca_base.specs.declared.note.Note.{Note}
use Rattle.orca_notes.specs.Device.{Voice, is_same, is_on, voice_of, voices, IsChord}
use Rattle.orca_notes.proofs.Voices.{same_voices, IsInRange, length-voices}

abbrev pub IsNote : Note → Type 0
IsNote note = IsInRange (voice_of note)

pub IsChord-nil : IsChord []
unfolding IsDistinct
IsChord-nil = record { in_range = All-nil IsNote; distinct = tt }

-- a chord by recursion
pub voices-in_range : (notes : List Note) → IsChord notes → AllByRecursion IsInRange (voices notes)
voices-in_range notes chord =
    recursion_from_All IsInRange (voices notes) (All-map IsInRange voice_of notes chord.in_range)

-- a chord has at most one note of each channel and key
pub length-IsChord : (notes : List Note) → IsChord notes → length notes ≤ MAX_NOTES
length-IsChord notes chord =
    let few = length-voices (voices notes) (voices-in_range notes chord) chord.distinct in
    omega (arith, few, length-map notes voice_of)

All-voices-cond : (P : Voice → Type 0) (b : Bool) (note : Note) (notes : List Note)
    → P (voice_of note) → AllByRecursion P (voices notes)
    → AllByRecursion P (voices (cond b (note ∷ notes) notes))
All-voices-cond P true note notes h k = (h, k)
All-voices-cond P false note notes h k = k

All-voices-filter : (P : Voice → Type 0) (test : Note → Bool) (notes : List Note)
    → AllByRecursion P (voices notes) → AllByRecursion P (voices (filter test notes))
All-voices-filter P test [] h = tt
All-voices-filter P test (note ∷ notes) h =
    All-voices-cond P (test note) note (filter test notes) h.0 (All-voices-filter P test notes h.1)

distinct-cond : (b : Bool) (note : Note) (notes : List Note)
    → AllByRecursion (λ v. is_same (voice_of note) v ≡ false) (voices notes)
    → IsDistinct is_same (voices notes) → IsDistinct is_same (voices (cond b (note ∷ notes) notes))
unfolding IsDistinct
distinct-cond true note notes h k = (h, k)
distinct-cond false note notes h k = k

distinct-filter : (test : Note → Bool) (notes : List Note)
    → IsDistinct is_same (voices notes) → IsDistinct is_same (voices (filter test notes))
unfolding IsDistinct
distinct-filter test [] h = tt
distinct-filter test (note ∷ notes) h =
    distinct-cond (test note) note (filter test notes) (All-voices-filter _ test notes h.0)
    (distinct-filter test notes h.1)

-- some notes of a chord are a chord
pub IsChord-filter : (test : Note → Bool) (notes : List Note)
    → IsChord notes → IsChord (filter test notes)
IsChord-filter test notes chord = record {
  in_range = All-filter test IsNote notes chord.in_range;
  distinct = distinct-filter test notes chord.distinct;
}

-- a chord and a note of another voice are a chord
pub IsChord-push : (notes : List Note) (note : Note) → IsChord notes
    → IsInRange (voice_of note) → is_on (voices notes) (voice_of note) ≡ false
    → IsChord (notes ++ note ∷ [])
IsChord-push notes note chord low absent = record {
  in_range = All-push IsNote notes note chord.in_range low;
  distinct =
      rw map-append
      (IsDistinct-push same_voices (voices notes) (voice_of note) chord.distinct absent);
}

absent-cond : (b : Bool) (v : Voice) (note : Note) (notes : List Note)
    → (b ≡ false → is_same v (voice_of note) ≡ false) → is_on (voices notes) v ≡ false
    → is_on (voices (cond (not b) (note ∷ notes) notes)) v ≡ false
absent-cond true v note notes h k = k
absent-cond false v note notes h k = or_from _ _ (h refl) k

-- where each note of the voice ends, the voice is off
pub is_on-filter : (test : Note → Bool) (v : Voice)
    → ((note : Note) → is_same v (voice_of note) ≡ true → test note ≡ true) → (notes : List Note)
    → is_on (voices (filter (λ note. not (test note)) notes)) v ≡ false
is_on-filter test v takes [] = refl
is_on-filter test v takes (note ∷ notes) =
    absent-cond (test note) v note (filter (λ n. not (test n)) notes)
    (λ f. false_from_ne_true _ (λ t. both_ways _ f (takes note t)))
    (is_on-filter test v takes notes)
