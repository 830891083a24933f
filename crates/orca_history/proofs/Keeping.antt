-- What a push, a jump and a redo keep.
use Rattle.std.proofs.Common.{◌≡◌, ℕ, ◌+◌, ◌-◌, ◌<◌, ◌≤◌, [], ◌∷◌, ◌++◌, length, take, drop, min, Option, Some, None, refl, arith, ap, sym, ◌∙◌, inl, inr, length-append}
use Rattle.std.specs.Prelude.{slice_get}
use Rattle.std.specs.Option.{option_map}
use Rattle.std.proofs.lemmas.Bool.{cases_lt, le-ltb, lt-ltb}
use Rattle.std.proofs.lemmas.List.{length-map, length-take, length-take-le}
use Rattle.std.proofs.lemmas.List.Elements.{All-push, All-take}
use Rattle.circular_buffer.proofs.Places.{slice_get-append_left, slice_get-drop, slice_get-last, slice_get-take}
use Rattle.orca_base.specs.declared.command.Entry.{Entry}
use Rattle.orca_base.specs.declared.command.Entry.TheVariants.{Hush}
use Rattle.orca_base.specs.Histories.{done_of, few_touched, worn_of}
use Rattle.orca_base.proofs.WornFacts.{few-length}
use Rattle.orca_history.specs.declared.ring.Kept.{Kept}
use Rattle.orca_history.specs.Trails.{Trail, IsKept, IsTrail, patch_at, touched_of, trail_jumped, trail_pushed, untouched}
use Rattle.orca_history.proofs.Room.{cut-most, lists-jumped}
use Rattle.orca_history.proofs.Worn.{few-kept, few-more, few-one, touched-more, worn-newest}
use Rattle.orca_patch.specs.Patches.{Before}

-- ---- a jump

pub IsTrail-jumped : (t : Trail) (moment : ℕ) (patch : Before) → IsTrail t
    → moment < length t.entries → patch.changes ≡ [] → IsTrail (trail_jumped t moment patch)
IsTrail-jumped t moment patch trail below still =
    let count : ℕ = moment - t.first in
    let lists = lists-jumped t.entries t.tail moment trail.done in
    let long : length (take moment t.entries ++ Hush ∷ []) ≡ moment + 1 =
    omega (
      arith,
      length-append (take moment t.entries) (Hush ∷ []),
      length-take-le moment t.entries (omega (arith, below)),
    ) in
    let touched = length-map (take count t.kept) (λ (k : Kept). k.touched) in
    record {
      some = trail.some;
      most = trail.most;
      within = omega (arith, trail.within, below, long);
      both = omega (
        arith,
        cut-most t.entries moment (length t.tail) (t.limit + 1) below trail.hushed trail.both
            (inr (omega (arith, trail.within))),
        long,
        length-append (done_of (drop moment t.entries)) t.tail,
      );
      done = lists.done;
      hushed = lists.hushed;
      each = omega (
        arith,
        trail.each,
        below,
        long,
        length-append (take count t.kept) (untouched patch ∷ []),
        length-take count t.kept,
      );
      few = ap few_touched (touched-more (take count t.kept) (untouched patch))
          ∙ few-more (touched_of (take count t.kept)) (few-kept count t.kept trail.few)
          (omega (
            arith,
            touched,
            length-take count t.kept,
            trail.each,
            below,
            few-length (touched_of t.kept) trail.few,
            length-map t.kept (λ (k : Kept). k.touched),
          ));
      sizes = All-push IsKept (take count t.kept) (untouched patch)
          (All-take IsKept count t.kept trail.sizes)
          (record { size = omega (arith, ap length still); most = omega arith });
    }

-- ---- patches

-- the patch of an entry from the first one on
kept : (t : Trail) (n : ℕ) → t.first ≤ n
    → patch_at t n ≡ option_map (λ k. k.patch) (slice_get t.kept (n - t.first))
kept t n above = rw (le-ltb n t.first above) refl

-- of an entry before the first one there is none
gone : (t : Trail) (n : ℕ) → n < t.first → patch_at t n ≡ None
gone t n below = rw (lt-ltb n t.first below) refl

-- the same patch of two histories
same-kept : (t s : Trail) (n : ℕ) → t.first ≤ n → s.first ≤ n
    → slice_get s.kept (n - s.first) ≡ slice_get t.kept (n - t.first) → patch_at s n ≡ patch_at t n
same-kept t s n above above-too same =
    kept s n above-too ∙ (ap (λ (o : Option Kept). option_map (λ k. k.patch) o) same
    ∙ sym (kept t n above))

-- ---- a push

-- the newest patch stays
worn-most : (t : Trail) (newest : Kept) → IsKept newest
    → worn_of (touched_of (t.kept ++ newest ∷ [])) ≤ length t.kept
worn-most t newest is =
    omega (
      arith,
      ap worn_of (touched-more t.kept newest),
      worn-newest (touched_of t.kept) newest.touched (few-one newest.touched is.most),
      length-map t.kept (λ (k : Kept). k.touched),
    )

pub newest-pushed : (t : Trail) (entry : Entry) (newest : Kept) → IsTrail t → IsKept newest
    → patch_at (trail_pushed t entry newest) (length t.entries) ≡ Some newest.patch
newest-pushed t entry newest trail is =
    let worn : ℕ = worn_of (touched_of (t.kept ++ newest ∷ [])) in
    let most : worn ≤ length t.kept = worn-most t newest is in
    kept (trail_pushed t entry newest) (length t.entries) (omega (arith, trail.each, most))
    ∙ ap (λ (o : Option Kept). option_map (λ k. k.patch) o)
    (slice_get-drop worn (t.kept ++ newest ∷ []) (length t.entries - (t.first + worn))
    (length t.kept) (omega (arith, trail.each, most))
    ∙ slice_get-last t.kept newest (length t.kept) refl)

pub kept-pushed : (t : Trail) (entry : Entry) (newest : Kept) (n : ℕ) → IsTrail t
    → (trail_pushed t entry newest).first ≤ n → n < length t.entries
    → patch_at (trail_pushed t entry newest) n ≡ patch_at t n
kept-pushed t entry newest n trail above below =
    let worn : ℕ = worn_of (touched_of (t.kept ++ newest ∷ [])) in
    same-kept t (trail_pushed t entry newest) n (omega (arith, above)) above
    (slice_get-drop worn (t.kept ++ newest ∷ []) (n - (t.first + worn)) (n - t.first)
    (omega (arith, above))
    ∙ slice_get-append_left t.kept (newest ∷ []) (n - t.first)
    (omega (arith, trail.each, above, below)))

-- ---- a jump

pub newest-jumped : (t : Trail) (moment : ℕ) (patch : Before) → IsTrail t
    → moment < length t.entries → patch_at (trail_jumped t moment patch) moment ≡ Some patch
newest-jumped t moment patch trail below =
    kept (trail_jumped t moment patch) moment (omega arith)
    ∙ ap (λ (o : Option Kept). option_map (λ k. k.patch) o)
    (slice_get-last (take (moment - t.first) t.kept) (untouched patch) (moment - min t.first moment)
    (omega (arith, length-take (moment - t.first) t.kept, trail.each, below)))

pub kept-jumped : (t : Trail) (moment : ℕ) (patch : Before) (n : ℕ) → IsTrail t
    → moment < length t.entries → n < moment
    → patch_at (trail_jumped t moment patch) n ≡ patch_at t n
kept-jumped t moment patch n trail below earlier = elim (cases_lt n t.first) [
  | inl before ↦
      gone (trail_jumped t moment patch) n (omega (arith, before, earlier))
      ∙ sym (gone t n before)
  | inr above ↦
      let count : ℕ = moment - t.first in
      let first : min t.first moment ≡ t.first = omega (arith, above, earlier) in
      same-kept t (trail_jumped t moment patch) n above (omega (arith, above))
      (ap (λ (k : ℕ). slice_get (take count t.kept ++ untouched patch ∷ []) (n - k)) first
      ∙ (slice_get-append_left (take count t.kept) (untouched patch ∷ []) (n - t.first)
      (omega (arith, length-take count t.kept, trail.each, below, above, earlier))
      ∙ slice_get-take count t.kept (n - t.first) (omega (arith, above, earlier))))
]
