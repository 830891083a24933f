-- The history of a session: its entries, those that jumps cut off, and the patches of the newest.
use Rattle.std.specs.Prelude.{ℕ, ◌≡◌, ◌+◌, ◌-◌, ◌<◌, ◌≤◌, true, false, List, [], ◌∷◌, ◌++◌, length, take, drop, map, min, if◌then◌else◌, nat_lt, Option, Some, None, slice_get, All}
use Rattle.std.specs.List.{remove}
use Rattle.std.specs.Option.{option_map}
use Rattle.orca_base.specs.declared.command.Entry.{Entry}
use Rattle.orca_base.specs.declared.command.Entry.TheVariants.{Hush}
use Rattle.orca_base.specs.declared.limits.TheConstants.{MAX_HISTORY, MAX_TOUCHED}
use Rattle.orca_base.specs.Histories.{done_of, few_touched, group_of, is_done, worn_of}
use Rattle.orca_history.specs.declared.ring.Kept.{Kept}
use Rattle.orca_patch.specs.Patches.{Before}

-- the most entries, the entries, those that jumps cut off and that come back first to last, the
-- number of the first entry whose patch is kept, and the patches from that entry on, each with the
-- number of cells that its entry touched
pub record Trail : Type 0 where
  pub limit : ℕ
  pub entries : List Entry
  pub tail : List Entry
  pub first : ℕ
  pub kept : List Kept

-- how many cells each of the entries touched
abbrev pub touched_of : List Kept → List ℕ
touched_of kept = map (λ k. k.touched) kept

-- an entry touched each cell that its patch gives back
pub record IsKept (k : Kept) : Type 0 where
  pub size : length k.patch.changes ≤ k.touched
  pub most : k.touched ≤ MAX_TOUCHED

-- the last entry is Hush
abbrev pub EndsInHush : List Entry → Type 0
EndsInHush entries = slice_get entries (length entries - 1) ≡ Some Hush

-- what holds of every history: the entries are at most as many as the limit says, and with the tail
-- one more; no Hush was cut off, and a Hush stands where entries were; each entry from the first one
-- on has its patch, and the patches may be kept together
pub record IsTrail (t : Trail) : Type 0 where
  pub some : 1 ≤ t.limit
  pub most : t.limit ≤ MAX_HISTORY
  pub within : length t.entries ≤ t.limit
  pub both : length t.entries + length t.tail ≤ t.limit + 1
  pub done : All (λ e. is_done e ≡ true) t.tail
  pub hushed : 0 < length t.tail → EndsInHush t.entries
  pub each : t.first + length t.kept ≡ length t.entries
  pub few : few_touched (touched_of t.kept) ≡ true
  pub sizes : All IsKept t.kept

-- no entry, with a limit
abbrev pub trail_at_start : ℕ → Trail
trail_at_start limit = record { limit = limit; entries = []; tail = []; first = 0; kept = [] }

-- a push: the entry and its patch are added, what was cut off is lost, and of the patches the oldest
-- go that the others leave no room for
abbrev pub trail_pushed : Trail → Entry → Kept → Trail
trail_pushed t entry newest =
    let kept : List Kept = t.kept ++ newest ∷ [] in
    let worn : ℕ = worn_of (touched_of kept) in
    record {
      limit = t.limit;
      entries = t.entries ++ entry ∷ [];
      tail = [];
      first = t.first + worn;
      kept = drop worn kept;
    }

-- the patch of an entry that touched nothing
abbrev pub untouched : Before → Kept
untouched patch = record { patch = patch; touched = 0 }

-- a jump: the first entries stay, and then comes Hush; the others are cut off
abbrev pub trail_jumped : Trail → ℕ → Before → Trail
trail_jumped t moment patch = record {
  limit = t.limit;
  entries = take moment t.entries ++ Hush ∷ [];
  tail = done_of (drop moment t.entries) ++ t.tail;
  first = min t.first moment;
  kept = take (moment - t.first) t.kept ++ untouched patch ∷ [];
}

-- a redo: in place of the last Hush the group comes back, and then comes Hush again
abbrev pub trail_redone : Trail → Before → Trail
trail_redone t patch =
    let group : ℕ = group_of t.tail in
    record {
      limit = t.limit;
      entries = take (length t.entries - 1) t.entries ++ (take group t.tail ++ Hush ∷ []);
      tail = drop group t.tail;
      first = length t.entries + group - 1;
      kept = untouched patch ∷ [];
    }

-- a Retract: one entry is taken out, and then comes Hush, which alone has a patch; the tail is lost
abbrev pub trail_retracted : Trail → ℕ → Before → Trail
trail_retracted t moment patch = record {
  limit = t.limit;
  entries = remove t.entries moment ++ Hush ∷ [];
  tail = [];
  first = length t.entries - 1;
  kept = untouched patch ∷ [];
}

-- the patch of an entry, if it is kept
abbrev pub patch_at : Trail → ℕ → Option Before
patch_at t n =
    if nat_lt n t.first then None else option_map (λ k. k.patch) (slice_get t.kept (n - t.first))

-- after a push the new entry has its patch, and each entry before it has the patch that it had, if
-- it isn't worn
abbrev pub PushedLaw : Type 0
PushedLaw =
    (t : Trail) (entry : Entry) (newest : Kept) → IsTrail t → IsKept newest
    → (patch_at (trail_pushed t entry newest) (length t.entries) ≡ Some newest.patch)
    × ((n : ℕ) → (trail_pushed t entry newest).first ≤ n → n < length t.entries
    → patch_at (trail_pushed t entry newest) n ≡ patch_at t n)

-- after a jump its Hush has its patch, and each entry before it has the patch that it had
abbrev pub JumpedLaw : Type 0
JumpedLaw =
    (t : Trail) (moment : ℕ) (patch : Before) → IsTrail t → moment < length t.entries
    → (patch_at (trail_jumped t moment patch) moment ≡ Some patch)
    × ((n : ℕ) → n < moment → patch_at (trail_jumped t moment patch) n ≡ patch_at t n)

-- after a redo its Hush, which is the last entry, has its patch, and no entry before it has one
abbrev pub RedoneLaw : Type 0
RedoneLaw =
    (t : Trail) (patch : Before) → 0 < length t.entries
    → (patch_at (trail_redone t patch) (length t.entries + group_of t.tail - 1) ≡ Some patch)
    × ((n : ℕ) → n < length t.entries + group_of t.tail - 1
    → patch_at (trail_redone t patch) n ≡ None)

-- so it is after a Retract
abbrev pub RetractedLaw : Type 0
RetractedLaw =
    (t : Trail) (moment : ℕ) (patch : Before) → 0 < length t.entries
    → (patch_at (trail_retracted t moment patch) (length t.entries - 1) ≡ Some patch)
    × ((n : ℕ) → n < length t.entries - 1
    → patch_at (trail_retracted t moment patch) n ≡ None)

-- of the patches of a history as few are worn as serve: those that stay may be kept together, and
-- where fewer go those that stay may not
abbrev pub WornLaw : Type 0
WornLaw =
    (touched : List ℕ)
    → (few_touched (drop (worn_of touched) touched) ≡ true)
    × ((n : ℕ) → n < worn_of touched → few_touched (drop n touched) ≡ false)
