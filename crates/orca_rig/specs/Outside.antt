-- What the objects of the outside hold, and how they count their faults and keep their calls.
use Rattle.std.specs.Prelude.{ℕ, ◌^◌, ◌+◌, ◌-◌, min, ◌<◌, ◌≡◌, ◌⊎◌, List, [], ◌∷◌, ◌++◌, Option, Result, Ok, Err}
use Rattle.std.specs.Option.{option_map}
use Rattle.std.specs.Ordering.{nat_cmp}
use Rattle.std.specs.Cmp.Lexicographic.{slice_cmp}
use Rattle.std.specs.FinMap.{FinMap}
use Rattle.std.specs.FinMap as finite
use Rattle.std.specs.Coded.{Coded, coded_list, coded_ℕ}
use Rattle.orca_rig.specs.declared.fault.OutsideFault.{OutsideFault}
use Rattle.orca_rig.specs.declared.fault.OutsideFault.TheVariants.{Failed, Memory}
use Rattle.orca_rig.specs.declared.files.Claim.{Claim as Claimed}

-- files: a finite map from names to bytes
abbrev pub Contents : Type 0
Contents = FinMap (slice_cmp nat_cmp) (List ℕ)

-- what tells the contents of two stores apart
abbrev pub contents_code : Coded Contents
contents_code = finite.code (coded_list coded_ℕ) (coded_list coded_ℕ)

-- a call of a store: a load of the file of this name, a save of these bytes under this name, a
-- begin of a file of this name with these bytes, an append of these bytes to the file of this name,
-- a claim of this name with these bytes and what it found, unless it failed, or a removal of the
-- file of this name
pub data Ask : Type 0 where
  Load : List ℕ → Ask
  Save : List ℕ → List ℕ → Ask
  Begin : List ℕ → List ℕ → Ask
  Append : List ℕ → List ℕ → Ask
  Claim : List ℕ → List ℕ → Option Claimed → Ask
  Remove : List ℕ → Ask

-- the last value of a counter of 64 bits, where it stands still
abbrev pub last_count : ℕ
last_count = 2 ^ 64 - 1

-- a count rose: it is greater than before, or stands at its last value
abbrev pub Rose : ℕ → ℕ → Type 0
Rose before now = (before < now) ⊎ (now ≡ last_count)

-- a call is kept, where the calls are told, unless memory was refused
abbrev pub after_call : {T A : Type 0}
    → Result T OutsideFault → A → Option (List A) → Option (List A)
after_call (Ok done) call calls = option_map (λ before. before ++ call ∷ []) calls
after_call (Err Failed) call calls = option_map (λ before. before ++ call ∷ []) calls
after_call (Err Memory) call calls = calls

-- how often memory was refused, after a call: it is counted too, up to the last value
abbrev pub wants_after : {T : Type 0} → Result T OutsideFault → ℕ → ℕ
wants_after (Ok done) wants = wants
wants_after (Err Failed) wants = wants
wants_after (Err Memory) wants = min (wants + 1) last_count
