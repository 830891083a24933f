-- What a save, a begin, an append, a claim and a removal leave.
use Rattle.std.specs.Prelude.{◌≡◌, ◌≢◌, ◌≤◌, ℕ, Bool, true, false, ◌||◌, List, length, ◌++◌, map, Option, Some, None, IfSome, IsSome, Result, Ok, Err, ◌⊎◌, String, string_bytes}
use Rattle.std.specs.List.{list_any}
use Rattle.std.specs.Option.{option_map}
use Rattle.std.specs.Str.{bytes_eq}
use Rattle.std.specs.FinMap.{get, insert, remove}
use Rattle.std.specs.declared.alloc.Global.{Global}
use Rattle.orca_base.specs.declared.limits.TheConstants.{MAX_ROOM_BYTES}
use Rattle.orca_rig.specs.declared.fault.OutsideFault.{OutsideFault}
use Rattle.orca_rig.specs.declared.fault.OutsideFault.TheVariants.{Failed, Memory}
use Rattle.orca_rig.specs.declared.files.Claim.{Claim}
use Rattle.orca_rig.specs.declared.files.Claim.TheVariants.{Made, Left, Held}
use Rattle.orca_rig.specs.Outside.{Contents}

-- every file but the one of this name is as before
abbrev pub OthersStay : List ℕ → Option Contents → Option Contents → Type 0
OthersStay name (Some old) (Some new) =
    (other : List ℕ) → other ≢ name → get new other ≡ get old other
OthersStay name None None = Unit {0}
OthersStay name old new = ⊥

-- after a save, and a begin, the file of this name holds exactly these bytes; after a failure it may
-- hold any, and the others are as before; where memory was refused all are as before
abbrev pub IsSaved : {T : Type 0}
    → Result T OutsideFault → List ℕ → List ℕ → Option Contents → Option Contents → Type 0
IsSaved (Ok done) name bytes old new = new ≡ option_map (λ files. insert files name bytes) old
IsSaved (Err Failed) name bytes old new = OthersStay name old new
IsSaved (Err Memory) name bytes old new = new ≡ old

-- bytes were added to the file of a name, which was there, and every other file is as before
abbrev pub HasMore : List ℕ → List ℕ → Option Contents → Option Contents → Type 0
HasMore name more (Some old) (Some new) =
    (held : List ℕ) × (get old name ≡ Some held) × (new ≡ insert old name (held ++ more))
HasMore name more None None = Unit {0}
HasMore name more old new = ⊥

-- after an append the file of this name has these bytes at its end; after a failure it has a
-- beginning of them, and where there was nothing to add to all are as before; so they are where
-- memory was refused
abbrev pub IsAppended : {T : Type 0}
    → Result T OutsideFault → List ℕ → List ℕ → Option Contents → Option Contents → Type 0
IsAppended (Ok done) name bytes old new = HasMore name bytes old new
IsAppended (Err Failed) name bytes old new =
    (new ≡ old) ⊎ ((more rest : List ℕ) × (bytes ≡ more ++ rest) × HasMore name more old new)
IsAppended (Err Memory) name bytes old new = new ≡ old

-- the file of this name is no larger than a room may be, where it is told
abbrev pub HasRoom : List ℕ → Option Contents → Type 0
HasRoom name files =
    IfSome files (λ held. IfSome (get held name) (λ bytes. length bytes ≤ MAX_ROOM_BYTES))

-- the file of this name is there, where it is told
abbrev pub IsThere : List ℕ → Option Contents → Type 0
IsThere name files = IfSome files (λ held. IsSome (get held name))

-- a claim made the file of this name with exactly these bytes where none was there; where one was,
-- all are as before; so they are where memory was refused; after a failure the file may hold any
-- bytes, and the others are as before
abbrev pub IsClaimed : Result Claim OutsideFault → List ℕ → List ℕ
    → Option Contents → Option Contents → Type 0
IsClaimed (Ok Made) name bytes old new =
    IfSome old (λ files. get files name ≡ None)
    × (new ≡ option_map (λ files. insert files name bytes) old)
IsClaimed (Ok Left) name bytes old new = IsThere name old × (new ≡ old)
IsClaimed (Ok Held) name bytes old new = IsThere name old × (new ≡ old)
IsClaimed (Err Failed) name bytes old new = OthersStay name old new
IsClaimed (Err Memory) name bytes old new = new ≡ old

-- the names of the files that a program holds, this one or another
abbrev pub Holds : Type 0
Holds = List ℕ → Bool

-- a claim tells a file that is there as held exactly where a program holds it, where that is told
abbrev pub IsFound : Result Claim OutsideFault → List ℕ → Option Holds → Type 0
IsFound (Ok Made) name held = Unit {0}
IsFound (Ok Left) name held = IfSome held (λ holds. holds name ≡ false)
IsFound (Ok Held) name held = IfSome held (λ holds. holds name ≡ true)
IsFound (Err fault) name held = Unit {0}

-- after a claim that made its file this program holds that, where it is told; after any other claim
-- the same files are held
abbrev pub IsHeldAfter : Result Claim OutsideFault → List ℕ → Option Holds → Option Holds → Type 0
IsHeldAfter (Ok Made) name old new = IfSome new (λ holds. holds name ≡ true)
IsHeldAfter (Ok Left) name old new = new ≡ old
IsHeldAfter (Ok Held) name old new = new ≡ old
IsHeldAfter (Err fault) name old new = new ≡ old

-- after a removal there is no file of this name; where it was not removed all are as before
abbrev pub IsRemoved : {T : Type 0}
    → Result T OutsideFault → List ℕ → Option Contents → Option Contents → Type 0
IsRemoved (Ok done) name old new = new ≡ option_map (λ files. remove files name) old
IsRemoved (Err fault) name old new = new ≡ old

-- names as clauses see them
abbrev pub names_of : List (String Global) → List (List ℕ)
names_of = map string_bytes

-- whether the file of a name is spoilt, where these are
abbrev pub is_spoilt : List (List ℕ) → List ℕ → Bool
is_spoilt spoilt name = list_any (bytes_eq name) spoilt

-- whether a file is spoilt after a save, a begin, an append or a claim of the file of this name: it
-- is if it was, and if it has this name and the call has failed
abbrev pub spoilt_after : {T : Type 0} → Result T OutsideFault → List ℕ → List ℕ → Bool → Bool
spoilt_after (Ok done) name file was = was
spoilt_after (Err Failed) name file was = bytes_eq file name || was
spoilt_after (Err Memory) name file was = was
