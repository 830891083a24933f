-- The files and the ports in memory.
use Rattle.std.specs.Prelude.{◌≡◌, ℕ, ◌+◌, ◌<◌, ◌==◌, ◌&&◌, ◌||◌, ◌⊎◌, Bool, true, false, is_none, if◌then◌else◌, List, [], ◌∷◌, map, length, count_by, Option, Some, Result, Ok, Err, IfSome, String, string_bytes, Vec, refl}
use Rattle.std.proofs.Common.{inl, inr}
use Rattle.std.specs.List.{list_any}
use Rattle.std.specs.Option.{option_map, option_map_or}
use Rattle.std.specs.Ordering.{nat_cmp}
use Rattle.std.specs.Str.{bytes_eq}
use Rattle.std.specs.Cmp.Lexicographic.{slice_cmp}
use Rattle.std.specs.FinMap as finite
use Rattle.std.specs.declared.alloc.Global.{Global}
use Rattle.orca_base.specs.declared.limits.TheConstants.{MAX_ROOM_BYTES}
use Rattle.orca_base.specs.declared.port.Port.{Port}
use Rattle.orca_base.specs.Ports.{Sent, is_same_port}
use Rattle.orca_rig.specs.declared.fault.OutsideFault.{OutsideFault}
use Rattle.orca_rig.specs.declared.files.Claim.{Claim}
use Rattle.orca_rig.specs.declared.files.Claim.TheVariants as claim
use Rattle.orca_rig.specs.declared.mem_files.Holds.{Holds}
use Rattle.orca_rig.specs.declared.mem_files.Call.{Call}
use Rattle.orca_rig.specs.declared.mem_files.Call.TheVariants as call
use Rattle.orca_rig.specs.Outside.{Contents, Ask}
use Rattle.orca_rig.specs.Saved.{names_of}
use Rattle.orca_rig.specs.Handed.{Attached}

-- the names that are held: that of the file that was claimed, and those that others hold
pub record Claims : Type 0 where
  pub own : Option (List ℕ)
  pub others : List (List ℕ)

-- a store in memory: its files, the calls so far, the numbers of the calls that are to fail, the
-- faults so far, how often memory was refused, the names of the files of which a save, a begin, an
-- append or a claim has failed, and the names that are held
pub record Store : Type 0 where
  pub contents : Contents
  pub asked : List Ask
  pub fail : List ℕ
  pub faults : ℕ
  pub wants : ℕ
  pub spoilt : List (List ℕ)
  pub claims : Claims

-- ports in memory: what they were given, what they were attached to, the calls that are to fail, by
-- port and number, the faults so far, and how often memory was refused
pub record Ports : Type 0 where
  pub handed : List Sent
  pub attached : List Attached
  pub fail : List (Port × ℕ)
  pub faults : ℕ
  pub wants : ℕ

-- names and bytes as clauses see them
abbrev pub named : List (String Global × Vec ℕ Global) → List (List ℕ × List ℕ)
named = map (λ file. (string_bytes file.0, file.1.items))

abbrev pub files_of : List (String Global × Vec ℕ Global) → Contents
files_of files = finite.from_entries (named files)

-- no name stands twice
abbrev pub names_differ : List (List ℕ × List ℕ) → Bool
names_differ [] = true
names_differ (file ∷ files) =
    is_none (finite.find (slice_cmp nat_cmp) file.0 files) && names_differ files

-- a call of a store as clauses see it
abbrev pub ask_of : Call → Ask
ask_of (call.Load name) = Ask.Load (string_bytes name)
ask_of (call.Save name bytes) = Ask.Save (string_bytes name) bytes.items
ask_of (call.Begin name bytes) = Ask.Begin (string_bytes name) bytes.items
ask_of (call.Append name bytes) = Ask.Append (string_bytes name) bytes.items
ask_of (call.Claim name bytes found) = Ask.Claim (string_bytes name) bytes.items found
ask_of (call.Remove name) = Ask.Remove (string_bytes name)

abbrev pub asks_of : List Call → List Ask
asks_of = map ask_of

-- whether a call is to fail, after so many: it is listed by its number, counted from 1
abbrev pub is_to_fail : List ℕ → ℕ → Bool
is_to_fail fail calls = list_any (λ number. number == calls + 1) fail

-- no file of that name can be loaded where it may have so many bytes: if there is one, it has more
abbrev pub IsUnloadable : Contents → List ℕ → ℕ → Type 0
IsUnloadable files name most = IfSome (finite.get files name) (λ bytes. most < length bytes)

-- so many bytes can't be added to the file of that name: there is none, or it would be larger than a
-- room may be
abbrev pub IsFull : Contents → List ℕ → ℕ → Type 0
IsFull files name more =
    IfSome (finite.get files name) (λ bytes. MAX_ROOM_BYTES < length bytes + more)

-- the names that are held as clauses see them
abbrev pub claims_of : Holds → Claims
claims_of holds =
    record { own = option_map string_bytes holds.own; others = names_of holds.others.items }

-- whether a file is the one that was claimed
abbrev pub is_own : Claims → List ℕ → Bool
is_own claims name = option_map_or (bytes_eq name) claims.own false

-- whether a program holds a file, if it is there: this one, or another
abbrev pub is_held : Claims → List ℕ → Bool
is_held claims name = is_own claims name || list_any (bytes_eq name) claims.others

-- what a claim of this name finds: no file, or one that a program holds, or one that none does
abbrev pub found : Store → List ℕ → Claim
found store name =
    if is_none (finite.get store.contents name) then claim.Made
    else (if is_held store.claims name then claim.Held else claim.Left)

-- what is held after a claim of this name
abbrev pub claims_after : Result Claim OutsideFault → List ℕ → Claims → Claims
claims_after (Ok claim.Made) name claims = record claims { own = Some name }
claims_after (Ok claim.Left) name claims = claims
claims_after (Ok claim.Held) name claims = claims
claims_after (Err fault) name claims = claims

-- how many pieces were given to a port
abbrev pub sends_to : Port → List Sent → ℕ
sends_to port = count_by (λ sent. is_same_port sent.port port)

-- how often a port was attached
abbrev pub attaches_to : Port → List Attached → ℕ
attaches_to port = count_by (λ attached. is_same_port attached.port port)

-- the number of the next call of a port, counted from 1 over its attaches and sends
abbrev pub next_call : Ports → Port → ℕ
next_call ports port = sends_to port ports.handed + attaches_to port ports.attached + 1

-- whether it is to fail: it is listed by its port and its number
abbrev pub is_port_to_fail : Ports → Port → Bool
is_port_to_fail ports port =
    list_any (λ call. is_same_port call.0 port && call.1 == next_call ports port) ports.fail

-- what is handed out, as clauses see it
abbrev pub sents : List (Port × Vec ℕ Global) → List Sent
sents = map (λ sent. record { port = sent.0; bytes = sent.1.items })

-- what was attached, as clauses see it
abbrev pub attaches : List (Port × String Global) → List Attached
attaches = map (λ attached. record { port = attached.0; name = string_bytes attached.1 })
