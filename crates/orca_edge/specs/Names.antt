-- Names of files, and of what hands are heard over.
use Rattle.std.specs.Prelude.{ℕ, ◌-◌, ◌≡◌, ◌≤◌, nat_lt, codes, take, Bool, true, false, if◌then◌else◌, List, [], ◌∷◌, ◌==◌, ◌||◌, not, fold, length, replicate, Option, Some, None, option_and_then, String, string_bytes}
use Rattle.std.specs.List.{list_any}
use Rattle.std.specs.Option.{is_some, unwrap_or, option_map_or}
use Rattle.std.specs.Str.{bytes_eq}
use Rattle.std.specs.declared.alloc.Global.{Global}
use Rattle.std.specs.Path.{path_join, path_parent, path_with_file_name, rsplit_once}
use Rattle.orca_edge.specs.declared.hands.Hand.{Hand}
use Rattle.orca_edge.specs.declared.real_inbox.Source.{Source}
use Rattle.orca_edge.specs.declared.real_inbox.Source.TheVariants as source
use Rattle.orca_edge.specs.declared.fresh.TheConstants.{MAX_LINKS}

-- a name with a slash (47), or without a colon (58), is that of a file; any other is an address
abbrev pub names_file : List ℕ → Bool
names_file name = list_any (λ byte. byte == 47) name || not (list_any (λ byte. byte == 58) name)

-- the name of the terminal on a leash
abbrev pub names_terminal : List ℕ → Bool
names_terminal name = bytes_eq name (codes "-")

-- to several hands a name can say both: the file of hand 0, a comma (44), and the address of the
-- others; the comma is the last one of the name, and what is before it names a file
abbrev pub file_and_address : ℕ → List ℕ → Option (List ℕ × List ℕ)
file_and_address hands name =
    if nat_lt 1 hands
    then option_and_then (λ (parts : List ℕ × List ℕ).
    if names_file parts.0 then Some parts else None) (rsplit_once 44 name)
    else None

-- what is a file, and no connection
abbrev pub is_file : {F : Type 0} → Source F → Bool
is_file source.Vacant = false
is_file (source.Connection stream) = false
is_file (source.File file) = true
is_file (source.Leashed pair) = true

-- whether a hand is heard over a file
abbrev pub is_of_file : {F : Type 0} → Hand (Source F) → Bool
is_of_file hand = is_file hand.stream

-- whether a hand is heard over the terminal on a leash
abbrev pub is_leashed : {F : Type 0} → Source F → Bool
is_leashed source.Vacant = false
is_leashed (source.Connection stream) = false
is_leashed (source.File file) = false
is_leashed (source.Leashed pair) = true

-- whether nobody is there, after one who was no player was sent away
abbrev pub is_vacant : {F : Type 0} → Source F → Bool
is_vacant source.Vacant = true
is_vacant (source.Connection stream) = false
is_vacant (source.File file) = false
is_vacant (source.Leashed pair) = false

abbrev pub is_on_leash : {F : Type 0} → Hand (Source F) → Bool
is_on_leash hand = is_leashed hand.stream

-- which of so many hands are heard over a file, hand 0 first, where what the name says was opened:
-- one that is the name of a file has opened for one hand
abbrev pub are_of_files : ℕ → List ℕ → List Bool
are_of_files hands name =
    if is_some (file_and_address hands name) then true ∷ replicate (hands - 1) false
    else (if names_file name then true ∷ [] else replicate hands false)

-- where a symbolic link leads to: its text, as it is read from the folder that the link is in
abbrev pub behind : List ℕ → List ℕ → List ℕ
behind path link = path_join (unwrap_or (path_parent path) path) link

-- a name leads to this path by some symbolic links, one after another
abbrev pub LeadsTo : List ℕ → List ℕ → Type 0
LeadsTo name path =
    (links : List (List ℕ)) × (length links ≤ MAX_LINKS) × (path ≡ fold behind name links)

-- a new file is in the folder of the one that it is to replace
abbrev pub IsBeside : List ℕ → List ℕ → List ℕ → Type 0
IsBeside fresh kept target =
    (kept ≡ target) × ((name : List ℕ) × (fresh ≡ path_with_file_name target name))

-- whether a file is the one that was claimed
abbrev pub is_own : Option (String Global) → List ℕ → Bool
is_own own name = option_map_or (λ held. bytes_eq name (string_bytes held)) own false

-- whether a journal may take the place of a file that holds this: of nothing, and of an older one,
-- which begins as each script does
abbrev pub gives_way : List ℕ → Bool
gives_way held = length held == 0 || bytes_eq (take 6 held) (codes "!orca ")
