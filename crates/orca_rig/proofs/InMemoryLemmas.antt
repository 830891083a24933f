-- Files and pieces in memory, as the code goes over them.
use Rattle.std.proofs.Common.{◌≡◌, ℕ, zero, suc, ◌+◌, ◌<◌, ◌≤◌, Bool, true, false, not, cond, List, [], ◌∷◌, ◌++◌, filter, length, get_or, drop, refl, sym, ◌∙◌, ap, Some, String, string_bytes, Vec, count_by, arith, subst}
use Rattle.std.specs.Prelude.{None, Option, nat_lt, position}
use Rattle.std.proofs.lemmas.Bool.{ltb-true}
use Rattle.std.proofs.lemmas.Bool.Decides.{nat_tests}
use Rattle.std.proofs.Math.ListN.{set}
use Rattle.std.proofs.lemmas.List.{drop_more, map-append}
use Rattle.std.proofs.lemmas.List.Sums.{sum_by-cons, passes_at_first, fails_before_first}
use Rattle.std.proofs.lemmas.Map.Text.{is_eq-slice_cmp}
use Rattle.std.proofs.lemmas.Slice.Eq.{bytes_eq-Decides}
use Rattle.std.specs.List.{position_or_len}
use Rattle.std.specs.Str.{bytes_eq}
use Rattle.std.specs.Ordering.{nat_cmp}
use Rattle.std.proofs.lemmas.Cmp.{nat_list_cmp_total}
use Rattle.std.specs.Cmp.Lexicographic.{slice_cmp}
use Rattle.std.specs.FinMap.{get, find, insert, remove, from_entries, get-from_entries, get-insert, get-remove, same_map, from_entries_push, nat_cmp-IsAntisymmetric, slice_cmp-IsAntisymmetric}
use Rattle.std.specs.declared.alloc.Global.{Global}
use Rattle.orca_base.specs.declared.limits.TheConstants.{MAX_ROOM_BYTES}
use Rattle.orca_base.specs.declared.port.Port.{Port}
use Rattle.orca_base.specs.Ports.{is_same_port}
use Rattle.orca_rig.specs.Outside.{Contents}
use Rattle.orca_rig.specs.Saved.{HasRoom}
use Rattle.orca_rig.specs.InMemory.{named, files_of, sents, sends_to, attaches, attaches_to}

-- a file: its name and its bytes
abbrev pub File : Type 0
File = String Global × Vec ℕ Global

-- the bytes of the first file of a name
abbrev pub bytes_at : List ℕ → List File → Option (List ℕ)
bytes_at name files = find (slice_cmp nat_cmp) name (named files)

-- whether a file has the name
abbrev pub has_name : List ℕ → File → Bool
has_name name file = bytes_eq name (string_bytes file.0)

-- whether it has another
abbrev pub has_other : List ℕ → File → Bool
has_other name file = not (has_name name file)

-- what the files hold at a name is the first file of that name
pub get_files_of : (files : List File) (name : List ℕ)
    → get (files_of files) name ≡ bytes_at name files
get_files_of files name = get-from_entries nat_list_cmp_total (named files) name

-- the file at an index is found where it has the name
pub find_here : (files : List File) (i : ℕ) (file : File) (name : List ℕ)
    → file ≡ get_or files i file → i < length files → has_name name file ≡ true
    → bytes_at name (drop i files) ≡ Some file.1.items
find_here files i file name is h same =
    rw (drop_more files i file h, ← is, is_eq-slice_cmp, same) refl

-- it is passed over where it has another
pub find_later : (files : List File) (i : ℕ) (file : File) (name : List ℕ)
    → file ≡ get_or files i file → i < length files → has_name name file ≡ false
    → bytes_at name (drop i files) ≡ bytes_at name (drop (i + 1) files)
find_later files i file name is h other =
    rw (drop_more files i file h, ← is, is_eq-slice_cmp, other) refl

-- the pieces of a port, counted as they are kept
pub sends_to_sents : (port : Port) (pieces : List (Port × Vec ℕ Global))
    → sends_to port (sents pieces) ≡ count_by (λ piece. is_same_port piece.0 port) pieces
sends_to_sents port [] = refl
sends_to_sents port (piece ∷ pieces) =
    rw (sum_by-cons, sum_by-cons)
    (ap (λ n. cond (is_same_port piece.0 port) 1 0 + n) (sends_to_sents port pieces))

-- the attaches of a port, counted as they are kept
pub attaches_to_attaches : (port : Port) (names : List (Port × String Global))
    → attaches_to port (attaches names) ≡ count_by (λ name. is_same_port name.0 port) names
attaches_to_attaches port [] = refl
attaches_to_attaches port (name ∷ names) =
    rw (sum_by-cons, sum_by-cons)
    (ap (λ n. cond (is_same_port name.0 port) 1 0 + n) (attaches_to_attaches port names))

-- two bytes strings that `==` tells equal are equal
same_bytes : (xs ys : List ℕ) → bytes_eq xs ys ≡ true → xs ≡ ys
same_bytes xs ys same = (bytes_eq-Decides xs ys).0 same

same_bytes_back : (xs ys : List ℕ) → xs ≡ ys → bytes_eq xs ys ≡ true
same_bytes_back xs ys same = (bytes_eq-Decides xs ys).1 same

cond_twice : {A : Type 0} (b : Bool) (x y z : A) → cond b x z ≡ cond b x (cond b y z)
cond_twice true x y z = refl
cond_twice false x y z = refl

cond_alike : {A : Type 0} (b : Bool) (x : A) → x ≡ cond b x x
cond_alike true x = refl
cond_alike false x = refl

cond_exchange : {A : Type 0} (a b : Bool) (x y z : A) → (a ≡ true → b ≡ true → ⊥)
    → cond a x (cond b y z) ≡ cond b y (cond a x z)
cond_exchange true true x y z not_both = absurd (not_both refl refl)
cond_exchange true false x y z not_both = refl
cond_exchange false b x y z not_both = refl

-- other bytes at the first place of a name: this name has them, and the others have what they had
find_over : (files : List File) (i : ℕ) (name : List ℕ) (bytes : Vec ℕ Global) (d : File)
    (q : List ℕ)
    → i < length files → string_bytes (get_or files i d).0 ≡ name
    → ((k : ℕ) → k < i → has_name name (get_or files k d) ≡ false)
    → bytes_at q (set files i ((get_or files i d).0, bytes))
    ≡ cond (bytes_eq q name) (Some bytes.items) (bytes_at q files)
find_over [] i name bytes d q within is before = absurd (omega arith)
find_over (file ∷ files) zero name bytes d q within is before =
    rw (is_eq-slice_cmp, is)
    (cond_twice (bytes_eq q name) (Some bytes.items) (Some file.1.items) (bytes_at q files))
find_over (file ∷ files) (suc i) name bytes d q within is before =
    let earlier : (k : ℕ) → k < i → has_name name (get_or files k d) ≡ false =
    λ k below. before (suc k) (omega arith) in
    let rest = find_over files i name bytes d q (omega arith) is earlier in
    let other : has_name name file ≡ false = before 0 (omega arith) in
    let held = string_bytes file.0 in
    rw (is_eq-slice_cmp, rest)
    (cond_exchange (bytes_eq q held) (bytes_eq q name) (Some file.1.items) (Some bytes.items)
    (bytes_at q files)
    (λ first second.
    let same : name ≡ held = sym (same_bytes q name second) ∙ same_bytes q held first in
    absurd (cc (sym other ∙ same_bytes_back name held same))))

-- a file that may be as large as these bytes are is no larger than a room may be
pub has_room_after : (files after : Contents) (name held bytes : List ℕ)
    → after ≡ insert files held bytes → held ≡ name → length bytes ≤ MAX_ROOM_BYTES
    → HasRoom name (Some after)
has_room_after files after name held bytes is same short =
    rw (
      is,
      same,
      get-insert nat_list_cmp_total files name bytes name,
      is_eq-slice_cmp,
      same_bytes_back name name refl,
    ) short

-- the first place of a name
abbrev pub place_of : List ℕ → List File → ℕ
place_of name = position_or_len (has_name name)

-- a file that is held is written over
pub files_of_over : (files : List File) (i : ℕ) (file : File) (name : List ℕ) (bytes : Vec ℕ Global)
    → i ≡ place_of name files → i < length files → file ≡ get_or files i file
    → files_of (set files i (file.0, bytes)) ≡ insert (files_of files) name bytes.items
files_of_over files i file name bytes at within is =
    let named_so : has_name name (get_or files i file) ≡ true =
    rw at (passes_at_first (has_name name) files file (rw at at within)) in
    let same : string_bytes (get_or files i file).0 ≡ name =
    sym (same_bytes name (string_bytes (get_or files i file).0) named_so) in
    let before : (k : ℕ) → k < i → has_name name (get_or files k file) ≡ false =
    λ k below. fails_before_first (has_name name) files k file (rw at at below) in
    same_map nat_list_cmp_total (slice_cmp-IsAntisymmetric nat_cmp-IsAntisymmetric)
    (files_of (set files i (file.0, bytes))) (insert (files_of files) name bytes.items)
    (λ q.
    get_files_of (set files i (file.0, bytes)) q
    ∙ (ap (λ (f : File). bytes_at q (set files i (f.0, bytes))) is
    ∙ (find_over files i name bytes file q within same before
    ∙ rw (
      get-insert nat_list_cmp_total (files_of files) name bytes.items q,
      is_eq-slice_cmp,
      get_files_of files q,
    ) refl)))

-- a name that stands at no place
find_none_at : (b : Bool) (file : File) (files : List File) (name : List ℕ)
    → has_name name file ≡ b → suc (length files) ≤ cond (not b) (1 + place_of name files) 0
    → (length files ≤ place_of name files → bytes_at name files ≡ None)
    → bytes_at name (file ∷ files) ≡ None
find_none_at true file files name is none rest = absurd (omega arith)
find_none_at false file files name is none rest = rw (is_eq-slice_cmp, is) (rest (omega arith))

find_none : (files : List File) (name : List ℕ) → length files ≤ place_of name files
    → bytes_at name files ≡ None
find_none [] name none = refl
find_none (file ∷ files) name none =
    find_none_at (has_name name file) file files name refl none (find_none files name)

-- a file that isn't held is added
pub files_of_push : (files : List File) (file : File)
    → length files ≤ place_of (string_bytes file.0) files
    → files_of (files ++ file ∷ []) ≡ insert (files_of files) (string_bytes file.0) file.1.items
files_of_push files file none =
    let name = string_bytes file.0 in
    ap (λ (entries : List (List ℕ × List ℕ)). from_entries {R = slice_cmp nat_cmp} entries)
    (map-append _ files (file ∷ []))
    ∙ from_entries_push nat_list_cmp_total (slice_cmp-IsAntisymmetric nat_cmp-IsAntisymmetric)
    (named files) name file.1.items (find_none files name none)

placed_at : (place len i : ℕ) (b : Bool) → nat_lt place len ≡ b
    → cond b (Some place) None ≡ Some i → (i ≡ place) × (i < len)
placed_at place len i true below is =
    let same : i ≡ place = cc in
    (same, subst (λ (n : ℕ). n < len) (sym same) (ltb-true place len below))
placed_at place len i false below is = cc

unplaced_at : (place len : ℕ) (b : Bool) → nat_lt place len ≡ b
    → ◌≡◌ {A = Option ℕ} (cond b (Some place) None) None → len ≤ place
unplaced_at place len true below is = cc
unplaced_at place len false below is = grind (arith, nat_tests)

-- the place that is found
pub placed : (files : List File) (name : List ℕ) (i : ℕ) → position (has_name name) files ≡ Some i
    → (i ≡ place_of name files) × (i < length files)
placed files name i is =
    let place = place_of name files in
    placed_at place (length files) i (nat_lt place (length files)) refl is

pub unplaced : (files : List File) (name : List ℕ) → position (has_name name) files ≡ None
    → length files ≤ place_of name files
unplaced files name is =
    let place = place_of name files in
    unplaced_at place (length files) (nat_lt place (length files)) refl is

without_at : (same : Bool) (file : File) (files : List File) (name q : List ℕ)
    → has_name name file ≡ same
    → bytes_at q (filter (has_other name) files)
    ≡ cond (bytes_eq q name) None (bytes_at q files)
    → bytes_at q (filter (has_other name) (file ∷ files))
    ≡ cond (bytes_eq q name) None (bytes_at q (file ∷ files))
without_at true file files name q is rest =
    let held = string_bytes file.0 in
    let same : name ≡ held = same_bytes name held is in
    rw (is, is_eq-slice_cmp, rest, ← same)
    (cond_twice (bytes_eq q name) None (Some file.1.items) (bytes_at q files))
without_at false file files name q is rest =
    let held = string_bytes file.0 in
    rw (is, is_eq-slice_cmp, rest)
    (cond_exchange (bytes_eq q held) (bytes_eq q name) (Some file.1.items) None
    (bytes_at q files)
    (λ first second.
    let same : name ≡ held = sym (same_bytes q name second) ∙ same_bytes q held first in
    absurd (cc (sym is ∙ same_bytes_back name held same))))

-- without the files of a name this name has nothing, and the others have what they had
find_without : (files : List File) (name q : List ℕ)
    → bytes_at q (filter (has_other name) files) ≡ cond (bytes_eq q name) None (bytes_at q files)
find_without [] name q = cond_alike (bytes_eq q name) None
find_without (file ∷ files) name q =
    without_at (has_name name file) file files name q refl (find_without files name q)

-- a file is taken away
pub files_of_without : (files : List File) (name : List ℕ)
    → files_of (filter (has_other name) files) ≡ remove (files_of files) name
files_of_without files name =
    same_map nat_list_cmp_total (slice_cmp-IsAntisymmetric nat_cmp-IsAntisymmetric)
    (files_of (filter (has_other name) files)) (remove (files_of files) name)
    (λ q.
    get_files_of (filter (has_other name) files) q
    ∙ (find_without files name q
    ∙ rw (
      get-remove nat_list_cmp_total (files_of files) name q,
      is_eq-slice_cmp,
      get_files_of files q,
    ) refl))
