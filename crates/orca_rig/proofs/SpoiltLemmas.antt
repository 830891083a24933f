-- The names of the spoilt files, as the code goes over them.
use Rattle.std.proofs.Common.{◌≡◌, ℕ, Bool, true, false, ◌||◌, List, [], ◌∷◌, ◌++◌, refl, ◌∙◌, ap, String, string_bytes}
use Rattle.std.proofs.lemmas.List.{map-append}
use Rattle.std.proofs.lemmas.List.Folds.{list_any-append}
use Rattle.std.proofs.lemmas.Slice.Eq.{bytes_eq-Decides}
use Rattle.std.specs.List.{list_any}
use Rattle.std.specs.Str.{bytes_eq}
use Rattle.std.specs.declared.alloc.Global.{Global}
use Rattle.orca_rig.specs.Saved.{is_spoilt, names_of}

-- the names are compared as they are kept
pub any_named : (names : List (String Global)) (name : List ℕ)
    → list_any (λ other. bytes_eq name (string_bytes other)) names ≡ is_spoilt (names_of names) name
any_named [] name = refl
any_named (other ∷ names) name =
    ap (λ b. bytes_eq name (string_bytes other) || b) (any_named names name)

or_exchange : (a b : Bool) → (a || (b || false)) ≡ (b || a)
or_exchange true true = refl
or_exchange true false = refl
or_exchange false true = refl
or_exchange false false = refl

-- a name that is put at the end
pub name_put : (names : List (String Global)) (name : String Global) (file : List ℕ)
    → is_spoilt (names_of (names ++ name ∷ [])) file
    ≡ (bytes_eq file (string_bytes name) || is_spoilt (names_of names) file)
name_put names name file =
    ap (λ (held : List (List ℕ)). is_spoilt held file)
    (map-append string_bytes names (name ∷ []))
    ∙ (list_any-append (bytes_eq file) (names_of names) (string_bytes name ∷ [])
    ∙ or_exchange (is_spoilt (names_of names) file) (bytes_eq file (string_bytes name)))

there_at : (names : List (List ℕ)) (name file : List ℕ) (b : Bool) → bytes_eq file name ≡ b
    → is_spoilt names name ≡ true → is_spoilt names file ≡ (b || is_spoilt names file)
there_at names name file true same there =
    ap (λ (held : List ℕ). is_spoilt names held) ((bytes_eq-Decides file name).0 same) ∙ there
there_at names name file false other there = refl

-- a name that is there already
pub name_there : (names : List (List ℕ)) (name file : List ℕ) → is_spoilt names name ≡ true
    → is_spoilt names file ≡ (bytes_eq file name || is_spoilt names file)
name_there names name file there = there_at names name file (bytes_eq file name) refl there
