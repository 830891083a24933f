-- Messages that are sent, one after another.
use Rattle.std.proofs.Common.{◌≡◌, ℕ, ◌+◌, ◌<◌, List, [], ◌∷◌, ◌++◌, sym, ◌∙◌, ap, length, get_or, drop}
use Rattle.std.specs.Prelude.{map}
use Rattle.std.proofs.lemmas.List.{drop_more}
use Rattle.orca_base.specs.Ports.{Sent}
use Rattle.orca_course.specs.Acts.{gives}
use Rattle.orca_course.specs.Acts.Act.{Give}

-- the sends for the items from here on: that of the next one, and the others
pub sends_more : {A : Type 0} (f : A → Sent) (items : List A) (i : ℕ) (x : A) → i < length items
    → x ≡ get_or items i x
    → gives (map f (drop i items)) ≡ (Give (f x) ∷ []) ++ gives (map f (drop (i + 1) items))
sends_more f items i x below is =
    ap (λ xs. gives (map f xs)) (drop_more items i x below)
    ∙ ap (λ y. Give (f y) ∷ gives (map f (drop (i + 1) items))) (sym is)
