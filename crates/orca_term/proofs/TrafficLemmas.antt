-- Lists that are cut: the messages that are kept, and the text of a row.
use Rattle.std.proofs.Common.{◌≡◌, ◌⊎◌, inl, inr, ℕ, ◌+◌, ◌<◌, ◌≤◌, Bool, true, false, cond, get_or, take, List, [], ◌∷◌, ◌++◌, append_assoc, length, refl, sym, ap, ◌∙◌, arith}
use Rattle.std.specs.Prelude.{codes, filter}
use Rattle.std.specs.Fmt.{decimal}
use Rattle.std.specs.List.{flat_map}
use Rattle.std.proofs.lemmas.Bool.{cases_lt}
use Rattle.std.proofs.lemmas.Grind.{flat_map-append}
use Rattle.std.proofs.lemmas.List.{append-nil, length-append, length-take, take-append-le, take_all, take_more}
use Rattle.std.proofs.lemmas.List.Elements.{filter_more}
use Rattle.orca_base.specs.declared.message.Message.{Message}
use Rattle.orca_term.specs.Traffic.{text_of_frame, words_of}

-- one more at the end of a list that is cut, where it has room and where it has none
pub room_more : {X : Type 0} (n : ℕ) (xs : List X) (x : X) → length (take n xs) < n
    → take n (xs ++ x ∷ []) ≡ take n xs ++ x ∷ []
room_more n xs x room =
    let few : length xs < n = omega (arith, room, length-take n xs) in
    take_all n (xs ++ x ∷ []) (omega (arith, few, length-append xs (x ∷ [])))
    ∙ ap (λ ys. ys ++ x ∷ []) (sym (take_all n xs (omega arith)))

pub none_more : {X : Type 0} (n : ℕ) (xs : List X) (x : X) → n ≤ length (take n xs)
    → take n (xs ++ x ∷ []) ≡ take n xs
none_more n xs x none =
    take-append-le n xs (x ∷ []) (omega (arith, none, length-take n xs))

-- one more of those that pass a test
pub passing_more : {X : Type 0} (p : X → Bool) (n : ℕ) (xs kept : List X) (i : ℕ) (d : X)
    → i < length xs → kept ≡ take n (filter p (take i xs)) → p (get_or xs i d) ≡ true
    → length kept < n
    → kept ++ get_or xs i d ∷ [] ≡ take n (filter p (take (i + 1) xs))
passing_more p n xs kept i d within is passes room =
    let x = get_or xs i d in
    let before = filter p (take i xs) in
    let here : length (take n before) < n = rw (← is) room in
    let more : filter p (take (i + 1) xs) ≡ before ++ x ∷ [] =
    filter_more p xs i d within ∙ ap (λ (b : Bool). before ++ cond b (x ∷ []) []) passes in
    ap (λ ys. ys ++ x ∷ []) is ∙ (sym (room_more n before x here) ∙ ap (take n) (sym more))

pub passing_full : {X : Type 0} (p : X → Bool) (n : ℕ) (xs kept : List X) (i : ℕ) (d : X)
    → i < length xs → kept ≡ take n (filter p (take i xs)) → p (get_or xs i d) ≡ true
    → n ≤ length kept → kept ≡ take n (filter p (take (i + 1) xs))
passing_full p n xs kept i d within is passes full =
    let x = get_or xs i d in
    let before = filter p (take i xs) in
    let here : n ≤ length (take n before) = rw (← is) full in
    let more : filter p (take (i + 1) xs) ≡ before ++ x ∷ [] =
    filter_more p xs i d within ∙ ap (λ (b : Bool). before ++ cond b (x ∷ []) []) passes in
    is ∙ (sym (none_more n before x here) ∙ ap (take n) (sym more))

pub failing_more : {X : Type 0} (p : X → Bool) (n : ℕ) (xs kept : List X) (i : ℕ) (d : X)
    → i < length xs → kept ≡ take n (filter p (take i xs)) → p (get_or xs i d) ≡ false
    → kept ≡ take n (filter p (take (i + 1) xs))
failing_more p n xs kept i d within is fails =
    let x = get_or xs i d in
    let before = filter p (take i xs) in
    let more : filter p (take (i + 1) xs) ≡ before =
    filter_more p xs i d within
    ∙ (ap (λ (b : Bool). before ++ cond b (x ∷ []) []) fails ∙ append-nil before) in
    is ∙ ap (take n) (sym more)

-- what follows a list that is cut
pub cut_append : {X : Type 0} (n : ℕ) (xs ys : List X) → take n (take n xs ++ ys) ≡ take n (xs ++ ys)
cut_append n xs ys = by (cases_lt (length xs) n)
  where
    by : (length xs < n) ⊎ (n ≤ length xs) → take n (take n xs ++ ys) ≡ take n (xs ++ ys)
    by (inl under) = ap (λ zs. take n (zs ++ ys)) (take_all n xs (omega (arith, under)))
    by (inr over) =
        take-append-le n (take n xs) ys (omega (arith, over, length-take n xs))
        ∙ (take_all n (take n xs) (omega (arith, length-take n xs))
        ∙ sym (take-append-le n xs ys over))

-- the text of a row with the words of one message more
pub words_more : {X : Type 0} (f : X → List ℕ) (n : ℕ) (front old new : List ℕ) (xs : List X)
    (i : ℕ) (d : X) → i < length xs
    → take n old ≡ take n (front ++ flat_map f (take i xs))
    → take n new ≡ take n (old ++ f (get_or xs i d))
    → take n new ≡ take n (front ++ flat_map f (take (i + 1) xs))
words_more f n front old new xs i d within so_far more =
    let x = get_or xs i d in
    let before = front ++ flat_map f (take i xs) in
    let all : front ++ flat_map f (take (i + 1) xs) ≡ before ++ f x =
    ap (λ ys. front ++ flat_map f ys) (take_more xs i d within)
    ∙ (ap (λ zs. front ++ zs)
    (flat_map-append f (take i xs) (x ∷ []) ∙ ap (λ zs. flat_map f (take i xs) ++ zs) (append-nil (f x)))
    ∙ sym (append_assoc front (flat_map f (take i xs)) (f x))) in
    more
    ∙ (sym (cut_append n old (f x))
    ∙ (ap (λ zs. take n (zs ++ f x)) so_far
    ∙ (cut_append n before (f x) ∙ ap (take n) (sym all))))

-- a row that is full takes no more
pub full_row : (n : ℕ) (text a b : List ℕ) → n ≤ length text
    → take n text ≡ take n (text ++ a ++ b)
full_row n text a b full =
    sym (ap (take n) (append_assoc text a b) ∙ take-append-le n text (a ++ b) full)

-- the text of a frame that sent something
pub text_of_some : (tick : ℕ) (messages : List Message) → 0 < length messages
    → text_of_frame tick messages ≡ (decimal tick ++ codes ":") ++ words_of messages
text_of_some tick [] some = absurd (omega (arith, some))
text_of_some tick (m ∷ ms) some = refl
