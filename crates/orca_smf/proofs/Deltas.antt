-- A delta time is read back, and what is read as one is spelled so.
use Rattle.std.proofs.Common.{◌≡◌, ℕ, zero, suc, ◌+◌, ◌-◌, ◌*◌, ◌/◌, ◌%◌, ◌<◌, ◌≤◌, List, [], ◌∷◌, ◌++◌, length, take, drop, get_or, Option, Some, None, refl, sym, ap, subst, ◌∙◌, arith, inl, inr}
use Rattle.std.proofs.lemmas.Bool.{cases_lt, cases_eq, lt-ltb, le-ltb, ne_eqb}
use Rattle.std.proofs.lemmas.List.{get_or-append-add, get_or-drop, get_or-take, get_or_past, length-take}
use Rattle.std.proofs.lemmas.Option.{some_pair_parts}
use Rattle.orca_smf.specs.declared.limits.TheConstants.{MAX_DELTA}
use Rattle.orca_smf.specs.Songs.{delta, leading}
use Rattle.orca_smf.specs.Spelling.{delta_at, number_at}

-- each is a byte
abbrev pub IsBytes : List ℕ → Type 0
IsBytes bytes = (i : ℕ) → get_or bytes i 0 < 256

pub IsBytes-rest : (b : ℕ) (bytes : List ℕ) → IsBytes (b ∷ bytes) → IsBytes bytes
IsBytes-rest b bytes f i = f (suc i)

pub IsBytes-behind : (front rest bytes : List ℕ) → bytes ≡ front ++ rest → IsBytes bytes →
    IsBytes rest
IsBytes-behind front rest bytes e f i = rw (← get_or-append-add front rest i 0, ← e)
    (f (length front + i))

pub IsBytes-take : (n : ℕ) (bytes : List ℕ) → IsBytes bytes → IsBytes (take n bytes)
IsBytes-take n bytes f i =
    elim (cases_lt i n) [
      | inl lt ↦ rw (get_or-take n bytes i 0 lt) (f i)
      | inr ge ↦ rw (get_or_past (take n bytes) i 0 (omega (arith, length-take n bytes)))
          (omega arith)
    ]

pub IsBytes-drop : (n : ℕ) (bytes : List ℕ) → IsBytes bytes → IsBytes (drop n bytes)
IsBytes-drop n bytes f i = rw get_or-drop (f (n + i))

-- ---- the bytes of a number

leading_none : (places : ℕ) → leading places 0 ≡ []
leading_none zero = refl
leading_none (suc places) = refl

-- seven more bits in front of the last ones
leading_more : (places high low : ℕ) → low < 128 → 0 < high * 128 + low →
    leading (suc places) (high * 128 + low) ≡ leading places high ++ (128 + low) ∷ []
leading_more places high low below some =
    let test = ne_eqb (high * 128 + low) 0 (λ e. omega arith) in
    let over : (high * 128 + low) / 128 ≡ high = omega arith in
    let rest : (high * 128 + low) % 128 ≡ low = omega arith in
    rw (test, over, rest) refl

delta_ends : (high low : ℕ) → low < 128 → delta (high * 128 + low) ≡ leading 3 high ++ low ∷ []
unfolding delta
delta_ends high low below =
    let over : (high * 128 + low) / 128 ≡ high = omega arith in
    let rest : (high * 128 + low) % 128 ≡ low = omega arith in
    rw (over, rest) refl

pub delta_one : (a : ℕ) → a < 128 → delta a ≡ a ∷ []
unfolding delta
delta_one a below =
    let over : a / 128 ≡ 0 = omega arith in
    let rest : a % 128 ≡ a = omega arith in
    rw (over, rest) refl

-- the first of several bytes
leading_first : (places a : ℕ) → 0 < a → a < 128 → leading (suc places) a ≡ (128 + a) ∷ []
leading_first places a some below =
    let test = ne_eqb a 0 (λ e. omega arith) in
    let over : a / 128 ≡ 0 = omega arith in
    let rest : a % 128 ≡ a = omega arith in
    rw (test, over, rest, leading_none places) refl

pub delta_two : (a b : ℕ) → 0 < a → a < 128 → b < 128 → delta (a * 128 + b) ≡ (128 + a) ∷ b ∷ []
delta_two a b some ha hb = delta_ends a b hb ∙ ap (λ (x : List ℕ). x ++ b ∷ [])
    (leading_first 2 a some ha)

leading_second : (places a b : ℕ) → 0 < a → a < 128 → b < 128 →
    leading (suc (suc places)) (a * 128 + b) ≡ (128 + a) ∷ (128 + b) ∷ []
leading_second places a b some ha hb =
    leading_more (suc places) a b hb (omega arith) ∙ ap (λ (x : List ℕ). x ++ (128 + b) ∷ [])
    (leading_first places a some ha)

pub delta_three : (a b c : ℕ) → 0 < a → a < 128 → b < 128 → c < 128 →
    delta ((a * 128 + b) * 128 + c) ≡ (128 + a) ∷ (128 + b) ∷ c ∷ []
delta_three a b c some ha hb hc =
    delta_ends (a * 128 + b) c hc ∙ ap (λ (x : List ℕ). x ++ c ∷ [])
    (leading_second 1 a b some ha hb)

pub delta_four : (a b c d : ℕ) → 0 < a → a < 128 → b < 128 → c < 128 → d < 128 →
    delta (((a * 128 + b) * 128 + c) * 128 + d) ≡ (128 + a) ∷ (128 + b) ∷ (128 + c) ∷ d ∷ []
delta_four a b c d some ha hb hc hd =
    let front = leading_more 2 (a * 128 + b) c hc (omega arith)
    ∙ ap (λ (x : List ℕ). x ++ (128 + c) ∷ []) (leading_second 0 a b some ha hb) in
    delta_ends ((a * 128 + b) * 128 + c) d hd ∙ ap (λ (x : List ℕ). x ++ d ∷ []) front

-- ---- what is read

-- the last byte of a number
last_at : (places high b : ℕ) (bytes : List ℕ) → b < 128 →
    number_at (suc places) high (b ∷ bytes) ≡ Some (high * 128 + b, bytes)
last_at places high b bytes below = rw (lt-ltb b 128 below) refl

-- another byte of a number
more_at : (places high b : ℕ) (bytes : List ℕ) →
    number_at (suc places) high ((128 + b) ∷ bytes) ≡ number_at places (high * 128 + b) bytes
more_at places high b bytes =
    let less : 128 + b - 128 ≡ b = omega arith in
    rw (le-ltb (128 + b) 128 (omega arith), less) refl

-- the first of several bytes
first_at : (a : ℕ) (bytes : List ℕ) → 0 < a → delta_at ((128 + a) ∷ bytes) ≡ number_at 3 a bytes
unfolding delta_at
first_at a bytes some =
    let test = ne_eqb (128 + a) 128 (λ e. omega arith) in
    let less : 0 * 128 + (128 + a - 128) ≡ a = omega arith in
    rw (test, le-ltb (128 + a) 128 (omega arith)) (ap (λ (high : ℕ). number_at 3 high bytes) less)

one_at : (a : ℕ) (bytes : List ℕ) → a < 128 → delta_at (a ∷ bytes) ≡ Some (a, bytes)
unfolding delta_at
one_at a bytes below =
    let test = ne_eqb a 128 (λ e. omega arith) in
    let same : 0 * 128 + a ≡ a = omega arith in
    rw (test, lt-ltb a 128 below, same) refl

-- what is spelled is read, whatever follows
pub delta_again : (n : ℕ) (rest : List ℕ) → n ≤ MAX_DELTA →
    delta_at (delta n ++ rest) ≡ Some (n, rest)
delta_again n rest near =
    let d = n % 128 in
    let c = n / 128 % 128 in
    let b = n / 128 / 128 % 128 in
    let a = n / 128 / 128 / 128 in
    elim (cases_lt n 128) [
      | inl lt ↦ rw (delta_one n lt) (one_at n rest lt)
      | inr ge ↦ elim (cases_lt n 16384) [
        | inl lt ↦
            let high = n / 128 in
            let is : n ≡ high * 128 + d = omega arith in
            let spelled = ap delta is ∙ delta_two high d (omega arith) (omega arith) (omega arith) in
            ap (λ (x : List ℕ). delta_at (x ++ rest)) spelled
            ∙ first_at high (d ∷ rest) (omega arith)
            ∙ last_at 2 high d rest (omega arith)
            ∙ ap (λ (m : ℕ). Some (m, rest)) (sym is)
        | inr ge2 ↦ elim (cases_lt n 2097152) [
          | inl lt ↦
              let high = n / 128 / 128 in
              let is : n ≡ (high * 128 + c) * 128 + d = omega arith in
              let spelled = ap delta is ∙ delta_three high c d (omega arith) (omega arith)
              (omega arith) (omega arith) in
              ap (λ (x : List ℕ). delta_at (x ++ rest)) spelled
              ∙ first_at high ((128 + c) ∷ d ∷ rest) (omega arith)
              ∙ more_at 2 high c (d ∷ rest)
              ∙ last_at 1 (high * 128 + c) d rest (omega arith)
              ∙ ap (λ (m : ℕ). Some (m, rest)) (sym is)
          | inr ge3 ↦
              let is : n ≡ ((a * 128 + b) * 128 + c) * 128 + d = omega arith in
              let spelled = ap delta is ∙ delta_four a b c d (omega arith) (omega arith) (omega arith)
              (omega arith) (omega arith) in
              ap (λ (x : List ℕ). delta_at (x ++ rest)) spelled
              ∙ first_at a ((128 + b) ∷ (128 + c) ∷ d ∷ rest) (omega arith)
              ∙ more_at 2 a b ((128 + c) ∷ d ∷ rest)
              ∙ more_at 1 (a * 128 + b) c (d ∷ rest)
              ∙ last_at 0 ((a * 128 + b) * 128 + c) d rest (omega arith)
              ∙ ap (λ (m : ℕ). Some (m, rest)) (sym is)
        ]
      ]
    ]

-- bytes that begin with the delta time of a number
pub record Spelled (n : ℕ) (bytes rest : List ℕ) : Type 0 where
  pub near : n ≤ MAX_DELTA
  pub spelled : bytes ≡ delta n ++ rest

spelled_so : (m n : ℕ) (bytes text behind rest : List ℕ) → m ≤ MAX_DELTA → delta m ≡ text →
    bytes ≡ text ++ behind → ◌≡◌ {A = Option (ℕ × List ℕ)} (Some (m, behind)) (Some (n, rest)) →
    Spelled n bytes rest
spelled_so m n bytes text behind rest near d e s =
    let p = some_pair_parts m n behind rest s in
    record {
      near = rw (← p.0) near;
      spelled = e ∙ rw (← d, p.0, p.1) refl;
    }

fourth : (a b c n : ℕ) (bytes rest : List ℕ) → 0 < a → a < 128 → b < 128 → c < 128 → IsBytes bytes →
    number_at 1 ((a * 128 + b) * 128 + c) bytes ≡ Some (n, rest) →
    Spelled n ((128 + a) ∷ (128 + b) ∷ (128 + c) ∷ bytes) rest
fourth a b c n [] rest some ha hb hc f e = absurd cc
fourth a b c n (x ∷ bytes) rest some ha hb hc f e =
    elim (cases_lt x 128) [
      | inl lt ↦ spelled_so (((a * 128 + b) * 128 + c) * 128 + x) n _ _ bytes rest (omega arith)
          (delta_four a b c x some ha hb hc lt) refl
          (sym (last_at 0 ((a * 128 + b) * 128 + c) x bytes lt) ∙ e)
      | inr ge ↦ let g = rw (le-ltb x 128 ge) at e in absurd cc
    ]

third : (a b n : ℕ) (bytes rest : List ℕ) → 0 < a → a < 128 → b < 128 → IsBytes bytes →
    number_at 2 (a * 128 + b) bytes ≡ Some (n, rest) →
    Spelled n ((128 + a) ∷ (128 + b) ∷ bytes) rest
third a b n [] rest some ha hb f e = absurd cc
third a b n (x ∷ bytes) rest some ha hb f e =
    elim (cases_lt x 128) [
      | inl lt ↦ spelled_so ((a * 128 + b) * 128 + x) n _ _ bytes rest (omega arith)
          (delta_three a b x some ha hb lt) refl (sym (last_at 1 (a * 128 + b) x bytes lt) ∙ e)
      | inr ge ↦
          let byte = f 0 in
          let is : 128 + (x - 128) ≡ x = omega arith in
          let g = rw (le-ltb x 128 ge) at e in
          subst (λ (y : ℕ). Spelled n ((128 + a) ∷ (128 + b) ∷ y ∷ bytes) rest) is
          (fourth a b (x - 128) n bytes rest some ha hb (omega arith) (IsBytes-rest x bytes f) g)
    ]

second : (a n : ℕ) (bytes rest : List ℕ) → 0 < a → a < 128 → IsBytes bytes →
    number_at 3 a bytes ≡ Some (n, rest) → Spelled n ((128 + a) ∷ bytes) rest
second a n [] rest some ha f e = absurd cc
second a n (x ∷ bytes) rest some ha f e =
    elim (cases_lt x 128) [
      | inl lt ↦ spelled_so (a * 128 + x) n _ _ bytes rest (omega arith) (delta_two a x some ha lt)
          refl (sym (last_at 2 a x bytes lt) ∙ e)
      | inr ge ↦
          let byte = f 0 in
          let is : 128 + (x - 128) ≡ x = omega arith in
          let g = rw (le-ltb x 128 ge) at e in
          subst (λ (y : ℕ). Spelled n ((128 + a) ∷ y ∷ bytes) rest) is
          (third a (x - 128) n bytes rest some ha (omega arith) (IsBytes-rest x bytes f) g)
    ]

none_at : (bytes : List ℕ) → delta_at (128 ∷ bytes) ≡ None
unfolding delta_at
none_at bytes = refl

-- what is read is spelled
pub delta_spelled : (bytes : List ℕ) (n : ℕ) (rest : List ℕ) → IsBytes bytes →
    delta_at bytes ≡ Some (n, rest) → Spelled n bytes rest
unfolding delta_at
delta_spelled [] n rest f e = absurd cc
delta_spelled (x ∷ bytes) n rest f e =
    elim (cases_lt x 128) [
      | inl lt ↦ spelled_so x n _ _ bytes rest (omega arith) (delta_one x lt) refl
          (sym (one_at x bytes lt) ∙ e)
      | inr ge ↦ elim (cases_eq x 128) [
        | inl eq ↦ let g = sym (none_at bytes) ∙ ap (λ (y : ℕ). delta_at (y ∷ bytes)) (sym eq)
            ∙ e in absurd cc
        | inr ne ↦
            let byte = f 0 in
            let is : 128 + (x - 128) ≡ x = omega arith in
            let g = sym (first_at (x - 128) bytes (omega arith))
            ∙ ap (λ (y : ℕ). delta_at (y ∷ bytes)) is ∙ e in
            subst (λ (y : ℕ). Spelled n (y ∷ bytes) rest) is
            (second (x - 128) n bytes rest (omega arith) (omega arith) (IsBytes-rest x bytes f) g)
      ]
    ]
