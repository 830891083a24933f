-- The bytes of forms are read as these forms.
use Rattle.std.proofs.Common.{◌≡◌, ℕ, ◌+◌, ◌-◌, ◌*◌, ◌/◌, ◌%◌, ◌^◌, ◌<◌, ◌≤◌, true, Some, List, [], ◌∷◌, ◌++◌, inl, inr, refl, ap, ◌∙◌, arith, zero-add, append_assoc}
use Rattle.std.specs.Fmt.{decimal}
use Rattle.std.specs.List.{AllByRecursion}
use Rattle.std.specs.Option.{option_map}
use Rattle.std.proofs.lemmas.Bool.{cases_lt, and_from, lt-ltb, le-leb, cond-true, cond-false, ne_eqb}
use Rattle.std.proofs.lemmas.Fmt.{decimal_digit, decimal_step}
use Rattle.orca_term.specs.Forms.{bytes_of, bytes_of_form, no_digits, more, continues, read, forms_after, forms_from, forms_of}
use Rattle.orca_term.specs.declared.forms.Form.{Form}
use Rattle.orca_term.specs.declared.forms.Form.TheVariants.{GoTo, Style, Show}
use Rattle.orca_term.specs.declared.forms.Number.{Number}
use Rattle.orca_term.specs.declared.forms.Reading.{Reading}
use Rattle.orca_term.specs.declared.forms.Reading.TheVariants.{Ready, Escaped, First, Second}
use Rattle.orca_term.specs.declared.forms.Step.TheVariants.{Goes, Gives}
use Rattle.orca_term.specs.declared.limits.TheConstants.{FORM_DIGITS, MAX_STYLE}
use Rattle.orca_term.proofs.Showing.{forms_from-more}

-- numbers that a form may have
abbrev pub IsForm : Form → Type 0
IsForm (GoTo row column) =
    (1 ≤ row) × (row < 10 ^ FORM_DIGITS) × (1 ≤ column) × (column < 10 ^ FORM_DIGITS)
IsForm (Style style) = style ≤ MAX_STYLE
IsForm (Show byte) = (32 ≤ byte) × (byte ≤ 126)

-- a step that goes on, and one that gives a form
stepped : (reading next : Reading) (byte : ℕ) (bytes : List ℕ) → read reading byte ≡ Goes next
    → forms_from reading (byte ∷ bytes) ≡ forms_from next bytes
stepped reading next byte bytes step = forms_from-more reading byte bytes
    ∙ ap (λ s. forms_after s (λ next. forms_from next bytes)) step

given : (reading : Reading) (form : Form) (byte : ℕ) (bytes : List ℕ)
    → read reading byte ≡ Gives form
    → forms_from reading (byte ∷ bytes) ≡ option_map (λ rest. form ∷ rest) (forms_of bytes)
given reading form byte bytes step = forms_from-more reading byte bytes
    ∙ ap (λ s. forms_after s (λ next. forms_from next bytes)) step

-- where numbers stand in a form, a digit goes on
abbrev TakesDigits : (Number → Reading) → Type 0
TakesDigits at = (number : Number) (byte : ℕ) → continues number byte ≡ true
    → read (at number) byte ≡ Goes (at (more number byte))

takes-first : TakesDigits First
unfolding read
takes-first number byte on = cond-true _ _ _ on

takes-second : (row : ℕ) → TakesDigits (Second row)
unfolding read
takes-second row number byte on = cond-true _ _ _ on

-- one digit
digit : (at : Number → Reading) → TakesDigits at → (digits value d : ℕ) (bytes : List ℕ) → d < 10
    → digits < FORM_DIGITS
    → forms_from (at (record { digits = digits; value = value })) ((48 + d) ∷ bytes) ≡ forms_from
    (at (record { digits = digits + 1; value = value * 10 + d })) bytes
digit at takes digits value d bytes low few =
    let back : 48 + d - 48 ≡ d = omega arith in
    let on =
    and_from _ _ (and_from _ _ (le-leb 48 (48 + d) (omega arith))
    (le-leb (48 + d) 57 (omega arith))) (lt-ltb digits FORM_DIGITS few) in
    stepped (at (record { digits = digits; value = value })) _ (48 + d) bytes
    (takes (record { digits = digits; value = value }) (48 + d) on)
    ∙ ap (λ k. forms_from (at (record { digits = digits + 1; value = value * 10 + k })) bytes) back

-- a number is read, and has so many digits
pub record Numbered (at : Number → Reading) (n digits : ℕ) : Type 0 where
  pub some : 1 ≤ digits
  pub reads : (bytes : List ℕ)
      → forms_from (at no_digits) (decimal n ++ bytes) ≡ forms_from
      (at (record { digits = digits; value = n })) bytes

numbered-one : (at : Number → Reading) → TakesDigits at → (n : ℕ) → n < 10 → Numbered at n 1
numbered-one at takes n low = record {
  some = omega arith;
  reads =
      λ bytes. rw (decimal_digit n low) (digit at takes 0 0 n bytes low (omega arith)
      ∙ ap (λ k. forms_from (at (record { digits = 1; value = k })) bytes) (zero-add n));
}

numbered-more : (at : Number → Reading) → TakesDigits at → (n digits : ℕ) → 10 ≤ n
    → n < 10 ^ FORM_DIGITS → Numbered at (n / 10) digits → digits < FORM_DIGITS
    → Numbered at n (digits + 1)
numbered-more at takes n digits high low front few =
    let value : n / 10 * 10 + n % 10 ≡ n = omega arith in
    record {
      some = omega arith;
      reads = λ bytes.
          ap (λ ds. forms_from (at no_digits) (ds ++ bytes)) (decimal_step n high (omega arith))
          ∙ (ap (λ bs. forms_from (at no_digits) bs)
          (append_assoc (decimal (n / 10)) ((48 + n % 10) ∷ []) bytes)
          ∙ (front.reads ((48 + n % 10) ∷ bytes)
          ∙ (digit at takes digits (n / 10) (n % 10) bytes (omega arith) few
          ∙ ap (λ k. forms_from (at (record { digits = digits + 1; value = k })) bytes) value)));
    }

numbered-two : (at : Number → Reading) → TakesDigits at → (n : ℕ) → 10 ≤ n → n < 100
    → Numbered at n 2
numbered-two at takes n high low =
    numbered-more at takes n 1 high (omega arith) (numbered-one at takes (n / 10) (omega arith))
    (omega arith)

numbered : (at : Number → Reading) → TakesDigits at → (n : ℕ) → n < 10 ^ FORM_DIGITS
    → (digits : ℕ) × Numbered at n digits
numbered at takes n low =
    elim (cases_lt n 10) [
      | inl one ↦ (1, numbered-one at takes n one)
      | inr more_than_one ↦ elim (cases_lt n 100) [
        | inl two ↦ (2, numbered-two at takes n more_than_one two)
        | inr three ↦ (
          3,
          numbered-more at takes n 2 more_than_one low
              (numbered-two at takes (n / 10) (omega arith) (omega arith)) (omega arith),
        )
      ]
    ]

-- ESC [
introduced : (bytes : List ℕ) → forms_of (27 ∷ 91 ∷ bytes) ≡ forms_from (First no_digits) bytes
unfolding read
introduced bytes =
    stepped Ready Escaped 27 (91 ∷ bytes) refl ∙ stepped Escaped (First no_digits) 91 bytes refl

ends_style : (digits n : ℕ) → 1 ≤ digits → n ≤ MAX_STYLE
    → read (First (record { digits = digits; value = n })) 109 ≡ Gives (Style n)
unfolding read
ends_style digits n some low =
    cond-true _ _ _ (and_from _ _ (le-leb 1 digits some) (le-leb n MAX_STYLE low))

ends_row : (digits n : ℕ) → 1 ≤ n
    → read (First (record { digits = digits; value = n })) 59 ≡ Goes (Second n no_digits)
unfolding read
ends_row digits n some = cond-true _ _ _ (le-leb 1 n some)

ends_column : (row digits n : ℕ) → 1 ≤ n
    → read (Second row (record { digits = digits; value = n })) 72 ≡ Gives (GoTo row n)
unfolding read
ends_column row digits n some = cond-true _ _ _ (le-leb 1 n some)

shows : (byte : ℕ) → 32 ≤ byte → byte ≤ 126 → read Ready byte ≡ Gives (Show byte)
unfolding read
shows byte high low =
    let no_escape : byte ≡ 27 → ⊥ = λ e. omega (arith, e) in
    cond-false _ _ _ (ne_eqb byte 27 no_escape)
    ∙ cond-true _ _ _ (and_from _ _ (le-leb 32 byte high) (le-leb byte 126 low))

-- the bytes of a form, and others after them
form-read : (form : Form) → IsForm form → (bytes : List ℕ)
    → forms_of (bytes_of_form form ++ bytes) ≡ option_map (λ rest. form ∷ rest) (forms_of bytes)
form-read (Show byte) valid bytes = given Ready (Show byte) byte bytes (shows byte valid.0 valid.1)
form-read (Style style) valid bytes =
    let number = numbered First takes-first style (omega (arith, valid)) in
    introduced ((decimal style ++ 109 ∷ []) ++ bytes)
    ∙ (ap (λ bs. forms_from (First no_digits) bs) (append_assoc (decimal style) (109 ∷ []) bytes)
    ∙ (number.1.reads (109 ∷ bytes)
    ∙ given _ (Style style) 109 bytes (ends_style number.0 style number.1.some valid)))
form-read (GoTo row column) valid bytes =
    let first = numbered First takes-first row valid.1 in
    let second = numbered (Second row) (takes-second row) column valid.3 in
    introduced ((((decimal row ++ 59 ∷ []) ++ decimal column) ++ 72 ∷ []) ++ bytes)
    ∙ (ap (λ bs. forms_from (First no_digits) bs)
    (grouped (decimal row) (59 ∷ []) (decimal column) (72 ∷ []) bytes)
    ∙ (first.1.reads (59 ∷ (decimal column ++ 72 ∷ bytes))
    ∙ (stepped _ _ 59 (decimal column ++ 72 ∷ bytes) (ends_row first.0 row valid.0)
    ∙ (second.1.reads (72 ∷ bytes)
    ∙ given _ (GoTo row column) 72 bytes (ends_column row second.0 column valid.2)))))
  where
    grouped : (a b c d e : List ℕ) → (((a ++ b) ++ c) ++ d) ++ e ≡ a ++ (b ++ (c ++ (d ++ e)))
    grouped a b c d e = simp append_assoc

-- the bytes of forms are read as these forms
pub forms-read : (forms : List Form) → AllByRecursion IsForm forms
    → forms_of (bytes_of forms) ≡ Some forms
unfolding bytes_of forms_from
forms-read [] valid = refl
forms-read (form ∷ forms) valid =
    form-read form valid.0 (bytes_of forms)
    ∙ ap (option_map (λ rest. form ∷ rest)) (forms-read forms valid.1)
