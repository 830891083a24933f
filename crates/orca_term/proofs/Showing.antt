-- What a terminal reads byte by byte.
use Rattle.std.proofs.Common.{◌≡◌, ℕ, Option, Some, None, List, [], ◌∷◌, refl, sym, ap, ◌∙◌}
use Rattle.std.specs.Option.{IsSome, option_map, unwrap_or}
use Rattle.std.proofs.lemmas.Bool.{false≢true}
use Rattle.orca_term.specs.declared.forms.Form.{Form}
use Rattle.orca_term.specs.declared.forms.Reading.{Reading}
use Rattle.orca_term.specs.declared.forms.Reading.TheVariants.{Ready, Escaped, First, Second}
use Rattle.orca_term.specs.declared.forms.Step.TheVariants.{Goes, Gives, Breaks}
use Rattle.orca_term.specs.Forms.{read, forms_after, forms_from, forms_of}
use Rattle.orca_term.specs.Terminal.{Terminal, after_form, after_forms, after_bytes, IsWhole}

-- what is left of the bytes is whole forms, after which the terminal is `end`
pub record LeadsTo (t : Terminal) (reading : Reading) (bytes : List ℕ)
    (end : Terminal) : Type 0 where
  pub forms : List Form
  pub whole : forms_from reading bytes ≡ Some forms
  pub ends : after_forms t forms ≡ end

pub some_of : {A : Type 0} (o : Option A) → IsSome o → (x : A) × (o ≡ Some x)
some_of None some = absurd (false≢true some)
some_of (Some x) some = (x, refl)

pub forms_from-more : (reading : Reading) (byte : ℕ) (bytes : List ℕ)
    → forms_from reading (byte ∷ bytes) ≡ forms_after (read reading byte)
    (λ next. forms_from next bytes)
unfolding forms_from
forms_from-more Ready byte bytes = refl
forms_from-more Escaped byte bytes = refl
forms_from-more (First number) byte bytes = refl
forms_from-more (Second row number) byte bytes = refl

pub starts : (t : Terminal) (bytes : List ℕ) → IsWhole bytes
    → LeadsTo t Ready bytes (after_bytes t bytes)
starts t bytes whole =
    let some = some_of (forms_of bytes) whole in
    record {
      forms = some.0;
      whole = some.1;
      ends = ap (λ (o : Option (List Form)). after_forms t (unwrap_or o [])) (sym some.1);
    }

pub goes : (t end : Terminal) (reading next : Reading) (byte : ℕ) (bytes : List ℕ)
    → read reading byte ≡ Goes next → LeadsTo t reading (byte ∷ bytes) end
    → LeadsTo t next bytes end
goes t end reading next byte bytes step leads = record {
  forms = leads.forms;
  whole = ap (λ s. forms_after s (λ next. forms_from next bytes)) (sym step)
      ∙ (sym (forms_from-more reading byte bytes) ∙ leads.whole);
  ends = leads.ends;
}

pub unmapped : (form : Form) (o : Option (List Form)) (forms : List Form)
    → option_map (λ rest. form ∷ rest) o ≡ Some forms
    → (rest : List Form) × (o ≡ Some rest) × (forms ≡ form ∷ rest)
unmapped form None forms e = cc
unmapped form (Some rest) forms e = (rest, refl, cc)

pub gives : (t end : Terminal) (reading : Reading) (form : Form) (byte : ℕ) (bytes : List ℕ)
    → read reading byte ≡ Gives form → LeadsTo t reading (byte ∷ bytes) end
    → LeadsTo (after_form t form) Ready bytes end
unfolding after_forms
gives t end reading form byte bytes step leads =
    let same = ap (λ s. forms_after s (λ next. forms_from next bytes)) (sym step)
    ∙ (sym (forms_from-more reading byte bytes) ∙ leads.whole) in
    let rest = unmapped form (forms_from Ready bytes) leads.forms same in
    record { forms = rest.0; whole = rest.1; ends = ap (after_forms t) (sym rest.2) ∙ leads.ends }

pub breaks : (t end : Terminal) (reading : Reading) (byte : ℕ) (bytes : List ℕ)
    → read reading byte ≡ Breaks → LeadsTo t reading (byte ∷ bytes) end → ⊥
breaks t end reading byte bytes step leads =
    let same = ap (λ s. forms_after s (λ next. forms_from next bytes)) (sym step)
    ∙ (sym (forms_from-more reading byte bytes) ∙ leads.whole) in
    cc

none_left : (reading : Reading) (forms : List Form) → forms_from reading [] ≡ Some forms
    → forms ≡ []
unfolding forms_from
none_left Ready forms e = cc
none_left Escaped forms e = cc
none_left (First number) forms e = cc
none_left (Second row number) forms e = cc

pub done : (t end : Terminal) (reading : Reading) → LeadsTo t reading [] end → t ≡ end
unfolding after_forms
done t end reading leads =
    ap (after_forms t) (sym (none_left reading leads.forms leads.whole)) ∙ leads.ends
