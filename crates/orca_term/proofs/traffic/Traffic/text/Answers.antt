use Rattle.std.proofs.Common.{◌≡◌, ◌<◌, ◌++◌, ◌∙◌, ℕ, List, length, ap, refl, take, subst, sym, arith}
use Rattle.std.specs.Prelude.{codes}
use Rattle.std.specs.Fmt.{decimal}
use Rattle.std.proofs.lemmas.Bool.Decides.{nat_tests}
use Rattle.orca_base.specs.declared.limits.TheConstants.{MAX_SCREEN_COLUMNS}
use Rattle.orca_base.specs.declared.message.Message.{Message}
use Rattle.orca_term.specs.Traffic.{FrameSent, sent_text, words_of}
use Rattle.orca_term.proofs.TrafficLemmas.{text_of_some}
use Rattle.orca_term.proofs.traffic.Traffic.text.Goals as goal

pub returns-clause-text : goal.returns-clause-text
returns-clause-text c =
    let tick = c.self.inside.tick in
    let messages = c.self.inside.messages.items in
    let front : List ℕ = decimal tick ++ codes ":" in
    let some : 0 < length c.deref.result.now =
    grind (arith, nat_tests, c.is_empty.ensures, c.if-is_empty.false, c.deref.ensures.len) in
    let here : 0 < length messages = subst (λ (m : List Message). 0 < length m) c.deref.ensures.value some in
    let begun : c.push_word-2.new.text ≡ front =
    rw (
      c.push_word-2.ensures.text,
      c.push_word.ensures.text,
      c.empty-text.ensures,
      c.as_slice.ensures.bytes,
      c.decimal.ensures.decimal,
    ) refl in
    c.push_messages.ensures.text
    ∙ (ap (λ (text : List ℕ). take MAX_SCREEN_COLUMNS (text ++ words_of c.deref.result.now)) begun
    ∙ (ap (λ (m : List Message). take MAX_SCREEN_COLUMNS (front ++ words_of m))
    c.deref.ensures.value
    ∙ (ap (take MAX_SCREEN_COLUMNS) (sym (text_of_some tick messages here))
    ∙ ap (λ (s : FrameSent). take MAX_SCREEN_COLUMNS (sent_text s)) c.self.view_is)))
