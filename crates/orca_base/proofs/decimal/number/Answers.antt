use Rattle.std.proofs.Common.{arith, ◌≡◌, ◌≤◌, true, sym, ◌∙◌, ap, length}
use Rattle.std.specs.List.{list_all}
use Rattle.std.proofs.lemmas.Bool.Decides.{nat_tests}
use Rattle.orca_base.specs.Glyphs.{is_digit}
use Rattle.orca_base.specs.declared.limits.TheConstants.{MAX_DIGITS}
use Rattle.orca_base.proofs.NumberLemmas.{number_parsed}
use Rattle.orca_base.proofs.decimal.number.Goals as goal

-- the word has 1 to 10 digits, so `parse` reads the number
pub returns : goal.returns
returns c =
    let some : 1 ≤ length c.args.text.now =
    grind (arith, nat_tests, c.is_empty.ensures, c.if-is_empty.false) in
    let few : length c.args.text.now ≤ MAX_DIGITS = omega arith in
    let all : list_all is_digit c.args.text.now ≡ true =
    ap (list_all is_digit) (sym c.as_bytes.ensures.value)
    ∙ (sym c.is_digits.ensures ∙ c.if-not-is_digits.false) in
    c.ok.ensures.value ∙ number_parsed c.args.text.now c.parse.result some few all
    c.parse.ensures.value.0
