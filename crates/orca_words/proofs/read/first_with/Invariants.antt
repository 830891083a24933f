use Rattle.std.proofs.Common.{◌≡◌, drop, find, map}
use Rattle.std.specs.Str.{bytes_eq}
use Rattle.orca_words.specs.Forms.{form_in}
use Rattle.orca_words.proofs.read.first_with.Given as goal

-- the forms that are left give what all of them give
abbrev pub invariant-loop-form : goal.invariant-loop-form
invariant-loop-form l =
    find (λ form. bytes_eq form.word l.word) (map form_in (drop l.form-index l.table))
    ≡ find (λ form. bytes_eq form.word l.word) (map form_in l.table)
