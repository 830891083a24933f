use Rattle.std.proofs.Common.{◌≡◌, ℕ, ◌++◌, List, append_assoc, ap, ◌∙◌}
use Rattle.std.specs.Prelude.{codes, nat_lt}
use Rattle.std.specs.Fmt.{decimal}
use Rattle.orca_term.specs.Picture.{warned}
use Rattle.orca_term.specs.declared.cell.Cell.{Cell}
use Rattle.orca_term.proofs.status.push_warnings.Goals as goal

-- five parts at the end, one after the other
five : (s a b c d e s1 s2 s3 s4 s5 : List Cell) → s1 ≡ s ++ a → s2 ≡ s1 ++ b → s3 ≡ s2 ++ c
    → s4 ≡ s3 ++ d → s5 ≡ s4 ++ e → s5 ≡ s ++ (a ++ b ++ c ++ d ++ e)
five s a b c d e s1 s2 s3 s4 s5 is1 is2 is3 is4 is5 = rw (is5, is4, is3, is2, is1) (simp append_assoc)

pub returns-clause-cells : goal.returns-clause-cells
returns-clause-cells c =
    let line = c.args.line.now in
    let away = decimal line.away ++ codes " away" in
    let words : c.as_slice.result.now ≡ away =
    c.as_slice.ensures.bytes ∙ c.away_words.ensures.words in
    five c.args.strip.now (warned line.no_midi (codes "no midi")) (warned line.no_udp (codes "no udp"))
    (warned line.no_osc (codes "no osc")) (warned line.no_journal (codes "no journal"))
    (warned (nat_lt 0 line.away) away) c.push_warning.new.strip c.push_warning-2.new.strip
    c.push_warning-3.new.strip c.push_warning-4.new.strip c.push_warning-5.new.strip
    c.push_warning.ensures.cells c.push_warning-2.ensures.cells c.push_warning-3.ensures.cells
    c.push_warning-4.ensures.cells
    (c.push_warning-5.ensures.cells
    ∙ ap (λ (text : List ℕ). c.push_warning-4.new.strip ++ warned (nat_lt 0 line.away) text) words)
