use Rattle.std.proofs.Common.{◌≤◌, ◌+◌, length, arith, sym, ◌∙◌}
use Rattle.std.proofs.lemmas.List.{take_rest}
use Rattle.std.proofs.lemmas.Bool.Decides.{nat_tests}
use Rattle.orca_script.proofs.TextLines.{lines-found, lines-last}
use Rattle.orca_script.proofs.lines.split_line.Goals as goal

-- the line before the first line feed
pub returns-in-Some : goal.returns-in-Some
returns-in-Some c =
    let text = c.args.text.now in
    let found = lines-found text c.in-Some.end (sym c.line_feed.ensures ∙ c.in-Some.is) in
    rw (take_rest text (c.in-Some.end + 1), c.before_end.ensures) found

-- the last line, which isn't empty
pub returns-in-None-2 : goal.returns-in-None-2
returns-in-None-2 c =
    let some : 1 ≤ length c.args.text.now =
    grind (arith, nat_tests, c.is_empty.ensures, c.if-is_empty.false) in
    lines-last c.args.text.now (sym c.line_feed.ensures ∙ c.in-None.is) some
