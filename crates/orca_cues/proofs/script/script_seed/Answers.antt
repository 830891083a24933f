use Rattle.std.proofs.Common.{◌≡◌, true, sym, ◌∙◌}
use Rattle.orca_cues.specs.Scripts.{is_format_2}
use Rattle.orca_cues.proofs.Checking.{first_short, seed_of_first, no_seed}
use Rattle.orca_cues.proofs.script.script_seed.Goals as goal
use Rattle.orca_cues.proofs.script.script_seed.Goals.{In-Some}

-- the first line of the text
pub read_header-requires : goal.read_header-requires
read_header-requires c =
    first_short c.args.text.now c.in-Some.line.now _ (sym c.of-lines.ensures
    ∙ c.in-Some.ensures.steps) c.requires

of_format_2 : (c : In-Some) → is_format_2 c.args.text.now ≡ true
of_format_2 c = sym c.is_format_2.ensures ∙ c.if-not-is_format_2.false

pub returns-in-Ok : goal.returns-in-Ok
returns-in-Ok c =
    seed_of_first c.args.text.now c.in-Some.line.now _ _ (of_format_2 (goal.at.returns-in-Ok
    c).In-Some) (sym c.of-lines.ensures ∙ c.in-Some.ensures.steps)
    ((c.read_header.ensures.seed _).0 c.in-Ok.is)

pub returns-in-Err : goal.returns-in-Err
returns-in-Err c =
    seed_of_first c.args.text.now c.in-Some.line.now _ _ (of_format_2 (goal.at.returns-in-Err
    c).In-Some) (sym c.of-lines.ensures ∙ c.in-Some.ensures.steps)
    (no_seed c.in-Some.line.now c.in-Err.ensures.refused.no_line)
