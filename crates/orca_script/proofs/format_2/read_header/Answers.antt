use Rattle.std.proofs.Common.{◌≡◌, Some, ◌+◌, sym, ◌∙◌, ap}
use Rattle.std.proofs.lemmas.Option.{same_Some}
use Rattle.orca_script.specs.Format2.{IsHeader, LeavesAt}
use Rattle.orca_script.proofs.Format2Lines.{header_found, header_refused, header_reading-seed, header_reading-refused}
use Rattle.orca_script.proofs.format_2.read_header.Goals as goal
use Rattle.orca_script.proofs.format_2.read_header.Goals.{In-Err}

pub returns-in-Ok-clause-reading : goal.returns-in-Ok-clause-reading
returns-in-Ok-clause-reading c =
    header_reading-seed c.args.line.now c.in-Ok.seed (sym c.read_number.ensures.read ∙ c.in-Ok.is)

-- the seed that is read is the line's
pub returns-in-Ok-clause-seed : goal.returns-in-Ok-clause-seed
returns-in-Ok-clause-seed c seed =
    let found = header_found c.args.line.now c.in-Ok.seed (sym c.read_number.ensures.read
    ∙ c.in-Ok.is) in (
      (λ same. let at : c.in-Ok.seed ≡ seed = cc in found ∙ ap Some at),
      (λ is. let at : c.in-Ok.seed ≡ seed = same_Some c.in-Ok.seed seed (sym found ∙ is) in cc),
    )

stops : (c : In-Err) → LeavesAt IsHeader c.args.line.now (c.in-Err.count + 1)
stops c = header_refused c.args.line.now c.in-Err.count (sym c.read_number.ensures.read
    ∙ c.in-Err.is) c.in-Err.ensures.within

pub returns-in-Err-clause-reading : goal.returns-in-Err-clause-reading
returns-in-Err-clause-reading c =
    header_reading-refused c.args.line.now c.in-Err.count (sym c.read_number.ensures.read
    ∙ c.in-Err.is)

pub returns-in-Err-clause-seed : goal.returns-in-Err-clause-seed
returns-in-Err-clause-seed c seed =
    ((λ same. cc), (λ is. absurd ((stops c).no_line (seed, is))))

pub returns-in-Err-clause-refused : goal.returns-in-Err-clause-refused
returns-in-Err-clause-refused c = stops c
