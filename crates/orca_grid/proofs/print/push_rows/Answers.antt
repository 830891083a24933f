use Rattle.std.proofs.Common.{◌≡◌, ◌++◌, ℕ, List, length, take, drop, append_assoc, Result, Ok, Err}
use Rattle.std.specs.Result.{OnErr}
use Rattle.std.proofs.Math.Seq.{take-append_seam}
use Rattle.std.proofs.lemmas.List.{take-append-drop}
use Rattle.orca_grid.specs.GridText.{row_of}
use Rattle.orca_grid.proofs.Printing.{row-more, text_of-read}
use Rattle.orca_grid.proofs.print.push_rows.Goals as goal

on_err : {T E P : Type 0} (r : Result T E) → P → OnErr r P
on_err (Ok x) p = tt
on_err (Err e) p = p

kept : (old rows into new : List ℕ) → into ≡ old ++ rows → take (length into) new ≡ into
    → take (length old) new ≡ old
kept old rows into new more same =
    rw (← take-append-drop (length into) new, same, more, append_assoc)
    (take-append_seam old (rows ++ drop (length (old ++ rows)) new))

pub returns-in_err-push_row-clause-err : goal.returns-in_err-push_row-clause-err
returns-in_err-push_row-clause-err g c =
    on_err _ (kept _ _ c.loop-y.into.items _ c.loop-y.invariant c.in_err-push_row.ensures.err)

pub loop-y-preserved : goal.loop-y-preserved
loop-y-preserved g c =
    let row = row_of (g.T.Look.sheet c.args.look.now) in
    let into = c.loop-y.into.items in
    rw c.in_ok-push_row.ensures.ok (row-more row _ into c.loop-y.y c.loop-y.invariant)

pub returns-clause-reads_back : goal.returns-clause-reads_back
returns-clause-reads_back g c = text_of-read _ c.dims-dims.ensures.whole
