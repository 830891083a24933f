use Rattle.std.proofs.Common.{ℕ, List, ◌++◌, ◌-◌, sym, ◌∙◌, ap, arith}
use Rattle.std.proofs.lemmas.Bool.Decides.{Decides-eqb}
use Rattle.std.proofs.lemmas.Option.{none-some, some_pair_parts}
use Rattle.std.proofs.lemmas.Slice.Eq.{slice_eq-Decides}
use Rattle.orca_smf.specs.Songs.{delta}
use Rattle.orca_smf.proofs.Messages.{tick_spelled}
use Rattle.orca_smf.proofs.Tunes.{end_bytes, end_read}
use Rattle.orca_smf.proofs.reading.read_end.Goals as goal

-- no tick is there
pub returns-in_err-end-clause-none : goal.returns-in_err-end-clause-none
returns-in_err-end-clause-none c =
    rw c.from_residual.ensures (λ end f e.
    none-some (end, end_bytes)
    (c.in_err-end.ensures ∙ end_read c.args.last end c.args.bytes.now f e))

-- a tick, and the end after it
pub returns-then-eq-clause-end : goal.returns-then-eq-clause-end
returns-then-eq-clause-end c =
    let found = c.in_ok-end in
    let s = tick_spelled c.args.last found.end c.args.bytes.now found.rest.now
    (λ i. omega (arith, c.type_inv.bytes i)) (sym found.ensures) in
    let is = slice_eq-Decides Decides-eqb _ _ _ c.eq.ensures in
    let behind = is.0 c.if-eq.true ∙ c.as_slice.ensures in
    (s.follows, s.spelled ∙ ap (λ (r : List ℕ). delta (found.end - c.args.last) ++ r) behind)

-- a tick, and another thing after it
pub returns-else-eq-clause-none : goal.returns-else-eq-clause-none
returns-else-eq-clause-none c = λ end f e.
    let is = slice_eq-Decides Decides-eqb _ _ _ c.eq.ensures in
    let found = c.in_ok-end in
    let p = some_pair_parts found.end end found.rest.now end_bytes
    (found.ensures ∙ end_read c.args.last end c.args.bytes.now f e) in
    let true-is = is.1 (p.1 ∙ sym c.as_slice.ensures) in
    let false-is = c.if-eq.false in
    absurd cc
