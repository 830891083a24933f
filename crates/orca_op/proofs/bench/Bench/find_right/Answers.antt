use Rattle.std.proofs.Common.{arith, rules, ap, sym, ◌∙◌, inl, inr}
use Rattle.std.proofs.lemmas.Bool.{cases_lt}
use Rattle.orca_base.specs.Grids.{Size}
use Rattle.orca_op.proofs.StateFacts.{none_beyond}
use Rattle.orca_op.proofs.FirstFacts.{first_where-found, first_where-missing}
use Rattle.orca_op.proofs.bench.Bench.find_right.Goals as goal

pub returns-then-byte-clause-first : goal.returns-then-byte-clause-first
returns-then-byte-clause-first g c =
    sym (first_where-found _ 1 c.args.reach c.loop-column.column (omega arith) (omega arith)
    c.loop-column.invariant.none (search rules))

pub returns-clause-first : goal.returns-clause-first
returns-clause-first g c =
    let width = ap (λ (d : Size). d.w) (c.min.view_is ∙ c.dims.ensures.size) in
    sym (first_where-missing _ 1 c.args.reach
    (λ k low high. elim (cases_lt k c.loop-column.column) [
      | inl before ↦ c.loop-column.invariant.none k low before
      | inr beyond ↦ none_beyond _ c.args.at k c.args.byte
          (omega (
            arith,
            beyond,
            high,
            c.loop-column-test.false,
            c.min-end.ensures,
            c.from.ensures,
            width,
          )) c.requires.visible
    ]))
