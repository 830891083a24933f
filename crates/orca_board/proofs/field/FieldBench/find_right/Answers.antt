use Rattle.std.proofs.Common.{◌≡◌, ◌==◌, ℕ, true, false, arith, ap, refl, sym, ◌∙◌, inl, inr, subst}
use Rattle.std.proofs.lemmas.Bool.{cases_lt}
use Rattle.orca_base.specs.Grids.{Size, index_of, right}
use Rattle.orca_op.specs.Slate.{Slate}
use Rattle.orca_op.proofs.FirstFacts.{first_where-found, first_where-missing}
use Rattle.orca_op.specs.State.{peek}
use Rattle.orca_op.proofs.StateFacts.{none_beyond}
use Rattle.orca_board.specs.Board.{slate_of}
use Rattle.orca_board.proofs.SpanLemmas.{cell_right, holds_it, holds_other, peek_right}
use Rattle.orca_board.proofs.field.FieldBench.find_right.Goals as goal

pub returns-then-byte-clause-first : goal.returns-then-byte-clause-first
returns-then-byte-clause-first g c =
    let width = ap (λ (d : Size). d.w) c.dims.view_is in
    let inside = rw (← c.self.view_is) at c.requires.inside in
    let number =
    c.index-first.ensures.index ∙ ap (λ (d : Size). index_of d c.args.at) c.largest.ensures in
    let shown = peek_right (slate_of c.self.inside).scan c.self.inside.cells.items c.args.at
    c.loop-column.column c.index-first.result _ c.index.result.now
    c.self.invariant.lists.slate.state.sheet.size refl
    c.self.invariant.outside c.self.invariant.whole inside
    (omega (
      arith,
      c.loop-column-test.true,
      c.min-end.ensures,
      width,
      c.self.invariant.lists.slate.state.sheet.size.few_columns,
    )) number (omega (
      arith,
      c.from-in-loop-column.ensures,
    )) c.index.ensures in
    let here : peek (slate_of c.self.inside).scan (right c.args.at c.loop-column.column)
    ≡ c.args.byte = sym shown ∙ (sym c.byte.ensures.byte ∙ c.if-byte.true) in
    sym (first_where-found _ 1 c.args.reach c.loop-column.column c.loop-column.invariant.low
    (omega (arith, c.loop-column-test.true, c.min-end.ensures, width, c.from.ensures))
    c.loop-column.invariant.none
    (subst (λ (d : Slate). (peek d.scan (right c.args.at c.loop-column.column) == c.args.byte)
    ≡ true) c.self.view_is (holds_it _ _ here)))

pub loop-column-init : goal.loop-column-init
loop-column-init g c =
    let width = ap (λ (d : Size). d.w) c.dims.view_is in
    let inside = rw (← c.self.view_is) at c.requires.inside in
    let number =
    c.index-first.ensures.index ∙ ap (λ (d : Size). index_of d c.args.at) c.largest.ensures in
    record {
      none = λ k low high.
          let absent = rw c.deref.ensures.value at (c.skip_groups-start.ensures.none k low high) in
          let shown = cell_right (slate_of c.self.inside).scan c.self.inside.cells.items c.args.at k
          c.index-first.result c.self.invariant.lists.slate.state.sheet.size refl
          c.self.invariant.outside c.self.invariant.whole inside
          (omega (
            arith,
            high,
            c.skip_groups-start.ensures.range.1,
            c.min-end.ensures,
            width,
            inside.column,
            c.self.invariant.lists.slate.state.sheet.size.few_columns,
          )) number in
          subst (λ (d : Slate). (peek d.scan (right c.args.at k) == c.args.byte) ≡ false)
          c.self.view_is (ap (λ (n : ℕ). n == c.args.byte) (sym shown)
          ∙ absent);
      low = c.skip_groups-start.ensures.range.0;
      few = omega (
        arith,
        c.skip_groups-start.ensures.range.1,
        c.min-end.ensures,
        width,
        c.from.ensures,
      );
      steps = c.skip_groups-start.ensures.steps;
    }

pub loop-column-preserved : goal.loop-column-preserved
loop-column-preserved g c =
    let width = ap (λ (d : Size). d.w) c.dims.view_is in
    let inside = rw (← c.self.view_is) at c.requires.inside in
    let number =
    c.index-first.ensures.index ∙ ap (λ (d : Size). index_of d c.args.at) c.largest.ensures in
    let shown = peek_right (slate_of c.self.inside).scan c.self.inside.cells.items c.args.at
    c.loop-column.column c.index-first.result _ c.index.result.now
    c.self.invariant.lists.slate.state.sheet.size refl
    c.self.invariant.outside c.self.invariant.whole inside
    (omega (
      arith,
      c.loop-column-test.true,
      c.min-end.ensures,
      width,
      c.self.invariant.lists.slate.state.sheet.size.few_columns,
    )) number (omega (
      arith,
      c.from-in-loop-column.ensures,
    )) c.index.ensures in
    let other : (peek (slate_of c.self.inside).scan (right c.args.at c.loop-column.column)
    == c.args.byte) ≡ false = holds_other _ _ (λ same. c.if-byte.false
    (c.byte.ensures.byte ∙ (shown ∙ same))) in
    record {
      none = λ k low high. elim (cases_lt k c.loop-column.column) [
        | inl before ↦ c.loop-column.invariant.none k low before
        | inr last ↦
            let same : c.loop-column.column ≡ k = omega (arith, high, last) in
            rw (← same) (subst (λ (d : Slate).
            (peek d.scan (right c.args.at c.loop-column.column) == c.args.byte)
            ≡ false) c.self.view_is other)
      ];
      low = omega arith;
      few = omega (arith, c.loop-column-test.true, c.min-end.ensures, width, c.from.ensures);
      steps = omega (arith, c.loop-column.invariant.steps, c.count_one.ensures);
    }

pub returns-clause-first : goal.returns-clause-first
returns-clause-first g c =
    let width = ap (λ (d : Size). d.w) c.dims.view_is in
    sym (first_where-missing _ 1 c.args.reach
    (λ k low high. elim (cases_lt k c.loop-column.column) [
      | inl before ↦ c.loop-column.invariant.none k low before
      | inr beyond ↦
          subst (λ (d : Slate). (peek d.scan (right c.args.at k) == c.args.byte) ≡ false)
          c.self.view_is
          (none_beyond (slate_of c.self.inside).scan c.args.at k c.args.byte
          (omega (
            arith,
            beyond,
            high,
            c.loop-column-test.false,
            c.min-end.ensures,
            width,
            c.from.ensures,
          )) c.requires.visible)
    ]))
