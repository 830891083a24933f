use Rattle.std.proofs.Common.{◌≡◌, ◌+◌, ◌-◌, ◌*◌, ◌/◌, ◌∙◌, ap, arith, length, refl, subst, ◌&&◌}
use Rattle.std.specs.Prelude.{nat_lt}
use Rattle.orca_base.specs.declared.limits.TheConstants.{MAX_COLUMNS, WORD_COLUMNS}
use Rattle.orca_board.specs.Board.{slate_of}
use Rattle.orca_board.specs.declared.field.Field.TheInside.{Inside}
use Rattle.orca_board.proofs.BoardLemmas.{live-row, summary-row}
use Rattle.orca_board.proofs.field.FieldWalk.live_words.Goals as goal
use Rattle.orca_op.specs.Live.{has_bit, IsSummary}

pub returns-clause-live : goal.returns-clause-live
returns-clause-live g c =
    let long : length c.row.result.now ≡ (c.self.inside.dims.w + (WORD_COLUMNS - 1)) / WORD_COLUMNS
    = omega (arith, c.row.ensures.size, ap (λ (i : Inside). i.dims.w) c.self-inside.view_is) in
    rw (← c.self.view_is) (record {
      size = long;
      bits = λ x. live-row (slate_of c.self.inside).scan c.self.inside.cells.items c.self.inside.live
          c.row.result.now c.args.row x c.self.invariant.lists.slate.state.sheet.size
          (rw (← c.self.view_is) at c.requires) refl c.self.invariant.outside c.self.invariant.live
          long (λ within. c.row.ensures.bits x within
          ∙ ap (λ (i : Inside). has_bit i.live (c.args.row * MAX_COLUMNS + x)) c.self-inside.view_is);
    })

pub returns-clause-summary : goal.returns-clause-summary
returns-clause-summary g c =
    rw (← c.self.view_is) (summary-row (slate_of c.self.inside).scan
    c.self.inside.cells.items c.self.inside.live c.args.row _
    c.self.invariant.lists.slate.state.sheet.size (rw (← c.self.view_is) at c.requires) refl
    c.self.invariant.outside c.self.invariant.live
    (subst (λ (i : Inside). IsSummary
    (λ x. nat_lt x MAX_COLUMNS && has_bit i.live (c.args.row * MAX_COLUMNS + x)) c.summary.result)
    c.self-inside.view_is c.summary.ensures))
