use Rattle.std.proofs.Common.{◌≡◌, ◌+◌, List, length, arith, ap, ◌∙◌}
use Rattle.orca_base.specs.declared.change.Change.{Change}
use Rattle.orca_board.specs.Sizes.{cut_places}
use Rattle.orca_board.proofs.BlockPlaces.{length-cut_places}
use Rattle.orca_base.specs.declared.place.Place.{Place}
use Rattle.orca_op.specs.State.{sheet_of}
use Rattle.orca_patch.specs.Patches.{Before, before_of, slate_before, sheet_before}
use Rattle.orca_patch.proofs.Inverse.{sheet-back}
use Rattle.orca_patch.proofs.Cutting.{cut_places-same}
use Rattle.orca_patch.proofs.Undoing.{step, undone, sheet-slate_before, residue-slate_before}
use Rattle.orca_patch.proofs.patch.Patch.undo_on.Given.{Over}
use Rattle.orca_patch.proofs.patch.Patch.undo_on.Goals as goal

pub loop-change-init : goal.loop-change-init
loop-change-init g c = record {
  slate = c.set_dims.ensures.slate;
  steps = omega (arith, c.set_dims.ensures.steps);
}

pub loop-change-preserved : goal.loop-change-preserved
loop-change-preserved g c =
    let items = c.as_slice-change-items.ensures in
    record {
      slate = step _ _ _ _ c.loop-change.change-index c.change-item.result _
          (rw items at c.loop-change-test.true) (rw items at c.change-item.is)
          c.loop-change.invariant.slate c.here.ensures c.write.ensures.deed;
      steps = omega (arith, c.loop-change.invariant.steps, c.write.ensures.steps);
    }

-- the board is the one before
left : (g : Over) (c : goal.After-loop-change g)
    → c.loop-change.board ≡ slate_before c.args.self.now c.args.board.now
left g c =
    rw (← c.self.view_is) (undone _ c.args.board.now _ c.loop-change.change-index c.self.invariant
    (rw (← c.self.view_is) at c.requires) c.loop-change.invariant.slate
    (rw c.as_slice-change-items.ensures at c.loop-change-test.false))

pub returns-clause-slate : goal.returns-clause-slate
returns-clause-slate g c = left g c

pub returns-clause-sheet : goal.returns-clause-sheet
returns-clause-sheet g c =
    rw (left g c) (sheet-slate_before c.args.self.now c.args.board.now)

pub returns-clause-inverse : goal.returns-clause-inverse
returns-clause-inverse g c d tick slate patch now =
    rw (left g c) (sheet-slate_before c.args.self.now c.args.board.now)
    ∙ (ap (λ (b : Before). sheet_before b (sheet_of c.args.board.now.scan)) patch
    ∙ (ap (sheet_before (before_of d tick)) now ∙ sheet-back d tick slate))

-- once for each place that is cut off, and once for each change
steps : (g : Over) (c : goal.After-loop-change g) → c.loop-change.steps
    ≡ c.args.steps.now + length (cut_places c.args.board.now.scan.dims c.args.self.now.dims)
    + length c.args.self.now.changes
steps g c =
    rw (← c.self.view_is)
    (omega (
      arith,
      c.loop-change.invariant.steps,
      ap (λ (changes : List Change). length changes) c.as_slice-change-items.ensures,
    ))

pub returns-clause-steps : goal.returns-clause-steps
returns-clause-steps g c = steps g c

pub returns-clause-same_size : goal.returns-clause-same_size
returns-clause-same_size g c same =
    let none : length (cut_places c.args.board.now.scan.dims c.args.self.now.dims) ≡ 0 =
    rw (← same) (ap (λ (places : List Place). length places)
    (cut_places-same c.args.board.now.scan.dims)) in
    omega (arith, steps g c, none)

pub returns-clause-few_steps : goal.returns-clause-few_steps
returns-clause-few_steps g c =
    omega (
      arith,
      steps g c,
      length-cut_places c.args.board.now.scan.dims c.args.self.now.dims,
    )

pub returns-clause-residue : goal.returns-clause-residue
returns-clause-residue g c =
    rw (left g c)
    (omega (arith, steps g c, residue-slate_before c.args.self.now c.args.board.now))
