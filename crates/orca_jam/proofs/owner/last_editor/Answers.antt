use Rattle.std.proofs.Common.{false, arith, refl, sym, ◌∙◌}
use Rattle.orca_jam.proofs.LastEditor.{last_editor-at}
use Rattle.orca_jam.specs.declared.owner.Owner.{Owner}
use Rattle.orca_jam.proofs.owner.last_editor.Goals as goal

-- what an index past the end would give
abbrev none : Owner
none = record { hand = 0; edit = false }

pub returns-then-owner : goal.returns-then-owner
returns-then-owner c =
    let inv = c.loop-end.invariant in
    sym (last_editor-at c.args.owners.now c.loop-end.end none c.loop-end-test.true inv.within inv.last
    ∙ rw c.if-owner.true refl)

pub loop-end-preserved : goal.loop-end-preserved
loop-end-preserved c =
    let inv = c.loop-end.invariant in
    record {
      within = omega (arith, inv.within);
      last =
          last_editor-at c.args.owners.now c.loop-end.end none c.loop-end-test.true inv.within inv.last
          ∙ rw c.if-owner.false refl;
    }
