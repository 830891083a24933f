use Rattle.std.proofs.Common.{◌≡◌, ◌+◌, ◌<◌, ◌≤◌, length, ap, sym, ◌∙◌, subst}
use Rattle.orca_base.specs.Grids.{Size}
use Rattle.orca_edit.specs.Prices.{jumped, new_cells}
use Rattle.orca_history.specs.Trails.{IsTrail}
use Rattle.orca_op.specs.State.{sheet_of}
use Rattle.orca_patch.specs.Patches.{Before, no_change}
use Rattle.orca_session.specs.Past.{IsPast, PastState, Undoes, moment_of, numbers_of, past_jumped, plain_machine, present}
use Rattle.orca_session.specs.Views.{past_of}
use Rattle.orca_session.proofs.BillLemmas.{due-jumped, kept-jumped, numbers-jumped, steps-jumped}
use Rattle.orca_session.proofs.JumpLemmas.{IsPast-jumped, jumped-parts, present-jumped}
use Rattle.orca_session.proofs.PastLemmas.{undoes-nothing}
use Rattle.orca_session.proofs.past.Past.jump.Given.{Over}
use Rattle.orca_session.proofs.past.Past.jump.Goals as goal

pub keep_due-requires : goal.keep_due-requires
keep_due-requires g c =
    due-jumped (past_of c.self.inside) c.args.moment c.drop_above.new.self c.self.invariant
    (subst (λ (p : PastState). c.args.moment < length p.trail.entries) (sym c.self.view_is)
    c.requires.within)
    c.drop_above.ensures

within : (g : Over) (c : goal.After-keep_due g)
    → c.args.moment < length (past_of c.self.inside).trail.entries
within g c =
    subst (λ (p : PastState). c.args.moment < length p.trail.entries) (sym c.self.view_is)
    c.requires.within

-- the grid is that of the moment
sheet : (g : Over) (c : goal.After-keep_due g)
    → sheet_of c.args.board.now.scan ≡ (moment_of (past_of c.self.inside) c.args.moment).sheet
sheet g c =
    c.requires.sheet
    ∙ sym (ap (λ (p : PastState). (moment_of p c.args.moment).sheet) c.self.view_is)

-- the parts are those of a jump
parts : (g : Over) (c : goal.After-keep_due g)
    → record (past_of c.self.inside) {
      trail = c.jump.new.self;
      points = c.keep_due.new.checkpoints;
      closed = c.min-self-inside.result;
    }
    ≡ past_jumped (past_of c.self.inside) c.args.moment c.empty-patch.result
    c.keep_due.new.checkpoints
parts g c =
    jumped-parts (past_of c.self.inside) c.args.moment c.empty-patch.result
    c.keep_due.new.checkpoints c.jump.new.self c.min-self-inside.result c.jump.ensures.jumped
    c.min-self-inside.ensures

-- the patch is that of no change
patch : (g : Over) (c : goal.After-keep_due g)
    → c.empty-patch.result ≡ no_change c.args.board.now.scan.dims c.args.tick
patch g c = c.empty-patch.ensures ∙ ap (λ (d : Size). no_change d c.args.tick) c.dims.ensures.size

undoes : (g : Over) (c : goal.After-keep_due g)
    → Undoes c.empty-patch.result (moment_of (past_of c.self.inside) c.args.moment)
    (moment_of (past_of c.self.inside) c.args.moment) 0
undoes g c =
    let now = moment_of c.args.self.now c.args.moment in
    let its : Undoes c.empty-patch.result now now 0 =
    subst (λ (b : Before). Undoes b now now 0) (sym (patch g c))
    (undoes-nothing c.touch_law.ensures.both (sheet_of c.args.board.now.scan) c.args.tick now 0
    c.dims.ensures.whole c.requires.sheet c.requires.tick) in
    subst (λ (p : PastState). Undoes c.empty-patch.result (moment_of p c.args.moment)
    (moment_of p c.args.moment) 0) (sym c.self.view_is) its

pub invariant_of-self : goal.invariant_of-self
invariant_of-self g c =
    let p : PastState = past_of c.self.inside in
    subst IsPast (sym (parts g c))
    (IsPast-jumped p c.args.moment c.empty-patch.result c.keep_due.new.checkpoints
    c.self.invariant (within g c) (undoes g c)
    (kept-jumped p c.args.moment c.empty-patch.result c.keep_due.new.checkpoints
    c.drop_above.new.self (sheet_of c.args.board.now.scan) c.args.tick (within g c)
    c.drop_above.ensures c.keep_due.ensures.points (sheet g c)
    (c.requires.tick
    ∙ sym (ap (λ (q : PastState). (moment_of q c.args.moment).tick) c.self.view_is)))
    (subst IsTrail c.jump.ensures.jumped c.jump.ensures.trail))

pub returns-clause-present : goal.returns-clause-present
returns-clause-present g c =
    rw (← c.self.view_is)
    (ap present (parts g c)
    ∙ present-jumped (past_of c.self.inside) c.args.moment c.empty-patch.result
    c.keep_due.new.checkpoints)

pub returns-clause-numbers : goal.returns-clause-numbers
returns-clause-numbers g c =
    rw (← c.self.view_is)
    (subst (λ (q : PastState). numbers_of q
    ≡ jumped (plain_machine q) (numbers_of (past_of c.self.inside)) c.args.moment) (sym (parts g c))
    (numbers-jumped (past_of c.self.inside) c.args.moment c.empty-patch.result
    c.keep_due.new.checkpoints c.drop_above.new.self _ c.self.invariant (within g c)
    c.drop_above.ensures c.keep_due.ensures.all c.keep_due.ensures.points))

pub returns-clause-steps : goal.returns-clause-steps
returns-clause-steps g c =
    rw (← c.self.view_is)
    (subst (λ (q : PastState). c.keep_due.new.steps
    ≤ c.args.steps.now + new_cells (past_of c.self.inside).points.spacing (plain_machine q))
    (sym (parts g c))
    (steps-jumped (past_of c.self.inside) c.args.moment c.empty-patch.result
    c.keep_due.new.checkpoints c.drop_above.new.self (sheet_of c.args.board.now.scan)
    c.args.steps.now c.keep_due.new.steps (within g c) c.drop_above.ensures (sheet g c)
    c.keep_due.ensures.steps))
