use Rattle.std.proofs.Common.{ap, arith, sym, ◌∙◌, subst}
use Rattle.std.proofs.lemmas.Result.{on_err_weaker, on_ok_weaker}
use Rattle.orca_base.specs.Grids.{Sheet}
use Rattle.orca_edit.specs.Editing.{FitsIn}
use Rattle.orca_edit.specs.Obeying.{piece_of}
use Rattle.orca_op.specs.Slate.{Slate, residue}
use Rattle.orca_op.specs.State.{sheet_of}
use Rattle.orca_session.specs.Past.{numbers_of, present}
use Rattle.orca_session.specs.Session.{SessionState}
use Rattle.orca_session.proofs.PayLemmas.{begun-clear, edit-lists, new-plain, on-both, pays-change, pays-taken_back, pushed-plain}
use Rattle.orca_session.proofs.session.Session.change.Goals as goal

pub push-requires-clause-listed : goal.push-requires-clause-listed
push-requires-clause-listed g c =
    edit-lists c.touch_law.ensures.places (present c.self.inside.past) c.args.entry
    c.begin.new.self c.apply.new.board c.requires.edit
    (subst (λ (s : SessionState). FitsIn (piece_of s.machine).sheet.dims c.args.entry)
    (sym c.self.view_is) c.requires.fits)
    (begun-clear c.listing_law.ensures.begin c.self.inside.board c.begin.new.self
    (present c.self.inside.past).sheet c.begin.ensures.slate c.self.invariant.grid).0
    c.apply.ensures.slate

pub returns-clause-kept : goal.returns-clause-kept
returns-clause-kept g c =
    rw (← c.self.view_is)
    (on_ok_weaker c.push.result
    (λ numbers. numbers
    ∙ pushed-plain c.push.new.self c.self.inside.clip (numbers_of c.self.inside.past))
    c.push.ensures.numbers)

pub returns-clause-paid : goal.returns-clause-paid
returns-clause-paid g c =
    rw (← c.self.view_is)
    (let p = present c.self.inside.past in
    let begun = begun-clear c.listing_law.ensures.begin c.self.inside.board c.begin.new.self
    p.sheet c.begin.ensures.slate c.self.invariant.grid in
    on-both c.push.result
    (λ steps board. omega (
      arith,
      steps,
      ap residue board,
      pays-change c.touch_law.ensures.pays p c.args.entry c.self.inside.board c.begin.new.self
          c.apply.new.board c.args.steps.now c.begin.new.steps c.apply.new.steps c.requires.edit
          (subst (λ (s : SessionState). FitsIn (piece_of s.machine).sheet.dims c.args.entry)
          (sym c.self.view_is) c.requires.fits)
          begun.0 begun.1 c.begin.ensures.steps c.apply.ensures.steps c.apply.ensures.residue,
      new-plain c.push.new.self c.self.inside.clip c.self.inside.past.points.spacing,
    ))
    c.push.ensures.steps c.push.ensures.board)

pub returns-clause-refused : goal.returns-clause-refused
returns-clause-refused g c =
    rw (← c.self.view_is)
    (let p = present c.self.inside.past in
    let begun = begun-clear c.listing_law.ensures.begin c.self.inside.board c.begin.new.self
    p.sheet c.begin.ensures.slate c.self.invariant.grid in
    on_err_weaker c.push.result
    (λ paid. pays-taken_back c.touch_law.ensures.pays c.touch_law.ensures.both p c.args.entry
    c.self.inside.board c.begin.new.self c.apply.new.board c.push.new.board c.dims-dims.result
    c.args.steps.now c.begin.new.steps c.apply.new.steps c.push.new.steps c.requires.edit
    (subst (λ (s : SessionState). FitsIn (piece_of s.machine).sheet.dims c.args.entry)
    (sym c.self.view_is) c.requires.fits)
    begun.0 begun.1 c.begin.ensures.steps c.apply.ensures.steps c.apply.ensures.residue
    (c.apply.ensures.sheet p (sym (ap (λ (d : Slate). sheet_of d.scan) begun.0)))
    (c.dims-dims.ensures.size ∙ ap (λ (s : Sheet). s.dims) c.self.invariant.grid) paid)
    c.push.ensures.paid)
