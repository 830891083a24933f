use Rattle.std.proofs.Common.{◌≡◌, [], arith, Err, ap, sym, ◌∙◌, subst}
use Rattle.std.specs.Prelude.{IfSome, IsSome, Option}
use Rattle.std.proofs.lemmas.Result.{err_from_is_err_and}
use Rattle.orca_base.specs.declared.command.Entry.{Entry}
use Rattle.orca_base.specs.declared.command.Fault.TheVariants.{Memory}
use Rattle.orca_base.specs.Grids.{Sheet}
use Rattle.orca_edit.specs.Editing.{IsGridEdit}
use Rattle.orca_edit.specs.Obeying.{MachineState, piece_of}
use Rattle.orca_edit.proofs.RuleLemmas.{has-room}
use Rattle.orca_session.specs.Session.{SessionState, edit_price}
use Rattle.orca_session.proofs.PayLemmas.{bill-edit, charge-done, charge-memory, kept-done, kept-none, same-entry}
use Rattle.orca_session.proofs.ObeyLemmas.{adds-edit, edits-grid, obey-edit, only-memory}
use Rattle.orca_session.proofs.session.Session.edit.Goals as goal

pub returns-in_err-entry-clause-obeys : goal.returns-in_err-entry-clause-obeys
returns-in_err-entry-clause-obeys g c =
    let p = err_from_is_err_and c.from_residual.result c.from_residual.ensures.1 in
    let grid = c.self.invariant.grid
    ∙ ap (λ (s : SessionState). (piece_of s.machine).sheet) c.self.view_is in
    rw (p.1, p.2)
    (only-memory c.args.self.now.machine c.dims-dims.result _ c.args.command.now
    c.in_err-entry.field-0.0
    (c.dims-dims.ensures.size ∙ ap (λ (s : Sheet). s.dims) grid)
    (c.as_ref.ensures.value ∙ ap (λ (s : SessionState). s.machine.clip) c.self.view_is)
    c.requires.allowed c.requires.editing
    (λ rule is. (c.in_err-entry.ensures.refused rule).0 (ap Err is)))

pub carry_out-requires-clause-edit : goal.carry_out-requires-clause-edit
carry_out-requires-clause-edit g c =
    subst (λ (e : Option Entry). IfSome e IsGridEdit) (sym c.in_ok-entry.ensures.entry)
    (edits-grid c.dims-dims.result _ c.args.command.now c.requires.editing)

pub carry_out-requires-clause-room : goal.carry_out-requires-clause-room
carry_out-requires-clause-room g c some =
    has-room c.args.self.now.machine c.args.command.now c.requires.allowed
    (adds-edit c.dims-dims.result _ c.args.command.now c.requires.editing
    (subst (λ (e : Option Entry). IsSome e) c.in_ok-entry.ensures.entry some))

pub returns-in-Ok-clause-obeys : goal.returns-in-Ok-clause-obeys
returns-in-Ok-clause-obeys g c =
    let m : MachineState = c.args.self.now.machine in
    let size : c.dims-dims.result ≡ (piece_of m).sheet.dims =
    c.dims-dims.ensures.size ∙ (ap (λ (s : Sheet). s.dims) c.self.invariant.grid
    ∙ ap (λ (s : SessionState). (piece_of s.machine).sheet.dims) c.self.view_is) in
    let clip = c.as_ref.ensures.value ∙ ap (λ (s : SessionState). s.machine.clip) c.self.view_is in
    obey-edit m c.dims-dims.result _ c.args.command.now c.in_ok-entry.field-0.take
    c.in_ok-entry.field-0.entry size clip c.requires.allowed c.requires.editing
    c.in_ok-entry.ensures.take c.in_ok-entry.ensures.entry
    ∙ c.in-Ok.ensures.done c.args.command.now c.requires.editing

pub returns-in_err-entry-clause-kept : goal.returns-in_err-entry-clause-kept
returns-in_err-entry-clause-kept g c =
    let p = err_from_is_err_and c.from_residual.result c.from_residual.ensures.1 in
    rw p.1 (kept-none c.args.self.now.machine c.args.self.now.kept c.args.command.now p.0)

pub returns-in-Ok-clause-kept : goal.returns-in-Ok-clause-kept
returns-in-Ok-clause-kept g c =
    kept-done c.args.self.now.machine c.args.self.now.kept c.carry_out.new.self.kept
    c.args.command.now c.in-Ok.reply c.carry_out.new.self.machine []
    (returns-in-Ok-clause-obeys g c) c.in-Ok.ensures.kept

pub returns-in-Ok-clause-price : goal.returns-in-Ok-clause-price
returns-in-Ok-clause-price g c =
    let m : MachineState = c.args.self.now.machine in
    let size : c.dims-dims.result ≡ (piece_of m).sheet.dims =
    c.dims-dims.ensures.size ∙ (ap (λ (s : Sheet). s.dims) c.self.invariant.grid
    ∙ ap (λ (s : SessionState). (piece_of s.machine).sheet.dims) c.self.view_is) in
    let clip = c.as_ref.ensures.value ∙ ap (λ (s : SessionState). s.machine.clip) c.self.view_is in
    charge-done m c.args.self.now.kept c.args.command.now c.in-Ok.reply
    c.carry_out.new.self.machine [] _ _ (returns-in-Ok-clause-obeys g c)
    (omega (
      arith,
      c.in-Ok.ensures.paid,
      bill-edit m c.args.self.now.kept c.args.command.now c.in_ok-entry.field-0.entry
          c.in-Ok.reply c.carry_out.new.self.machine
          (same-entry m c.dims-dims.result _ c.args.command.now _ size clip
          c.in_ok-entry.ensures.entry)
          c.in-Ok.ensures.reply,
    ))

pub returns-in-Err-clause-kept : goal.returns-in-Err-clause-kept
returns-in-Err-clause-kept g c =
    c.in-Err.ensures.same
    ∙ kept-none c.args.self.now.machine c.args.self.now.kept c.args.command.now Memory

pub returns-in-Err-clause-price : goal.returns-in-Err-clause-price
returns-in-Err-clause-price g c =
    let m : MachineState = c.args.self.now.machine in
    let size : c.dims-dims.result ≡ (piece_of m).sheet.dims =
    c.dims-dims.ensures.size ∙ (ap (λ (s : Sheet). s.dims) c.self.invariant.grid
    ∙ ap (λ (s : SessionState). (piece_of s.machine).sheet.dims) c.self.view_is) in
    let clip = c.as_ref.ensures.value ∙ ap (λ (s : SessionState). s.machine.clip) c.self.view_is in
    omega (
      arith,
      c.in-Err.ensures.refused,
      charge-memory m c.args.self.now.kept c.args.command.now,
      ap (λ (e : Option Entry). edit_price (piece_of m) e)
          (same-entry m c.dims-dims.result _ c.args.command.now _ size clip
          c.in_ok-entry.ensures.entry),
    )
