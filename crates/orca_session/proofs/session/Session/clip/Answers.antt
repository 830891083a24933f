use Rattle.std.proofs.Common.{◌≡◌, [], None, Ok, ap, sym, ◌∙◌, subst}
use Rattle.std.specs.Prelude.{Option}
use Rattle.orca_base.specs.declared.command.Command.TheVariants as command
use Rattle.orca_base.specs.declared.command.Fault.TheVariants.{Memory}
use Rattle.orca_base.specs.declared.command.Reply.TheVariants.{Copied}
use Rattle.orca_base.specs.Grids.{Sheet}
use Rattle.orca_edit.specs.Machines.{obeyed}
use Rattle.orca_edit.specs.Obeying.{rule_against}
use Rattle.orca_session.specs.Past.{machine_of}
use Rattle.orca_session.specs.Session.{SessionState}
use Rattle.orca_session.proofs.ObeyLemmas.{inside-clip, obey-clip}
use Rattle.orca_session.proofs.PayLemmas.{kept-done, kept-none}
use Rattle.orca_session.proofs.session.Session.clip.Goals as goal

pub put_in_clip-put-requires : goal.put_in_clip-put-requires
put_in_clip-put-requires c =
    inside-clip c.args.self.now.machine c.args.y c.args.x c.args.glyph c.requires.allowed

pub returns-in_default-clause-kept : goal.returns-in_default-clause-kept
returns-in_default-clause-kept c =
    ap (λ (s : SessionState). s.kept) c.self.view_is
    ∙ kept-none c.args.self.now.machine c.args.self.now.kept
    (command.Clip c.args.y c.args.x c.args.glyph) Memory

pub returns-clause-obeys : goal.returns-clause-obeys
returns-clause-obeys c =
    rw (← c.self.view_is)
    (obey-clip (machine_of c.self.inside.past c.self.inside.clip) c.args.y c.args.x c.args.glyph
    (subst (λ (s : SessionState). rule_against s.machine
    (command.Clip c.args.y c.args.x c.args.glyph) ≡ None) (sym c.self.view_is) c.requires.allowed)
    ∙ ap (λ (clip : Option Sheet). obeyed (Ok Copied) (machine_of c.self.inside.past clip) [])
    (sym c.in-Ok.ensures.clip))

pub returns-clause-kept : goal.returns-clause-kept
returns-clause-kept c =
    kept-done c.args.self.now.machine c.args.self.now.kept _
    (command.Clip c.args.y c.args.x c.args.glyph) Copied
    (machine_of c.self.inside.past c.put_in_clip-put.new.clip) [] (returns-clause-obeys c)
    (ap (λ (s : SessionState). s.kept) c.self.view_is)
