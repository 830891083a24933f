use Rattle.std.proofs.Common.{[], ◌∷◌, sym, ◌∙◌, refl}
use Rattle.std.proofs.lemmas.List.{append-nil}
use Rattle.orca_term.proofs.PaintingBytes.{style_change-same, style_change-plain, style_change-new, plain_bytes, joined}
use Rattle.std.specs.Fmt.{decimal}
use Rattle.orca_term.specs.Codes.{introducer}
use Rattle.orca_term.proofs.painting.restyle.Goals as goal

pub returns-then-old-new-clause-style : goal.returns-then-old-new-clause-style
returns-then-old-new-clause-style c =
    rw (style_change-same c.args.old c.args.new c.if-old-new.true)
    (sym (append-nil c.args.bytes.now.items))

pub returns-then-new-ne0-clause-style : goal.returns-then-new-ne0-clause-style
returns-then-new-ne0-clause-style c =
    rw (
      style_change-new c.args.old c.args.new c.if-old-new.false c.if-new-ne0.true,
      c.push_all-then-new-ne0-2.ensures.bytes,
      c.push_number.ensures.number,
      c.push_all-then-new-ne0.ensures.bytes,
      c.push_all.ensures.bytes,
      c.from.ensures,
    )
    (joined c.args.bytes.now.items plain_bytes introducer (decimal c.args.new) (109 ∷ []))

pub returns-else-new-ne0-clause-style : goal.returns-else-new-ne0-clause-style
returns-else-new-ne0-clause-style c =
    c.push_all.ensures.bytes
    ∙ rw (style_change-plain c.args.old c.args.new c.if-old-new.false c.if-new-ne0.false) refl
