use Rattle.std.proofs.Common.{◌≡◌, ◌+◌, arith, ap, subst, sym, ◌∙◌}
use Rattle.std.proofs.lemmas.List.{get_or-replicate}
use Rattle.orca_base.specs.declared.now.Now.{Now}
use Rattle.orca_base.specs.Glyphs.{empty, is_operator}
use Rattle.orca_base.specs.Grids.{Size, Sheet, IsSheet, cells_of}
use Rattle.orca_base.proofs.GlyphFacts.{none-empty}
use Rattle.orca_grid.specs.BlankGrid.{blank_sheet}
use Rattle.orca_op.specs.Slate.{Slate, slate_of_sheet}
use Rattle.orca_frame.specs.Frames.{IsFramed, most_steps}
use Rattle.orca_frame.specs.Skips.{IsInert, IsAtRest}
use Rattle.grid_tests.proofs.frames.play_dots.Goals as goal

abbrev square : Size
square = record { h = 256; w = 256 }

abbrev dots : Sheet
dots = blank_sheet square

dots_are_inert : IsInert dots
dots_are_inert n below =
    ap is_operator (get_or-replicate (cells_of square) n empty 0 below) ∙ none-empty

-- the frame that is played
abbrev first : Now
first = record { tick = 0; seed = 1 }

-- what the law says of every grid that holds no operator
abbrev Law : Type 0
Law = (g : Sheet) (now : Now) → IsSheet g → IsInert g → IsAtRest g now

-- a frame that was played on dots: they were a grid
at_rest : (old new : Slate) → Law → old ≡ slate_of_sheet dots → IsFramed old new first
    → IsAtRest dots first
at_rest old new law is framed =
    let began : new.began ≡ dots =
    framed.began ∙ ap (λ (d : Slate). record { dims = d.scan.dims; cells = d.scan.cells }) is
    in
    law dots first (subst IsSheet began framed.slate.began) dots_are_inert

-- the frame left them
same_after : (old new : Slate) → Law → old ≡ slate_of_sheet dots → IsFramed old new first → new ≡ old
same_after old new law is framed =
    let played = subst (λ (d : Slate). IsFramed d new first) is framed in
    (at_rest old new law is framed).same new played ∙ sym is

-- the most steps that it takes
most_after : (old new : Slate) → Law → old ≡ slate_of_sheet dots → IsFramed old new first
    → most_steps old first ≡ dots.dims.h + 1
most_after old new law is framed =
    ap (λ (d : Slate). most_steps d first) is ∙ (at_rest old new law is framed).steps

pub returns-clause-same : goal.returns-clause-same
returns-clause-same g c = same_after _ _ c.rest_law.ensures c.requires c.frame.ensures.framed

pub returns-clause-steps : goal.returns-clause-steps
returns-clause-steps g c =
    let most = most_after _ _ c.rest_law.ensures c.requires c.frame.ensures.framed in
    let rows = ap (λ (d : Slate). d.scan.dims.h) c.requires in
    omega (arith, most, rows, c.frame.ensures.most, c.frame.ensures.least)
