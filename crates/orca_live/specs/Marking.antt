-- What a picture is made of besides its screen: a grid, marks, what is laid over the grid, what was
-- sent, and the status line.
use Rattle.std.specs.Prelude.{List, []}
use Rattle.orca_base.specs.Grids.{Sheet}
use Rattle.orca_base.specs.MarkSet.{MarkSet}
use Rattle.orca_live.specs.declared.painting.Margin.{Margin}
use Rattle.orca_live.specs.declared.painting.Marking.{Marking}
use Rattle.orca_live.specs.declared.painting.Marking.TheVariants.{Bare, Scanned}
use Rattle.orca_term.specs.Picture.{picture, scene_of}
use Rattle.orca_term.specs.Traffic.{FrameSent}
use Rattle.orca_term.specs.declared.cell.Cell.{Cell}
use Rattle.orca_term.specs.declared.cell.ScreenSize.{ScreenSize}

-- which marks a picture shows: none, or those of the session
abbrev pub marks_by : Marking → List MarkSet → List MarkSet
marks_by Bare marks = []
marks_by Scanned marks = marks

-- the picture of a grid with these marks
abbrev pub pictured : ScreenSize → Sheet → List MarkSet → FrameSent → Margin → List Cell
pictured d sheet marks sent margin = picture d (scene_of sheet marks margin.over) sent margin.line
