use Rattle.std.proofs.Common.{◌≡◌, ◌*◌, ◌≤◌, ℕ, List, length, arith, ap, ◌∙◌}
use Rattle.std.proofs.Math.Nat.{mul-le-mul_right}
use Rattle.orca_base.specs.Areas.{corner_of, size_of}
use Rattle.orca_base.specs.Edits.{moved, origin}
use Rattle.orca_base.specs.Grids.{glyph_at}
use Rattle.orca_base.proofs.SheetFacts.{length-by_place}
use Rattle.orca_op.specs.State.{sheet_of}
use Rattle.orca_board.proofs.BlockEdits.{shift_as, length-shift}
use Rattle.orca_board.proofs.blocks.shift.Goals as goal

pub write_block-requires-clause-rows : goal.write_block-requires-clause-rows
write_block-requires-clause-rows g c =
    let rows : c.image-target.result.h ≤ c.args.area.h =
    rw c.image-target.ensures.image (omega arith) in
    let many : length c.deref.result.now ≡ c.args.area.h * c.args.area.w =
    ap (λ (xs : List ℕ). length xs) (c.deref.ensures.value ∙ c.read_area.ensures.glyphs)
    ∙ length-by_place (size_of c.args.area) (λ at. glyph_at
    (sheet_of (g.B.Bench.slate c.args.bench.now).scan)
    (moved origin (corner_of c.args.area) at)) in
    omega (arith, many, mul-le-mul_right c.args.area.w rows)

pub returns-clause-slate : goal.returns-clause-slate
returns-clause-slate g c =
    shift_as _ _ _ c.dims.result c.args.area c.args.to c.image-target.result _
    c.dims.ensures.slate c.requires.area c.requires.to c.dims.ensures.size
    c.image-target.ensures.image (c.deref.ensures.value ∙ c.read_area.ensures.glyphs)
    c.clear_outside.ensures.slate c.write_block.ensures.slate

pub returns-clause-steps : goal.returns-clause-steps
returns-clause-steps g c =
    omega (
      arith,
      c.read_area.ensures.steps,
      c.clear_outside.ensures.steps,
      c.write_block.ensures.steps,
      length-shift _ c.dims.result c.args.area c.args.to c.image-target.result c.dims.ensures.size
          c.image-target.ensures.image,
    )
