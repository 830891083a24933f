use Rattle.std.proofs.Common.{arith}
use Rattle.orca_board.proofs.BlockEdits.{put_as, length-put}
use Rattle.orca_board.proofs.blocks.put.Goals as goal

pub returns-clause-slate : goal.returns-clause-slate
returns-clause-slate g c =
    put_as _ _ c.dims.result c.args.to c.args.block.now c.h.result c.w.result c.w-2.result
    c.image-area.result c.cells.result.now
    c.dims.ensures.slate c.requires c.dims.ensures.size c.h.ensures c.w.ensures c.w-2.ensures
    c.cells.ensures.cells c.image-area.ensures.image c.write_block.ensures.slate

pub returns-clause-steps : goal.returns-clause-steps
returns-clause-steps g c =
    omega (
      arith,
      c.write_block.ensures.steps,
      length-put _ c.dims.result c.args.to c.args.block.now.dims c.h.result c.w.result
          c.image-area.result c.dims.ensures.size c.h.ensures c.w.ensures
          c.image-area.ensures.image,
    )
