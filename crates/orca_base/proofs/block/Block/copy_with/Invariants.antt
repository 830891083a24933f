use Rattle.std.proofs.Common.{◌≡◌}
use Rattle.orca_base.proofs.BlockFacts.{first_cells}
use Rattle.orca_base.proofs.block.Block.copy_with.Given as goal

-- the first cells are laid
abbrev pub invariant-loop-n : goal.invariant-loop-n
invariant-loop-n l =
    l.cells.items ≡ first_cells l.self l.at l.glyph (record { h = l.h; w = l.w }) l.n
