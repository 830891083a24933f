use Rattle.std.proofs.Common.{arith}
use Rattle.std.specs.Int.{w64}
use Rattle.std.proofs.lemmas.Nat.Bits.{bit_at-trailing_zeros}
use Rattle.orca_op.proofs.LiveLemmas.{ahead_of, cursor_behind}
use Rattle.orca_op.proofs.cursor.Cursor.stop.Goals as goal

-- the bits above the lowest lie ahead
pub invariant_of-self : goal.invariant_of-self
invariant_of-self c =
    let least = bit_at-trailing_zeros w64 c.args.bits c.requires.some
    (omega (arith, c.ranges.bits.fits)) in
    cursor_behind c.args.word c.args.base _ _ least.0 c.requires.base (ahead_of _ least.0)
