use Rattle.std.proofs.Common.{arith}
use Rattle.byteorder.specs.Numbers.{big_from-lt}
use Rattle.orca_smf.proofs.Deltas.{IsBytes-drop, IsBytes-take}
use Rattle.orca_smf.proofs.front.read_front.Goals as goal

-- three bytes stand for less than 2 ^ 24
pub front-requires : goal.front-requires
front-requires c =
    let bytes = IsBytes-take 29 c.args.bytes.now (λ i. omega (arith, c.type_inv.bytes i)) in
    rw (c.read_u24-tempo.ensures, c.split_at-2.ensures.back, c.split_at.ensures.front)
    (big_from-lt 0 3 _ (IsBytes-drop 26 _ bytes))
