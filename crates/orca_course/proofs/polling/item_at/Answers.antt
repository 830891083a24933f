use Rattle.std.proofs.Common.{◌≡◌, refl, arith}
use Rattle.orca_course.proofs.ItemLemmas.{byte_at, bytes_length}
use Rattle.orca_course.proofs.polling.item_at.Goals as goal

pub returns-in-Bytes : goal.returns-in-Bytes
returns-in-Bytes c =
    let below = rw (c.in-Bytes.is, bytes_length) at c.requires in
    rw c.in-Bytes.is
    (byte_at c.in-Bytes.hand c.in-Bytes.count c.in-Bytes.at c.args.bytes.now c.args.index _ below refl)

pub returns-in-Due : goal.returns-in-Due
returns-in-Due c =
    let first : c.args.index ≡ 0 = omega (arith, rw c.in-Due.is at c.requires) in
    rw (c.in-Due.is, first) refl
