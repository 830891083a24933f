use Rattle.std.proofs.Common.{arith}
use Rattle.orca_history.proofs.Room.{lists-pushed, room-pushed}
use Rattle.orca_history.proofs.entries.Entries.push.Goals as goal

pub invariant_of-self-2 : goal.invariant_of-self-2
invariant_of-self-2 c =
    let done = c.push_reserved.ensures in
    let first = c.in_ok-reserve.ensures in
    let second = c.in_ok-reserve-2.ensures in
    rw c.clear.ensures.items (
      lists-pushed c.push_reserved.new.self.items,
      room-pushed c.push_reserved.new.self.items _ _
          (omega (arith, done.len, done.capacity, first.ok))
          (omega (
            arith,
            done.len,
            c.clear.ensures.capacity,
            second.ok,
            c.saturating_sub.ensures,
            c.len.ensures,
            c.len-all.ensures,
            first.len,
          )),
    )
