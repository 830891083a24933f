use Rattle.std.proofs.Common.{arith, refl}
use Rattle.orca_smf.proofs.Messages.{taken_more}
use Rattle.orca_smf.proofs.reading.read_messages.Goals as goal

pub loop-message-smaller : goal.loop-message-smaller
loop-message-smaller c =
    let so = c.loop-message in
    let found = c.in-Some in
    let more = taken_more c.args.bytes.now so.list.items _ so.last so.rest.now found.message
    found.behind.now (λ i. omega (arith, c.type_inv.bytes i)) so.invariant found.ensures
    refl in
    more.1

pub loop-message-preserved : goal.loop-message-preserved
loop-message-preserved c =
    let so = c.loop-message in
    let found = c.in-Some in
    let more = taken_more c.args.bytes.now so.list.items _ so.last so.rest.now found.message
    found.behind.now (λ i. omega (arith, c.type_inv.bytes i)) so.invariant found.ensures
    c.in_ok-push.ensures.items in
    more.0
