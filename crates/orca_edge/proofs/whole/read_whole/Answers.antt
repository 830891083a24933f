use Rattle.std.proofs.Common.{◌≡◌, ◌<◌, ◌++◌, length, take, sym, append-nil, rules}
use Rattle.std.proofs.KnownBytes.{Consumes-trans, Consumes-whole}
use Rattle.orca_edge.proofs.whole.read_whole.Goals as goal

-- a read that gives nothing has met the end, so what is kept is all
pub returns-in-Ok-eq0-clause-whole : goal.returns-in-Ok-eq0-clause-whole
returns-in-Ok-eq0-clause-whole g c =
    let read = rw c.in-Ok-eq0.is at c.read.ensures.bytes in
    let room : 0 < length c.read.new.buf = search rules in
    let all = Consumes-trans _ _ _ _ _ c.loop.invariant.read read.0 in
    let kept = c.loop.bytes.items in
    let none : kept ++ take c.in-Ok-eq0.field-0 c.read.new.buf ≡ kept =
    rw c.in-Ok-eq0.field-0-test (append-nil _) in
    let end = read.1 c.in-Ok-eq0.field-0-test room in
    Consumes-whole _ _ _ (λ left. c.loop.bytes.items ≡ left) all end (sym none)
