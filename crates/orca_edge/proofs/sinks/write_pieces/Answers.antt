use Rattle.std.proofs.Common.{◌++◌, take}
use Rattle.std.proofs.KnownBytes.{Appends-trans}
use Rattle.orca_edge.proofs.WriteLemmas.{moves_front}
use Rattle.orca_edge.proofs.sinks.write_pieces.Goals as goal

pub loop-rest-preserved : goal.loop-rest-preserved
loop-rest-preserved g c =
    let (done, split, appended) = c.loop-rest.invariant in
    let rest = c.loop-rest.rest.now in
    let count = c.in_ok-count.count in (
      done ++ take count rest,
      moves_front _ done rest count split,
      Appends-trans _ _ _ _ _ appended c.in_ok-count.ensures.bytes,
    )
