use Rattle.std.proofs.Common.{rules, ◌++◌, take}
use Rattle.std.proofs.KnownBytes.{Appends-trans}
use Rattle.orca_web.proofs.SentLemmas.{moves_front, fails_filled}
use Rattle.orca_web.proofs.outgoing.Outgoing.send_payload.Goals as goal

pub returns-in_err-count-clause-filled : goal.returns-in_err-count-clause-filled
returns-in_err-count-clause-filled g c =
    let (done, split, appended) = c.loop-rest.invariant.sent in
    let s = c.loop-rest.self in
    fails_filled _ _ (g.W.Write.contents c.loop-rest.to) _ _ done c.loop-rest.rest.now s.header s.reply
    s.owed split appended c.in_err-count.ensures.bytes (search rules) (search rules) c.loop-rest.invariant.owed

pub loop-rest-preserved : goal.loop-rest-preserved
loop-rest-preserved g c =
    let (done, split, appended) = c.loop-rest.invariant.sent in
    let rest = c.loop-rest.rest.now in
    let count = c.in_ok-count.count in
    record {
      sent = (
        done ++ take count rest,
        moves_front _ done rest count split,
        Appends-trans _ _ _ _ _ appended c.in_ok-count.ensures.bytes,
      );
      owed = search rules;
      header = c.loop-rest.invariant.header;
      reply = c.loop-rest.invariant.reply;
    }
