use Rattle.orca_web.proofs.SentLemmas.{sent_header, begun_whole, begun_filled}
use Rattle.orca_web.proofs.outgoing.Outgoing.begin.Goals as goal

pub returns-clause-whole : goal.returns-clause-whole
returns-clause-whole g c =
    let s = c.args.self.now in
    let n = c.send_payload.new.self in
    let m = c.flush_header.new.self in
    let at = c.in_ok-flush_header.ensures in
    let first = sent_header (g.W.Write.contents c.args.to.now) (g.W.Write.contents c.flush_header.new.to)
    c.args.header m.header s.reply m.reply _ m.owed at.still at.empty at.owed at.reply in
    begun_whole c.send_payload.result (g.W.Write.contents c.args.to.now)
    (g.W.Write.contents c.flush_header.new.to) (g.W.Write.contents c.send_payload.new.to)
    c.args.header c.args.payload.now s.header s.reply n.header n.reply s.owed n.owed
    c.requires.0 c.requires.1 c.requires.2 first c.send_payload.ensures.whole c.send_payload.ensures.empty

pub returns-clause-filled : goal.returns-clause-filled
returns-clause-filled g c =
    let s = c.args.self.now in
    let m = c.flush_header.new.self in
    let at = c.in_ok-flush_header.ensures in
    let first = sent_header (g.W.Write.contents c.args.to.now) (g.W.Write.contents c.flush_header.new.to)
    c.args.header m.header s.reply m.reply _ m.owed at.still at.empty at.owed at.reply in
    begun_filled c.send_payload.result (g.W.Write.contents c.args.to.now)
    (g.W.Write.contents c.flush_header.new.to) _ c.args.header c.args.payload.now s.header s.reply s.owed
    c.requires.0 c.requires.1 c.requires.2 first c.send_payload.ensures.filled
