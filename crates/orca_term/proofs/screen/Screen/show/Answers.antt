use Rattle.std.proofs.Common.{◌≡◌, ◌+◌, ◌<◌, ◌∷◌, ℕ, List, length, drop, get_or, sym, ap, ◌∙◌, subst, arith}
use Rattle.std.proofs.lemmas.List.{drop_more, drop_all}
use Rattle.orca_term.specs.Terminal.{Terminal, after_bytes}
use Rattle.orca_term.specs.declared.forms.Reading.{Reading}
use Rattle.orca_term.proofs.Sent.{size-after_bytes}
use Rattle.orca_term.proofs.Showing.{LeadsTo, starts, goes, gives, breaks, done}
use Rattle.orca_term.proofs.screen.Screen.show.Goals as goal
use Rattle.orca_term.proofs.screen.Screen.show.Goals.{in-Goes, in-Gives}

at_byte : (t end : Terminal) (reading : Reading) (bytes : List ℕ) (i : ℕ) → i < length bytes
    → LeadsTo t reading (drop i bytes) end
    → LeadsTo t reading (get_or bytes i 0 ∷ drop (i + 1) bytes) end
at_byte t end reading bytes i h leads =
    subst (λ left. LeadsTo t reading left end) (drop_more bytes i 0 h) leads

pub unreachable-requires : goal.unreachable-requires
unreachable-requires c =
    let t = c.loop-byte.self in
    let end = after_bytes c.args.self.now c.args.bytes.now in
    let leads =
    at_byte t end c.loop-byte.reading c.args.bytes.now c.loop-byte.byte-index
    (omega arith) c.loop-byte.invariant.leads in
    breaks t end c.loop-byte.reading _ _ (sym c.read.ensures.step ∙ c.in-Breaks.is) leads

pub loop-byte-init : goal.loop-byte-init
loop-byte-init c = record {
  reading = tt;
  leads = starts c.args.self.now c.args.bytes.now c.requires;
}

pub loop-byte-preserved : goal.loop-byte-preserved
loop-byte-preserved c =
    let t = c.loop-byte.self in
    let end = after_bytes c.args.self.now c.args.bytes.now in
    let leads =
    at_byte t end c.loop-byte.reading c.args.bytes.now c.loop-byte.byte-index
    (omega arith) c.loop-byte.invariant.leads in
    elim c.match-read.branch [
      | in-Goes w ↦
          rw (w.reading-is, w.self-is) (record {
            reading = w.in-Goes.ensures.goes_on;
            leads =
                goes t end c.loop-byte.reading w.in-Goes.next _ _
                (sym c.read.ensures.step ∙ w.in-Goes.is) leads;
          })
      | in-Gives w ↦
          rw (w.reading-is, w.self-is, w.follow.ensures) (record {
            reading = tt;
            leads =
                gives t end c.loop-byte.reading w.in-Gives.form _ _
                (sym c.read.ensures.step ∙ w.in-Gives.is) leads;
          })
    ]

pub returns : goal.returns
returns c =
    let end = after_bytes c.args.self.now c.args.bytes.now in
    let shown : c.loop-byte.self ≡ end =
    done c.loop-byte.self end c.loop-byte.reading
    (subst (λ left. LeadsTo c.loop-byte.self c.loop-byte.reading left end)
    (drop_all c.loop-byte.byte-index c.args.bytes.now (omega arith))
    c.loop-byte.invariant.leads) in
    record {
      shown = shown;
      size =
          ap (λ (t : Terminal). t.size) shown ∙ size-after_bytes c.args.self.now c.args.bytes.now;
    }
