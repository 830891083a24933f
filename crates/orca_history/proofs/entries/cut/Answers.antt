use Rattle.std.proofs.Common.{◌≡◌, true, false, List, [], ◌∷◌, length, reverse, arith, ap, sym, ◌∙◌}
use Rattle.std.proofs.lemmas.List.{reverse-append}
use Rattle.orca_base.specs.declared.command.Entry.{Entry}
use Rattle.orca_base.specs.Histories.{done_of, is_done}
use Rattle.orca_history.proofs.Moves.{done-push, hush-push, pops}
use Rattle.orca_history.proofs.entries.cut.Goals as goal

pub loop-done-preserved-then-is_done : goal.loop-done-preserved-then-is_done
loop-done-preserved-then-is_done c =
    let l = c.loop-done in
    let e : Entry = c.unwrap-entry.result in
    let next = rw c.unwrap-entry.ensures at c.pop.ensures.len in
    let popped = rw c.unwrap-entry.ensures at c.pop.ensures.items in
    let last = pops _ _ _ _ _ e next l.invariant.within l.invariant.left popped in
    let done : is_done e ≡ true = sym c.is_done.ensures ∙ c.if-is_done.true in
    record {
      above = omega (arith, c.loop-done-test.true, c.len.ensures, next);
      within = omega (arith, l.invariant.within, next);
      left = last.left;
      cut = rw (last.cut, done) (ap reverse c.push_reserved.ensures.items
          ∙ (reverse-append l.undone.items (e ∷ [])
          ∙ ap (λ (es : List Entry). e ∷ es) l.invariant.cut));
      room = omega (
        arith,
        l.invariant.room,
        ap (λ (es : List Entry). length (done_of es)) popped
            ∙ done-push c.pop.new.self.items e done,
        c.push_reserved.ensures.len,
        c.push_reserved.ensures.capacity,
      );
      done_room = c.pop.ensures.capacity ∙ l.invariant.done_room;
      undone_room = c.push_reserved.ensures.capacity ∙ l.invariant.undone_room;
    }

pub loop-done-preserved : goal.loop-done-preserved
loop-done-preserved c =
    let l = c.loop-done in
    let e : Entry = c.unwrap-entry.result in
    let next = rw c.unwrap-entry.ensures at c.pop.ensures.len in
    let popped = rw c.unwrap-entry.ensures at c.pop.ensures.items in
    let last = pops _ _ _ _ _ e next l.invariant.within l.invariant.left popped in
    let hush : is_done e ≡ false = sym c.is_done.ensures ∙ c.if-is_done.false in
    record {
      above = omega (arith, c.loop-done-test.true, c.len.ensures, next);
      within = omega (arith, l.invariant.within, next);
      left = last.left;
      cut = rw (last.cut, hush) l.invariant.cut;
      room = omega (
        arith,
        l.invariant.room,
        ap (λ (es : List Entry). length (done_of es)) popped
            ∙ hush-push c.pop.new.self.items e hush,
      );
      done_room = c.pop.ensures.capacity ∙ l.invariant.done_room;
      undone_room = l.invariant.undone_room;
    }
