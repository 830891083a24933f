use Rattle.std.proofs.Common.{◌≡◌, ◌+◌, List, [], ◌∷◌, ◌++◌, take, drop, reverse, vec_len, arith, ap, sym, ◌∙◌, append_assoc}
use Rattle.std.proofs.lemmas.List.{reverse-append}
use Rattle.orca_base.specs.declared.command.Entry.{Entry}
use Rattle.orca_history.proofs.Moves.{left-more, taken-more}
use Rattle.orca_history.proofs.entries.bring_back.Goals as goal

pub loop-back-preserved : goal.loop-back-preserved
loop-back-preserved c =
    let l = c.loop-back in
    let tail : List Entry = reverse c.args.undone.now.items in
    let less : List Entry = c.pop.new.self.items in
    let e : Entry = c.unwrap.result in
    let popped : l.undone.items ≡ less ++ e ∷ [] = rw c.unwrap.ensures at c.pop.ensures.items in
    let long : vec_len c.pop.new.self + 1 ≡ vec_len l.undone =
    rw c.unwrap.ensures at c.pop.ensures.len in
    let next : drop l.back tail ≡ e ∷ reverse less =
    sym l.invariant.undone ∙ (ap reverse popped ∙ reverse-append less (e ∷ [])) in
    record {
      done = c.push_reserved.ensures.items
          ∙ (ap (λ (es : List Entry). es ++ e ∷ []) l.invariant.done
          ∙ (append_assoc c.args.done.now.items (take l.back tail) (e ∷ [])
          ∙ ap (λ (es : List Entry). c.args.done.now.items ++ es)
          (sym (taken-more tail l.back e (reverse less) next))));
      undone = sym (left-more tail l.back e (reverse less) next);
      done_len = omega (arith, l.invariant.done_len, c.push_reserved.ensures.len);
      undone_len = omega (arith, l.invariant.undone_len, long);
      done_room = c.push_reserved.ensures.capacity ∙ l.invariant.done_room;
      undone_room = c.pop.ensures.capacity ∙ l.invariant.undone_room;
    }
