use Rattle.std.proofs.Common.{sym, refl, ◌∙◌}
use Rattle.orca_cues.proofs.Turning.{turns_left-part, turns_left-turn, is_turn-part, is_turn-turn}
use Rattle.orca_cues.proofs.turns.TurnsSource.next.Goals as goal
use Rattle.orca_cues.proofs.turns.TurnsSource.next.Goals.{in-Some, in-None}

pub invariant_of-self : goal.invariant_of-self
invariant_of-self c =
    let next = sym c.in-Some.ensures in
    let turn = is_turn-part _ _ _ _ _ _ _ c.self.invariant next in
    rw c.order_of-order.ensures.words turn

pub invariant_of-self-in-None : goal.invariant_of-self-in-None
invariant_of-self-in-None c =
    let next = sym c.in-None.ensures in
    let turn = is_turn-turn _ _ _ _ _ _ c.self.invariant c.if-self.false next in
    rw c.order_of-order.ensures.words turn

pub returns : goal.returns
returns c =
    let here = c.self.invariant in
    let more = c.if-self.false in
    let order = c.order_of-order.ensures.order in
    elim c.match-part_after.branch [
      | in-Some w ↦
          let left = turns_left-part _ _ _ _ _ _ here more _ (sym w.in-Some.ensures) in
          sym c.self.view_is ∙ (left ∙ sym (rw (order, w.self-is) refl))
      | in-None w ↦
          let left = turns_left-turn _ _ _ _ _ _ here more (sym w.in-None.ensures) in
          sym c.self.view_is ∙ (left ∙ sym (rw (order, w.self-is) refl))
    ]
