use Rattle.std.proofs.Common.{◌≡◌, ℕ, ◌-◌, ◌<◌, List, length, get_or, drop, reverse, arith, ap, sym, ◌∙◌}
use Rattle.std.proofs.lemmas.List.{drop_all, get_or-reverse, length-reverse}
use Rattle.orca_base.specs.declared.command.Entry.{Entry}
use Rattle.orca_base.specs.Histories.{group_of}
use Rattle.orca_history.specs.Entries.{Lists}
use Rattle.orca_history.proofs.Moves.{frames_from, group-end, group-more}
use Rattle.orca_history.proofs.entries.Entries.group.Goals as goal
use Rattle.orca_history.proofs.entries.Entries.group.Goals.{then-loop-group-test+else-not-is_edit, else-loop-group-test}

-- an entry of the tail stands as far from the end of the reverse
tail-entry : (undone : List Entry) (count group : ℕ) (e : Entry) → count ≡ length undone
    → group < count → e ≡ get_or undone (count - 1 - group) e
    → get_or (reverse undone) group e ≡ e
tail-entry undone count group e long within is =
    get_or-reverse undone group e (omega (arith, long, within))
    ∙ (ap (λ (k : ℕ). get_or undone (k - 1 - group) e) (sym long) ∙ sym is)

pub loop-group-preserved : goal.loop-group-preserved
loop-group-preserved c =
    let i = c.loop-group.invariant in
    let undone : List Entry = c.self.inside.undone.items in
    let group : ℕ = c.loop-group.group in
    let e : Entry = c.index.result.now in
    let long : c.len-count.result ≡ length undone = omega (arith, c.len-count.ensures) in
    let below : group < c.len-count.result = c.loop-group-test.true in
    record {
      some = omega (arith, i.some);
      within = omega (arith, below, long);
      group = i.group
          ∙ omega (
            arith,
            group-more (reverse undone) group e (omega (arith, below, long, length-reverse undone))
                (tail-entry undone c.len-count.result group e long below c.index.ensures)
                (sym c.is_edit.ensures ∙ c.if-not-is_edit.true),
          );
    }

pub returns-clause-group : goal.returns-clause-group
returns-clause-group c =
    let i = c.loop-group.invariant in
    let undone : List Entry = c.self.inside.undone.items in
    let group : ℕ = c.loop-group.group in
    let long : c.len-count.result ≡ length undone = omega (arith, c.len-count.ensures) in
    let none : frames_from (drop group (reverse undone)) ≡ 0 =
    elim c.loop-group-test.branch [
      | then-loop-group-test+else-not-is_edit w ↦
          group-end (reverse undone) group w.index.result.now
          (omega (arith, w.loop-group-test.true, long, length-reverse undone))
          (tail-entry undone c.len-count.result group w.index.result.now long
          w.loop-group-test.true w.index.ensures)
          (sym w.is_edit.ensures ∙ w.if-not-is_edit.false)
      | else-loop-group-test w ↦
          ap frames_from (drop_all group (reverse undone)
          (omega (arith, w.loop-group-test.false, long, length-reverse undone)))
    ] in
    omega (arith, i.group, none)
    ∙ ap (λ (l : Lists). group_of l.tail) c.self.view_is
