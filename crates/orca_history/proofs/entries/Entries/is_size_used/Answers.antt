use Rattle.std.proofs.Common.{◌≡◌, ℕ, ◌+◌, ◌-◌, ◌<◌, List, length, drop, take, arith, ap, ◌∙◌}
use Rattle.std.specs.List.{list_any}
use Rattle.std.proofs.lemmas.List.{length-drop, take_all}
use Rattle.orca_base.specs.declared.command.Entry.{Entry}
use Rattle.orca_base.specs.Histories.{edits_grid}
use Rattle.orca_history.specs.Entries.{Lists}
use Rattle.orca_history.proofs.Moves.{unused-by, used-by}
use Rattle.orca_history.proofs.entries.Entries.is_size_used.Goals as goal

pub returns-then-sets_size : goal.returns-then-sets_size
returns-then-sets_size c =
    rw (← c.self.view_is)
    (used-by c.self.inside.done.items c.args.index c.index.result.now c.sets_size.result
    c.edit_grid.result
    (omega (arith, c.requires, ap (λ (l : Lists). length l.entries) c.self.view_is))
    c.index.ensures c.sets_size.ensures c.if-sets_size.true
    (c.edit_grid.ensures
    ∙ (ap (λ (es : List Entry). list_any edits_grid
    (take (length es - (c.args.index + 1)) (drop (c.args.index + 1) es))) c.deref.ensures.value
    ∙ ap (list_any edits_grid)
    (take_all (length c.self.inside.done.items - (c.args.index + 1))
    (drop (c.args.index + 1) c.self.inside.done.items)
    (omega (arith, length-drop (c.args.index + 1) c.self.inside.done.items))))))

pub returns-else-sets_size : goal.returns-else-sets_size
returns-else-sets_size c =
    rw (← c.self.view_is)
    (unused-by c.self.inside.done.items c.args.index c.index.result.now c.sets_size.result
    (omega (arith, c.requires, ap (λ (l : Lists). length l.entries) c.self.view_is))
    c.index.ensures c.sets_size.ensures c.if-sets_size.false)
