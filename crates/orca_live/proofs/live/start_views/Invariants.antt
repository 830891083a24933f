use Rattle.std.proofs.Common.{◌≡◌, [], None, replicate}
use Rattle.orca_live.proofs.live.start_views.Given as goal

-- so many views have started
abbrev pub invariant-loop-view : goal.invariant-loop-view
invariant-loop-view l =
    l.views.items ≡ replicate l._view (record { size = l.screen; last = None; bytes = [] })
