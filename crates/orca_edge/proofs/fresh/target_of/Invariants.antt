use Rattle.std.proofs.Common.{◌≡◌, ◌≤◌, ℕ, List, length}
use Rattle.std.specs.Prelude.{fold}
use Rattle.std.specs.Path.{path_buf_bytes}
use Rattle.orca_edge.specs.Names.{behind}
use Rattle.orca_edge.proofs.fresh.target_of.Given as goal

-- the path is where the links so far lead
abbrev pub invariant-loop-followed : goal.invariant-loop-followed
invariant-loop-followed g l =
    (links : List (List ℕ)) × (length links ≤ l._followed)
    × (path_buf_bytes l.path ≡ fold behind (path_buf_bytes l.initial.path) links)
