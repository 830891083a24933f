use Rattle.std.proofs.Common.{◌≡◌, ℕ, ◌&&◌, nat_le, nat_lt, slice_index_or, if◌then◌else◌}
use Rattle.orca_base.specs.MarkSet.{no_marks}
use Rattle.orca_marks.proofs.plane.clear_from.Given as goal

-- the places before `i` have no marks
abbrev pub invariant-loop-i : goal.invariant-loop-i
invariant-loop-i l = (k : ℕ) → slice_index_or l.places k no_marks
    ≡ (if nat_le l.first k && nat_lt k l.i then no_marks else slice_index_or l.initial.places k
    no_marks)
