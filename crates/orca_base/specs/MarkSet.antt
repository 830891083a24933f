-- The marks of a place, as a set.
use Rattle.std.specs.Prelude.{Bool, true, false, ◌||◌}
use Rattle.orca_base.specs.declared.marks.Mark.{Mark}
use Rattle.orca_base.specs.declared.marks.Mark.TheVariants.{Lock, Input, Param, Output, Sleep}

-- which marks stand in the set
pub record MarkSet : Type 0 where
  pub lock : Bool
  pub input : Bool
  pub param : Bool
  pub output : Bool
  pub sleep : Bool

abbrev pub no_marks : MarkSet
no_marks = record { lock = false; input = false; param = false; output = false; sleep = false }

abbrev pub with_mark : MarkSet → Mark → MarkSet
with_mark s Lock = record s { lock = true }
with_mark s Input = record s { input = true }
with_mark s Param = record s { param = true }
with_mark s Output = record s { output = true }
with_mark s Sleep = record s { sleep = true }

abbrev pub has_mark : MarkSet → Mark → Bool
has_mark s Lock = s.lock
has_mark s Input = s.input
has_mark s Param = s.param
has_mark s Output = s.output
has_mark s Sleep = s.sleep

-- the marks of either set
abbrev pub all_marks : MarkSet → MarkSet → MarkSet
all_marks s t = record {
  lock = s.lock || t.lock;
  input = s.input || t.input;
  param = s.param || t.param;
  output = s.output || t.output;
  sleep = s.sleep || t.sleep;
}

-- a place is marked where it has any mark
abbrev pub is_marked : MarkSet → Bool
is_marked m = m.lock || m.input || m.param || m.output || m.sleep
