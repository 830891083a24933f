use Rattle.std.proofs.Common.{arith}
use Rattle.std.proofs.lemmas.Bool.Decides.{nat_tests}
use Rattle.orca_script.proofs.RunLines.{frames_kept, frames_full}
use Rattle.orca_script.proofs.runs.Runs.add_frames.Goals as goal

-- no line is full
pub returns-then-frames-most-clause-ok : goal.returns-then-frames-most-clause-ok
returns-then-frames-most-clause-ok c rest =
    frames_kept c.args.self.now c.args.times _ c.args.into.now.items rest
    (grind (arith, c.from.ensures, c.from-2.ensures, c.self.view_is))

-- one line is full
pub returns-clause-ok : goal.returns-clause-ok
returns-clause-ok c rest =
    frames_full c.args.self.now c.args.times _ c.args.into.now.items _ rest
    (grind (
      arith,
      nat_tests,
      c.from.ensures,
      c.from-2.ensures,
      c.from-most.ensures,
      c.self.view_is,
      c.if-frames-most.false,
    )) c.in_ok-push_frames.ensures.ok
