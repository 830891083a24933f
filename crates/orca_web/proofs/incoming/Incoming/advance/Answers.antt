use Rattle.std.proofs.Common.{rules, ◌≡◌, ℕ, drop, sym, ◌∙◌}
use Rattle.std.proofs.KnownBytes.{Keeps-refl}
use Rattle.orca_web.specs.Frames.{TakesFrame}
use Rattle.orca_web.proofs.HearingLemmas.{hearing_kept, hearing_frame}
use Rattle.orca_web.proofs.incoming.Incoming.advance.Goals as goal

pub returns-in_err-take_frame-clause-heard : goal.returns-in_err-take_frame-clause-heard
returns-in_err-take_frame-clause-heard g c =
    let kept = c.in_err-take_frame.ensures.failed in
    hearing_kept _ _ c.args.self.now c.take_frame.new.self (Keeps-refl _) kept.0
    (kept.1 ∙ sym c.requires.keys)

pub returns-then-branch-clause-heard : goal.returns-then-branch-clause-heard
returns-then-branch-clause-heard g c =
    let old = c.args.self.now in
    let new = c.take_frame.new.self in
    let takes : (count : ℕ) × TakesFrame old.input count new.keys
    × (new.input ≡ drop count old.input) = search rules in
    hearing_frame _ old new c.requires.keys takes

pub returns-in_err-count-clause-heard : goal.returns-in_err-count-clause-heard
returns-in_err-count-clause-heard g c =
    let old = c.args.self.now in
    let half = c.take_frame.new.self in
    let input : half.input ≡ old.input = search rules in
    let keys : half.keys ≡ old.keys = search rules in
    hearing_kept _ _ old (record half { input = c.fill.new.self }) c.in_err-count.ensures.failed
    (c.in_err-count.ensures.kept ∙ input) keys
