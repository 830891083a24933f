use Rattle.std.proofs.Common.{◌≤◌, arith, sym, ◌∙◌}
use Rattle.orca_op.proofs.LiveLemmas.{next_live-bit, next_live-found, next_live-passed, summary-next, summary-words, summary-zero}
use Rattle.orca_op.proofs.cursor.Cursor.first.Goals as goal

-- where the summary is zero, no column is live
pub returns-then-live-eq0-clause-least : goal.returns-then-live-eq0-clause-least
returns-then-live-eq0-clause-least g c =
    sym (summary-next _ _ _ _ c.live_words-live.ensures.summary c.if-live-eq0.true)

pub returns-then-live-eq0-clause-passed : goal.returns-then-live-eq0-clause-passed
returns-then-live-eq0-clause-passed g c x low high =
    summary-zero _ _ x c.live_words-live.ensures.summary c.if-live-eq0.true

pub find-requires-clause-summary : goal.find-requires-clause-summary
find-requires-clause-summary g c =
    summary-words _ _ _ _ c.live_words-live.ensures.live c.live_words-live.ensures.summary

-- the words show which columns are live, so their first bit is the next live column
pub returns-clause-least : goal.returns-clause-least
returns-clause-least g c =
    c.find.ensures.least ∙ next_live-bit _ _ _ _ c.live_words-live.ensures.live
    (omega (arith, c.requires.start))

pub returns-clause-found : goal.returns-clause-found
returns-clause-found g c =
    let same = c.find.ensures.least ∙ next_live-bit _ _ _ _ c.live_words-live.ensures.live
    (omega (arith, c.requires.start)) in
    rw same (next_live-found _ _ _)

pub returns-clause-passed : goal.returns-clause-passed
returns-clause-passed g c =
    let inside : c.args.self.now ≤ (g.B.Bench.slate c.args.bench.now).scan.dims.w =
    omega (arith, c.requires.start) in
    let same = c.find.ensures.least ∙ next_live-bit _ _ _ _ c.live_words-live.ensures.live inside in
    rw same (next_live-passed _ _ _ inside)
