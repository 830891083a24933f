use Rattle.std.proofs.Common.{◌∙◌}
use Rattle.orca_op.proofs.LiveLemmas.{next_live-bit, next_live-found, next_live-passed, summary-words}
use Rattle.orca_op.proofs.cursor.Cursor.next.Goals as goal

pub find-requires-clause-summary : goal.find-requires-clause-summary
find-requires-clause-summary g c =
    summary-words _ _ _ _ c.live_words-seen.ensures.live c.live_words-seen.ensures.summary

-- the words show which columns are live, so their first bit is the next live column
pub returns-clause-least : goal.returns-clause-least
returns-clause-least g c =
    c.find.ensures.least ∙ next_live-bit _ _ _ _ c.live_words-seen.ensures.live c.requires.column

pub returns-clause-found : goal.returns-clause-found
returns-clause-found g c =
    let same = c.find.ensures.least ∙ next_live-bit _ _ _ _ c.live_words-seen.ensures.live
    c.requires.column in
    rw same (next_live-found _ _ _)

pub returns-clause-passed : goal.returns-clause-passed
returns-clause-passed g c =
    let same = c.find.ensures.least ∙ next_live-bit _ _ _ _ c.live_words-seen.ensures.live
    c.requires.column in
    rw same (next_live-passed _ _ _ c.requires.column)
