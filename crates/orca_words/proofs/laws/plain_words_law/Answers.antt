use Rattle.orca_words.specs.Forms.{forms}
use Rattle.orca_words.specs.Requests.{request_of}
use Rattle.orca_words.proofs.PlainWords.{asks_events, asks_replay, asks_run}
use Rattle.orca_words.proofs.laws.plain_words_law.Goals as goal

-- the first word picks a form of a grid and frames
pub returns-clause-run : goal.returns-clause-run
unfolding forms request_of
returns-clause-run c = λ grid frames count plain is. asks_run _ _ grid frames count plain is

pub returns-clause-events : goal.returns-clause-events
unfolding forms request_of
returns-clause-events c = λ grid frames count plain is. asks_events _ _ grid frames count plain is

pub returns-clause-replay : goal.returns-clause-replay
unfolding forms request_of
returns-clause-replay c = λ grid script plain other. asks_replay _ _ grid script plain other
