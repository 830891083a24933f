use Rattle.orca_live.proofs.CuttingLaw.{items_decide}
use Rattle.orca_live.proofs.JournalLaw.{journals_performance}
use Rattle.orca_live.proofs.PaintingLaw.{shows_performance}
use Rattle.orca_live.proofs.ScriptLaw.{replays_script}
use Rattle.orca_words.proofs.RecordedWork.{owns_journals}
use Rattle.orca_player.proofs.EndLemmas.{caused_came, ran_by, ran_usage, ran_usage_only}
use Rattle.orca_player.proofs.HandLemmas.{shares_fairly}
use Rattle.orca_player.proofs.JournalLemmas.{keeps_journals, keeps_rooms}
use Rattle.orca_player.proofs.KeepingLemmas.{keeps_time}
use Rattle.orca_player.proofs.LawLemmas.{cuts_alike, replays_alike}
use Rattle.orca_player.proofs.RecoveredLemmas.{recovers}
use Rattle.orca_player.proofs.top.run.Goals as goal

pub returns-clause-cutting : goal.returns-clause-cutting
returns-clause-cutting g c = cuts_alike items_decide _

pub returns-clause-replays : goal.returns-clause-replays
returns-clause-replays g c = replays_alike replays_script _

pub returns-clause-journals : goal.returns-clause-journals
returns-clause-journals g c = keeps_journals journals_performance owns_journals _

pub returns-clause-rooms : goal.returns-clause-rooms
returns-clause-rooms g c = keeps_rooms journals_performance owns_journals _

pub returns-clause-clocks : goal.returns-clause-clocks
returns-clause-clocks g c =
    let law = c.clock_law.ensures in
    keeps_time c.table_laws.ensures law.bytes law.clock law.leads _

pub returns-clause-hands : goal.returns-clause-hands
returns-clause-hands g c =
    let law = c.hands_law.ensures in
    shares_fairly law.heard law.starts law.shared c.solo_law.ensures _

pub returns-clause-ran : goal.returns-clause-ran
returns-clause-ran g c =
    let did = c.work-status.ensures in
    ran_by shows_performance _ did.0 c.requires.sound did.1 c.end.ensures

pub returns-clause-causes : goal.returns-clause-causes
returns-clause-causes g c =
    caused_came c.requires.sound c.work-status.ensures.1.came c.end.ensures

pub returns-clause-usage : goal.returns-clause-usage
returns-clause-usage g c = λ none. ran_usage _ (returns-clause-ran g c) none

pub returns-clause-usage_only : goal.returns-clause-usage_only
returns-clause-usage_only g c = λ is. ran_usage_only _ (returns-clause-ran g c) is

pub returns-clause-recovers : goal.returns-clause-recovers
returns-clause-recovers g c = recovers _
