use Rattle.orca_base.specs.Grids.{IsSheet}
use Rattle.orca_player.specs.Outlines.{nothing, work_outline}
use Rattle.orca_player.proofs.RecordedLemmas.{smf_keeps, wav_keeps}
use Rattle.orca_player.proofs.CameLemmas.{by}
use Rattle.orca_player.proofs.TopLemmas.{by_recorded, kind_concert}
use Rattle.orca_words.specs.RequestIn.{setup_in}
use Rattle.orca_player.proofs.top.do_work.Goals as goal

pub returns-in-Run : goal.returns-in-Run
unfolding work_outline
returns-in-Run g c =
    rw c.in-Run.is
    (by nothing (kind_concert _ _ _ _)
    (rw c.of-source.ensures at c.concert.ensures))

pub returns-in-Events : goal.returns-in-Events
unfolding work_outline
returns-in-Events g c =
    rw c.in-Events.is
    (by nothing (kind_concert _ _ _ _)
    (rw c.of-source-in-Events.ensures at c.concert-in-Events.ensures))

pub returns-in-Smf : goal.returns-in-Smf
unfolding work_outline
returns-in-Smf g c =
    let sheet : IsSheet c.args.grid = rw (← c.drop-in-Smf.view_is) c.drop-in-Smf.invariant in
    rw c.in-Smf.is
    (by_recorded _ _ _ _ _
    (smf_keeps c.saving_law.ensures.song c.saving_law.ensures.tune c.table_laws.ensures (setup_in c.args.setup.now) _ _
    sheet
    (rw c.in-Smf.is at c.requires.tempo) c.args.setup.now.limit_in_range.1) c.record_song.ensures)

pub returns-in-Wav : goal.returns-in-Wav
unfolding work_outline
returns-in-Wav g c =
    let sheet : IsSheet c.args.grid = rw (← c.drop-in-Wav.view_is) c.drop-in-Wav.invariant in
    rw c.in-Wav.is
    (by_recorded _ _ _ _ _
    (wav_keeps c.saving_law.ensures.wave c.table_laws.ensures (setup_in c.args.setup.now) _ _
    sheet) c.record_wave.ensures)

pub returns-in-Replay : goal.returns-in-Replay
unfolding work_outline
returns-in-Replay g c = rw c.in-Replay.is c.replay.ensures

pub returns-in-Play : goal.returns-in-Play
unfolding work_outline
returns-in-Play g c = rw c.in-Play.is c.play.ensures

pub returns-in-Follow : goal.returns-in-Follow
unfolding work_outline
returns-in-Follow g c = rw c.in-Follow.is c.follow.ensures

pub returns : goal.returns
unfolding work_outline
returns g c = rw c.in-Lead.is c.lead.ensures
