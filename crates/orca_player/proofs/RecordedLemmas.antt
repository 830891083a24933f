-- What a run saves that is recorded: the song or the wave of its messages.
use Rattle.std.proofs.Common.{◌≡◌, ◌≢◌, ℕ, ◌≤◌, List, [], ◌∷◌, refl, sym, ◌∙◌, ap, arith}
use Rattle.std.specs.Prelude.{Some, None}
use Rattle.orca_base.specs.declared.limits.TheConstants.{MAX_HISTORY}
use Rattle.orca_base.specs.Grids.{IsSheet, Sheet}
use Rattle.orca_concert.specs.Concerts.{Concert, concert_with, concert_course}
use Rattle.orca_concert.specs.Manners.{Manner}
use Rattle.orca_concert.proofs.EndingLemmas.{Closes, Ends, concert-ends, cues-end}
use Rattle.orca_course.specs.Acts.{Act}
use Rattle.orca_course.specs.Acts.Act.{Save}
use Rattle.orca_course.specs.Courses.{mapped}
use Rattle.orca_course.specs.Standings.{tally_at_start}
use Rattle.orca_course.specs.declared.ending.Stop.{Stop}
use Rattle.orca_course.specs.declared.ending.Stop.TheVariants.{Left}
use Rattle.orca_cues.specs.Cues.{frames_cue}
use Rattle.orca_cues.specs.declared.source.Cue.{Cue}
use Rattle.orca_edit.specs.Prices.{kept_at_start}
use Rattle.orca_op.specs.Laws.{IsLawful}
use Rattle.orca_op.specs.Rules.{rule}
use Rattle.orca_reports.specs.Runs.{Opened, outside_calls}
use Rattle.orca_reports.specs.SavedSongs.{SongIsSaved, SongIsTune}
use Rattle.orca_reports.specs.SavedWaves.{WaveIsSaved}
use Rattle.orca_reports.specs.Songs.{recording_at_start, smf_manner}
use Rattle.orca_reports.specs.Waves.{wav_manner, wave_at_start}
use Rattle.orca_reports.proofs.EndingLemmas.{recorded-ends, smf-closes}
use Rattle.orca_words.specs.Requests.{Recording, Setup, Smf, Wav}
use Rattle.orca_player.specs.Doing.{KeepsTake}
use Rattle.orca_player.specs.Outlines.{concert, nothing, opening, start_of, status_of_end, work_outline}
use Rattle.orca_player.specs.Takes.{saves_in}
use Rattle.orca_player.specs.declared.status.Status.TheVariants.{Done}

-- nobody leaves a run that is recorded
abbrev IsNoLeave : Stop → Type 0
IsNoLeave stop = stop ≢ Left

-- the saves are those among the calls
saves-calls_in : (acts : List Act) → saves_in (outside_calls acts) ≡ saves_in acts
saves-calls_in [] = refl
saves-calls_in (act ∷ acts) = grind (arith, saves-calls_in acts)

one_save : (acts : List Act) (out bytes : List ℕ) → outside_calls acts ≡ Save out bytes ∷ []
    → saves_in acts ≡ Save out bytes ∷ []
one_save acts out bytes is = sym (saves-calls_in acts) ∙ ap saves_in is

-- so a run that ends as planned went on to its end
goes_on : {R : Type 0} (m : Manner R) (cues : List Cue) (s : Concert R) → Closes IsNoLeave m
    → Ends IsNoLeave m → Some (status_of_end (concert_course m cues s).ending) ≡ Some Done
    → (concert_course m cues s).ending ≡ None
goes_on m cues s closes ends done =
    let stays = concert-ends m cues s closes (cues-end IsNoLeave m cues s ends) in
    grind (arith, stays, done)

-- what is saved is the song of the messages of the run
pub smf_keeps : SongIsSaved → SongIsTune → IsLawful rule → (setup : Setup) (song : Recording)
    (sheet : Sheet) → IsSheet sheet → 4 ≤ song.bpm → setup.limit ≤ MAX_HISTORY
    → KeepsTake (work_outline setup (Smf song) sheet nothing)
unfolding work_outline concert opening mapped
smf_keeps saved tune lawful setup song sheet is fast few = λ ends.
    let o : Opened = record { sheet = sheet; seed = setup.seed; limit = setup.limit } in
    let s = concert_with (start_of setup sheet)
    (recording_at_start song.out song.bpm song.frames) in
    let none = goes_on smf_manner (frames_cue song.frames) s (smf-closes IsNoLeave (λ same. cc))
    (λ line answer messages r. grind (arith, recorded-ends IsNoLeave)) ends in (
      one_save (concert_course smf_manner (frames_cue song.frames) s).acts song.out _
          (saved song.out song.bpm song.frames o kept_at_start tally_at_start few none),
      tune lawful song.out song.bpm song.frames o kept_at_start tally_at_start is fast few none,
    )

-- what is saved is the wave of the messages of the run
pub wav_keeps : WaveIsSaved → IsLawful rule → (setup : Setup) (wave : Recording) (sheet : Sheet)
    → IsSheet sheet → KeepsTake (work_outline setup (Wav wave) sheet nothing)
unfolding work_outline concert opening mapped
wav_keeps saved lawful setup wave sheet is = λ ends.
    let o : Opened = record { sheet = sheet; seed = setup.seed; limit = setup.limit } in
    let s = concert_with (start_of setup sheet) (wave_at_start wave.out wave.bpm) in
    one_save (concert_course wav_manner (frames_cue wave.frames) s).acts wave.out _
    (saved lawful wave.out wave.bpm wave.frames o kept_at_start tally_at_start is
    (goes_on wav_manner (frames_cue wave.frames) s (assumption)
    (λ line answer messages w. grind arith) ends))
