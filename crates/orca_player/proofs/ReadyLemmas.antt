-- How a run can end: without a refusal if all is ready, and for faulty words alone as such.
use Rattle.std.proofs.Common.{◌≡◌, ◌≢◌, ℕ, ◌*◌, ◌<◌, ◌≤◌, arith, zero-add, true, false, List, sym, ◌∙◌, ap, subst, refl}
use Rattle.std.specs.Prelude.{Option, Some, None, IfSome, IsSomeAnd, IsOk, Ok, Err, Result, unwrap_or}
use Rattle.std.specs.Option.{option_map, option_map_or}
use Rattle.std.proofs.lemmas.Bool.Decides.{nat_tests}
use Rattle.orca_base.specs.declared.limits.TheConstants.{MAX_POLLS, DEFAULT_SEED}
use Rattle.orca_base.specs.Grids.{Sheet}
use Rattle.orca_clock.specs.Followers.{follow_part}
use Rattle.orca_clock.specs.Leaders.{lead_part}
use Rattle.orca_concert.specs.Concerts.{concert_with, concert_course, cues_course}
use Rattle.orca_concert.specs.Manners.{Manner}
use Rattle.orca_concert.proofs.EndingLemmas.{Closes, Ends, Frames, concert-ends, cues-end, frames-cue}
use Rattle.orca_course.specs.Courses.{afterwards, mapped}
use Rattle.orca_course.specs.Performers.{Part, performance}
use Rattle.orca_course.specs.Standings.{Standing}
use Rattle.orca_course.specs.declared.ending.Ending.{Ending}
use Rattle.orca_course.specs.declared.ending.Stop.{Stop}
use Rattle.orca_course.specs.declared.ending.Stop.TheVariants.{Left}
use Rattle.orca_course.specs.declared.item.Item.TheVariants as item
use Rattle.orca_course.specs.declared.item.Losses.{Losses}
use Rattle.orca_course.proofs.PerformanceLemmas.{EndsIn, TakesIn, performance_in, performance_well, turns_before}
use Rattle.orca_cues.specs.Cues.{frames_cue}
use Rattle.orca_cues.specs.Rooms.{Room, room_parts, whole_lines}
use Rattle.orca_cues.specs.Scripts.{script_by, seed_in}
use Rattle.orca_cues.specs.declared.source.Cue.{Cue}
use Rattle.orca_grid.specs.GridText.{grid_text}
use Rattle.orca_grid.specs.declared.refusal.GridRefusal.{GridRefusal}
use Rattle.orca_live.specs.Items.{lasting_answers}
use Rattle.orca_live.specs.Performing.{live_part}
use Rattle.orca_live.specs.States.{LiveState}
use Rattle.orca_live.proofs.LeavingLemmas.{take_ends}
use Rattle.orca_reports.specs.Manners.{events_manner, make_manner, replay_manner, run_manner, state_manner}
use Rattle.orca_reports.specs.Songs.{recording_at_start, smf_manner}
use Rattle.orca_reports.specs.Waves.{frame_samples, wav_manner, wave_at_start}
use Rattle.orca_reports.proofs.EndingLemmas.{AnyRoom, IsLong, Never, WaveRoom, smf-closes, smf-frames, wav-frames}
use Rattle.orca_rig.specs.declared.files.Claim.{Claim as Claimed}
use Rattle.orca_rig.specs.declared.files.Claim.TheVariants.{Made as ClaimMade}
use Rattle.orca_rooms.specs.Limits.{room_limit}
use Rattle.orca_rooms.specs.Sound.{sound_script}
use Rattle.orca_wav.specs.declared.limits.TheConstants.{MAX_WAVE_BYTES, SAMPLE_BYTES}
use Rattle.orca_words.specs.Requests.{Events, Follow, Lead, Make, Migrate, Perform, Performance, Play, Recording, Recover, Replay, Request, Run, Setup, Smf, Wav, Work, request_of, Recovery}
use Rattle.orca_reports.specs.Rescues.{rescue_at_start}
use Rattle.orca_player.specs.Outlines.{Brought, Heard, Outline, asked_outline, concert, follow_outline, follow_start, grid_outline, is_too_long, lead_outline, lead_start, live_outline, live_start, loading, made_outline, migrated, opening, outline, performed, performed_outline, reading_outline, recovery_outline, request_outline, room_name, room_start, roomed, script_outline, standing_at, start_of, stopped_run, status_of_end, status_of_ending, wave_bytes, work_outline, waiting, grid_recovered, hushed, is_strict, limit_for, lines_ahead, recovered, rescue_by, script_recovered, sound_recovered, wrong_recovered}
use Rattle.orca_player.specs.Ready.{CanBeDone, CanDo, HasFrameRoom, IsReady, IsScript, NeverFull, IsRoom}
use Rattle.orca_player.specs.declared.status.Status.{Status}
use Rattle.orca_player.specs.declared.status.Status.TheVariants.{Done, FileFault, InboxFault, Usage}
use Rattle.orca_player.proofs.ClockLemmas.{follow_ends_well, lead_ends_well}
use Rattle.orca_player.proofs.DueLemmas.{due_at}
use Rattle.orca_player.proofs.SoftLemmas.{concert_soft}
use Rattle.orca_player.proofs.TopLemmas.{cues_in}

-- a run that would end without a refusal: all is done, or something outside fails
abbrev pub IsFine : Status → Type 0
IsFine Done = Unit {0}
IsFine FileFault = Unit {0}
IsFine InboxFault = Unit {0}
IsFine status = ⊥

-- an outline that would end so
abbrev FineOutline : Outline → Type 0
FineOutline o = IfSome o.course.ending IsFine

-- ---- lists of commands

-- a run of commands ends without a refusal, if none of the ways in which it can end early comes
concert_fine : {R : Type 0} {P : Stop → Type 0} (m : Manner R) (r : R) (cues : List Cue)
    (s : Standing) → Closes P m → IfSome (cues_course m cues (concert_with s r)).ending P
    → ((stop : Stop) → P stop → (concert_course m cues (concert_with s r)).ending ≢ Some stop)
    → FineOutline (concert m r cues s)
unfolding concert opening mapped
concert_fine m r cues s closes ends never =
    let kind = concert-ends m cues (concert_with s r) closes ends in
    grind (arith, kind, never)

goes_fine : {R : Type 0} (m : Manner R) (r : R) (cues : List Cue) (s : Standing)
    → Closes Never m → Ends Never m → FineOutline (concert m r cues s)
goes_fine m r cues s closes ends =
    concert_fine m r cues s closes (cues-end Never m cues (concert_with s r) ends)
    (λ stop off is. off)

-- so many frames, of which none ends the run
frames_fine : {R : Type 0} (Room : ℕ → R → Type 0) (m : Manner R) (r : R) (n limit seed : ℕ)
    (sheet : Sheet) → Closes Never m → Frames Never Room m → Room n r → n ≤ limit
    → FineOutline (concert m r (frames_cue n) (standing_at sheet seed limit))
frames_fine Room m r n limit seed sheet closes frames some room =
    let s = standing_at sheet seed limit in
    concert_fine m r (frames_cue n) s closes
    (frames-cue Never Room m n (concert_with s r) frames some (omega (arith, room)))
    (λ stop off is. off)

-- ---- scripts

replay_fine : (cues : List Cue) (s : Standing) → FineOutline (concert replay_manner tt cues s)
replay_fine cues s =
    goes_fine replay_manner tt cues s (assumption) (λ line answer messages r. grind arith)

make_fine : (cues : List Cue) (s : Standing) → FineOutline (concert make_manner tt cues s)
make_fine cues s =
    goes_fine make_manner tt cues s (assumption) (λ line answer messages r. tt)

-- ---- performances

-- a performance that ends by leaving, or since the inbox failed
performed_fine : {S : Type 0} (p : Part S) (s : Standing) (u : S) (b : Brought)
    → EndsIn (λ stop. stop ≡ Left) (performance p u b.opening b.hearings).ending
    → FineOutline (performed_outline p s u b)
unfolding opening mapped
performed_fine p s u b ends = grind (arith, ends)

-- the items of a performance end it by leaving alone, if there is room where a moment is due
live_takes : (s : LiveState) (b : Brought) → lasting_answers b.hearings < MAX_POLLS → HasFrameRoom s b
    → TakesIn (λ stop. stop ≡ Left) live_part s (turns_before b.opening b.hearings)
live_takes s b few room before (item.Due at) more is goes =
    let due = due_at live_part s b.opening b.hearings before more at few is goes in
    let off = room due.front due.h due.others at due.splits due.is due.goes in
    take_ends (λ stop. stop ≡ Left) refl (item.Due at) _
    (λ full. absurd (grind (arith, off, full, due.state)))
live_takes s b few room before i more is goes = take_ends (λ stop. stop ≡ Left) refl i _ tt

live_fine : (setup : Setup) (play : Performance) (at : ℕ) (b : Brought) (s : Standing)
    → lasting_answers b.hearings < MAX_POLLS → HasFrameRoom (live_start setup play at s) b
    → FineOutline (live_outline setup play b s at)
unfolding live_outline performance mapped opening
live_fine setup play at b s few room =
    let u = live_start setup play at s in
    performed_fine live_part s u b
    (performance_in (λ stop. stop ≡ Left) refl live_part u b.opening b.hearings
    (live_takes u b few room) few)

follow_fine : (b : Brought) (s : Standing) → lasting_answers b.hearings < MAX_POLLS
    → NeverFull (follow_part state_manner) (follow_start s) b → FineOutline (follow_outline b s)
unfolding follow_outline
follow_fine b s few room =
    performed_fine (follow_part state_manner) s (follow_start s) b
    (performance_well _ (follow_ends_well state_manner (λ line answer messages r. tt)) _ b.opening
    b.hearings few room)

lead_fine : (bpm : ℕ) (b : Brought) (s : Standing) (at : ℕ) → lasting_answers b.hearings < MAX_POLLS
    → NeverFull (lead_part state_manner) (lead_start bpm at s) b
    → FineOutline (lead_outline bpm b s at)
unfolding lead_outline
lead_fine bpm b s at few room =
    performed_fine (lead_part state_manner) s (lead_start bpm at s) b
    (performance_well _ (lead_ends_well state_manner (λ line answer messages r. tt)) _ b.opening
    b.hearings few room)

-- ---- requests

-- a wave that is not too long has room for its frames
wave_room : (out : List ℕ) (wave : Recording) → is_too_long (Wav wave) ≡ false
    → WaveRoom wave.frames (wave_at_start out wave.bpm)
wave_room out wave short =
    let few : wave_bytes wave ≤ MAX_WAVE_BYTES = grind (arith, nat_tests, short) in
    subst (λ k. SAMPLE_BYTES * k ≤ MAX_WAVE_BYTES)
    (sym (zero-add (wave.frames * frame_samples wave.bpm))) few

-- a room that is made lets the run go on; a fault of its claim ends it
room_fine : (room : Option (List ℕ)) (text : List ℕ) (claimed : Option Claimed) (o : Outline)
    → IfSome room (λ name. IfSome claimed (λ answer. answer ≡ ClaimMade)) → FineOutline o
    → FineOutline (roomed room text claimed o)
unfolding roomed
room_fine None text claimed o made fine = fine
room_fine (Some name) text None o made fine = tt
room_fine (Some name) text (Some answer) o made fine = rw made fine

play_fine : (setup : Setup) (play : Performance) (sheet : Sheet) (b : Brought)
    → CanDo setup (Play play) sheet b → FineOutline (work_outline setup (Play play) sheet b)
unfolding work_outline waiting
play_fine setup play sheet b ready =
    room_fine (room_name play) (room_start setup sheet) b.claimed _ ready.0
    (grind (arith, ready.1, ready.2, live_fine))

script_fine : (sheet : Sheet) (seed limit : ℕ) (text : Option (List ℕ))
    → IfSome text IsScript
    → FineOutline (option_map_or (script_outline sheet seed limit) text (stopped_run FileFault))
unfolding script_outline reading_outline
script_fine sheet seed limit None ready = tt
script_fine sheet seed limit (Some text) ready = rw ready.1 (replay_fine ready.0 _)

work_fine : (setup : Setup) (work : Work) (sheet : Sheet) (b : Brought)
    → is_too_long work ≡ false → CanDo setup work sheet b
    → FineOutline (work_outline setup work sheet b)
unfolding work_outline loading script_outline reading_outline waiting
work_fine setup (Run frames) sheet b short ready =
    frames_fine AnyRoom run_manner tt frames setup.limit setup.seed sheet (assumption)
    (λ line tick n messages r some. (tt, tt)) tt ready
work_fine setup (Events frames) sheet b short ready =
    frames_fine AnyRoom events_manner tt frames setup.limit setup.seed sheet (assumption)
    (λ line tick n messages r some. (tt, tt)) tt ready
work_fine setup (Smf song) sheet b short ready =
    let s = start_of setup sheet in
    let r = recording_at_start song.out song.bpm song.frames in
    concert_fine smf_manner r (frames_cue song.frames) s (smf-closes IsLong refl)
    (frames-cue IsLong AnyRoom smf_manner song.frames (concert_with s r) smf-frames tt
    (omega (arith, ready.0)))
    (λ stop long is. ready.1 (is ∙ ap Some long))
work_fine setup (Wav wave) sheet b short ready =
    frames_fine WaveRoom wav_manner (wave_at_start wave.out wave.bpm) wave.frames setup.limit
    setup.seed sheet (assumption) wav-frames (wave_room wave.out wave short) ready
work_fine setup (Replay name) sheet b short ready = script_fine sheet setup.seed setup.limit b.script ready
work_fine setup (Play play) sheet b short ready = play_fine setup play sheet b ready
work_fine setup (Follow address) sheet b short ready = grind (arith, follow_fine)
work_fine setup (Lead lead) sheet b short ready = grind (arith, lead_fine)

-- ---- rooms

sound_fine : (r : Recovery) (sheet : Sheet) (text : List ℕ) (came : Losses)
    → is_strict (limit_for r (room_limit text)) (room_limit text) ≡ false
    → FineOutline (sound_recovered r sheet text None came)
unfolding sound_recovered rescue_by opening mapped afterwards
sound_fine r sheet text came soft =
    let limit = limit_for r (room_limit text) in
    let s = concert_with (standing_at sheet (unwrap_or (seed_in text) DEFAULT_SEED) limit)
    (rescue_at_start (is_strict limit (room_limit text))) in
    let none = concert_soft (sound_script text) s soft in
    rw none tt

lines_fine : (r : Recovery) (sheet : Sheet) (before : ℕ) (text : List ℕ) (came : Losses)
    → CanBeDone r text → FineOutline (script_recovered r sheet before text came)
unfolding script_recovered
lines_fine r sheet before text came ready =
    let found = cues_in (script_by true text) ready.0 in
    rw found.1 (sound_fine r sheet text came ready.1)

sheet_fine : (r : Recovery) (room : Room) (came : Losses) (read : Result Sheet GridRefusal)
    → IsOk read → CanBeDone r (whole_lines room.script) → FineOutline (grid_recovered r room came read)
unfolding grid_recovered
sheet_fine r room came (Err refusal) ok ready = absurd cc
sheet_fine r room came (Ok sheet) ok ready =
    lines_fine r sheet (lines_ahead room) (whole_lines room.script) came ready

parts_fine : (r : Recovery) (came : Losses) (parts : Option Room)
    → IsSomeAnd parts (λ room. IsOk (grid_text room.grid) × CanBeDone r (whole_lines room.script))
    → FineOutline (recovered r came parts)
unfolding recovered
parts_fine r came None ready = absurd ready
parts_fine r came (Some room) ready = sheet_fine r room came (grid_text room.grid) ready.0 ready.1

room_loads : (r : Recovery) (came : Losses) (text : Option (List ℕ)) → IfSome text (IsRoom r)
    → FineOutline (loading r.room text (λ text. hushed r (recovered r came (room_parts text))))
unfolding loading hushed
room_loads r came None ready = tt
room_loads r came (Some text) ready = parts_fine r came (room_parts text) ready

request_fine : (request : Request) (h : Heard) → IsReady request h
    → FineOutline (request_outline request h)
unfolding request_outline performed loading grid_outline migrated reading_outline made_outline recovery_outline
request_fine (Make load) h ready = make_fine _ _
request_fine (Migrate m) h ready = grind arith
request_fine (Recover r) h ready = room_loads r h.brought.closing h.brought.script ready
request_fine (Perform setup work) h ready = grind (arith, work_fine)

asked_fine : (asked : Option Request) (h : Heard)
    → IsSomeAnd asked (λ request. IsReady request h) → FineOutline (asked_outline asked h)
asked_fine None h ready = absurd ready
asked_fine (Some request) h ready = request_fine request h ready

pub outline_fine : (words : List (List ℕ)) (h : Heard)
    → IsSomeAnd (request_of words) (λ request. IsReady request h)
    → IfSome (outline words h).course.ending IsFine
unfolding outline
outline_fine words h ready = asked_fine (request_of words) h ready

-- ---- only words that ask for nothing are blamed

end-other : (end : Option Stop) → status_of_end end ≢ Usage
end-other end = grind arith

ending-other : (end : Option Ending)
    → IfSome (option_map status_of_ending end) (λ status. status ≢ Usage)
ending-other end = grind arith

pub request-other : (request : Request) (h : Heard)
    → IfSome (request_outline request h).course.ending (λ status. status ≢ Usage)
unfolding request_outline recovery_outline hushed recovered grid_recovered script_recovered wrong_recovered sound_recovered rescue_by afterwards performed loading grid_outline work_outline roomed waiting script_outline reading_outline migrated made_outline concert live_outline follow_outline lead_outline opening mapped
request-other request h = grind (arith, end-other, ending-other)
