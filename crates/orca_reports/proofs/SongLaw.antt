-- The laws of songs: what a run of frames records and saves, and that it can be read.
use Rattle.std.proofs.Common.{◌≡◌, ℕ, ◌+◌, ◌-◌, ◌/◌, ◌^◌, ◌<◌, ◌≤◌, ◌⊎◌, inl, inr, List, [], ◌∷◌, ◌++◌, length, refl, ◌∙◌, ap, arith, append_assoc, append-nil, length-append}
use Rattle.std.specs.Prelude.{◌↔◌, Option, Some, None, IfSome, fold}
use Rattle.std.specs.List.{AllByRecursion}
use Rattle.std.proofs.lemmas.Bool.{cases_lt, le-ltb, lt-ltb}
use Rattle.std.proofs.lemmas.List.Elements.{recursion_from_All}
use Rattle.std.proofs.lemmas.Nat.{div_below}
use Rattle.orca_base.specs.declared.limits.TheConstants.{MAX_HISTORY, MINUTE_MICROSECONDS}
use Rattle.orca_base.specs.declared.message.Message.{Message}
use Rattle.orca_base.specs.declared.note.Note.{Note}
use Rattle.orca_base.specs.MidiBytes.{midi_bytes_of}
use Rattle.orca_base.specs.Ranges.{HasDataInRange, IsSendable}
use Rattle.orca_base.proofs.RangeFacts.{HasDataInRange-sendable}
use Rattle.orca_concert.specs.Concerts.{Concert, close_course, final_course, last_course, saved_course}
use Rattle.orca_course.specs.Acts.{Act}
use Rattle.orca_course.specs.Acts.Act.{Save}
use Rattle.orca_course.specs.Courses.{afterwards, keeping, mapped, onward}
use Rattle.orca_course.specs.Standings.{notes_of}
use Rattle.orca_course.specs.declared.tally.Tally.{Tally}
use Rattle.orca_edit.specs.Frames.{close_of, frames_of}
use Rattle.orca_edit.specs.Obeying.{MachineState, piece_of}
use Rattle.orca_edit.specs.Prices.{Kept}
use Rattle.orca_edit.proofs.FrameLemmas.{ArePlayed, frames_count}
use Rattle.orca_notes.specs.Sound.{ends}
use Rattle.orca_smf.specs.declared.limits.TheConstants.{MAX_DELTA, MAX_TRACK_BYTES}
use Rattle.orca_smf.specs.declared.timed.Timed.{Timed}
use Rattle.orca_smf.specs.Recording.{Recorded}
use Rattle.orca_smf.specs.Songs.{AreMessages, IsSongMessage, Tune, delta, end_event, file_of, last_tick, track_opening, track_bytes}
use Rattle.orca_reports.specs.Runs.{Opened, outside_calls, opened_session}
use Rattle.orca_reports.specs.SavedSongs.{SongIsSaved, SongIsTune, song_of, song_run, timed_frames}
use Rattle.orca_reports.specs.Songs.{SongSoFar, added, added_by, if_short, least_size, reached, reached_in, recorded, recording_at_start, smf_manner, whole_size, with_message}
use Rattle.orca_reports.specs.Ticks.{TicksAreKept, timed_by, timed_of, with_messages}
use Rattle.orca_reports.proofs.FrameLemmas.{Goes, Records, frames_ran, run_plays}

-- ---- the messages of a tick

-- the last tick of messages, and of others after them
pub last-append : (before : ℕ) (list more : List Timed)
    → last_tick before (list ++ more) ≡ last_tick (last_tick before list) more
last-append before [] more = refl
last-append before (m ∷ list) more = last-append m.tick list more

last_one : (tick : ℕ) (bytes : Option (List ℕ)) (list : List Timed) → last_tick 0 list ≤ tick
    → let last = last_tick 0 (list ++ timed_by tick bytes) in
    (last_tick 0 list ≤ last) × (last ≤ tick)
last_one tick bytes list low = grind (arith, last-append)

-- a song was given up, or is this one
abbrev IsOr : Option Recorded → Recorded → Type 0
IsOr song s = (song ≡ None) ⊎ (song ≡ Some s)

short_or : (s : Recorded) → IsOr (if_short s) s
short_or s = grind arith

adds_one : (tick : ℕ) (bytes : Option (List ℕ)) (song : Option Recorded) (s : Recorded)
    → last_tick 0 s.list ≤ tick → tick ≤ last_tick 0 s.list + MAX_DELTA → IsOr song s
    → IsOr (added_by tick bytes song) (with_messages s (timed_by tick bytes))
adds_one tick None song s low high is = rw append-nil is
adds_one tick (Some bytes) song s low high (inl none) = inl (rw none)
adds_one tick (Some bytes) song s low high (inr some) =
    let same : reached_in s tick ≡ tick = omega arith in
    rw (some, same) (short_or (with_messages s (timed_by tick (Some bytes))))

adds : (tick : ℕ) (messages : List Message) (song : Option Recorded) (s : Recorded)
    → last_tick 0 s.list ≤ tick → tick ≤ last_tick 0 s.list + MAX_DELTA → IsOr song s
    → let t = with_messages s (timed_of tick messages) in
    IsOr (fold (added tick) song messages) t × (last_tick 0 t.list ≤ tick)
unfolding added
adds tick [] song s low high is = rw append-nil (is, low)
adds tick (m ∷ messages) song s low high is =
    let bytes = midi_bytes_of m in
    let last = last_one tick bytes s.list low in
    rw (← append_assoc s.list (timed_by tick bytes) (timed_of tick messages))
    (adds tick messages (added_by tick bytes song) (with_messages s (timed_by tick bytes)) last.1
    (omega (arith, high, last.0)) (adds_one tick bytes song s low high is))

pub ticks_are_kept : TicksAreKept
ticks_are_kept = λ tick messages s t low high is.
    elim (adds tick messages (Some s) s low high (inr refl)).0 [ inl none ↦ cc | inr some ↦ cc ]

-- ---- the size of a song

-- the shortest end has four bytes
end_size : (tick : ℕ) → length (end_event tick tick) ≡ 4
unfolding delta
end_size tick = let none : tick - tick ≡ 0 = omega arith in rw none

least_is : (s : Recorded) → least_size s ≡ length (track_opening s.tempo s.list) + 4
least_is s =
    let tick = last_tick 0 s.list in
    length-append (track_opening s.tempo s.list) (end_event tick tick)
    ∙ ap (λ n. length (track_opening s.tempo s.list) + n) (end_size tick)

-- a song with the message at the tick that is reached
abbrev pushed : Recorded → ℕ → List ℕ → Recorded
pushed s tick bytes = with_messages s (timed_by tick (Some bytes))

pub too_long : {P : Type 0} (s : Recorded) (last tick now : ℕ) (bytes : List ℕ)
    → now ≡ reached last tick → last ≡ last_tick 0 s.list
    → (P ↔ (MAX_TRACK_BYTES < length (track_opening s.tempo (pushed s now bytes).list) + 4))
    → P ↔ (MAX_TRACK_BYTES < least_size (with_message s tick bytes))
too_long s last tick now bytes is same iff =
    rw (is, same) at (rw (← least_is (pushed s now bytes)) at iff)

-- ---- a run

smf_records : Records smf_manner
unfolding recorded
smf_records = record {
  hands = refl;
  still = λ line tick messages r. refl;
  full = λ line messages r is. absurd cc;
}

abbrev recording : List ℕ → ℕ → Recorded → SongSoFar
recording out end s = record { out = out; end = end; song = Some s }

frames_kept : (out : List ℕ) (end tick : ℕ) (frames : List (List Message)) (u : Recorded)
    (s : SongSoFar) → last_tick 0 u.list ≤ tick → tick + length frames ≤ MAX_DELTA
    → Goes smf_manner tick frames (recording out end u) s
    → let v = with_messages u (timed_frames tick frames) in
    (s ≡ recording out end v) × (last_tick 0 v.list ≤ tick + length frames)
unfolding recorded
frames_kept out end tick [] u s low high goes = rw append-nil (goes, omega arith)
frames_kept out end tick (messages ∷ frames) u s low high goes =
    let all = adds tick messages (Some u) u low (omega (arith, high)) (inr refl) in
    elim all.0 [
      | inl none ↦ let lost = rw none at goes.0 in absurd cc
      | inr some ↦
          let more = frames_kept out end (tick + 1) frames
          (with_messages u (timed_of tick messages)) s (omega (arith, all.1)) (omega (arith, high))
          (rw some at goes.1) in
          rw (← append_assoc u.list (timed_of tick messages) (timed_frames (tick + 1) frames))
          (more.0, omega (arith, more.1))
    ]

-- the song is saved at last, and is not too long
record Saves (out : List ℕ) (t : Tune) (calls : List Act) : Type 0 where
  saved : calls ≡ Save out (file_of t) ∷ []
  later : last_tick 0 t.list ≤ t.end
  short : length (track_bytes t.tempo t.list t.end) ≤ MAX_TRACK_BYTES

song_finishes : (out : List ℕ) (end : ℕ) (u : Recorded) (s : Concert SongSoFar)
    (messages : List Message) → ends (notes_of s.standing) ≡ messages
    → s.kept ≡ recording out end u → last_tick 0 u.list ≤ end → end ≤ MAX_DELTA
    → (last_course smf_manner None s).ending ≡ None
    → let list = u.list ++ timed_of end messages in
    Saves out (record { tempo = u.tempo; list = list; end = end })
    (outside_calls (last_course smf_manner None s).acts)
unfolding last_course final_course close_course saved_course recorded afterwards keeping onward mapped
song_finishes out end u s messages close kept low high goes =
    let v = with_messages u (timed_of end messages) in
    let all = adds end messages (Some u) u low (omega (arith, high)) (inr refl) in
    let same : reached_in v end ≡ end = omega (arith, all.1, high) in
    let size = whole_size v end in
    elim all.0 [
      | inl none ↦ let lost = rw (close, kept, none) at goes in absurd cc
      | inr some ↦
          elim (cases_lt MAX_TRACK_BYTES size) [
            | inl long ↦
                let lost = rw (close, kept, some, lt-ltb MAX_TRACK_BYTES size long) at goes in
                absurd cc
            | inr short ↦
                rw (close, kept, some, le-ltb MAX_TRACK_BYTES size short)
                (record { saved = rw same; later = all.1; short = rw same at short })
          ]
    ]

song_is_saved : (out : List ℕ) (bpm frames : ℕ) (o : Opened) (kept : Kept) (tally : Tally)
    → o.limit ≤ MAX_HISTORY
    → let c = song_run out bpm frames o kept tally in
    c.ending ≡ None
    → (frames ≤ o.limit) × Saves out (song_of bpm frames (opened_session o)) (outside_calls c.acts)
song_is_saved out bpm frames o kept tally most goes =
    let m = opened_session o in
    let list = frames_of frames m in
    let count = frames_count frames m in
    let u : Recorded = record { tempo = MINUTE_MICROSECONDS / bpm; list = [] } in
    let ran = frames_ran smf_manner smf_records (recording_at_start out bpm frames) frames o kept
    tally goes in
    let few : frames ≤ o.limit = omega (arith, ran.room) in
    let is = frames_kept out frames 0 list u ran.stands.kept (omega arith)
    (omega (arith, few, most, count)) ran.kept in (
      few,
      rw ran.calls
          (song_finishes out frames (with_messages u (timed_frames 0 list)) ran.stands
          (close_of frames m) (ap (λ (m : MachineState). ends (piece_of m).notes) ran.machine) is.0
          (omega (arith, is.1, count)) (omega (arith, few, most)) ran.goes),
    )

pub songs_are_saved : SongIsSaved
songs_are_saved = λ out bpm frames o kept tally most goes.
    (song_is_saved out bpm frames o kept tally most goes).1.saved

-- ---- what can be read

-- the bytes of a message in range
is_voice : (m : Message) → HasDataInRange m → IfSome (midi_bytes_of m) IsSongMessage
is_voice m range = grind arith

-- messages at a tick, and then others
follow : (tick : ℕ) (messages : List Message) (more : List Timed) (before : ℕ) → before ≤ tick
    → tick ≤ MAX_DELTA → AllByRecursion IsSendable messages
    → ((last : ℕ) → last ≤ tick → AreMessages last more)
    → AreMessages before (timed_of tick messages ++ more)
follow tick [] more before low few all rest = rest before low
follow tick (m ∷ messages) more before low few all rest =
    elim (midi_bytes_of m) as
    (λ bytes. IfSome bytes IsSongMessage
    → AreMessages before ((timed_by tick bytes ++ timed_of tick messages) ++ more)) [
      | None ↦ λ _. follow tick messages more before low few all.1 rest
      | Some bytes ↦ λ voice. (
        record { later = low; near = omega (arith, few); fits = omega (arith, few) },
        voice,
        follow tick messages more tick (omega arith) few all.1 rest,
      )
    ] (is_voice m (HasDataInRange-sendable m all.0))

-- the messages of frames, and of the close
all_follow : (tick end : ℕ) (frames : List (List Message)) (close : List Message)
    (notes : List Note) (before : ℕ) → tick + length frames ≡ end → end ≤ MAX_DELTA
    → ArePlayed notes (frames ++ close ∷ []) → before ≤ tick
    → AreMessages before (timed_frames tick frames ++ timed_of end close)
all_follow tick end [] close notes before count few all low =
    rw append-nil at (follow end close [] before (omega (arith, count)) few
    (recursion_from_All IsSendable close all.1.0.sendable) (λ last under. tt))
all_follow tick end (messages ∷ frames) close notes before count few all low =
    rw append_assoc
    (follow tick messages (timed_frames (tick + 1) frames ++ timed_of end close) before low
    (omega (arith, count, few)) (recursion_from_All IsSendable messages all.1.0.sendable)
    (λ last under. all_follow (tick + 1) end frames close all.0 last (omega (arith, count)) few
    all.1.1 (omega (arith, under))))

pub songs_are_tunes : SongIsTune
songs_are_tunes = λ lawful out bpm frames o kept tally sheet slow most goes.
    let m = opened_session o in
    let saved = song_is_saved out bpm frames o kept tally most goes in
    let few : frames ≤ MAX_DELTA = omega (arith, saved.0, most) in
    record {
      tempo = div_below MINUTE_MICROSECONDS bpm (2 ^ 24) (omega (arith, slow))
          (omega (arith, slow));
      messages = all_follow 0 frames (frames_of frames m) (close_of frames m) [] 0
          (omega (arith, frames_count frames m)) few (run_plays lawful frames o sheet saved.0)
          (omega arith);
      end = record {
        later = saved.1.later;
        near = omega (arith, few);
        fits = omega (arith, few);
      };
      short = omega (arith, saved.1.short);
    }
