-- What a report has done, as its course.
use Rattle.std.proofs.Common.{◌≡◌, ℕ, List, [], ◌∷◌, refl, ◌<◌, ◌≤◌, sym, ◌∙◌, ap, inl, inr, ◌+◌, ◌*◌, ◌++◌, length, take, drop, subst, arith}
use Rattle.std.specs.Prelude.{Bool, Option, Result, IsErrAnd, Some, None, Ok, Err, fold}
use Rattle.std.proofs.lemmas.Bool.{cases_lt, le-ltb, lt-ltb}
use Rattle.std.proofs.lemmas.Grind.{common_steps}
use Rattle.std.proofs.lemmas.List.{drop-append-le}
use Rattle.orca_base.specs.declared.message.Message.{Message}
use Rattle.orca_concert.specs.Manners.{aside_course, remarks}
use Rattle.orca_concert.specs.Manners.Remark.{File, Lines, Text}
use Rattle.orca_course.specs.Acts.{AreMute, gives}
use Rattle.orca_course.specs.Courses.{Course}
use Rattle.orca_course.specs.Doing.{Does, goes_of, nowhere}
use Rattle.orca_course.specs.Standings.{Standing}
use Rattle.orca_course.specs.Worlds.{Calls, World, Called}
use Rattle.orca_course.specs.declared.ending.Stop.{Stop}
use Rattle.orca_course.specs.declared.refused.NoMemory.{NoMemory}
use Rattle.orca_course.specs.declared.refused.NoMemory.TheVariants.{Elsewhere}
use Rattle.orca_course.proofs.CallLemmas.{does_calls}
use Rattle.orca_course.proofs.DoingLemmas.{does_err, does_nothing, does_call, does_end, rests_mute, rests_none}
use Rattle.orca_course.specs.Acts.Act.{Save}
use Rattle.orca_course.specs.declared.ending.Stop.TheVariants.{SongTooLong}
use Rattle.orca_course.proofs.WorldLemmas.{made_none}
use Rattle.orca_send.specs.declared.lines.Label.{Label}
use Rattle.orca_send.specs.Lines.{lines_of}
use Rattle.orca_send.specs.Sending.{text_sent}
use Rattle.orca_smf.specs.declared.limits.TheConstants.{MAX_TRACK_BYTES}
use Rattle.orca_smf.specs.Recording.{Recorded}
use Rattle.orca_smf.specs.Songs.{smf}
use Rattle.orca_wav.specs.declared.limits.TheConstants.{HEADER_BYTES, MAX_WAVE_BYTES, SAMPLE_BYTES}
use Rattle.orca_wav.specs.Header.{header_bytes}
use Rattle.orca_wav.specs.Rendering.{Rendering, next_bytes, rendering_of}
use Rattle.orca_reports.specs.Songs.{SongSoFar, added, song_finished, loss, reached_in, recorded, whole_size, with_song}
use Rattle.orca_reports.specs.Waves.{Wave, samples_aside, framed, heard_message, next_size, wave_file}

-- memory was refused before anything was given
pub unsaid : {R : Type 0} {at : Option Standing} {hands : Bool} {c : Course R Stop} {r s : R}
    {x : World} (result : Result (Option Stop) NoMemory)
    → IsErrAnd result (λ e. e ≡ Elsewhere) → Does (nowhere at hands) c r x result s x
unsaid result is = does_err result Elsewhere is (does_nothing _ _ refl)

-- a text
pub said : {T R : Type 0} {at : Option Standing} {hands : Bool} {bytes text : List ℕ} {r s : R}
    {x y : World} (result : Result T NoMemory) → bytes ≡ text
    → Calls (gives (text_sent bytes ∷ [])) result x y
    → Does (nowhere at hands) (aside_course (remarks (Text text) s)) r x (goes_of result) s y
said {bytes = bytes} result is calls =
    rw (← is) (does_calls (gives (text_sent bytes ∷ [])) result (refl, tt) refl calls)

-- lines
mute_lines : (label : Label) (messages : List Message) → AreMute (gives (lines_of label messages))
mute_lines label [] = tt
mute_lines label (m ∷ messages) = (refl, mute_lines label messages)

pub printed : {T R : Type 0} {at : Option Standing} {hands : Bool} {r s : R} {x y : World}
    (label : Label) (messages : List Message) (result : Result T NoMemory)
    → Calls (gives (lines_of label messages)) result x y
    → Does (nowhere at hands) (aside_course (remarks (Lines label messages) s)) r x (goes_of result) s y
printed label messages result calls =
    does_calls (gives (lines_of label messages)) result (mute_lines label messages) refl calls

-- messages were added
pub recorded_done : {at : Option Standing} {hands : Bool} (tick : ℕ) (messages : List Message)
    (r : SongSoFar) {x : World} {song : Option Recorded} {end : Option Stop}
    → song ≡ fold (added tick) r.song messages → end ≡ loss r.song song
    → Does (nowhere at hands) (aside_course (recorded tick messages r)) r x (Ok end) (with_song r song) x
unfolding recorded
recorded_done {at = at} tick messages r {x = x} song end = record {
  did = record {
    made = made_none x;
    sated = refl;
    rests = rests_none _ _ _ refl;
    state = ap (with_song r) (sym song);
    ending = sym (end ∙ ap (loss r.song) song);
  };
}

-- a track whose file was given is not too long
pub short_of : {T E : Type 0} {file : T} {e : E} {n : ℕ}
    → (MAX_TRACK_BYTES < n → Ok file ≡ Err e) → n ≤ MAX_TRACK_BYTES
short_of {file = file} {e = e} {n = n} too_long =
    elim (cases_lt MAX_TRACK_BYTES n) [
      | inl long ↦ let is : Ok file ≡ Err e = too_long long in absurd cc
      | inr short ↦ short
    ]

-- the file was saved
pub finished_done : {at : Option Standing} {hands : Bool} (s : Recorded) (r : SongSoFar)
    {x y : World} {T : Type 0} {done : T} (file : List ℕ) → whole_size s r.end ≤ MAX_TRACK_BYTES
    → file ≡ smf s.tempo s.list (reached_in s r.end) → Called (Ok done) (Save r.out file) x y
    → Does (nowhere at hands) (aside_course (song_finished s r)) r x (Ok None) (with_song r None) y
finished_done s r file short is called =
    rw (le-ltb MAX_TRACK_BYTES (whole_size s r.end) short)
    (does_call (rw is at called) (rests_mute _ _ _ _ tt refl))

-- the track was too long
pub finished_long : {at : Option Standing} {hands : Bool} (s : Recorded) (r : SongSoFar) {x : World}
    → MAX_TRACK_BYTES < whole_size s r.end
    → Does (nowhere at hands) (aside_course (song_finished s r)) r x (Ok (Some SongTooLong)) (with_song r None) x
finished_long s r {x = x} long =
    rw (lt-ltb MAX_TRACK_BYTES (whole_size s r.end) long) (does_end SongTooLong x refl)

-- bytes written over the first ones of a list
pub written : (len : ℕ) (front items new : List ℕ) → len ≡ length items
    → length front ≤ length items → new ≡ front ++ drop (length front) items
    → take len (new ++ drop (length new) items) ≡ front ++ drop (length front) items
written len front items new all short is = grind (arith, common_steps)

abbrev wave_of : List ℕ → ℕ → Rendering → List ℕ → Wave
wave_of out frame rendering bytes = record {
  out = out;
  frame = frame;
  rendering = rendering;
  bytes = bytes;
}

-- the same wave, with these bytes
abbrev with_bytes : Wave → List ℕ → Wave
with_bytes w bytes = wave_of w.out w.frame w.rendering bytes

-- the file was saved, and the wave is as before
pub saved_done : {at : Option Standing} {hands : Bool} (w : Wave) {T : Type 0} {done : T}
    {x y : World} (samples : ℕ) (given file : List ℕ) → samples ≡ w.rendering.samples
    → given ≡ file → file ≡ header_bytes (SAMPLE_BYTES * samples) ++ w.bytes
    → Called (Ok done) (Save w.out given) x y
    → Does (nowhere at hands) (aside_course (remarks (File w.out (wave_file w)) w)) w x (Ok None)
    (with_bytes w (drop HEADER_BYTES file)) y
unfolding wave_file
saved_done w {done = done} {x = x} {y = y} samples given file count is whole called =
    rw whole
    (does_call
    (subst (λ (bytes : List ℕ). Called (Ok done) (Save w.out bytes) x y)
    (is ∙ (whole ∙ ap (λ n. header_bytes (SAMPLE_BYTES * n) ++ w.bytes) count)) called)
    (rests_mute _ _ _ _ tt refl))

-- a frame was rendered, if there was room
pub framed_is : (messages : List Message) (w : Wave) (now new : Rendering) (file into : List ℕ)
    → next_size w ≤ MAX_WAVE_BYTES → w.bytes ≡ drop HEADER_BYTES file
    → HEADER_BYTES ≤ length file → now ≡ fold heard_message w.rendering messages
    → new ≡ rendering_of (now.samples + w.frame) now.voices → into ≡ file ++ next_bytes now w.frame
    → wave_of w.out w.frame new (drop HEADER_BYTES into) ≡ (samples_aside messages w).state
unfolding framed
framed_is messages w now new file into short bytes room hears later rendered =
    rw (
      le-ltb MAX_WAVE_BYTES (next_size w) short,
      later,
      rendered,
      drop-append-le HEADER_BYTES file (next_bytes now w.frame) room,
      ← bytes,
      hears,
    )
