-- The laws of waves: the frames of a run are rendered with their messages, which are fair.
use Rattle.std.proofs.Common.{◌≡◌, ℕ, ◌+◌, ◌*◌, true, not, cond, map, List, [], ◌∷◌, ◌++◌, length, refl, ◌∙◌, ap, append_assoc, append-nil, arith}
use Rattle.std.specs.Prelude.{Bool, Option, Some, None, fold}
use Rattle.std.specs.List.{AllByRecursion, cons_option, filter}
use Rattle.std.proofs.lemmas.Bool.{cond-true, not_from_false}
use Rattle.std.proofs.lemmas.List.{map-append}
use Rattle.std.proofs.lemmas.List.Elements.{recursion_from_All}
use Rattle.orca_base.specs.declared.message.Message.{Message}
use Rattle.orca_base.specs.declared.message.Message.TheVariants as message
use Rattle.orca_base.specs.declared.note.Note.{Note}
use Rattle.orca_base.specs.MidiBytes.{midi_bytes_of}
use Rattle.orca_base.specs.Ranges.{IsSendable}
use Rattle.orca_concert.specs.Concerts.{close_course, final_course, last_course, saved_course}
use Rattle.orca_course.specs.Courses.{afterwards, keeping, mapped, onward}
use Rattle.orca_edit.specs.Frames.{frames_of}
use Rattle.orca_edit.proofs.FrameLemmas.{ArePlayed, frames_count}
use Rattle.orca_notes.specs.Device.{Ends, IsFair, Leads, Neither, Starts, Suits, KeyEffect, device, is_on as is_key_on, is_same, keys_after, keys_without, midi_messages, effect_of, voices}
use Rattle.orca_notes.specs.Device as notes
use Rattle.orca_notes.proofs.Voices.{keys_without-absent, same_voices}
use Rattle.orca_wav.specs.declared.voice.Voice.{Voice}
use Rattle.orca_wav.specs.Rendering.{Rendering, Renders, is_of, is_voice_on, rendering_after}
use Rattle.orca_wav.specs.Waves.{TimedMessage, voices_of}
use Rattle.orca_wav.proofs.Messages.{voices-after}
use Rattle.orca_wav.proofs.Runs.{Renders-message, Renders-none, Renders-samples}
use Rattle.orca_reports.specs.Runs.{opened_session}
use Rattle.orca_reports.specs.SavedWaves.{WaveIsSaved}
use Rattle.orca_reports.specs.Sounding.{AreFair, FramesSound, SoundsAs, wave_played, timed_at, timed_from}
use Rattle.orca_reports.specs.Waves.{Wave, samples_aside, framed, heard_message, suits, wav_manner, wave_at_start, wave_file}
use Rattle.orca_reports.proofs.FrameLemmas.{Goes, Records, frames_ran, run_plays}

-- ---- the sound of frames

abbrev timed : ℕ → Message → TimedMessage
timed n m = record { message = m; samples = n }

-- a message adds no sample
same_samples : (s : Rendering) (m : Message) → (rendering_after s m).samples ≡ s.samples
same_samples s m = grind arith

-- some messages were taken when there are n samples, and the others are fair after them
record IsAt (before later : List TimedMessage) (n : ℕ) (s : Rendering) (bytes : List ℕ)
    : Type 0 where
  fair : AreFair before later
  renders : Renders before s bytes
  samples : s.samples ≡ n

hears : (before later : List TimedMessage) (n : ℕ) (messages : List Message) (s : Rendering)
    (bytes : List ℕ) → IsAt before (timed_at n messages ++ later) n s bytes
    → IsAt (before ++ timed_at n messages) later n (fold heard_message s messages) bytes
unfolding heard_message
hears before later n [] s bytes at = rw append-nil at
hears before later n (m ∷ messages) s bytes at =
    let is : heard_message s m ≡ rendering_after s m =
    cond-true (suits s.voices m) (rendering_after s m) s (rw at.renders.voices at.fair.0) in
    let same : (heard_message s m).samples ≡ s.samples = rw is (same_samples s m) in
    rw (← append_assoc before (timed n m ∷ []) (timed_at n messages))
    (hears (before ++ timed n m ∷ []) later n messages (heard_message s m) bytes (record {
      fair = at.fair.1;
      renders = rw (← at.samples)
          (Renders-message before s (heard_message s m) m bytes is same at.renders);
      samples = same ∙ at.samples;
    }))

frames_from : (before : List TimedMessage) (n count : ℕ) (w : Wave) (frames : List (List Message))
    → n + w.frame * length frames ≡ count
    → IsAt before (timed_from w.frame n frames) n w.rendering w.bytes
    → SoundsAs (before ++ timed_from w.frame n frames) count (wave_played w frames)
unfolding framed
frames_from before n count w [] is at =
    let same : count ≡ n = omega (arith, is) in
    rw (append-nil, same)
    (record { samples = at.samples; bytes = rw at.samples at at.renders.bytes })
frames_from before n count w (messages ∷ frames) is at =
    let later = timed_from w.frame (n + w.frame) frames in
    let all = hears before later n messages w.rendering w.bytes at in
    let v = framed messages w in
    rw (← append_assoc before (timed_at n messages) later)
    (frames_from (before ++ timed_at n messages) (n + w.frame) count v frames (omega (arith, is))
    (record {
      fair = all.fair;
      renders = Renders-samples (before ++ timed_at n messages) (fold heard_message w.rendering messages)
          v.rendering w.frame w.bytes refl all.renders;
      samples = ap (λ k. k + w.frame) all.samples;
    }))

pub frames_sound : FramesSound
frames_sound = λ out bpm frames fair.
    frames_from [] 0 _ (wave_at_start out bpm) frames (omega arith)
    (record { fair = fair; renders = Renders-none; samples = refl })

-- ---- voices and keys

-- the key of a channel
abbrev key : ℕ → ℕ → notes.Voice
key channel number = record { channel = channel; key = number }

-- the keys of voices
abbrev key_of : Voice → notes.Voice
key_of voice = key voice.channel voice.key

abbrev keys_of : List Voice → List notes.Voice
keys_of voices = map key_of voices

turned : (channel number : ℕ) (v : Voice)
    → is_of channel number v ≡ is_same (key channel number) (key_of v)
turned channel number v = same_voices.symm (key_of v) (key channel number)

on_is : (channel number : ℕ) (voices : List Voice)
    → is_voice_on voices channel number ≡ is_key_on (keys_of voices) (key channel number)
on_is channel number [] = refl
on_is channel number (v ∷ voices) = cc (turned channel number v, on_is channel number voices)

keys_if : (b : Bool) (v : Voice) (voices : List Voice)
    → keys_of (cond b (v ∷ voices) voices) ≡ cond b (key_of v ∷ keys_of voices) (keys_of voices)
keys_if b v voices = grind arith

without_is : (channel number : ℕ) (voices : List Voice)
    → keys_of (filter (λ voice. not (is_of channel number voice)) voices)
    ≡ keys_without (keys_of voices) (key channel number)
without_is channel number [] = refl
without_is channel number (v ∷ voices) =
    rw (keys_if, turned channel number v, without_is channel number voices)

-- ---- the messages of frames are fair

-- what a message does to a device
abbrev turn_by : Message → KeyEffect
turn_by (message.On channel number velocity) = Starts (key channel number)
turn_by (message.Off channel number) = Ends (key channel number)
turn_by _ = Neither

abbrev turn_if : Option (List ℕ) → KeyEffect
turn_if None = Neither
turn_if (Some bytes) = effect_of bytes

turn_is : (m : Message) → IsSendable m → turn_if (midi_bytes_of m) ≡ turn_by m
turn_is m sendable = grind arith

-- a device takes a message by its turn, and then others
took : (bytes : Option (List ℕ)) (messages : List (List ℕ)) (on after : List notes.Voice)
    → Leads on (cons_option bytes messages) after
    → Suits on (turn_if bytes) × Leads (keys_after on (turn_if bytes)) messages after
unfolding device IsFair keys_after
took None messages on after leads = (tt, leads)
took (Some bytes) messages on after leads =
    (leads.fair.0, record { device = leads.device; fair = leads.fair.1 })

-- such a message is fair, and the voices have the keys of the device after it
one_fair : (before : List TimedMessage) (n : ℕ) (m : Message)
    → Suits (keys_of (voices_of before)) (turn_by m)
    → (suits (voices_of before) m ≡ true)
    × (keys_of (voices_of (before ++ timed n m ∷ []))
    ≡ keys_after (keys_of (voices_of before)) (turn_by m))
unfolding keys_after
one_fair before n (message.On channel number velocity) silent = (
  not_from_false _ (on_is channel number (voices_of before) ∙ silent),
  rw (voices-after, map-append, keys_without-absent _ (key channel number) silent),
)
one_fair before n (message.Off channel number) sounds = (
  on_is channel number (voices_of before) ∙ sounds,
  rw voices-after (without_is channel number (voices_of before)),
)
one_fair before n _ neither = (refl, rw voices-after)

-- whatever follows is fair, if the voices have these keys
abbrev FairAfter : List notes.Voice → List TimedMessage → Type 0
FairAfter on later =
    (before : List TimedMessage) → keys_of (voices_of before) ≡ on → AreFair before later

follow : (n : ℕ) (messages : List Message) (before later : List TimedMessage)
    (after : List notes.Voice) → AllByRecursion IsSendable messages
    → Leads (keys_of (voices_of before)) (midi_messages messages) after → FairAfter after later
    → AreFair before (timed_at n messages ++ later)
unfolding midi_messages device
follow n [] before later after all leads fair = fair before leads.device
follow n (m ∷ messages) before later after all leads fair =
    let taken = rw (turn_is m all.0) at (took (midi_bytes_of m) (midi_messages messages) _ after leads) in
    let did = one_fair before n m taken.0 in
    (did.0, follow n messages (before ++ timed n m ∷ []) later after all.1 (rw did.1 taken.1) fair)

frames_follow : (frame n : ℕ) (frames more : List (List Message)) (sounding : List Note)
    → ArePlayed sounding (frames ++ more)
    → FairAfter (voices sounding) (timed_from frame n frames)
frames_follow frame n [] more sounding all before is = tt
frames_follow frame n (messages ∷ frames) more sounding all before is =
    let plays = all.1.0 in
    follow n messages before (timed_from frame (n + frame) frames) (voices all.0)
    (recursion_from_All IsSendable messages plays.sendable) (rw is plays.keys)
    (frames_follow frame (n + frame) frames more all.0 all.1.1)

-- ---- a run

wav_records : Records wav_manner
wav_records = record {
  hands = refl;
  still = λ line tick messages w. grind arith;
  full = λ line messages w is. absurd cc;
}

-- a frame after which the run goes on was rendered
goes_on : (messages : List Message) (w : Wave) → (samples_aside messages w).ending ≡ None
    → (samples_aside messages w).state ≡ framed messages w
goes_on messages w goes = grind arith

frames_played : (tick : ℕ) (frames : List (List Message)) (w v : Wave)
    → Goes wav_manner tick frames w v → v ≡ wave_played w frames
frames_played tick [] w v goes = goes
frames_played tick (messages ∷ frames) w v goes =
    frames_played (tick + 1) frames (framed messages w) v
    (rw (goes_on messages w goes.0) at goes.1)

-- the name of the file stays
played_out : (frames : List (List Message)) (w : Wave) → (wave_played w frames).out ≡ w.out
unfolding framed
played_out [] w = refl
played_out (messages ∷ frames) w = played_out frames (framed messages w)

pub waves_are_saved : WaveIsSaved
unfolding last_course final_course close_course saved_course afterwards keeping onward mapped wave_file
waves_are_saved = λ lawful out bpm frames o kept tally sheet goes.
    let w = wave_at_start out bpm in
    let list = frames_of frames (opened_session o) in
    let ran = frames_ran wav_manner wav_records w frames o kept tally goes in
    let plays = run_plays lawful frames o sheet (omega (arith, ran.room)) in
    let sounds = frames_sound out bpm list (frames_follow w.frame 0 list _ [] plays [] refl) in
    ran.calls
    ∙ rw (
      frames_played 0 list w ran.stands.kept ran.kept,
      played_out list w,
      sounds.bytes,
      sounds.samples,
      frames_count frames (opened_session o),
    )
