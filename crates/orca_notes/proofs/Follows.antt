-- A device that reads the messages follows the notes, through every event of a frame.
use Rattle.std.proofs.Common.{◌≡◌, ℕ, ◌+◌, ◌≤◌, Bool, true, false, not, List, [], ◌∷◌, ◌++◌, length, sym, ap, arith}
use Rattle.std.specs.List.{AllByRecursion, filter, fold, All}
use Rattle.std.proofs.lemmas.Bool.{and_from, eq-eqb}
use Rattle.std.proofs.lemmas.List.{map-append}
use Rattle.std.proofs.lemmas.List.Elements.{All-nil, All-push, recursion_from_All}
use Rattle.orca_base.specs.declared.limits.TheConstants.{MIN_VELOCITY}
use Rattle.orca_base.specs.declared.note.Note.{Note}
use Rattle.orca_base.specs.declared.event.Event.{Event}
use Rattle.orca_base.specs.declared.event.Event.TheVariants as event
use Rattle.orca_base.specs.declared.message.Message.{Message}
use Rattle.orca_base.specs.declared.message.Message.TheVariants as message
use Rattle.orca_base.specs.Ranges.{AreInRange, IsPlayable, IsSendable}
use Rattle.orca_notes.specs.Device.{Voice, is_same, is_on, voice_of, voices, IsChord, Leads, Plays, midi_messages}
use Rattle.orca_notes.specs.Sound.{Sounds, sounds_of, is_due, is_cut_by, ends, note_stop, note_start, say, happens, sound}
use Rattle.orca_notes.proofs.Voices.{same_from_true}
use Rattle.orca_notes.proofs.Chords.{IsChord-filter, IsChord-push, is_on-filter}
use Rattle.orca_notes.proofs.DeviceFacts.{Leads-none}
use Rattle.orca_notes.proofs.Turns.{Leads-on, Leads-other}
use Rattle.orca_notes.proofs.PlayFacts.{Plays-none, Plays-append, Plays-ends_of}

-- the notes are a chord, and the messages lead a device to them
pub record Follows (before : List Note) (s : Sounds) : Type 0 where
  pub chord : IsChord s.notes
  pub plays : Plays before s.messages s.notes

Follows-append : (before : List Note) (s : Sounds) (notes : List Note) (messages : List Message)
    → Follows before s → IsChord notes → Plays s.notes messages notes
    → Follows before (sounds_of notes (s.messages ++ messages))
Follows-append before s notes messages so_far chord more = record {
  chord = chord;
  plays = Plays-append before s.notes notes s.messages messages so_far.plays more;
}

stop-follows : (before : List Note) (test : Note → Bool) (s : Sounds)
    → Follows before s → Follows before (note_stop test s)
stop-follows before test s so_far =
    let left : Note → Bool = λ note. not (test note) in
    Follows-append before s (filter left s.notes) (ends (filter test s.notes)) so_far
    (IsChord-filter left s.notes so_far.chord) (Plays-ends_of test s.notes so_far.chord)

-- one message that can be sent
Plays-one : (before after : List Note) (m : Message) → IsSendable m
    → Leads (voices before) (midi_messages (m ∷ [])) (voices after) → Plays before (m ∷ []) after
Plays-one before after m sendable keys = record {
  keys = keys;
  sendable = All-push IsSendable [] m (All-nil IsSendable) sendable;
}

start-follows : (before : List Note) (note : Note) (velocity : ℕ) (s : Sounds)
    → AreInRange note.channel note.key velocity → MIN_VELOCITY ≤ velocity
    → is_on (voices s.notes) (voice_of note) ≡ false
    → Follows before s → Follows before (note_start note velocity s)
unfolding midi_messages
start-follows before note velocity s low loud absent so_far =
    let m = message.On note.channel note.key velocity in
    let on_now = Leads-on (voices s.notes) (voice_of note) velocity low.channel_low loud absent in
    Follows-append before s (s.notes ++ note ∷ []) (m ∷ []) so_far
    (IsChord-push s.notes note so_far.chord (low.channel_low, low.first_low) absent)
    (Plays-one s.notes (s.notes ++ note ∷ []) m (low, loud) (rw map-append on_now))

say-follows : (before : List Note) (m : Message) (s : Sounds)
    → IsSendable m → Leads (voices s.notes) (midi_messages (m ∷ [])) (voices s.notes)
    → Follows before s → Follows before (say m s)
say-follows before m s sendable keys so_far =
    Follows-append before s s.notes (m ∷ []) so_far so_far.chord
    (Plays-one s.notes s.notes m sendable keys)

-- a note of the voice is cut off before the voice starts
cut-takes : (channel key : ℕ) (mono : Bool) (note : Note)
    → is_same (record { channel = channel; key = key }) (voice_of note) ≡ true
    → is_cut_by channel key mono note ≡ true
cut-takes channel key true note same =
    let e = same_from_true (record { channel = channel; key = key }) (voice_of note) same in
    eq-eqb note.channel channel (sym (ap (λ (v : Voice). v.channel) e))
cut-takes channel key false note same =
    let e = same_from_true (record { channel = channel; key = key }) (voice_of note) same in
    and_from _ _ (eq-eqb note.channel channel (sym (ap (λ (v : Voice). v.channel) e)))
    (eq-eqb note.key key (sym (ap (λ (v : Voice). v.key) e)))

pub absent-after_cut : (channel key : ℕ) (mono : Bool) (notes : List Note)
    → is_on (voices (filter (λ note. not (is_cut_by channel key mono note)) notes))
    (record { channel = channel; key = key })
    ≡ false
absent-after_cut channel key mono notes =
    is_on-filter (is_cut_by channel key mono) (record { channel = channel; key = key })
    (cut-takes channel key mono) notes

happens-follows : (before : List Note) (tick : ℕ) (s : Sounds) (e : Event)
    → IsPlayable e → Follows before s → Follows before (happens tick s e)
unfolding happens midi_messages
happens-follows before tick s (event.Note channel key velocity length mono) low so_far =
    let note : Note = record { channel = channel; key = key; due = tick + length } in
    let cut = is_cut_by channel key mono in
    start-follows before note velocity (note_stop cut s) low.0 low.1
    (absent-after_cut channel key mono s.notes) (stop-follows before cut s so_far)
happens-follows before tick s (event.Control channel control value) low so_far =
    say-follows before (message.Control channel control value) s low
    (Leads-other (voices s.notes) 11 channel control value (omega arith)) so_far
happens-follows before tick s (event.Bend channel lsb msb) low so_far =
    say-follows before (message.Bend channel lsb msb) s low
    (Leads-other (voices s.notes) 14 channel lsb msb (omega arith)) so_far
happens-follows before tick s (event.Udp text) low so_far =
    say-follows before (message.Udp text) s tt (Leads-none (voices s.notes)) so_far
happens-follows before tick s (event.Osc path values) low so_far =
    say-follows before (message.Osc path values) s tt (Leads-none (voices s.notes)) so_far

fold-follows : (before : List Note) (tick : ℕ) (s : Sounds) (events : List Event)
    → AllByRecursion IsPlayable events
    → Follows before s → Follows before (fold (happens tick) s events)
fold-follows before tick s [] low so_far = so_far
fold-follows before tick s (e ∷ events) low so_far =
    fold-follows before tick (happens tick s e) events low.1
    (happens-follows before tick s e low.0 so_far)

-- a frame: the notes afterwards are a chord, and its messages lead a device to them
pub sound-follows : (notes : List Note) (tick : ℕ) (events : List Event)
    → IsChord notes → All IsPlayable events → Follows notes (sound notes tick events)
unfolding sound
sound-follows notes tick events chord low =
    let first : Follows notes (sounds_of notes []) =
    record { chord = chord; plays = Plays-none notes } in
    fold-follows notes tick (note_stop (is_due tick) (sounds_of notes [])) events
    (recursion_from_All IsPlayable events low)
    (stop-follows notes (is_due tick) (sounds_of notes []) first)
