-- What every message of a frame is like, where its events are.
use Rattle.std.proofs.Common.{ℕ, get_or, List, [], ◌∷◌}
use Rattle.std.specs.List.{AllByRecursion, filter, fold, All}
use Rattle.std.proofs.lemmas.List.Elements.{All-push, All-append, All-map, All-weaker, recursion_from_All}
use Rattle.orca_base.specs.declared.note.Note.{Note}
use Rattle.orca_base.specs.declared.event.Event.{Event}
use Rattle.orca_base.specs.declared.event.Event.TheVariants as event
use Rattle.orca_base.specs.declared.message.Message.{Message}
use Rattle.orca_base.specs.declared.message.Message.TheVariants as message
use Rattle.orca_base.specs.EventRanges.{IsInRange, IsMessageInRange}
use Rattle.orca_base.specs.Ranges.{IsPlayable, IsSendable, HasFewValues, CarriesFewValues}
use Rattle.orca_base.proofs.RangeFacts.{IsPlayable-in_range}
use Rattle.orca_notes.specs.Device.{IsChord}
use Rattle.orca_notes.specs.Sound.{Sounds, sounds_of, is_due, is_cut_by, ends, note_stop, happens, sound}
use Rattle.orca_notes.proofs.Follows.{Follows, sound-follows}
use Rattle.orca_notes.proofs.PlayFacts.{Plays-ends}

-- it holds of the messages of notes
record HoldsOfNotes (P : Message → Type 0) : Type 0 where
  pub on : (channel key velocity : ℕ) → P (message.On channel key velocity)
  pub off : (channel key : ℕ) → P (message.Off channel key)

-- it holds of the message of an event that is no note
abbrev HoldsOfEvent : (Message → Type 0) → Event → Type 0
HoldsOfEvent P (event.Note channel key velocity length mono) = Unit {0}
HoldsOfEvent P (event.Control channel control value) = P (message.Control channel control value)
HoldsOfEvent P (event.Bend channel lsb msb) = P (message.Bend channel lsb msb)
HoldsOfEvent P (event.Udp text) = P (message.Udp text)
HoldsOfEvent P (event.Osc path values) = P (message.Osc path values)

ends-hold : (P : Message → Type 0) → HoldsOfNotes P → (notes : List Note) → All P (ends notes)
ends-hold P of_notes notes =
    All-map P (λ note. message.Off note.channel note.key) notes
    (λ k d h. of_notes.off (get_or notes k d).channel (get_or notes k d).key)

happens-hold : (P : Message → Type 0) → HoldsOfNotes P → (tick : ℕ) (s : Sounds) (e : Event)
    → HoldsOfEvent P e → All P s.messages → All P (happens tick s e).messages
unfolding happens
happens-hold P of_notes tick s (event.Note channel key velocity length mono) holds so_far =
    let cut = filter (is_cut_by channel key mono) s.notes in
    let stopped = All-append P s.messages (ends cut) so_far (ends-hold P of_notes cut) in
    All-push P _ (message.On channel key velocity) stopped (of_notes.on channel key velocity)
happens-hold P of_notes tick s (event.Control channel control value) holds so_far =
    All-push P s.messages (message.Control channel control value) so_far holds
happens-hold P of_notes tick s (event.Bend channel lsb msb) holds so_far =
    All-push P s.messages (message.Bend channel lsb msb) so_far holds
happens-hold P of_notes tick s (event.Udp text) holds so_far =
    All-push P s.messages (message.Udp text) so_far holds
happens-hold P of_notes tick s (event.Osc path values) holds so_far =
    All-push P s.messages (message.Osc path values) so_far holds

fold-hold : (P : Message → Type 0) → HoldsOfNotes P → (tick : ℕ) (s : Sounds) (events : List Event)
    → AllByRecursion (HoldsOfEvent P) events → All P s.messages
    → All P (fold (happens tick) s events).messages
fold-hold P of_notes tick s [] holds so_far = so_far
fold-hold P of_notes tick s (e ∷ events) holds so_far =
    fold-hold P of_notes tick (happens tick s e) events holds.1
    (happens-hold P of_notes tick s e holds.0 so_far)

sound-hold : (P : Message → Type 0) → HoldsOfNotes P
    → (notes : List Note) (tick : ℕ) (events : List Event)
    → All (HoldsOfEvent P) events → All P (sound notes tick events).messages
unfolding sound
sound-hold P of_notes notes tick events holds =
    fold-hold P of_notes tick (note_stop (is_due tick) (sounds_of notes [])) events
    (recursion_from_All (HoldsOfEvent P) events holds)
    (ends-hold P of_notes (filter (is_due tick) notes))

-- ---- values of OSC messages

few_of_notes : HoldsOfNotes CarriesFewValues
few_of_notes = record { on = λ channel key velocity. tt; off = λ channel key. tt }

few_of_event : (e : Event) → HasFewValues e → HoldsOfEvent CarriesFewValues e
few_of_event (event.Note channel key velocity length mono) few = tt
few_of_event (event.Control channel control value) few = tt
few_of_event (event.Bend channel lsb msb) few = tt
few_of_event (event.Udp text) few = tt
few_of_event (event.Osc path values) few = few

pub few_values-ends : (notes : List Note) → All CarriesFewValues (ends notes)
few_values-ends notes = ends-hold CarriesFewValues few_of_notes notes

-- each OSC message of a frame has few values where each event has
pub few_values-sound : (notes : List Note) (tick : ℕ) (events : List Event)
    → All HasFewValues events → All CarriesFewValues (sound notes tick events).messages
few_values-sound notes tick events few =
    sound-hold CarriesFewValues few_of_notes notes tick events
    (All-weaker HasFewValues (HoldsOfEvent CarriesFewValues) few_of_event events few)

-- ---- messages in range

-- a message that can be sent is in range
abbrev IsInRangeIfSent : Message → Type 0
IsInRangeIfSent m = IsSendable m → IsMessageInRange m

range_of_notes : HoldsOfNotes IsInRangeIfSent
range_of_notes = record {
  on = λ channel key velocity sendable. sendable;
  off = λ channel key sendable. sendable;
}

range_of_event : (e : Event) → IsInRange e → HoldsOfEvent IsInRangeIfSent e
range_of_event (event.Note channel key velocity length mono) range = tt
range_of_event (event.Control channel control value) range = λ sendable. range
range_of_event (event.Bend channel lsb msb) range = λ sendable. range
range_of_event (event.Udp text) range = λ sendable. range
range_of_event (event.Osc path values) range = λ sendable. range

-- the ends of a chord are in range
pub in_range-ends : (notes : List Note) → IsChord notes → All IsMessageInRange (ends notes)
in_range-ends notes chord =
    let plays = Plays-ends notes chord in
    let if_sent = ends-hold IsInRangeIfSent range_of_notes notes in
    λ k m h. if_sent k m h (plays.sendable k m h)

-- each message of a frame is in range where each event is
pub in_range-sound : (notes : List Note) (tick : ℕ) (events : List Event) → IsChord notes
    → All IsInRange events → All IsMessageInRange (sound notes tick events).messages
in_range-sound notes tick events chord range =
    let playable = All-weaker IsInRange IsPlayable IsPlayable-in_range events range in
    let follows : Follows notes (sound notes tick events) =
    sound-follows notes tick events chord playable in
    let if_sent = sound-hold IsInRangeIfSent range_of_notes notes tick events
    (All-weaker IsInRange (HoldsOfEvent IsInRangeIfSent) range_of_event events range) in
    λ k m h. if_sent k m h (follows.plays.sendable k m h)
