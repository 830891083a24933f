-- The channel voice messages of MIDI 1.0 (MIDI 1.0 Detailed Specification, "Channel Voice
-- Messages"): a status byte, whose high four bits are the kind and whose low four bits are the
-- channel, and then two data bytes of seven bits.
use Rattle.std.specs.Prelude.{ℕ, ◌+◌, ◌*◌, List, [], ◌∷◌, Option, Some, None}
use Rattle.orca_base.specs.declared.message.Message.{Message}
use Rattle.orca_base.specs.declared.message.Message.TheVariants as message

-- the status byte of a kind on a channel
abbrev pub status : ℕ → ℕ → ℕ
status kind channel = kind * 16 + channel

-- a message: its status byte and its two data bytes
abbrev pub voice_message : ℕ → ℕ → ℕ → ℕ → List ℕ
voice_message kind channel first second = status kind channel ∷ first ∷ second ∷ []

-- Note Off, kind 8: the key, and a release velocity, which is 0 here
abbrev pub note_off_bytes : ℕ → ℕ → List ℕ
note_off_bytes channel key = voice_message 8 channel key 0

-- Note On, kind 9: the key and the velocity
abbrev pub note_on_bytes : ℕ → ℕ → ℕ → List ℕ
note_on_bytes channel key velocity = voice_message 9 channel key velocity

-- Control Change, kind 11: the number of the controller and its value
abbrev pub control_bytes : ℕ → ℕ → ℕ → List ℕ
control_bytes channel number value = voice_message 11 channel number value

-- Pitch Bend Change, kind 14: the low seven bits of the bend, and then the high seven
abbrev pub bend_bytes : ℕ → ℕ → ℕ → List ℕ
bend_bytes channel lsb msb = voice_message 14 channel lsb msb

-- the bytes of a MIDI message; the messages of the other ports have none
abbrev pub midi_bytes_of : Message → Option (List ℕ)
midi_bytes_of (message.On channel key velocity) = Some (note_on_bytes channel key velocity)
midi_bytes_of (message.Off channel key) = Some (note_off_bytes channel key)
midi_bytes_of (message.Control channel control value) = Some (control_bytes channel control value)
midi_bytes_of (message.Bend channel lsb msb) = Some (bend_bytes channel lsb msb)
midi_bytes_of (message.Udp text) = None
midi_bytes_of (message.Osc path values) = None
