-- Worked examples: the rows of MIDI 1.0's summary of channel voice messages, at both ends of each
-- range.
use Rattle.std.specs.Prelude.{◌≡◌, [], ◌∷◌, refl}
use Rattle.orca_base.specs.MidiBytes.{bend_bytes, control_bytes, note_off_bytes, note_on_bytes}

note_on_first_channel : note_on_bytes 0 0x24 0x77 ≡ 0x90 ∷ 0x24 ∷ 0x77 ∷ []
note_on_first_channel = refl

note_on_last_channel : note_on_bytes 15 127 0 ≡ 0x9F ∷ 0x7F ∷ 0x00 ∷ []
note_on_last_channel = refl

note_off_first_channel : note_off_bytes 0 0x24 ≡ 0x80 ∷ 0x24 ∷ 0x00 ∷ []
note_off_first_channel = refl

note_off_last_channel : note_off_bytes 15 127 ≡ 0x8F ∷ 0x7F ∷ 0x00 ∷ []
note_off_last_channel = refl

control_first_channel : control_bytes 0 7 127 ≡ 0xB0 ∷ 0x07 ∷ 0x7F ∷ []
control_first_channel = refl

control_last_channel : control_bytes 15 127 0 ≡ 0xBF ∷ 0x7F ∷ 0x00 ∷ []
control_last_channel = refl

bend_first_channel : bend_bytes 0 0 127 ≡ 0xE0 ∷ 0x00 ∷ 0x7F ∷ []
bend_first_channel = refl

bend_last_channel : bend_bytes 15 127 0 ≡ 0xEF ∷ 0x7F ∷ 0x00 ∷ []
bend_last_channel = refl
