-- Worked examples: the numbers of the sound, a header, and the samples of some notes.
use Rattle.std.specs.Prelude.{◌≡◌, ◌*◌, ◌^◌, List, [], ◌∷◌, map, pos, negsuc, refl}
use Rattle.std.specs.List.{flat_map, range_with_len}
use Rattle.orca_base.specs.declared.message.Message.TheVariants as message
use Rattle.orca_wav.specs.declared.limits.TheConstants.{SAMPLE_RATE, SLOWEST_FRAME_SAMPLES, SAMPLE_BYTES, MAX_SAMPLE, HEADER_BYTES, MAX_WAVE_BYTES, PITCHES, PERIOD, HALF_PERIOD, VELOCITY_LEVEL}
use Rattle.orca_wav.specs.declared.voice.Voice.{Voice}
use Rattle.orca_wav.specs.Header.{header_bytes}
use Rattle.orca_wav.specs.Waves.{phase_step, cut, sample_at, sample_bytes, voices_of, run_bytes}

-- ---- the numbers, so that none changes unseen

samples_of_a_second : SAMPLE_RATE ≡ 44100
samples_of_a_second = refl

samples_of_a_slowest_frame : SLOWEST_FRAME_SAMPLES ≡ 661500
samples_of_a_slowest_frame = refl

bytes_of_a_sample : SAMPLE_BYTES ≡ 2
bytes_of_a_sample = refl

greatest_sample : MAX_SAMPLE ≡ pos 32767
greatest_sample = refl

bytes_of_a_header : HEADER_BYTES ≡ 44
bytes_of_a_header = refl

most_bytes_of_samples : MAX_WAVE_BYTES ≡ 2 ^ 28
most_bytes_of_samples = refl

pitches : PITCHES
    ≡ 8372 ∷ 8870 ∷ 9397 ∷ 9956 ∷ 10548 ∷ 11175 ∷ 11840 ∷ 12544 ∷ 13290 ∷ 14080 ∷ 14917 ∷ 15804 ∷ []
pitches = refl

phase_of_a_period : PERIOD ≡ 45158400
phase_of_a_period = refl

phase_of_half_a_period : HALF_PERIOD ≡ 22579200
phase_of_half_a_period = refl

level_of_a_velocity : VELOCITY_LEVEL ≡ 64
level_of_a_velocity = refl

-- ---- the headers of a file without samples, of one frame at 120 beats a minute, and of the longest wave

header_of_silence : header_bytes 0
    ≡ 0x52 ∷ 0x49 ∷ 0x46 ∷ 0x46 ∷ 0x24 ∷ 0 ∷ 0 ∷ 0 ∷ 0x57 ∷ 0x41 ∷ 0x56 ∷ 0x45
    ∷ 0x66 ∷ 0x6D ∷ 0x74 ∷ 0x20 ∷ 0x10 ∷ 0 ∷ 0 ∷ 0 ∷ 1 ∷ 0 ∷ 1 ∷ 0
    ∷ 0x44 ∷ 0xAC ∷ 0 ∷ 0 ∷ 0x88 ∷ 0x58 ∷ 1 ∷ 0 ∷ 2 ∷ 0 ∷ 0x10 ∷ 0
    ∷ 0x64 ∷ 0x61 ∷ 0x74 ∷ 0x61 ∷ 0 ∷ 0 ∷ 0 ∷ 0 ∷ []
header_of_silence = refl

header_of_a_frame : header_bytes 11024
    ≡ 0x52 ∷ 0x49 ∷ 0x46 ∷ 0x46 ∷ 0x34 ∷ 0x2B ∷ 0 ∷ 0 ∷ 0x57 ∷ 0x41 ∷ 0x56 ∷ 0x45
    ∷ 0x66 ∷ 0x6D ∷ 0x74 ∷ 0x20 ∷ 0x10 ∷ 0 ∷ 0 ∷ 0 ∷ 1 ∷ 0 ∷ 1 ∷ 0
    ∷ 0x44 ∷ 0xAC ∷ 0 ∷ 0 ∷ 0x88 ∷ 0x58 ∷ 1 ∷ 0 ∷ 2 ∷ 0 ∷ 0x10 ∷ 0
    ∷ 0x64 ∷ 0x61 ∷ 0x74 ∷ 0x61 ∷ 0x10 ∷ 0x2B ∷ 0 ∷ 0 ∷ []
header_of_a_frame = refl

header_of_the_longest : header_bytes 268435456
    ≡ 0x52 ∷ 0x49 ∷ 0x46 ∷ 0x46 ∷ 0x24 ∷ 0 ∷ 0 ∷ 0x10 ∷ 0x57 ∷ 0x41 ∷ 0x56 ∷ 0x45
    ∷ 0x66 ∷ 0x6D ∷ 0x74 ∷ 0x20 ∷ 0x10 ∷ 0 ∷ 0 ∷ 0 ∷ 1 ∷ 0 ∷ 1 ∷ 0
    ∷ 0x44 ∷ 0xAC ∷ 0 ∷ 0 ∷ 0x88 ∷ 0x58 ∷ 1 ∷ 0 ∷ 2 ∷ 0 ∷ 0x10 ∷ 0
    ∷ 0x64 ∷ 0x61 ∷ 0x74 ∷ 0x61 ∷ 0 ∷ 0 ∷ 0 ∷ 0x10 ∷ []
header_of_the_longest = refl

-- ---- notes

-- the lowest C, and the C three octaves above it
increment_of_the_lowest_key : phase_step 0 ≡ 8372
unfolding phase_step
increment_of_the_lowest_key = refl

increment_of_key_36 : phase_step 36 ≡ 66976
unfolding phase_step
increment_of_key_36 = refl

-- the A of 440 hertz has 440 periods a second
increment_of_440_hertz : phase_step 69 ≡ 440 * 1024
unfolding phase_step
increment_of_440_hertz = refl

-- key 36 with velocity 119, from the first sample on: it is up for 338 samples, and then down
last_sample_up : sample_at (record { channel = 0; key = 36; velocity = 119; first = 0 } ∷ []) 337
    ≡ pos 7616
unfolding sample_at phase_step
last_sample_up = refl

first_sample_down : sample_at (record { channel = 0; key = 36; velocity = 119; first = 0 } ∷ []) 338
    ≡ negsuc 7615
unfolding sample_at phase_step
first_sample_down = refl

bytes_up : sample_bytes (pos 7616) ≡ 0xC0 ∷ 0x1D ∷ []
bytes_up = refl

bytes_down : sample_bytes (negsuc 7615) ≡ 0x40 ∷ 0xE2 ∷ []
bytes_down = refl

-- what five loud notes give is cut
cut_above : cut (pos 40640) ≡ pos 32767
cut_above = refl

cut_below : cut (negsuc 40639) ≡ negsuc 32766
cut_below = refl

-- an Off ends the note of its channel and key alone, and a note that starts again is a new voice
voices_left : voices_of
    (record { message = message.On 0 60 100; samples = 0 }
    ∷ record { message = message.On 1 60 90; samples = 0 }
    ∷ record { message = message.Off 0 60; samples = 500 }
    ∷ record { message = message.On 0 60 80; samples = 500 } ∷ [])
    ≡ record { channel = 1; key = 60; velocity = 90; first = 0 }
    ∷ record { channel = 0; key = 60; velocity = 80; first = 500 } ∷ []
voices_left = refl

-- the message of the second sample changes nothing before it
bytes_of_two_samples : run_bytes
    (record { message = message.On 0 127 1; samples = 0 }
    ∷ record { message = message.Off 0 127; samples = 1 } ∷ []) 2
    ≡ 64 ∷ 0 ∷ 0 ∷ 0 ∷ []
unfolding run_bytes sample_at phase_step
bytes_of_two_samples = refl

-- a note begins at its third sample and ends; it starts again with another velocity, begins anew, and ends. The expected
-- numbers here and below are those of a reference of the rules in another language, which keeps no phase
note_that_starts_again : run_bytes
    (record { message = message.On 3 127 1; samples = 2 }
    ∷ record { message = message.Off 3 127; samples = 5 }
    ∷ record { message = message.On 3 127 2; samples = 5 }
    ∷ record { message = message.Off 3 127; samples = 15 } ∷ []) 16
    ≡ 0 ∷ 0 ∷ 0 ∷ 0 ∷ 64 ∷ 0 ∷ 64 ∷ 0 ∷ 0xC0 ∷ 0xFF
    ∷ 128 ∷ 0 ∷ 128 ∷ 0 ∷ 0x80 ∷ 0xFF ∷ 0x80 ∷ 0xFF ∷ 128 ∷ 0
    ∷ 128 ∷ 0 ∷ 0x80 ∷ 0xFF ∷ 0x80 ∷ 0xFF ∷ 128 ∷ 0 ∷ 0x80 ∷ 0xFF
    ∷ 0 ∷ 0 ∷ []
unfolding run_bytes sample_at phase_step
note_that_starts_again = refl

-- two notes, messages that are no notes, and an Off that leaves the other note
note_that_is_left : run_bytes
    (record { message = message.On 0 127 100; samples = 0 }
    ∷ record { message = message.On 1 115 3; samples = 0 }
    ∷ record { message = message.Control 1 115 3; samples = 6 }
    ∷ record { message = message.Bend 1 115 3; samples = 6 }
    ∷ record { message = message.Udp []; samples = 6 }
    ∷ record { message = message.Osc 42 []; samples = 6 }
    ∷ record { message = message.Off 0 127; samples = 6 } ∷ []) 14
    ≡ 0xC0 ∷ 0x19 ∷ 0xC0 ∷ 0x19 ∷ 0xC0 ∷ 0xE7 ∷ 0xC0 ∷ 0xE7 ∷ 0x40 ∷ 0x18 ∷ 0x40 ∷ 0x18
    ∷ 0x40 ∷ 0xFF ∷ 0x40 ∷ 0xFF ∷ 0xC0 ∷ 0 ∷ 0xC0 ∷ 0 ∷ 0xC0 ∷ 0 ∷ 0x40 ∷ 0xFF ∷ 0x40 ∷ 0xFF ∷ 0x40 ∷ 0xFF ∷ []
unfolding run_bytes sample_at phase_step
note_that_is_left = refl

-- all keys of all channels at once: what they give is cut
abbrev all_voices : List Voice
all_voices = flat_map (λ channel. map (λ key. record { channel = channel; key = key; velocity = 127; first = 0 })
    (range_with_len 0 128)) (range_with_len 0 16)

first_of_all_voices : sample_at all_voices 0 ≡ pos 32767
unfolding sample_at phase_step
first_of_all_voices = refl

later_of_all_voices : sample_at all_voices 848 ≡ negsuc 32766
unfolding sample_at phase_step
later_of_all_voices = refl
