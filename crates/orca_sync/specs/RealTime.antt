-- The messages of a clock (MIDI 1.0 Detailed Specification, "System Real Time Messages"). Each is
-- one byte, and may stand anywhere, also inside of another message.
use Rattle.std.specs.Prelude.{ℕ, Bool, ◌||◌, ◌==◌}

-- Timing Clock, of which a beat has 24
abbrev pub timing_clock : ℕ
timing_clock = 0xF8

-- Start: play from the beginning
abbrev pub start : ℕ
start = 0xFA

-- Continue: go on from where it was stopped
abbrev pub continue : ℕ
continue = 0xFB

-- Stop
abbrev pub stop : ℕ
stop = 0xFC

-- the bytes that a clock gives
abbrev pub is_clock : ℕ → Bool
is_clock byte = byte == timing_clock || (byte == start || (byte == continue || byte == stop))
