-- The bytes of MIDI 1.0 (MIDI 1.0 Detailed Specification, "Data Format"), by their bits.
use Rattle.std.specs.Prelude.{ℕ, ◌<◌, ◌≤◌, ◌^◌, List, [], ◌∷◌}
use Rattle.std.specs.List.{AllByRecursion}

-- a status byte has its high bit
abbrev pub IsStatusByte : ℕ → Type 0
IsStatusByte byte = (2 ^ 7 ≤ byte) × (byte < 2 ^ 8)

-- a data byte has not
abbrev pub IsDataByte : ℕ → Type 0
IsDataByte byte = byte < 2 ^ 7

-- a channel fills the low four bits of a status byte
abbrev pub IsChannel : ℕ → Type 0
IsChannel channel = channel < 2 ^ 4

-- a message is a status byte, and then data bytes
abbrev pub HasStatusFirst : List ℕ → Type 0
HasStatusFirst [] = ⊥
HasStatusFirst (status ∷ rest) = IsStatusByte status × AllByRecursion IsDataByte rest
