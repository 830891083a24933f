-- The beginning of a file of samples: a RIFF file of the form WAVE, with the chunks `fmt ` and
-- `data`.
use Rattle.std.specs.Prelude.{ℕ, ◌+◌, ◌*◌, List, ◌++◌, codes}
use Rattle.std.specs.Int.{w16, w32, to_le_bytes}
use Rattle.orca_wav.specs.declared.limits.TheConstants.{SAMPLE_RATE, SAMPLE_BYTES}

-- a number of two bytes, and one of four, the least significant byte first
abbrev pub short : ℕ → List ℕ
short n = to_le_bytes w16 n

abbrev pub long : ℕ → List ℕ
long n = to_le_bytes w32 n

-- the chunk `fmt `: its 16 bytes say that the samples are plain numbers of one channel, how many
-- samples and bytes a second has, the bytes of a sample of all channels, and its bits
abbrev pub format_chunk : List ℕ
format_chunk =
    codes "fmt " ++ long 16 ++ short 1 ++ short 1 ++ long SAMPLE_RATE
    ++ long (SAMPLE_RATE * SAMPLE_BYTES) ++ short SAMPLE_BYTES ++ short (8 * SAMPLE_BYTES)

-- what stands before so many bytes of samples; the first number counts all bytes after it
abbrev pub header_bytes : ℕ → List ℕ
header_bytes bytes =
    codes "RIFF" ++ long (bytes + 36) ++ codes "WAVE" ++ format_chunk ++ codes "data" ++ long bytes
