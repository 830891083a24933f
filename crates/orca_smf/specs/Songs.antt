-- A song as a Standard MIDI File (Standard MIDI Files 1.0): a header of format 0, and one track.
use Rattle.std.specs.Prelude.{ℕ, zero, suc, ◌+◌, ◌-◌, ◌/◌, ◌%◌, ◌^◌, ◌<◌, ◌≤◌, ◌≡◌, ◌==◌, if◌then◌else◌, List, [], ◌∷◌, ◌++◌, length, slice_index}
use Rattle.std.specs.Int.{bytes_high_first}
use Rattle.orca_base.specs.declared.limits.TheConstants.{BEAT_FRAMES, MAX_DATA}
use Rattle.orca_smf.specs.declared.limits.TheConstants.{MAX_DELTA}
use Rattle.orca_smf.specs.declared.timed.Timed.{Timed}

-- the bytes in front of the last one of a variable-length form, at most so many: seven bits each,
-- the high ones first, and the high bit set; no byte stands for zeros in front
abbrev pub leading : ℕ → ℕ → List ℕ
leading zero n = []
leading (suc places) n = if n == 0 then [] else leading places (n / 128) ++ (128 + n % 128) ∷ []

-- a delta time: its shortest variable-length form, of at most four bytes
unfoldable pub delta : ℕ → List ℕ
delta n = leading 3 (n / 128) ++ (n % 128) ∷ []

-- `MThd`, six bytes: format 0, one track, and a unit of delta time for each frame of a beat
abbrev pub header : List ℕ
header = 77 ∷ 84 ∷ 104 ∷ 100 ∷ 0 ∷ 0 ∷ 0 ∷ 6 ∷ 0 ∷ 0 ∷ 0 ∷ 1 ∷ 0 ∷ BEAT_FRAMES ∷ []

-- `MTrk`
abbrev pub track_name : List ℕ
track_name = 77 ∷ 84 ∷ 114 ∷ 107 ∷ []

-- the tempo, in microseconds for each beat, at the very beginning
abbrev pub tempo_event : ℕ → List ℕ
tempo_event tempo = 0 ∷ 255 ∷ 81 ∷ 3 ∷ bytes_high_first 3 tempo

-- each message: the time since the tick before it, and its three bytes; there is no running status
abbrev pub messages : ℕ → List Timed → List ℕ
messages before [] = []
messages before (m ∷ ms) = delta (m.tick - before) ++ m.bytes ++ messages m.tick ms

-- the tick of the last message, or the one before them all
abbrev pub last_tick : ℕ → List Timed → ℕ
last_tick before [] = before
last_tick before (m ∷ ms) = last_tick m.tick ms

-- the end of the track, at a tick
abbrev pub end_event : ℕ → ℕ → List ℕ
end_event before end = delta (end - before) ++ 255 ∷ 47 ∷ 0 ∷ []

-- the track before its end
abbrev pub track_opening : ℕ → List Timed → List ℕ
track_opening tempo list = tempo_event tempo ++ messages 0 list

-- the track
abbrev pub track_bytes : ℕ → List Timed → ℕ → List ℕ
track_bytes tempo list end = track_opening tempo list ++ end_event (last_tick 0 list) end

-- the file: the header, and the track after its name and its length
unfoldable pub smf : ℕ → List Timed → ℕ → List ℕ
smf tempo list end =
    let body = track_bytes tempo list end in
    header ++ track_name ++ bytes_high_first 4 (length body) ++ body

-- what may be a message: a voice message of three bytes. So it is no Program Change and no Channel
-- Pressure, which begin with 192 to 223 and have two.
pub record IsSongMessage (bytes : List ℕ) : Type 0 where
  pub three : length bytes ≡ 3
  pub status : 128 ≤ slice_index bytes 0
  pub no_system : slice_index bytes 0 < 240
  pub no_pair : 192 ≤ slice_index bytes 0 → 224 ≤ slice_index bytes 0
  pub second : slice_index bytes 1 ≤ MAX_DATA
  pub third : slice_index bytes 2 ≤ MAX_DATA

-- a tick may come after another: it is not before it, and the delta time has four bytes at most
pub record MayFollow (before tick : ℕ) : Type 0 where
  pub later : before ≤ tick
  pub near : tick ≤ before + MAX_DELTA
  pub fits : tick < 2 ^ 32

-- messages that may come after a tick
abbrev pub AreMessages : ℕ → List Timed → Type 0
AreMessages before [] = Unit {0}
AreMessages before (m ∷ ms) = MayFollow before m.tick × IsSongMessage m.bytes × AreMessages m.tick ms

-- a tempo, messages with their ticks, and the tick of the end
pub record Tune : Type 0 where
  pub tempo : ℕ
  pub list : List Timed
  pub end : ℕ

-- what may be a song
pub record IsTune (t : Tune) : Type 0 where
  pub tempo : t.tempo < 2 ^ 24
  pub messages : AreMessages 0 t.list
  pub end : MayFollow (last_tick 0 t.list) t.end
  pub short : length (track_bytes t.tempo t.list t.end) < 2 ^ 32

-- the file of a song
abbrev pub file_of : Tune → List ℕ
file_of t = smf t.tempo t.list t.end
