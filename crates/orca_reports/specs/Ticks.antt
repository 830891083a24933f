-- The ticks of a song: those of a run, which come in order, are kept.
use Rattle.std.specs.Prelude.{◌≡◌, ℕ, ◌+◌, ◌≤◌, List, [], ◌∷◌, ◌++◌, Option, Some, None, fold}
use Rattle.std.specs.List.{flat_map}
use Rattle.orca_base.specs.declared.message.Message.{Message}
use Rattle.orca_base.specs.MidiBytes.{midi_bytes_of}
use Rattle.orca_smf.specs.declared.limits.TheConstants.{MAX_DELTA}
use Rattle.orca_smf.specs.declared.timed.Timed.{Timed}
use Rattle.orca_smf.specs.Recording.{Recorded}
use Rattle.orca_smf.specs.Songs.{last_tick}
use Rattle.orca_reports.specs.Songs.{added}

-- a MIDI message at a tick
abbrev pub timed_by : ℕ → Option (List ℕ) → List Timed
timed_by tick None = []
timed_by tick (Some bytes) = record { tick = tick; bytes = bytes } ∷ []

-- the MIDI messages of a tick
abbrev pub timed_of : ℕ → List Message → List Timed
timed_of tick messages = flat_map (λ m. timed_by tick (midi_bytes_of m)) messages

-- a song with messages more
abbrev pub with_messages : Recorded → List Timed → Recorded
with_messages s messages = record { tempo = s.tempo; list = s.list ++ messages }

-- at a tick that is not before the last one, and that a delta time reaches, the MIDI messages are
-- added with this tick, unless the song is given up
abbrev pub TicksAreKept : Type 0
TicksAreKept =
    (tick : ℕ) (messages : List Message) (s t : Recorded)
    → last_tick 0 s.list ≤ tick → tick ≤ last_tick 0 s.list + MAX_DELTA
    → fold (added tick) (Some s) messages ≡ Some t
    → t ≡ with_messages s (timed_of tick messages)
