-- What holds of the work that is saved as a song or as sound, and of a performance with a journal.
use Rattle.std.specs.Prelude.{◌≡◌, ◌≢◌, ◌≤◌, List, None, Some, IfSome}
use Rattle.clap.specs.Words.{Text}
use Rattle.orca_words.specs.declared.limits.TheConstants.{MIN_SONG_BPM}
use Rattle.orca_words.specs.Requests.{Request, Perform, Setup, Work, Play, Smf, Wav, request_of}

-- this holds of the work that is performed, and of its grid and options
abbrev pub IfPerform : Request → (Setup → Work → Type 0) → Type 0
IfPerform (Perform setup work) P = P setup work
IfPerform _ P = Unit {0}

-- the tempo of a song is one that its file can hold
abbrev pub HasSongTempo : Work → Type 0
HasSongTempo (Smf song) = MIN_SONG_BPM ≤ song.bpm
HasSongTempo _ = Unit {0}

-- no port is attached
abbrev pub IsPortless : Setup → Type 0
IsPortless setup = (setup.midi ≡ None) × (setup.udp ≡ None) × (setup.osc ≡ None)

-- no port is attached to a run that is saved as a song or as sound
abbrev pub RecordsWithoutPorts : Setup → Work → Type 0
RecordsWithoutPorts setup (Smf song) = IsPortless setup
RecordsWithoutPorts setup (Wav wave) = IsPortless setup
RecordsWithoutPorts setup _ = Unit {0}

-- the journal of a performance has no name of another file of it: that of the grid, of one that is
-- saved at the end, of its address, or of its MIDI port
abbrev pub HasOwnJournal : Setup → Work → Type 0
HasOwnJournal setup (Play play) = IfSome play.journal (λ name.
    (name ≢ setup.grid) × IfSome play.save (λ other. name ≢ other)
    × IfSome play.script (λ other. name ≢ other) × (name ≢ play.address)
    × IfSome setup.midi (λ other. name ≢ other))
HasOwnJournal setup _ = Unit {0}

-- so it is, whatever the words are
abbrev pub OwnsJournals : Type 0
OwnsJournals =
    (words : List Text) (setup : Setup) (work : Work)
    → request_of words ≡ Some (Perform setup work) → HasOwnJournal setup work
