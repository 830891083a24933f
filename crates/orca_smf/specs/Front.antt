-- What stands in front of the messages of a file.
use Rattle.std.specs.Prelude.{ℕ, List, ◌++◌}
use Rattle.std.specs.Int.{bytes_high_first}
use Rattle.orca_smf.specs.Songs.{header, tempo_event, track_name}

-- the header, the name and the length of the track, and its tempo
abbrev pub front : ℕ → ℕ → List ℕ
front size tempo = header ++ track_name ++ bytes_high_first 4 size ++ tempo_event tempo
