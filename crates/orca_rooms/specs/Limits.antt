-- The limit that a room names.
use Rattle.std.specs.Prelude.{ℕ, ◌&&◌, nat_le, if◌then◌else◌, Option, Some, None, List, codes, drop, length, take}
use Rattle.std.specs.Str.{bytes_eq}
use Rattle.orca_base.specs.Numbers.{number_of}
use Rattle.orca_base.specs.declared.limits.TheConstants.{MAX_HISTORY}
use Rattle.orca_cues.specs.Scripts.{line_at}

-- a number of entries that a history may have
abbrev pub limit_within : Option ℕ → Option ℕ
limit_within None = None
limit_within (Some limit) = if nat_le 1 limit && nat_le limit MAX_HISTORY then Some limit else None

abbrev pub limit_word : List ℕ
limit_word = codes "# limit "

-- the limit that a line names: `# limit L`
unfoldable pub limit_given : List ℕ → Option ℕ
limit_given line =
    if bytes_eq (take (length limit_word) line) limit_word
    then limit_within (number_of (drop (length limit_word) line)) else None

-- the limit that the second line of its script names
abbrev pub room_limit : List ℕ → Option ℕ
room_limit script = limit_given (line_at script 2)
