-- The pages of help: their rows stand in two tables, which the code shows.
use Rattle.std.specs.Prelude.{ℕ, ◌==◌, if◌then◌else◌, List, [], slice_get}
use Rattle.std.specs.Option.{option_map_or}
use Rattle.orca_term.specs.declared.help.TheConstants.{KEYS_PAGE, OPERATORS_PAGE}

-- row y of a page: the first one tells the keys, and the second one the operators
abbrev pub page_line : ℕ → ℕ → List ℕ
page_line page y =
    option_map_or (λ row. row.now)
    (slice_get (if page == 1 then KEYS_PAGE else OPERATORS_PAGE) y) []
