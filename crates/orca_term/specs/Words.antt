-- The operators in words.
use Rattle.std.specs.Prelude.{ℕ, List, [], ◌∷◌, ◌++◌, codes}
use Rattle.std.specs.Option.{option_map_or}
use Rattle.orca_base.specs.Glyphs.{upper}
use Rattle.orca_term.specs.Keys.{found_in}

-- each upper-case letter with its name
abbrev pub letter_names : List (ℕ × List ℕ)
letter_names =
    (65, codes "add") ∷ (66, codes "subtract") ∷ (67, codes "clock") ∷ (68, codes "delay")
    ∷ (69, codes "east") ∷ (70, codes "if") ∷ (71, codes "generator") ∷ (72, codes "halt")
    ∷ (73, codes "increment") ∷ (74, codes "jumper") ∷ (75, codes "konkat")
    ∷ (76, codes "lesser") ∷ (77, codes "multiply") ∷ (78, codes "north") ∷ (79, codes "read")
    ∷ (80, codes "push") ∷ (81, codes "query") ∷ (82, codes "random") ∷ (83, codes "south")
    ∷ (84, codes "track") ∷ (85, codes "uclid") ∷ (86, codes "variable") ∷ (87, codes "west")
    ∷ (88, codes "write") ∷ (89, codes "jymper") ∷ (90, codes "lerp") ∷ []

-- each sign with its name
abbrev pub sign_names : List (ℕ × List ℕ)
sign_names =
    (42, codes "bang") ∷ (35, codes "comment") ∷ (58, codes "midi") ∷ (37, codes "mono")
    ∷ (33, codes "control change") ∷ (63, codes "pitch bend") ∷ (59, codes "udp")
    ∷ (61, codes "osc") ∷ []

abbrev pub operator_names : List (ℕ × List ℕ)
operator_names = letter_names ++ sign_names

-- a glyph in words, if it is an operator: a lower-case letter has the name of the upper-case one
abbrev pub glyph_words : ℕ → List ℕ
glyph_words glyph =
    option_map_or (λ name. codes " " ++ glyph ∷ [] ++ codes " " ++ name)
    (found_in operator_names (upper glyph)) []
