-- The lines that reports print. A number has no leading zeros, and each line ends in a line feed.
use Rattle.std.specs.Prelude.{ℕ, List, [], ◌∷◌, ◌++◌, codes}
use Rattle.std.specs.Fmt.{decimal}
use Rattle.orca_base.specs.declared.command.Rule.{Rule}
use Rattle.orca_base.specs.declared.command.Rule.TheVariants.{NoSuchMoment}
use Rattle.orca_base.specs.Ascii.{line_feed, space}
use Rattle.orca_base.specs.Grids.{Size}
use Rattle.orca_base.specs.RuleNames.{rule_name}

-- a word and a number
abbrev pub figure : List ℕ → ℕ → List ℕ
figure word n = word ++ space ∷ decimal n

-- ` kept K`, where there is no such moment
abbrev pub kept_word : Rule → List ℕ
kept_word (NoSuchMoment kept) = figure (codes " kept") kept
kept_word _ = []

-- `refused LINE RULE`
unfoldable pub refusal_text : ℕ → Rule → List ℕ
refusal_text number rule =
    figure (codes "refused") number ++ space ∷ rule_name rule ++ kept_word rule ++ line_feed ∷ []

-- `tick T moments M sounding K`
unfoldable pub state_text : ℕ → ℕ → ℕ → List ℕ
state_text tick moments sounding =
    figure (codes "tick") tick ++ figure (codes " moments") moments
    ++ figure (codes " sounding") sounding ++ line_feed ∷ []

-- a line of a word and a number
abbrev pub figure_line : List ℕ → ℕ → List ℕ
figure_line word n = figure word n ++ line_feed ∷ []

-- `grid HxW`
abbrev pub size_line : Size → List ℕ
size_line d = figure (codes "grid") d.h ++ codes "x" ++ decimal d.w ++ line_feed ∷ []

-- the five lines of `make`: the size, the moments, the tick, the messages and the sum
unfoldable pub figures_text : Size → ℕ → ℕ → ℕ → ℕ → List ℕ
figures_text d moments tick messages sum =
    size_line d
    ++ figure_line (codes "moments") moments
    ++ figure_line (codes "tick") tick
    ++ figure_line (codes "messages") messages
    ++ figure_line (codes "sum") sum
