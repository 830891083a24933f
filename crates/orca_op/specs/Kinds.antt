-- Which glyph is which operator.
use Rattle.std.specs.Prelude.{ℕ, ◌==◌, if◌then◌else◌, List, [], ◌∷◌, Option, Some, None}
use Rattle.orca_base.specs.Glyphs.{upper}
use Rattle.orca_op.specs.declared.kind.Kind.{Kind}
use Rattle.orca_op.specs.declared.kind.Kind.TheVariants.{Add, Subtract, Clock, Delay, East, IfEqual, Generator, Halt, Increment, Jumper, Konkat, Lesser, Multiply, North, ReadAt, Push, Query, Random, South, Track, Uclid, Variable, West, WriteAt, Jymper, Lerp, Bang, Comment, Midi, Mono, ControlChange, PitchBend, UdpText, OscMessage}

-- the letters A to Z and the signs `* # : % ! ? ; =`
abbrev pub kinds : List (ℕ × Kind)
kinds =
    (65, Add) ∷ (66, Subtract) ∷ (67, Clock) ∷ (68, Delay) ∷ (69, East) ∷ (70, IfEqual)
    ∷ (71, Generator) ∷ (72, Halt) ∷ (73, Increment) ∷ (74, Jumper) ∷ (75, Konkat) ∷ (76, Lesser)
    ∷ (77, Multiply) ∷ (78, North) ∷ (79, ReadAt) ∷ (80, Push) ∷ (81, Query) ∷ (82, Random)
    ∷ (83, South) ∷ (84, Track) ∷ (85, Uclid) ∷ (86, Variable) ∷ (87, West) ∷ (88, WriteAt)
    ∷ (89, Jymper) ∷ (90, Lerp)
    ∷ (42, Bang) ∷ (35, Comment) ∷ (58, Midi) ∷ (37, Mono) ∷ (33, ControlChange)
    ∷ (63, PitchBend) ∷ (59, UdpText) ∷ (61, OscMessage) ∷ []

abbrev pub kind_in : List (ℕ × Kind) → ℕ → Option Kind
kind_in [] g = None
kind_in (row ∷ rows) g = if g == row.0 then Some row.1 else kind_in rows g

-- the kind of an operator glyph, a letter being of one kind in either case
unfoldable pub kind_of : ℕ → Option Kind
kind_of g = kind_in kinds (upper g)
