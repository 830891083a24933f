-- What a sink has taken.
use Rattle.std.specs.Prelude.{ℕ, ◌⊎◌, if◌then◌else◌, Bool, List, ◌∷◌, ◌++◌, codes, Option, Some, None}
use Rattle.std.specs.Io.KnownBytes.{Appends, Keeps, append_known}
use Rattle.orca_edge.specs.declared.sinks.Sink.{Sink}
use Rattle.orca_edge.specs.Owed.{OwesNone, IsMissed, SendsEnds}

-- the bytes that a sink of messages holds, where they are known, and then the rest of the message
-- that was begun
abbrev pub holdings : {W : Type 0} → (W → Option (List ℕ)) → Sink W → Option (List ℕ)
holdings contents sink = append_known (contents sink.to) sink.rest

-- the sink has these bytes too
abbrev pub HasToo : {W : Type 0}
    → (W → Option (List ℕ)) → Sink W → Sink W → List ℕ → Type 0
HasToo contents before after bytes =
    Appends (holdings contents before) (holdings contents after) bytes

-- the sink has what it had
abbrev pub HasStill : {W : Type 0} → (W → Option (List ℕ)) → Sink W → Sink W → Type 0
HasStill contents before after = Keeps (holdings contents before) (holdings contents after)

-- the sink has some of the ends too that it was owed, in their order
abbrev pub HasEnds : {W : Type 0} → (W → Option (List ℕ)) → Sink W → Sink W → Type 0
HasEnds contents before after =
    (ends : List ℕ) × SendsEnds before.owed.ends after.owed.ends ends
    × HasToo contents before after ends

-- the sink has all of the ends too that it was owed, and then this message
abbrev pub HasInTurn : {W : Type 0}
    → (W → Option (List ℕ)) → Sink W → Sink W → List ℕ → Type 0
HasInTurn contents before after bytes =
    (ends : List ℕ) × SendsEnds before.owed.ends after.owed.ends ends
    × OwesNone after.owed.ends × HasToo contents before after (ends ++ bytes)

-- the sink has some of the ends too that it was owed, and not this message: if that is an end, it
-- is owed now
abbrev pub HasMissed : {W : Type 0}
    → (W → Option (List ℕ)) → Sink W → Sink W → List ℕ → Type 0
HasMissed contents before after bytes =
    (ends left : List ℕ) × SendsEnds before.owed.ends left ends
    × HasToo contents before after ends × IsMissed left after.owed.ends bytes

-- a message is taken, where there is a sink; one for none is dropped, and it stays none
abbrev pub Takes : {W : Type 0}
    → (W → Option (List ℕ)) → Option (Sink W) → Option (Sink W) → List ℕ → Type 0
Takes contents (Some before) (Some after) bytes = HasInTurn contents before after bytes
Takes contents None None bytes = Unit {0}
Takes contents before after bytes = ⊥

-- a message is taken whole, or not at all
abbrev pub TakesOrNot : {W : Type 0}
    → (W → Option (List ℕ)) → Option (Sink W) → Option (Sink W) → List ℕ → Type 0
TakesOrNot contents (Some before) (Some after) bytes =
    HasMissed contents before after bytes ⊎ HasInTurn contents before after bytes
TakesOrNot contents None None bytes = Unit {0}
TakesOrNot contents before after bytes = ⊥

-- some of the ends that a sink is owed are taken, and nothing else
abbrev pub TakesEnds : {W : Type 0}
    → (W → Option (List ℕ)) → Option (Sink W) → Option (Sink W) → Type 0
TakesEnds contents (Some before) (Some after) = HasEnds contents before after
TakesEnds contents None None = Unit {0}
TakesEnds contents before after = ⊥

-- CAN (24), which ends an escape sequence that was begun, and then ESC [ ? 1 l, by which the arrows
-- of a terminal send what they send in its normal mode
abbrev pub fresh_start : List ℕ
fresh_start = 24 ∷ 27 ∷ codes "[?1l"

-- the bytes of a painting: after one that was given up they begin so
abbrev pub painting_after : Bool → List ℕ → List ℕ
painting_after is_torn bytes = if is_torn then fresh_start ++ bytes else bytes
