-- What the streams of an inbox gave, and what is answered of it.
use Rattle.std.specs.Prelude.{◌≡◌, ◌≢◌, ℕ, ◌+◌, ◌<◌, ◌≤◌, ◌==◌, ◌&&◌, ◌⊎◌, not, if◌then◌else◌, List, [], ◌∷◌, length, take, slice_index_or, Option, Some, None, Result, Ok, Err, Bool, true, false}
use Rattle.std.specs.List.{list_any}
use Rattle.std.specs.IoError.{error_kind}
use Rattle.std.specs.Io.KnownBytes.{Consumes, Keeps}
use Rattle.std.specs.declared.io.Error.{Error}
use Rattle.std.specs.declared.io.ErrorKind.TheVariants.{WouldBlock, Interrupted}
use Rattle.orca_base.specs.declared.limits.TheConstants.{ARRIVAL_BYTES}
use Rattle.orca_rig.specs.declared.inbox.Answer.{Answer}
use Rattle.orca_rig.specs.declared.inbox.Answer.TheVariants as answer
use Rattle.orca_edge.specs.declared.hands.Hand.{Hand}
use Rattle.orca_edge.specs.declared.hands.State.{State}
use Rattle.orca_edge.specs.declared.hands.State.TheVariants as state
use Rattle.orca_edge.specs.declared.hands.Piece.{Piece}
use Rattle.orca_edge.specs.declared.hands.Piece.TheVariants as piece
use Rattle.orca_edge.specs.declared.hands.Glance.{Glance}
use Rattle.orca_edge.specs.declared.hands.Glance.TheVariants as turn
use Rattle.orca_rig.specs.Arrived.{MayAnswer, moment_after}

-- what a read gave, by its result: no byte is the end, a read that would wait or that a signal
-- interrupted is neither, and any other error has broken the stream
abbrev pub IsPieceOf : Result ℕ Error → Piece → Type 0
IsPieceOf (Ok count) (piece.Bytes came) = (came ≡ count) × (1 ≤ count)
IsPieceOf (Ok count) piece.End = count ≡ 0
IsPieceOf (Ok count) piece.Nothing = ⊥
IsPieceOf (Ok count) piece.Interrupted = ⊥
IsPieceOf (Ok count) piece.Broken = ⊥
IsPieceOf (Err error) (piece.Bytes came) = ⊥
IsPieceOf (Err error) piece.End = ⊥
IsPieceOf (Err error) piece.Nothing = error_kind error ≡ WouldBlock
IsPieceOf (Err error) piece.Interrupted = error_kind error ≡ Interrupted
IsPieceOf (Err error) piece.Broken =
    (error_kind error ≢ WouldBlock) × (error_kind error ≢ Interrupted)

-- bytes are of one of two streams, and the other has given none
abbrev pub IsOfOne : List ℕ → Option (List ℕ) → Option (List ℕ) → Option (List ℕ)
    → Option (List ℕ) → Type 0
IsOfOne bytes one one_left other other_left =
    (Consumes one one_left bytes × Keeps other other_left)
    ⊎ (Keeps one one_left × Consumes other other_left bytes)

-- at least one byte, and no more than an arrival holds
abbrev pub IsPiece : Piece → Type 0
IsPiece (piece.Bytes count) = (1 ≤ count) × (count ≤ ARRIVAL_BYTES)
IsPiece piece.Nothing = Unit {0}
IsPiece piece.Interrupted = Unit {0}
IsPiece piece.End = Unit {0}
IsPiece piece.Broken = Unit {0}

-- how the stream of a hand stands after a read: an end and a failure last
abbrev pub state_after : State → Piece → State
state_after state.Open (piece.Bytes count) = state.Open
state_after state.Open piece.Nothing = state.Open
state_after state.Open piece.Interrupted = state.Open
state_after state.Open piece.End = state.Ended
state_after state.Open piece.Broken = state.Broken
state_after state.Ended piece = state.Ended
state_after state.Broken piece = state.Broken

-- the bytes that a read gave: the first of those that were filled
abbrev pub piece_bytes : Piece → List ℕ → List ℕ
piece_bytes (piece.Bytes count) filled = take count filled
piece_bytes piece.Nothing filled = []
piece_bytes piece.Interrupted filled = []
piece_bytes piece.End filled = []
piece_bytes piece.Broken filled = []

-- the bytes of a hand that came with an answer
abbrev pub hand_bytes : ℕ → Answer → List ℕ → List ℕ
hand_bytes hand (answer.Bytes from count at) filled =
    if hand == from then take count filled else []
hand_bytes hand (answer.Due at) filled = []
hand_bytes hand answer.End filled = []
hand_bytes hand answer.Failed filled = []

-- the bytes of a hand that a turn answers
abbrev pub turn_bytes : ℕ → Glance → List ℕ → List ℕ
turn_bytes hand (turn.Answered answer) filled = hand_bytes hand answer filled
turn_bytes hand turn.Nothing filled = []
turn_bytes hand turn.Again filled = []

-- each stream has given the bytes that came of its hand, and no others
abbrev pub AreHeard : {S : Type 0}
    → (S → Option (List ℕ)) → List (Hand S) → List (Hand S) → (ℕ → List ℕ) → Type 0
AreHeard {S} remaining old new came =
    (length new ≡ length old) × ((hand : ℕ) (other : Hand S) → hand < length old
    → Consumes (remaining (slice_index_or old hand other).stream)
    (remaining (slice_index_or new hand other).stream) (came hand))

-- a turn answers what a poll may answer, at the moment of the turn
abbrev pub IsHandTurn : Option ℕ → ℕ → Glance → Type 0
IsHandTurn due now (turn.Answered answer) =
    MayAnswer due now answer × (moment_after answer now ≡ now)
IsHandTurn due now turn.Nothing = Unit {0}
IsHandTurn due now turn.Again = Unit {0}

-- how the stream of a hand stands
abbrev pub is_open : State → Bool
is_open state.Open = true
is_open state.Ended = false
is_open state.Broken = false

abbrev pub is_broken : State → Bool
is_broken state.Open = false
is_broken state.Ended = false
is_broken state.Broken = true

-- the stream of hand 0 has broken
abbrev pub is_first_broken : {S : Type 0} → List (Hand S) → Bool
is_first_broken [] = false
is_first_broken (hand ∷ hands) = is_broken hand.state

-- a hand is not open any more whose end is that of all
abbrev pub is_over : {S : Type 0} → (S → Bool) → List (Hand S) → Bool
is_over leads = list_any (λ hand. leads hand.stream && not (is_open hand.state))

-- nothing yet while a hand is open, and none has ended whose end is that of all; after that a
-- failure if hand 0 has broken, and else the end
abbrev pub last_turn : {S : Type 0} → (S → Bool) → List (Hand S) → Glance
last_turn leads hands =
    if list_any (λ hand. is_open hand.state) hands && not (is_over leads hands) then turn.Nothing
    else (if is_first_broken hands then turn.Answered answer.Failed
    else turn.Answered answer.End)

-- the turn in which a hand gave this piece: the bytes are answered, and the hands are read again
-- only where a signal came
abbrev pub hand_turn : {S : Type 0} → (S → Bool) → Piece → ℕ → ℕ → List (Hand S) → Glance
hand_turn leads (piece.Bytes count) hand now hands = turn.Answered (answer.Bytes hand count now)
hand_turn leads piece.Nothing hand now hands = turn.Nothing
hand_turn leads piece.Interrupted hand now hands = turn.Again
hand_turn leads piece.End hand now hands = last_turn leads hands
hand_turn leads piece.Broken hand now hands = last_turn leads hands

-- a turn tells what a read of this hand gave, and the hand stands as after that; where there is no
-- such hand it has failed
abbrev pub TellsRead : {S : Type 0}
    → (S → Bool) → List (Hand S) → List (Hand S) → ℕ → ℕ → Glance → Type 0
TellsRead {S} leads old new hand now told =
    (hand < length old → (piece : Piece) × (told ≡ hand_turn leads piece hand now new)
    × ((other : Hand S) → (slice_index_or new hand other).state
    ≡ state_after (slice_index_or old hand other).state piece))
    × (length old ≤ hand → told ≡ turn.Answered answer.Failed)

-- the hand after this one, in a round of so many
abbrev pub IsNext : ℕ → ℕ → ℕ → Type 0
IsNext hand next count =
    (hand + 1 < count → hand < 255 → next ≡ hand + 1) × (count ≤ hand + 1 → next ≡ 0)

-- once bytes of a hand were answered, the hand after it is read next
abbrev pub IsNextAfter : Answer → ℕ → ℕ → Type 0
IsNextAfter (answer.Bytes hand count at) next hands = IsNext hand next hands
IsNextAfter (answer.Due at) next hands = Unit {0}
IsNextAfter answer.End next hands = Unit {0}
IsNextAfter answer.Failed next hands = Unit {0}

-- whether an answer is a moment that has come
abbrev pub is_moment : Answer → Bool
is_moment (answer.Bytes hand count at) = false
is_moment (answer.Due at) = true
is_moment answer.End = false
is_moment answer.Failed = false

-- the bytes of a hand that came with an answer, or without one
abbrev pub came_bytes : ℕ → Option Answer → List ℕ → List ℕ
came_bytes hand None filled = []
came_bytes hand (Some answer) filled = hand_bytes hand answer filled

-- there is a seat of this number, and it is free
abbrev pub IsFree : {S : Type 0} → (S → Bool) → List (Hand S) → ℕ → Type 0
IsFree {S} free hands number = (number < length hands)
    × ((other : Hand S) → free (slice_index_or hands number other).stream ≡ true)
