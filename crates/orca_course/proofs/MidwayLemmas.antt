-- The turns of a performance: the end is not among them, and the answers bring them in order.
use Rattle.std.proofs.Common.{◌≡◌, ℕ, ◌<◌, Bool, true, false, length, List, [], ◌∷◌, ◌++◌, refl, sym, ap, subst, append_assoc, append-nil}
use Rattle.std.specs.Prelude.{if◌then◌else◌, nat_le, Option, Some, None}
use Rattle.std.specs.List.{flat_map}
use Rattle.std.proofs.lemmas.Bool.{lt-leb}
use Rattle.orca_base.specs.declared.limits.TheConstants.{MAX_POLLS}
use Rattle.orca_rig.specs.declared.inbox.Answer.{Answer}
use Rattle.orca_rig.specs.declared.inbox.Answer.TheVariants as answer
use Rattle.orca_course.specs.Courses.{each}
use Rattle.orca_course.specs.Performers.{Hearing, Part, Turn, answer_turns, begun, first_turns, heard_turns, turn_course, turns_of}
use Rattle.orca_course.specs.Performers.Turn.{Asked, Given, Over}
use Rattle.orca_course.specs.declared.ending.Ending.TheVariants.{Spent}
use Rattle.orca_course.specs.declared.item.Losses.{Losses}
use Rattle.orca_course.specs.declared.item.Item.{Item}
use Rattle.orca_course.specs.declared.item.Item.TheVariants as item
use Rattle.orca_course.proofs.PerformanceLemmas.{turns_before}
use Rattle.orca_course.proofs.TurnLemmas.{Are, AreInner, IsInner, inner_heard}

-- ---- the end is not among them

-- what a turn gives is not the end
abbrev pub IsMidway : Turn → Type 0
IsMidway (Given (item.Ended ending)) = ⊥
IsMidway turn = Unit {0}

abbrev pub AreMidway : List Turn → Type 0
AreMidway = Are IsMidway

midway_inner : (turn : Turn) → IsInner turn → IsMidway turn
midway_inner (Given (item.Ended ending)) inner = inner
midway_inner _ inner = tt

all_inner : (turns : List Turn) → AreInner turns → AreMidway turns
all_inner [] inner = tt
all_inner (turn ∷ turns) inner = (midway_inner turn inner.0, all_inner turns inner.1)

pub all_midway : (opening : Losses) (heard : List Hearing)
    → AreMidway (first_turns opening ++ heard_turns heard)
all_midway opening heard = (tt, (tt, (tt, all_inner (heard_turns heard) (inner_heard heard))))

-- where fewer polls were answered than may be, that adds no turn
pub begun_few : {S : Type 0} (p : Part S) (s : S) (opening : Losses) (heard : List Hearing)
    → length heard < MAX_POLLS
    → begun p s opening heard ≡ each (turn_course p) (turns_before opening heard) s
unfolding begun
begun_few p s opening heard few =
    rw (lt-leb MAX_POLLS (length heard) few)
    (ap (λ turns. each (turn_course p) (first_turns opening ++ turns) s)
    (append-nil (flat_map turns_of heard)))

-- ---- the answers bring them in order

-- an item is one that the answer brings, of which more is given, if any is
abbrev pub IsBrought : Item → Option Answer → Type 0
IsBrought (item.Byte other moment byte) (Some (answer.Bytes hand count at)) = other ≡ hand
IsBrought (item.Byte other moment byte) a = ⊥
IsBrought (item.Due moment) (Some (answer.Due at)) = Unit {0}
IsBrought (item.Due moment) a = ⊥
IsBrought i a = Unit {0}

-- the inbox is asked where all was given that it brought
abbrev pub IsHeard : Turn → Option Answer → Type 0
IsHeard (Asked poll) None = Unit {0}
IsHeard (Asked poll) (Some a) = ⊥
IsHeard (Given i) a = IsBrought i a
IsHeard turn a = Unit {0}

-- the answer of which more is given after a turn, if any is
abbrev pub after_turn : Turn → Option Answer → Option Answer
after_turn (Asked poll) a = Some poll.answer
after_turn (Given item.Settle) a = None
after_turn turn a = a

-- up to one that ends the performance
abbrev pub AreHeard : List Turn → Option Answer → Type 0
AreHeard [] a = Unit {0}
AreHeard (Over ending ∷ turns) a = Unit {0}
AreHeard (turn ∷ turns) a = IsHeard turn a × AreHeard turns (after_turn turn a)

bytes_heard : (hand count at : ℕ) (bytes : List ℕ) (came : Losses) (rest : List Turn)
    → AreHeard rest None
    → AreHeard (answer_turns (answer.Bytes hand count at) bytes came ++ rest)
    (Some (answer.Bytes hand count at))
bytes_heard hand count at [] came rest more = (tt, (tt, (tt, more)))
bytes_heard hand count at (byte ∷ bytes) came rest more =
    (refl, bytes_heard hand count at bytes came rest more)

answer_heard : (a : Answer) (bytes : List ℕ) (came : Losses) (rest : List Turn) → AreHeard rest None
    → AreHeard (answer_turns a bytes came ++ rest) (Some a)
answer_heard (answer.Bytes hand count at) bytes came rest more =
    bytes_heard hand count at bytes came rest more
answer_heard (answer.Due at) bytes came rest more = (tt, (tt, (tt, (tt, more))))
answer_heard answer.End bytes came rest more = tt
answer_heard answer.Failed bytes came rest more = tt

answers_heard : (heard : List Hearing) (rest : List Turn) → AreHeard rest None
    → AreHeard (flat_map turns_of heard ++ rest) None
answers_heard [] rest more = more
answers_heard (h ∷ heard) rest more =
    subst (λ turns. AreHeard turns None)
    (sym (append_assoc (turns_of h) (flat_map turns_of heard) rest))
    (tt, answer_heard h.poll.answer h.poll.bytes h.came _ (answers_heard heard rest more))

spent_heard : (b : Bool) → AreHeard (if b then Over Spent ∷ [] else []) None
spent_heard true = tt
spent_heard false = tt

pub all_heard : (heard : List Hearing) → AreHeard (heard_turns heard) None
all_heard heard = answers_heard heard _ (spent_heard (nat_le MAX_POLLS (length heard)))
