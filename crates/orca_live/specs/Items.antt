-- What the hands of a performance are heard to do by answers.
use Rattle.std.specs.Prelude.{ℕ, not, nat_lt, if◌then◌else◌, List, [], ◌∷◌, ◌++◌, map, count_by}
use Rattle.orca_rig.specs.Arrived.{is_ending}
use Rattle.orca_course.specs.Performers.{Hearing}
use Rattle.orca_rig.specs.declared.inbox.Answer.{Answer}
use Rattle.orca_rig.specs.declared.inbox.Answer.TheVariants as answer

-- a byte of a hand, or a due frame
pub data HeardItem : Type 0 where
  ByteOf : (hand byte : ℕ) → HeardItem
  FrameDue : HeardItem

-- an answer, and then the rest, where so many hands are heard: each of their bytes is an item, and
-- so is a due frame
abbrev pub items_by : ℕ → Answer → List ℕ → List HeardItem → List HeardItem
items_by hands (answer.Bytes hand count at) bytes rest =
    if nat_lt hand hands then map (ByteOf hand) bytes ++ rest else rest
items_by hands (answer.Due at) bytes rest = FrameDue ∷ rest
items_by hands answer.End bytes rest = []
items_by hands answer.Failed bytes rest = []

-- the items of answers, up to the first one that ends them
abbrev pub items_heard : ℕ → List Hearing → List HeardItem
items_heard hands [] = []
items_heard hands (h ∷ heard) = items_by hands h.poll.answer h.poll.bytes (items_heard hands heard)

-- how many polls were answered by bytes or a due frame
abbrev pub lasting_answers : List Hearing → ℕ
lasting_answers heard = count_by (λ (h : Hearing). not (is_ending h.poll.answer)) heard
