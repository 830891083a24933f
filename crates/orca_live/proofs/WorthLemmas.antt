-- What the turns of a performance come to: the items of its answers.
use Rattle.std.proofs.Common.{◌≡◌, ℕ, Bool, true, false, length, List, [], ◌∷◌, ◌++◌, map, refl, ◌∙◌, ap, append_assoc}
use Rattle.std.specs.Prelude.{if◌then◌else◌, nat_le, nat_lt}
use Rattle.std.specs.List.{flat_map}
use Rattle.orca_base.specs.declared.limits.TheConstants.{MAX_POLLS}
use Rattle.orca_course.specs.Performers.{Hearing, Turn, answer_turns, heard_turns, turns_of}
use Rattle.orca_course.specs.Performers.Turn.{Over}
use Rattle.orca_course.specs.declared.ending.Ending.TheVariants.{Spent}
use Rattle.orca_course.specs.declared.item.Losses.{Losses}
use Rattle.orca_course.specs.declared.item.Item.{Item}
use Rattle.orca_course.specs.declared.item.Item.TheVariants as item
use Rattle.orca_course.proofs.CuttingLemmas.{Worth, counted}
use Rattle.orca_course.proofs.CuttingLemmas.Worth.{Counts, Nothing}
use Rattle.orca_rig.specs.declared.inbox.Answer.{Answer}
use Rattle.orca_rig.specs.declared.inbox.Answer.TheVariants as answer
use Rattle.orca_live.specs.Items.{ByteOf, FrameDue, HeardItem, items_by, items_heard}

-- what an item comes to where so many hands are heard, whenever it came
abbrev pub worth_of : ℕ → Item → Worth HeardItem
worth_of hands (item.Byte hand at byte) =
    if nat_lt hand hands then Counts (ByteOf hand byte) else Nothing
worth_of hands (item.Due at) = Counts FrameDue
worth_of hands _ = Nothing

module _ (hands : ℕ) where
  bytes_counted : (is : Bool) (hand count at : ℕ) (bytes : List ℕ) (came : Losses)
      (rest : List Turn) (items : List HeardItem) → nat_lt hand hands ≡ is
      → counted (worth_of hands) rest ≡ items
      → counted (worth_of hands) (answer_turns (answer.Bytes hand count at) bytes came ++ rest)
      ≡ (if is then map (ByteOf hand) bytes ++ items else items)
  bytes_counted true hand count at [] came rest items is more = more
  bytes_counted false hand count at [] came rest items is more = more
  bytes_counted true hand count at (byte ∷ bytes) came rest items is more =
      rw is (ap (λ list. ByteOf hand byte ∷ list)
      (bytes_counted true hand count at bytes came rest items is more))
  bytes_counted false hand count at (byte ∷ bytes) came rest items is more =
      rw is (bytes_counted false hand count at bytes came rest items is more)

  answer_counted : (a : Answer) (bytes : List ℕ) (came : Losses) (rest : List Turn)
      (items : List HeardItem) → counted (worth_of hands) rest ≡ items
      → counted (worth_of hands) (answer_turns a bytes came ++ rest) ≡ items_by hands a bytes items
  answer_counted (answer.Bytes hand count at) bytes came rest items more =
      bytes_counted (nat_lt hand hands) hand count at bytes came rest items refl more
  answer_counted (answer.Due at) bytes came rest items more = ap (λ list. FrameDue ∷ list) more
  answer_counted answer.End bytes came rest items more = refl
  answer_counted answer.Failed bytes came rest items more = refl

  answers_counted : (heard : List Hearing) (rest : List Turn) → counted (worth_of hands) rest ≡ []
      → counted (worth_of hands) (flat_map turns_of heard ++ rest) ≡ items_heard hands heard
  answers_counted [] rest none = none
  answers_counted (h ∷ heard) rest none =
      ap (counted (worth_of hands)) (append_assoc (turns_of h) (flat_map turns_of heard) rest)
      ∙ answer_counted h.poll.answer h.poll.bytes h.came _ (items_heard hands heard)
      (answers_counted heard rest none)

  spent_counted : (b : Bool)
      → counted (worth_of hands) (if b then Over Spent ∷ [] else []) ≡ []
  spent_counted true = refl
  spent_counted false = refl

  pub all_counted : (heard : List Hearing)
      → counted (worth_of hands) (heard_turns heard) ≡ items_heard hands heard
  all_counted heard = answers_counted heard _ (spent_counted (nat_le MAX_POLLS (length heard)))
