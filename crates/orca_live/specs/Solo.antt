-- A hand that shares its session with nobody: but for the key of Redo, which it is not offered, it
-- plays as one that plays alone.
use Rattle.std.specs.Prelude.{◌≡◌, ◌≢◌, ℕ, true, false, All, List, [], length}
use Rattle.orca_course.specs.Courses.{Course}
use Rattle.orca_course.specs.Performers.{Hearing}
use Rattle.orca_course.specs.declared.ending.Ending.{Ending}
use Rattle.orca_course.specs.declared.item.Losses.{Losses}
use Rattle.orca_jam.specs.Crews.{CrewState}
use Rattle.orca_jam.specs.Laws.{AreLeaders}
use Rattle.orca_live.specs.Items.{ByteOf, HeardItem, items_heard}
use Rattle.orca_live.specs.Laws.{whole_performance}
use Rattle.orca_live.specs.States.{LiveState}

-- the same hands as if they played alone: of these no owners are kept
abbrev pub as_alone : LiveState → LiveState
as_alone s =
    record s { crew = record s.crew { alone = true; views = false; owners = []; room = 0 } }

-- the byte of the key that does again what was taken back (Ctrl-Y)
abbrev pub redo_byte : ℕ
redo_byte = 25

-- no item is that byte
abbrev pub HasNoRedo : List HeardItem → Type 0
HasNoRedo items = All (λ item. (hand : ℕ) → item ≢ ByteOf hand redo_byte) items

-- one hand, and each edit is its own
pub record IsSolo (c : CrewState) : Type 0 where
  pub one : length c.players ≡ 1
  pub own : AreLeaders c.owners

-- the second of two performances does the acts of the first at the same price, ends as it does, and
-- leads where it does, as one that plays alone
pub record PlaysSame (c d : Course LiveState Ending) : Type 0 where
  pub acts : d.acts ≡ c.acts
  pub bill : d.bill ≡ c.bill
  pub ending : d.ending ≡ c.ending
  pub state : d.state ≡ as_alone c.state

-- without the key of Redo such a hand plays as if it played alone
abbrev pub PlaysAlone : Type 0
PlaysAlone =
    (s : LiveState) (opening : Losses) (heard : List Hearing) → IsSolo s.crew
    → HasNoRedo (items_heard (length s.crew.players) heard)
    → PlaysSame (whole_performance s opening heard) (whole_performance (as_alone s) opening heard)
