-- Laws of what players are told of their keys: that the grid was saved only where it was, and never
-- that all is well where the last save has failed.
use Rattle.std.specs.Prelude.{◌≡◌, ◌≢◌, ℕ, Bool, true, false, List, [], ◌∷◌, ◌++◌, codes}
use Rattle.orca_course.specs.Acts.{Act, keys_in}
use Rattle.orca_course.specs.Acts.Act.{Save}
use Rattle.orca_course.specs.Performers.{Hearing}
use Rattle.orca_course.specs.declared.item.Losses.{Losses}
use Rattle.orca_jam.specs.declared.crew.TheConstants.{LEADER}
use Rattle.orca_term.specs.Came.{came_word}
use Rattle.orca_term.specs.declared.came.Came.TheVariants.{Kept}
use Rattle.orca_term.specs.declared.keys.Key.{Key}
use Rattle.orca_term.specs.declared.keys.Key.TheVariants as key
use Rattle.orca_live.specs.Laws.{so_far}
use Rattle.orca_live.specs.States.{LiveState, key_name, status_line_at, word_at}

-- the word that the status line of a hand ends with
abbrev pub told_word : ℕ → LiveState → List ℕ
told_word hand s = let line = status_line_at hand s in came_word line.unsaved line.came

-- a key by which a terminal tells its size
abbrev pub tells_size : Key → Bool
tells_size (key.Screen rows columns) = true
tells_size _ = false

abbrev pub AreSizes : List Key → Type 0
AreSizes [] = Unit {0}
AreSizes (key ∷ keys) = (tells_size key ≡ true) × AreSizes keys

-- among acts the grid was saved under this name, and since then the hand struck no key of its own
pub record WasSaved (hand : ℕ) (name : List ℕ) (acts : List Act) : Type 0 where
  pub begun : List Act
  pub bytes : List ℕ
  pub since : List Act
  pub splits : acts ≡ begun ++ Save name bytes ∷ since
  pub sizes : AreSizes (keys_in hand since)

-- a hand is told that the grid was saved only where it was saved under the name of the key, where
-- the hand struck no key since then, and where no save that the first hand is told of has failed
pub record SavesAsTold (s t : LiveState) (hand : ℕ) (acts : List Act) : Type 0 where
  pub kept : WasSaved hand (key_name s.setting) acts
  pub whole : hand ≡ LEADER → t.came.unsaved ≡ false

abbrev pub TellsSaves : Type 0
TellsSaves =
    (s : LiveState) (opening : Losses) (heard : List Hearing) (hand : ℕ) → word_at hand s ≢ Kept
    → let c = so_far s opening heard in
    told_word hand c.state ≡ codes "saved" → SavesAsTold s c.state hand c.acts

-- where the last save has failed, the first hand is not told that all is well
abbrev pub TellsFailures : Type 0
TellsFailures =
    (s : LiveState) → s.crew.full ≡ true → s.came.unsaved ≡ true
    → told_word LEADER s ≢ codes "ok"
