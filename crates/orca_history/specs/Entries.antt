-- The entries of a history and those that jumps cut off, as two lists.
use Rattle.std.specs.Prelude.{ℕ, ◌≡◌, ◌+◌, ◌<◌, ◌≤◌, ◌⊎◌, true, List, length, reverse, All, vec_capacity}
use Rattle.orca_base.specs.declared.command.Entry.{Entry}
use Rattle.orca_base.specs.Histories.{done_of, is_done}
use Rattle.orca_history.specs.declared.entries.Entries.TheInside.{Inside}
use Rattle.orca_history.specs.Trails.{EndsInHush}

-- the entries, and those that come back next
pub record Lists : Type 0 where
  pub entries : List Entry
  pub tail : List Entry

-- the tail is kept in reverse order, so that its first entry can be taken away
abbrev pub lists_of : Inside → Lists
lists_of e = record { entries = e.done.items; tail = reverse e.undone.items }

-- no Hush was cut off, and a Hush stands where entries were
pub record IsLists (l : Lists) : Type 0 where
  pub done : All (λ e. is_done e ≡ true) l.tail
  pub hushed : 0 < length l.tail → EndsInHush l.entries

-- there is room for each jump and each redo to come: the entries have room for the tail, and for a
-- Hush if none stands at their end; the tail has room for all of them
pub record HasRoom (entries : List Entry) (tail room tail_room : ℕ) : Type 0 where
  pub all : length entries + tail ≤ room
  pub hush : 0 < length entries → EndsInHush entries ⊎ (length entries < room)
  pub cut : length (done_of entries) + tail ≤ tail_room

-- what holds of every such pair of lists
abbrev pub AreEntries : Inside → Type 0
AreEntries e =
    IsLists (lists_of e)
    × HasRoom e.done.items (length e.undone.items) (vec_capacity e.done) (vec_capacity e.undone)
