-- Laws of runs in which hands share a session: each hand is heard, an undo of one leaves the edits
-- of the others, and one hand that could share it does what one does that plays alone.
use Rattle.std.specs.Prelude.{◌≡◌, ◌≢◌, ℕ, false, List, Some, None}
use Rattle.orca_base.specs.Grids.{Sheet}
use Rattle.orca_live.specs.Hands.{HearsEach, SharesSession}
use Rattle.orca_live.specs.Items.{items_heard}
use Rattle.orca_live.specs.Solo.{HasNoRedo}
use Rattle.orca_words.specs.Requests.{Performance, Play, Setup}
use Rattle.orca_player.specs.Clocks.{AskFor}
use Rattle.orca_player.specs.Outlines.{Heard, live_start, outline, start_of}
use Rattle.orca_player.specs.declared.live.TheConstants.{ALONE}

-- the same performance of a hand that plays alone
abbrev pub alone_of : Performance → Performance
alone_of play = record play { hands = None; views = false }

-- what holds of the hands of a performance that words ask for, on any grid, from any moment on
pub record SharesFairly (words : List (List ℕ)) : Type 0 where
  -- the session is the one after the commands in the order in which they came, and the keys of each
  -- hand are those of its own bytes
  pub heard : (setup : Setup) (play : Performance) (sheet : Sheet) (at : ℕ)
      → AskFor words setup (Play play)
      → HearsEach (live_start setup play at (start_of setup sheet))
  -- where hands share it, each entry of its history has an owner, and an undo that a hand is
  -- granted leaves every edit of every other hand, in order
  pub shares : (setup : Setup) (play : Performance) (sheet : Sheet) (at : ℕ)
      → AskFor words setup (Play play) → play.hands ≢ None
      → SharesSession (live_start setup play at (start_of setup sheet))
  -- one hand that could share it does, without the key of Redo, all that one does that plays alone
  pub alone : (others : List (List ℕ)) (setup : Setup) (play : Performance) (h : Heard)
      → AskFor words setup (Play play) → play.hands ≡ Some 1
      → AskFor others setup (Play (alone_of play))
      → HasNoRedo (items_heard ALONE h.brought.hearings)
      → outline words h ≡ outline others h
