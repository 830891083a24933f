-- The lists of words that were read before there were options.
use Rattle.std.specs.Prelude.{ℕ, ◌≡◌, ◌==◌, not, Bool, false, IsTrue, [], ◌∷◌, Some, None}
use Rattle.clap.specs.Words.{Text}
use Rattle.orca_base.specs.Ascii.{dash}
use Rattle.orca_base.specs.Numbers.{number_of}
use Rattle.orca_base.specs.declared.limits.TheConstants.{DEFAULT_SEED, DEFAULT_HISTORY}
use Rattle.orca_words.specs.Requests.{Setup, Work, Perform, Replay, request_of}

-- a name that isn't empty and doesn't begin with a dash
abbrev pub is_plain_name : Text → Bool
is_plain_name [] = false
is_plain_name (first ∷ others) = not (first == dash)

-- a run on this grid with no option
abbrev pub plain_setup : Text → Setup
plain_setup grid = record {
  grid = grid;
  seed = DEFAULT_SEED;
  limit = DEFAULT_HISTORY;
  midi = None;
  udp = None;
  osc = None;
}

-- a first word, a grid and so many frames ask for this work on the grid, with no option
abbrev pub AsksPlainly : Text → (ℕ → Work) → Type 0
AsksPlainly first work = (grid frames : Text) → (count : ℕ) → IsTrue (is_plain_name grid)
    → number_of frames ≡ Some count
    → request_of (first ∷ grid ∷ frames ∷ []) ≡ Some (Perform (plain_setup grid) (work count))

-- a first word, a grid and a script ask for a replay of the script, with no option
abbrev pub AsksToReplay : Text → Type 0
AsksToReplay first = (grid script : Text) → IsTrue (is_plain_name grid)
    → IsTrue (is_plain_name script)
    → request_of (first ∷ grid ∷ script ∷ []) ≡ Some (Perform (plain_setup grid) (Replay script))
