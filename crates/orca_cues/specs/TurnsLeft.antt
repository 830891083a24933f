-- What is left of the turns of the generator of `make`, part by part.
use Rattle.std.specs.Prelude.{ℕ, ◌+◌, ◌-◌, ◌%◌, ◌≡◌, ◌≤◌, ◌==◌, nat_lt, if◌then◌else◌, Option, Some, None, List, [], ◌∷◌, ◌++◌, map}
use Rattle.orca_base.specs.declared.command.Command.TheVariants as command
use Rattle.orca_base.specs.Grids.{Size}
use Rattle.orca_cues.specs.Made.{generator_of, first_word, write_of, made_write, undo_in, rewind_in, made_turn, made_turns, made_cue}
use Rattle.orca_cues.specs.declared.source.Cue.{Cue}
use Rattle.orca_cues.specs.declared.source.Order.{Order}
use Rattle.orca_cues.specs.declared.source.Order.TheVariants.{Do, RewindHalf}
use Rattle.orca_cues.specs.declared.turns.Part.{Part}
use Rattle.orca_cues.specs.declared.turns.Part.TheVariants.{Frame, Write, Undo, Rewind}
use Rattle.rand_pcg.specs.Lcg.{Lcg, advance, next}
use Rattle.rand_pcg.specs.Pcg.{multiplier_64, pcg32}

-- the generator after one word
abbrev pub next_64 : Lcg → Lcg
next_64 words = next 64 multiplier_64 words

-- the order of a part: a write takes three words
abbrev pub order_of : Part → Size → Lcg → Order
order_of Frame dims words = Do command.Frame
order_of Write dims words =
    write_of dims (pcg32 words).0 (pcg32 (next_64 words)).0 (pcg32 (next_64 (next_64 words))).0
order_of Undo dims words = Do command.Undo
order_of Rewind dims words = RewindHalf

-- the generator after the words of a part
abbrev pub words_after : Part → Lcg → Lcg
words_after Write words = next_64 (next_64 (next_64 words))
words_after _ words = words

-- the part that follows in the same turn
abbrev pub part_after : Part → ℕ → Option Part
part_after Frame turn = if turn % 16 == 15 then Some Write else None
part_after Write turn = if turn % 64 == 63 then Some Undo else None
part_after Undo turn = if turn % 1024 == 1023 then Some Rewind else None
part_after Rewind turn = None

-- what is left of a turn, from a part on
abbrev pub turn_left : Part → ℕ → Size → ℕ → List Order
turn_left Frame seed dims turn = made_turn seed dims turn
turn_left Write seed dims turn = made_write seed dims turn ∷ (undo_in turn ++ rewind_in turn)
turn_left Undo seed dims turn = Do command.Undo ∷ rewind_in turn
turn_left Rewind seed dims turn = RewindHalf ∷ []

-- what is left of all turns, from a part of one of them on
abbrev pub turns_left : Part → ℕ → Size → ℕ → ℕ → List Cue
turns_left part seed dims turn frames =
    if nat_lt turn frames
    then map made_cue (turn_left part seed dims turn
    ++ made_turns seed dims (turn + 1) (frames - (turn + 1))) else []

-- the number of the words before a part
abbrev pub words_before : Part → Size → ℕ → ℕ
words_before Frame dims turn = first_word dims turn
words_before Write dims turn = first_word dims turn
words_before Undo dims turn = first_word dims (turn + 1)
words_before Rewind dims turn = first_word dims (turn + 1)

-- the turn has this part
abbrev pub IsDue : Part → ℕ → Type 0
IsDue Frame turn = Unit {0}
IsDue Write turn = turn % 16 ≡ 15
IsDue Undo turn = turn % 64 ≡ 63
IsDue Rewind turn = turn % 1024 ≡ 1023

-- the turn and its part, and where the generator of the seed stands
pub record IsTurn (part : Part) (seed : ℕ) (dims : Size) (turn frames : ℕ) (words : Lcg)
    : Type 0 where
  pub within : turn ≤ frames
  pub due : IsDue part turn
  pub words_are : words ≡ advance 64 multiplier_64 (words_before part dims turn) (generator_of seed)
