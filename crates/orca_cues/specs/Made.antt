-- The generator of `make`: a grid, and what is done with it turn by turn, by the words of a seed.
-- The words are those of PCG (XSH RR 64/32) on stream 0, in order, each once: first those of the
-- grid, in reading order, then three for each write.
use Rattle.std.specs.Prelude.{ℕ, zero, suc, ◌+◌, ◌*◌, ◌/◌, ◌%◌, ◌==◌, nat_lt, if◌then◌else◌, List, [], ◌∷◌, ◌++◌, length, map, slice_index}
use Rattle.std.specs.List.{range_with_len}
use Rattle.orca_base.specs.declared.command.Command.TheVariants.{Frame, Write, Undo}
use Rattle.orca_base.specs.Glyphs.{empty, signs}
use Rattle.orca_base.specs.Grids.{Size, Sheet, sheet_by, cells_of, index_of}
use Rattle.orca_cues.specs.declared.source.Cue.{Cue}
use Rattle.orca_cues.specs.declared.source.Order.{Order}
use Rattle.orca_cues.specs.declared.source.Order.TheVariants.{Do, RewindHalf}
use Rattle.rand_pcg.specs.Lcg.{Lcg, advance, increment_of, started}
use Rattle.rand_pcg.specs.Pcg.{multiplier_64, pcg32}

-- the generator of a seed, before its first word
abbrev pub generator_of : ℕ → Lcg
generator_of seed = started 64 multiplier_64 seed (increment_of 64 0)

-- word n of a seed, from 0
unfoldable pub made_word : ℕ → ℕ → ℕ
made_word seed n = (pcg32 (advance 64 multiplier_64 n (generator_of seed))).0

-- the glyphs of the generator: the digits, `A` to `Z`, `a` to `z`, and the signs
abbrev pub palette : List ℕ
palette = range_with_len 48 10 ++ (range_with_len 65 26 ++ (range_with_len 97 26 ++ signs))

-- the glyph of a word: of 100 words 70 give `.`
unfoldable pub made_glyph : ℕ → ℕ
made_glyph word =
    if nat_lt (word % 100) 70 then empty else slice_index palette ((word / 100) % length palette)

-- the grid: the word of a place has its number in reading order
abbrev pub made_sheet : ℕ → Size → Sheet
made_sheet seed dims = sheet_by dims (λ at. made_glyph (made_word seed (index_of dims at)))

-- the first word of the write of a turn: the words of the grid stand before it, and three for the
-- write of each sixteen turns before
abbrev pub first_word : Size → ℕ → ℕ
first_word dims turn = cells_of dims + 3 * (turn / 16)

-- the write of three words: its row, its column and its glyph
abbrev pub write_of : Size → ℕ → ℕ → ℕ → Order
write_of dims a b c = Do (Write (a % dims.h) (b % dims.w) (made_glyph c))

-- the write of a turn
abbrev pub made_write : ℕ → Size → ℕ → Order
made_write seed dims turn =
    let n = first_word dims turn in
    write_of dims (made_word seed n) (made_word seed (n + 1)) (made_word seed (n + 2))

-- a write comes in the last of 16 turns, an undo in the last of 64, and a rewind to half of the
-- history in the last of 1024; turns are counted from 0
abbrev pub write_in : ℕ → Size → ℕ → List Order
write_in seed dims turn = if turn % 16 == 15 then made_write seed dims turn ∷ [] else []

abbrev pub undo_in : ℕ → List Order
undo_in turn = if turn % 64 == 63 then Do Undo ∷ [] else []

abbrev pub rewind_in : ℕ → List Order
rewind_in turn = if turn % 1024 == 1023 then RewindHalf ∷ [] else []

-- what is done in a turn
unfoldable pub made_turn : ℕ → Size → ℕ → List Order
made_turn seed dims turn = Do Frame ∷ (write_in seed dims turn ++ (undo_in turn ++ rewind_in turn))

-- what is done in n turns, from this one on
unfoldable pub made_turns : ℕ → Size → ℕ → ℕ → List Order
made_turns seed dims turn zero = []
made_turns seed dims turn (suc n) = made_turn seed dims turn ++ made_turns seed dims (turn + 1) n

-- an order that stands on no line, and is done once
abbrev pub made_cue : Order → Cue
made_cue order = record { line = 0; times = 1; order = order }

-- the cues of so many frames
abbrev pub made_cues : ℕ → Size → ℕ → List Cue
made_cues seed dims frames = map made_cue (made_turns seed dims 0 frames)
