-- Scripts and made pieces, computed by the definitions.
use Rattle.std.specs.Prelude.{◌≡◌, ℕ, List, [], ◌∷◌, ◌++◌, Ok, Err, codes, refl}
use Rattle.orca_base.specs.declared.command.Command.TheVariants.{Frame, Undo, Write}
use Rattle.orca_base.specs.Ascii.{line_feed}
use Rattle.orca_base.specs.Grids.{Size, by_place}
use Rattle.orca_script.specs.Grammar.{line_forms, line_command, values_by, words_of}
use Rattle.orca_script.specs.LineValues.{command_named}
use Rattle.orca_script.specs.Reading.{reading, step}
use Rattle.orca_base.specs.Numbers.{number_of}
use Rattle.orca_cues.specs.Made.{made_word, made_glyph, made_sheet, made_write, made_turn}
use Rattle.orca_cues.specs.Scripts.{cue_on, cues_of, first_fault, script_of}
use Rattle.orca_cues.specs.declared.source.Order.TheVariants.{Do, RewindHalf}
use Rattle.rand_pcg.specs.Lcg.{state_after}

-- a comment and an empty line are lines without a command
abbrev song : List ℕ
song =
    codes "# a song" ++ line_feed ∷ line_feed ∷ codes "undo " ++ line_feed ∷ codes "write 0 7 *"

song_read : script_of song ≡ Ok (cue_on 3 Undo ∷ cue_on 4 (Write 0 7 42) ∷ [])
unfolding first_fault cues_of reading line_command line_forms words_of values_by number_of command_named
song_read = refl

-- the first refused line decides, and what stands before it doesn't matter
abbrev faulty : List ℕ
faulty = codes "frame" ++ line_feed ∷ codes "frme" ++ line_feed ∷ codes "write 0 0"

faulty_refused : script_of faulty ≡ Err (record { line = 2; column = 3 })
unfolding first_fault reading line_command line_forms words_of values_by number_of step
faulty_refused = refl

-- the first word of the seed 0, and its glyph
first_of_zero : made_word 0 0 ≡ 3837872008
unfolding made_word state_after
first_of_zero = refl

smallest_of_zero : made_sheet 0 (record { h = 1; w = 1 })
    ≡ record { dims = record { h = 1; w = 1 }; cells = codes "." }
unfolding made_word made_glyph state_after by_place
smallest_of_zero = refl

-- what is done in some turns
module _ (seed : ℕ) (dims : Size) where
  turn_14 : made_turn seed dims 14 ≡ Do Frame ∷ []
  unfolding made_turn
  turn_14 = refl

  turn_15 : made_turn seed dims 15 ≡ Do Frame ∷ made_write seed dims 15 ∷ []
  unfolding made_turn
  turn_15 = refl

  turn_63 : made_turn seed dims 63 ≡ Do Frame ∷ made_write seed dims 63 ∷ Do Undo ∷ []
  unfolding made_turn
  turn_63 = refl

  turn_1023 : made_turn seed dims 1023
      ≡ Do Frame ∷ made_write seed dims 1023 ∷ Do Undo ∷ RewindHalf ∷ []
  unfolding made_turn
  turn_1023 = refl
