-- The table of the forms of lines, written once more, so that none changes unseen and none is added
-- that nobody reads; and lines of format 2, computed by the definitions.
use Rattle.std.specs.Prelude.{◌≡◌, ℕ, List, [], ◌∷◌, ◌++◌, Some, Ok, Err, codes, refl}
use Rattle.orca_base.specs.Numbers.{number_of}
use Rattle.orca_base.specs.declared.command.Command.TheVariants as command
use Rattle.orca_script.specs.declared.format_2.Line.TheVariants.{Do, Frames}
use Rattle.orca_script.specs.declared.forms.Fixed.TheVariants as fixed
use Rattle.orca_script.specs.declared.forms.Kind.{Kind}
use Rattle.orca_script.specs.declared.forms.Kind.TheVariants.{Number, Glyph, Word}
use Rattle.orca_script.specs.declared.forms.TheConstants.{FRAMES, HEADER}
use Rattle.orca_script.specs.declared.forms.Verb.{Verb}
use Rattle.orca_script.specs.declared.forms.Verb.TheVariants.{Frame, Write, Fill, Erase, Copy, Cut, Clip, Paste, Move, Resize, Reset, Undo, Rewind, Redo, Retract, Hush}
use Rattle.orca_script.specs.declared.limits.TheConstants.{MAX_LINE_VALUES}
use Rattle.orca_script.specs.Format2.{header_seed, header_reading, line_frames, line_asks, reading2}
use Rattle.orca_script.specs.Grammar.{LineForm, line_forms, line_command, values_by, words_of}
use Rattle.orca_script.specs.LineValues.{letters_of, command_named}
use Rattle.orca_script.specs.Reading.{step}
use Rattle.orca_script.specs.Runs.{lines_behind, run_of}

-- ---- the table

abbrev row : List ℕ → List Kind → Verb → LineForm
row word kinds verb = record { word = word; kinds = kinds; verb = verb }

abbrev place : List Kind
place = Number ∷ Number ∷ []

abbrev block : List Kind
block = Number ∷ Number ∷ Number ∷ Number ∷ []

forms_are : line_forms
    ≡ row (codes "frame") [] Frame ∷ row (codes "write") (place ++ Glyph ∷ []) Write
    ∷ row (codes "fill") (block ++ Glyph ∷ []) Fill ∷ row (codes "erase") block Erase
    ∷ row (codes "copy") block Copy ∷ row (codes "cut") block Cut
    ∷ row (codes "clip") (place ++ Glyph ∷ []) Clip ∷ row (codes "paste") place Paste
    ∷ row (codes "move") (block ++ place) Move ∷ row (codes "resize") place Resize
    ∷ row (codes "reset") [] Reset ∷ row (codes "undo") [] Undo
    ∷ row (codes "rewind") (Number ∷ []) Rewind ∷ row (codes "redo") [] Redo
    ∷ row (codes "retract") (Number ∷ []) Retract ∷ row (codes "hush") [] Hush ∷ []
unfolding line_forms
forms_are = refl

-- format 2 has one form more, and its first line
frames_are : (FRAMES.0.now ≡ codes "frames") × (FRAMES.1.now ≡ Number ∷ [])
frames_are = (refl, refl)

header_is : (HEADER.0.now ≡ codes "!orca")
    × (HEADER.1.now ≡ Word fixed.Two ∷ Word fixed.Seed ∷ Number ∷ [])
header_is = (refl, refl)

fixed_are : (letters_of fixed.Two ≡ codes "2") × (letters_of fixed.Seed ≡ codes "seed")
fixed_are = (refl, refl)

limit_is : MAX_LINE_VALUES ≡ 6
limit_is = refl

-- ---- lines of format 2

seed_is_read : header_reading (codes "!orca  2 seed 007 ") ≡ Ok 7
unfolding header_reading header_seed words_of number_of
seed_is_read = refl

-- the number of the format is one word
other_format : header_reading (codes "!orca 3") ≡ Err (record { column = 7 })
unfolding header_reading header_seed words_of number_of step
other_format = refl

frames_are_read : reading2 (codes "frames 12") ≡ Ok (Some (Frames 12))
unfolding reading2 line_asks line_command line_frames line_forms words_of values_by number_of
frames_are_read = refl

frame_is_read : reading2 (codes "frame") ≡ Ok (Some (Do command.Frame))
unfolding reading2 line_asks line_command line_frames line_forms words_of values_by number_of command_named
frame_is_read = refl

-- without its number it goes on
no_number : reading2 (codes "frames") ≡ Err (record { column = 7 })
unfolding reading2 line_asks line_command line_frames line_forms words_of values_by number_of step
no_number = refl

-- ---- a glyph of the clip

clip_is_read : reading2 (codes "clip 0 12 a") ≡ Ok (Some (Do (command.Clip 0 12 97)))
unfolding reading2 line_asks line_command line_frames line_forms words_of values_by number_of command_named
clip_is_read = refl

-- the first two letters begin a line
clip_misspelt : reading2 (codes "clop") ≡ Err (record { column = 3 })
unfolding reading2 line_asks line_command line_frames line_forms words_of values_by number_of step
clip_misspelt = refl

-- ---- an entry taken out, and the end of all notes

retract_is_read : reading2 (codes "retract 12") ≡ Ok (Some (Do (command.Retract 12)))
unfolding reading2 line_asks line_command line_frames line_forms words_of values_by number_of command_named
retract_is_read = refl

retract_of_no_entry : reading2 (codes "retract") ≡ Err (record { column = 8 })
unfolding reading2 line_asks line_command line_frames line_forms words_of values_by number_of step
retract_of_no_entry = refl

hush_is_read : reading2 (codes "hush") ≡ Ok (Some (Do command.Hush))
unfolding reading2 line_asks line_command line_frames line_forms words_of values_by number_of command_named
hush_is_read = refl

hush_of_a_number : reading2 (codes "hush 1") ≡ Err (record { column = 6 })
unfolding reading2 line_asks line_command line_frames line_forms words_of values_by number_of step
hush_of_a_number = refl

-- ---- runs

runs_are_joined : lines_behind 0 (command.Frame ∷ command.Undo ∷ command.Frame ∷ command.Frame ∷ [])
    ≡ Do command.Frame ∷ Do command.Undo ∷ Frames 2 ∷ []
unfolding lines_behind run_of
runs_are_joined = refl

-- a run that is too long for one line
run_is_cut : run_of 8589934591 ≡ Frames 4294967295 ∷ Frames 4294967295 ∷ Do command.Frame ∷ []
unfolding run_of
run_is_cut = refl
