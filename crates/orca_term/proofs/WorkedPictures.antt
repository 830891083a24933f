-- The status line, the ruler and the styles, computed by the definitions.
use Rattle.std.specs.Prelude.{◌≡◌, ℕ, Bool, false, true, Some, None, List, [], ◌∷◌, ◌++◌, codes, drop, map, replicate, slice_index_or, refl}
use Rattle.std.specs.Fmt.{decimal}
use Rattle.orca_base.specs.Glyphs.{empty, from_value, is_operator}
use Rattle.orca_base.specs.MarkSet.{MarkSet, no_marks}
use Rattle.orca_term.specs.Came.{came_word}
use Rattle.orca_term.specs.Pasting.{new_flow}
use Rattle.orca_term.specs.Picture.{Scene, blank_cell, byte_at, glyph_under, grid_cell, grid_row, plain, status_cells, status_front, style_at, style_by, styled, tells_sent, tempo_word, upper_rows, warning_cells, word_style}
use Rattle.orca_term.specs.Traffic.{FrameSent, message_words, nothing_sent, sent_after, sent_text, words_of}
use Rattle.orca_term.specs.Words.{glyph_words}
use Rattle.orca_base.specs.declared.command.Rule.TheVariants.{EmptyClip}
use Rattle.orca_base.specs.declared.message.Message.TheVariants.{On, Off, Control, Bend, Udp, Osc}
use Rattle.orca_base.specs.declared.place.Place.{Place}
use Rattle.orca_term.specs.declared.came.Came.TheVariants.{Well, Refused, Denied, Kept}
use Rattle.orca_term.specs.declared.came.HandRule.TheVariants.{LeaderOnly, NotYours}
use Rattle.orca_term.specs.declared.cell.Cell.{Cell}
use Rattle.orca_term.specs.declared.editor.Editor.{Editor}
use Rattle.orca_term.specs.declared.status.StatusLine.{StatusLine}

-- an editor in the fourth row and column, with the guide or without it
abbrev editor : Bool → Bool → Editor
editor append guide = record {
  y = 3;
  x = 3;
  h = 1;
  w = 1;
  paused = false;
  append = append;
  guide = guide;
  anchor = record { y = 3; x = 3 };
  flow = None;
  page = 0;
  traffic = false;
}

-- a line where all is well
abbrev line : ℕ → StatusLine
line tick = record {
  tick = tick;
  moments = 5;
  sounding = 0;
  tempo = 120;
  no_midi = false;
  no_udp = false;
  no_osc = false;
  no_journal = false;
  away = 0;
  unsaved = false;
  warns = true;
  came = Well;
}

-- the frame that was played last is the first of its beat
on_the_beat : tempo_word (line 1) ≡ decimal 120 ++ codes " " ++ codes "*"
on_the_beat = refl

beat_later : tempo_word (line 5) ≡ decimal 120 ++ codes " " ++ codes "*"
beat_later = refl

between_beats : tempo_word (line 2) ≡ decimal 120 ++ codes " " ++ codes "."
between_beats = refl

before_the_first : tempo_word (line 0) ≡ decimal 120 ++ codes " " ++ codes "."
before_the_first = refl

-- ---- what keys came to

-- the warnings, and what the last key came to
abbrev told : StatusLine → List Cell
told line =
    warning_cells line ++ styled (word_style line) (came_word line.unsaved line.came)

-- a word as it is told, and one that warns
abbrev white : List ℕ → List Cell
white text = styled plain text

abbrev red : List ℕ → List Cell
red text = styled 91 text

all_is_well : told (line 1) ≡ white (codes "ok")
all_is_well = refl

saved : told (record (line 1) { came = Kept }) ≡ white (codes "saved")
saved = refl

-- a save that failed is told where else all were well, and `saved` is told of none that failed
unsaved : told (record (line 1) { unsaved = true }) ≡ red (codes "unsaved")
unsaved = refl

not_saved : told (record (line 1) { unsaved = true; came = Kept }) ≡ red (codes "unsaved")
not_saved = refl

refused : told (record (line 1) { unsaved = true; came = Refused EmptyClip })
    ≡ red (codes "EmptyClip")
refused = refl

denied : told (record (line 1) { came = Denied LeaderOnly })
    ++ told (record (line 1) { came = Denied NotYours }) ≡ red (codes "LeaderOnlyNotYours")
denied = refl

-- with plain keys no word is red
refused_by_plain_keys : told (record (line 1) { warns = false; came = Refused EmptyClip })
    ≡ white (codes "EmptyClip")
refused_by_plain_keys = refl

lost_port : told (record (line 1) { no_udp = true }) ≡ red (codes "no udp") ++ white (codes " ok")
lost_port = refl

two_are_away : told (record (line 1) { no_midi = true; away = 2 })
    ≡ red (codes "no midi") ++ white (codes " ")
    ++ (red (decimal 2 ++ codes " away") ++ white (codes " ")) ++ white (codes "ok")
two_are_away = refl

-- what is lost stands between the editor's words and the last key's
all_is_lost : status_cells (record (editor true true) { flow = Some new_flow }) 68
    (record (line 1) {
      no_midi = true;
      no_udp = true;
      no_osc = true;
      no_journal = true;
      came = Kept;
    })
    ≡ white (decimal 1 ++ codes " " ++ decimal 5 ++ codes " " ++ decimal 0 ++ codes " "
    ++ decimal 3 ++ codes "," ++ decimal 3 ++ codes " " ++ decimal 1 ++ codes "x" ++ decimal 1
    ++ codes " " ++ codes "play" ++ (codes " " ++ tempo_word (line 1)) ++ codes " append"
    ++ codes " paste" ++ codes " ")
    ++ (red (codes "no midi") ++ white (codes " ") ++ red (codes "no udp") ++ white (codes " ")
    ++ red (codes "no osc") ++ white (codes " ") ++ red (codes "no journal") ++ white (codes " "))
    ++ white (codes "saved") ++ white (codes " D delay")
unfolding status_cells status_front
all_is_lost = refl

-- ---- the operator in words

upper_case : glyph_words 68 ≡ codes " D delay"
upper_case = refl

lower_case : glyph_words 122 ≡ codes " z lerp"
lower_case = refl

signs : glyph_words 42 ++ glyph_words 33 ++ glyph_words 61
    ≡ codes " * bang ! control change = osc"
signs = refl

-- a digit, an empty place and a sign that is no operator
no_operators : glyph_words 51 ++ glyph_words 46 ++ glyph_words 64 ≡ []
no_operators = refl

without_words : status_cells (editor false false) 68 (line 1)
    ≡ status_cells (editor false false) 46 (line 1)
unfolding status_cells
without_words = refl

-- ---- the ruler

abbrev output : MarkSet
output = record no_marks { output = true }

abbrev input : MarkSet
input = record no_marks { input = true }

abbrev locked : MarkSet
locked = record no_marks { lock = true }

-- nine rows of 17 places: in the first one an input in column 0, a glyph in column 8, and an output
-- in column 16; and in the last one a locked glyph in column 8, and a locked place in column 16
abbrev scene : Bool → Scene
scene guide = record {
  sheet = record {
    dims = record { h = 9; w = 17 };
    cells = replicate 8 empty ++ 65 ∷ replicate 135 empty ++ 66 ∷ replicate 8 empty;
  };
  marks = input ∷ replicate 15 no_marks ++ output ∷ replicate 127 no_marks ++ locked
      ∷ replicate 7 no_marks ++ locked ∷ [];
  editor = editor false guide;
  others = [];
}

abbrev shown : Bool → ℕ → ℕ → ℕ
shown guide y x = byte_at (scene guide) (record { y = y; x = x })

on_the_ruler : shown true 8 0 ∷ shown true 8 16 ∷ [] ≡ codes "++"
on_the_ruler = refl

beside_the_ruler : shown true 8 1 ∷ shown true 1 8 ∷ shown true 4 4 ∷ [] ≡ codes "..."
beside_the_ruler = refl

-- an input, an output and glyphs stay what they are, also a faint glyph
under_others : shown true 0 0 ∷ shown true 0 16 ∷ shown true 0 8 ∷ shown true 8 8 ∷ []
    ≡ codes "..AB"
under_others = refl

without_guide : shown false 8 16 ∷ shown false 8 0 ∷ [] ≡ codes ".."
without_guide = refl

-- ---- the glyph at the cursor

abbrev under : ℕ → ℕ → ℕ
under y x =
    let e : Editor = record (editor false true) { y = y; x = x } in
    glyph_under (record (scene true) { editor = e })

in_the_grid : under 0 8 ∷ under 8 8 ∷ under 1 8 ∷ [] ≡ codes "AB."
in_the_grid = refl

outside : under 9 8 ∷ under 0 17 ∷ [] ≡ codes ".."
outside = refl

-- ---- styles

-- the style of a place that isn't selected, with the guide and without it
abbrev styles : MarkSet → ℕ → ℕ × ℕ
styles marks glyph = (style_by true false false marks glyph, style_by false false false marks glyph)

works_each_frame : styles no_marks 68 ≡ (94, 0)
works_each_frame = refl

waits_for_a_bang : styles no_marks 100 ≡ (35, 0)
unfolding is_operator
waits_for_a_bang = refl

sends : styles no_marks 58 ≡ (35, 0)
unfolding is_operator
sends = refl

rings : styles no_marks 42 ≡ (91, 0)
rings = refl

comments : styles no_marks 35 ≡ (2, 0)
comments = refl

counts : styles no_marks 55 ≡ (0, 0)
unfolding is_operator
counts = refl

other_sign : styles no_marks 36 ≡ (0, 0)
unfolding is_operator
other_sign = refl

holds_nothing : styles no_marks 46 ≡ (2, 2)
holds_nothing = refl

output_bang : styles output 42 ≡ (91, 1)
output_bang = refl

output_letter : styles output 68 ≡ (1, 1)
output_letter = refl

input_letter : styles input 100 ≡ (4, 4)
input_letter = refl

locked_bang : styles locked 42 ≡ (2, 2)
locked_bang = refl

sleeper : styles (record no_marks { sleep = true }) 69 ≡ (2, 2)
sleeper = refl

-- the selection is the same for all of them
selected : (guided met : Bool) (marks : MarkSet) (glyph : ℕ)
    → style_by guided true met marks glyph ≡ 7
selected guided met marks glyph = refl

-- ---- the cursors of other hands

met : (guided : Bool) (marks : MarkSet) (glyph : ℕ) → style_by guided false true marks glyph ≡ 45
met guided marks glyph = refl

-- what a place shows, and its style, where other hands have their cursors at these places
abbrev beside : List Place → ℕ → ℕ → ℕ × ℕ
beside others y x =
    let s : Scene = record (scene true) { others = others } in
    let at : Place = record { y = y; x = x } in
    (byte_at s at, style_at s at)

abbrev place : ℕ → ℕ → Place
place y x = record { y = y; x = x }

on_a_ruler : beside (place 8 16 ∷ []) 8 16 ≡ (46, 45)
on_a_ruler = refl

on_an_output : beside (place 8 0 ∷ place 0 16 ∷ []) 0 16 ≡ (46, 45)
on_an_output = refl

-- the selection of the hand itself
at_the_cursor : beside (place 3 3 ∷ []) 3 3 ≡ (46, 7)
at_the_cursor = refl

in_the_row : beside (place 8 8 ∷ []) 8 16 ≡ (43, 2)
in_the_row = refl

in_the_column : beside (place 0 16 ∷ []) 8 16 ≡ (43, 2)
in_the_column = refl

-- a cursor above the window is not shown in its first row
above_the_window :
    slice_index_or
    (grid_row (record { rows = 3; columns = 17 }) (record (scene true) { others = place 0 3 ∷ [] }) 0)
    3 blank_cell ≡ record { byte = 46; style = 2 }
unfolding grid_cell
above_the_window = refl

-- ---- pages of help, and what was sent

-- the bytes that a screen of 3 rows and 8 columns shows above its status line, where this was sent
abbrev upper : Editor → FrameSent → List ℕ
upper e sent =
    map (λ (cell : Cell). cell.byte)
    (upper_rows (record { rows = 3; columns = 8 }) (record (scene true) { editor = e }) sent)

abbrev note : FrameSent
note = record { tick = 1; messages = On 0 60 127 ∷ [] }

-- the second row of each page is empty
keys : upper (record (editor false true) { page = 1 }) note ≡ codes "KEYS            "
unfolding upper_rows
keys = refl

operators : upper (record (editor false true) { page = 2; traffic = true }) note
    ≡ codes "OPERATOR        "
unfolding upper_rows
operators = refl

-- what was sent, in words
told_in_words : sent_text note ≡ decimal 1 ++ codes ":" ++ codes " :05C"
unfolding message_words from_value
told_in_words = refl

-- a screen of two rows keeps the one of its grid
few_rows : tells_sent (record { rows = 2; columns = 8 }) (record (editor false true) { traffic = true })
    ≡ false
few_rows = refl

before_any_frame : drop 8 (upper (record (editor false true) { traffic = true }) nothing_sent)
    ≡ codes "        "
unfolding upper_rows
before_any_frame = refl

words : words_of (On 0 60 127 ∷ On 15 13 127 ∷ Udp (codes "hi") ∷ Osc 97 (1 ∷ 2 ∷ []) ∷ [])
    ≡ codes " :05C :f1c ;hi =a12"
unfolding message_words from_value
words = refl

control_change : message_words (Control 0 7 100)
    ≡ codes "!0 " ++ decimal 7 ++ codes "=" ++ decimal 100
unfolding message_words from_value
control_change = refl

pitch_bend : message_words (Bend 0 0 64) ≡ codes "?0=" ++ decimal 8192
unfolding message_words from_value
pitch_bend = refl

-- the ends of notes are left out, and a frame of these alone changes nothing
without_ends : sent_after 3 (Off 0 60 ∷ On 0 62 127 ∷ Off 0 64 ∷ []) note
    ≡ record { tick = 3; messages = On 0 62 127 ∷ [] }
without_ends = refl

ends_alone : sent_after 3 (Off 0 60 ∷ []) note ≡ note
ends_alone = refl
