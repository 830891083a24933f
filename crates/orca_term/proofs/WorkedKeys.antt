-- Keys by their bytes, computed by the definitions: first what plain keys give, then full ones.
use Rattle.std.specs.Prelude.{⊤, ◌≡◌, ℕ, false, true, List, [], ◌∷◌, ◌++◌, map, codes, refl}
use Rattle.orca_base.specs.Ascii.{escape}
use Rattle.orca_term.specs.Codes.{introducer}
use Rattle.orca_term.specs.Keys.{Item, Byte, Due, key_of, key_of_numbers, key_of_sequence, keys_from, mouse_sequence, numbers_from, plain_key, plain_sequence, turn}
use Rattle.orca_term.specs.declared.keys.Deed.TheVariants.{Move, Stretch, Slide, Grow}
use Rattle.orca_term.specs.declared.keys.Key.{Key}
use Rattle.orca_term.specs.declared.keys.Key.TheVariants as key
use Rattle.orca_term.specs.declared.keys.Pending.TheVariants.{Nothing}
use Rattle.orca_term.specs.declared.keys.Side.TheVariants.{Up, Down, Left, Right}

unfoldable sequences : ⊤
unfolding key_of_sequence plain_sequence key_of_numbers numbers_from mouse_sequence
sequences = tt

unfoldable pub worked : ⊤
unfolding keys_from turn key_of plain_key sequences
worked = tt

-- the keys of items, from nothing on
abbrev keys_of : List Item → List Key × List Key
keys_of items = (keys_from false Nothing items, keys_from true Nothing items)

-- bytes, and a sequence of ESC, a bracket and these bytes
abbrev pub bytes : List ℕ → List Item
bytes text = map Byte text

abbrev pub sequence : List ℕ → List Item
sequence text = bytes (introducer ++ text)

-- a key of both readers, and a key of the full one alone
abbrev Both : List Item → Key → Type 0
Both items k = keys_of items ≡ (k ∷ [], k ∷ [])

abbrev FullAlone : List Item → Key → Type 0
FullAlone items k = keys_of items ≡ ([], k ∷ [])

abbrev NoKey : List Item → Type 0
NoKey items = keys_of items ≡ ([], [])

-- ---- single bytes

fill : FullAlone (bytes (11 ∷ [])) key.Fill
unfolding worked
fill = refl

hush : FullAlone (bytes (5 ∷ [])) key.Hush
unfolding worked
hush = refl

take_back : FullAlone (bytes (21 ∷ [])) key.Retract
unfolding worked
take_back = refl

help_and_traffic : keys_of (bytes (16 ∷ 20 ∷ [])) ≡ ([], key.Help ∷ key.Traffic ∷ [])
unfolding worked
help_and_traffic = refl

-- the ends of lines
ends : keys_of (bytes (10 ∷ 13 ∷ [])) ≡ ([], key.Line ∷ key.Return ∷ [])
unfolding worked
ends = refl

-- ---- arrows

shift_down : Both (sequence (codes "1;2B")) (key.Arrow Stretch Down 1)
unfolding worked
shift_down = refl

alt_right : FullAlone (sequence (codes "1;3C")) (key.Arrow Slide Right 1)
unfolding worked
alt_right = refl

alt_shift_down : FullAlone (sequence (codes "1;4B")) (key.Arrow Grow Down 1)
unfolding worked
alt_shift_down = refl

control_shift_up : FullAlone (sequence (codes "1;6A")) (key.Arrow Stretch Up 8)
unfolding worked
control_shift_up = refl

all_three_right : FullAlone (sequence (codes "1;8C")) (key.Arrow Grow Right 8)
unfolding worked
all_three_right = refl

no_such_modifier : NoKey (sequence (codes "1;9C"))
unfolding worked
no_such_modifier = refl

home : FullAlone (sequence (codes "H")) (key.Arrow Move Left 1024)
unfolding worked
home = refl

end_by_number : FullAlone (sequence (codes "4~")) (key.Arrow Move Right 1024)
unfolding worked
end_by_number = refl

shift_page_down : FullAlone (sequence (codes "6;2~")) (key.Arrow Stretch Down 8)
unfolding worked
shift_page_down = refl

-- ---- numbers

one_slower : FullAlone (sequence (codes "18~")) (key.Slower 1)
unfolding worked
one_slower = refl

ten_faster : FullAlone (sequence (codes "20~")) (key.Faster 10)
unfolding worked
ten_faster = refl

help_by_number : FullAlone (sequence (codes "11~")) key.Help
unfolding worked
help_by_number = refl

traffic_by_number : FullAlone (sequence (codes "012~")) key.Traffic
unfolding worked
traffic_by_number = refl

no_help_with_shift : NoKey (sequence (codes "11;2~"))
unfolding worked
no_help_with_shift = refl

no_tempo_with_control : NoKey (sequence (codes "19;5~"))
unfolding worked
no_tempo_with_control = refl

size : FullAlone (sequence (codes "8;100;256t")) (key.Screen 100 256)
unfolding worked
size = refl

half_a_size : NoKey (sequence (codes "8;50t"))
unfolding worked
half_a_size = refl

-- eleven bytes between the bracket and the end
long_size : FullAlone (sequence (codes "008;100;256t")) (key.Screen 100 256)
unfolding worked
long_size = refl

leading_zeros : FullAlone (sequence (codes "001;002A")) (key.Arrow Stretch Up 1)
unfolding worked
leading_zeros = refl

four_digits : NoKey (sequence (codes "1;2000A"))
unfolding worked
four_digits = refl

one_number_and_a_letter : NoKey (sequence (codes "1A"))
unfolding worked
one_number_and_a_letter = refl

-- ---- the mouse

click : FullAlone (sequence (codes "<0;5;3M")) (key.Press 2 4)
unfolding worked
click = refl

click_with_zeros : FullAlone (sequence (codes "<000;005;003M")) (key.Press 2 4)
unfolding worked
click_with_zeros = refl

motion : FullAlone (sequence (codes "<32;999;999M")) (key.Drag 998 998)
unfolding worked
motion = refl

wheel_up : FullAlone (sequence (codes "<64;9;9M")) (key.Arrow Move Up 8)
unfolding worked
wheel_up = refl

wheel_down : FullAlone (sequence (codes "<65;9;9M")) (key.Arrow Move Down 8)
unfolding worked
wheel_down = refl

release : NoKey (sequence (codes "<0;5;3m"))
unfolding worked
release = refl

-- the third button, the first one with Shift, and a motion without a button
other_buttons : NoKey (sequence (codes "<2;5;3M") ++ sequence (codes "<4;5;3M")
    ++ sequence (codes "<35;5;3M"))
unfolding worked
other_buttons = refl

-- rows and columns are counted from 1
no_such_column : NoKey (sequence (codes "<0;0;3M"))
unfolding worked
no_such_column = refl

no_such_row : NoKey (sequence (codes "<64;5;0M"))
unfolding worked
no_such_row = refl

other_forms : NoKey (sequence (codes "<M") ++ sequence (codes "<0;1M")
    ++ sequence (codes "<0;1;1;1M") ++ sequence (codes "0;1;1M") ++ sequence (codes "<0;1000;1M"))
unfolding worked
other_forms = refl

-- ---- texts that are pasted

-- what stands around one
paste : keys_of (sequence (codes "200~") ++ sequence (codes "201~"))
    ≡ ([], key.PasteBegin ∷ key.PasteEnd ∷ [])
unfolding worked
paste = refl

no_paste_with_shift : NoKey (sequence (codes "200;2~"))
unfolding worked
no_paste_with_shift = refl

-- ---- after an ESC

-- the keys of these bytes after an ESC, and of a due moment then
abbrev after_escape : List ℕ → List Key × List Key
after_escape text = keys_of (bytes (escape ∷ text) ++ Due ∷ [])

abbrev glyphs : List ℕ → List Key
glyphs text = map (λ glyph. key.Glyph glyph) text

letter : after_escape (codes "a") ≡ (glyphs (codes "a"), key.Escape ∷ glyphs (codes "a"))
unfolding worked
letter = refl

further_byte : after_escape (9 ∷ []) ≡ ([], key.Escape ∷ key.Append ∷ [])
unfolding worked
further_byte = refl

rub : after_escape (127 ∷ []) ≡ (key.Rub ∷ [], key.Escape ∷ key.Rub ∷ [])
unfolding worked
rub = refl

first_function_key : after_escape (codes "OP") ≡ (glyphs (codes "OP"), key.Help ∷ [])
unfolding worked
first_function_key = refl

second_function_key : after_escape (codes "OQ") ≡ (glyphs (codes "OQ"), key.Traffic ∷ [])
unfolding worked
second_function_key = refl

last_function_key : after_escape (codes "OS7") ≡ (glyphs (codes "OS7"), glyphs (codes "7"))
unfolding worked
last_function_key = refl

shifted_up : after_escape (codes "OA") ≡ (glyphs (codes "OA"), key.Arrow Move Up 1 ∷ [])
unfolding worked
shifted_up = refl

shifted_home : after_escape (codes "OH") ≡ (glyphs (codes "OH"), key.Arrow Move Left 1024 ∷ [])
unfolding worked
shifted_home = refl

nothing_after_o : after_escape (codes "O") ≡ (glyphs (codes "O"), key.Escape ∷ glyphs (codes "O"))
unfolding worked
nothing_after_o = refl

other_after_o : after_escape (codes "Ox")
    ≡ (glyphs (codes "Ox"), key.Escape ∷ glyphs (codes "Ox"))
unfolding worked
other_after_o = refl

arrow_after_o : after_escape (codes "O" ++ introducer ++ codes "A")
    ≡ (
      glyphs (codes "O") ++ key.Arrow Move Up 1 ∷ [],
      key.Escape ∷ glyphs (codes "O") ++ key.Arrow Move Up 1 ∷ [],
    )
unfolding worked
arrow_after_o = refl

function_key_after_escape : after_escape (escape ∷ codes "OP")
    ≡ (key.Escape ∷ glyphs (codes "OP"), key.Escape ∷ key.Help ∷ [])
unfolding worked
function_key_after_escape = refl

quit : after_escape (17 ∷ []) ≡ (key.Quit ∷ [], key.Escape ∷ key.Quit ∷ [])
unfolding worked
quit = refl

-- ---- the Linux console

-- the letters after two brackets are keys of plain readers, and of full ones those of F1 to F5
abbrev console : List ℕ → List Key × List Key
console text = keys_of (sequence (codes "[" ++ text))

first_of_the_console : console (codes "A") ≡ (glyphs (codes "A"), key.Help ∷ [])
unfolding worked
first_of_the_console = refl

second_of_the_console : console (codes "B") ≡ (glyphs (codes "B"), key.Traffic ∷ [])
unfolding worked
second_of_the_console = refl

others_of_the_console : console (codes "C") ≡ (glyphs (codes "C"), [])
unfolding worked
others_of_the_console = refl

read_anew : console (codes "x") ≡ (glyphs (codes "x"), glyphs (codes "x"))
unfolding worked
read_anew = refl

-- nothing came for a while
ended_by_a_while : keys_of (sequence (codes "[") ++ Due ∷ bytes (codes "A"))
    ≡ (glyphs (codes "A"), glyphs (codes "A"))
unfolding worked
ended_by_a_while = refl

third_bracket : console (codes "[A") ≡ (glyphs (codes "[A"), glyphs (codes "[A"))
unfolding worked
third_bracket = refl

-- ---- what stays

-- thirteen bytes are too many, and end in an arrow that is none
overlong : Both (sequence (codes "1;1;1;1;1;1;1A7")) (key.Glyph 55)
unfolding worked
overlong = refl

-- a due moment leaves a sequence that has begun, and a second ESC drops it
dropped : Both (sequence (codes "8") ++ Due ∷ bytes (codes ";24") ++ sequence (codes "A"))
    (key.Arrow Move Up 1)
unfolding worked
dropped = refl
