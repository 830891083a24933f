-- Keys: what the bytes of a terminal mean. Control characters are those of ASCII, and sequences
-- those of ECMA-48. There are plain keys and full ones: each plain key is the same full key, but
-- for those after an ESC.
use Rattle.std.specs.Prelude.{ℕ, ◌≡◌, ◌-◌, ◌%◌, Bool, false, true, ◌&&◌, ◌==◌, max, nat_le, nat_lt, if◌then◌else◌, Option, Some, None, IfSome, option_map, option_and_then, List, [], ◌∷◌, ◌++◌, length}
use Rattle.std.specs.Option.{option_map_or, option_or, option_to_list}
use Rattle.orca_base.specs.Ascii.{escape}
use Rattle.orca_base.specs.Glyphs.{is_glyph}
use Rattle.orca_base.specs.declared.limits.TheConstants.{MAX_COLUMNS, SEQUENCE_BYTES}
use Rattle.orca_term.specs.Codes.{bracket, semicolon, tilde, letter_o, letter_t, less, capital_m}
use Rattle.orca_term.specs.Forms.{no_digits, more, continues}
use Rattle.orca_term.specs.declared.forms.Number.{Number}
use Rattle.orca_term.specs.declared.keys.Deed.{Deed}
use Rattle.orca_term.specs.declared.keys.Deed.TheVariants.{Move, Stretch, Slide, Grow}
use Rattle.orca_term.specs.declared.keys.Key.{Key}
use Rattle.orca_term.specs.declared.keys.Key.TheVariants as key
use Rattle.orca_term.specs.declared.keys.Pending.{Pending}
use Rattle.orca_term.specs.declared.keys.Pending.TheVariants.{Nothing, Lone, Single, Sequence, Overlong, Console}
use Rattle.orca_term.specs.declared.keys.Side.{Side}
use Rattle.orca_term.specs.declared.keys.Side.TheVariants.{Up, Down, Left, Right}
use Rattle.orca_term.specs.declared.keys.Turn.{Turn}
use Rattle.orca_term.specs.declared.limits.TheConstants.{RULER_PLACES, FAR_BEATS}

-- what the reader of keys is given: a byte, or that nothing came for a while
pub data Item : Type 0 where
  Byte : (byte : ℕ) → Item
  Due : Item

-- what stands beside a number in a table
abbrev pub found_in : {A : Type 0} → List (ℕ × A) → ℕ → Option A
found_in [] n = None
found_in (row ∷ rows) n = if n == row.0 then Some row.1 else found_in rows n

-- ---- single bytes

-- the bytes that are a key by themselves, beside the glyphs
abbrev pub lone_keys : List (ℕ × Key)
lone_keys =
    (32, key.Pause) ∷ (8, key.Rub) ∷ (127, key.Rub) ∷ (2, key.Back) ∷ (3, key.Copy)
    ∷ (6, key.Step) ∷ (17, key.Quit) ∷ (18, key.Reset) ∷ (19, key.Save) ∷ (22, key.Paste)
    ∷ (24, key.Cut) ∷ (25, key.Redo) ∷ (26, key.Undo) ∷ []

-- the plain key of a byte that belongs to no sequence
unfoldable pub plain_key : ℕ → Option Key
plain_key byte = if is_glyph byte then Some (key.Glyph byte) else found_in lone_keys byte

-- the keys of single bytes that full keys add
abbrev pub further_keys : List (ℕ × Key)
further_keys =
    (1, key.All) ∷ (5, key.Hush) ∷ (7, key.Guide) ∷ (9, key.Append) ∷ (10, key.Line)
    ∷ (11, key.Fill) ∷ (12, key.Redraw) ∷ (13, key.Return) ∷ (16, key.Help) ∷ (20, key.Traffic)
    ∷ (21, key.Retract) ∷ []

-- the key of a byte that belongs to no sequence
unfoldable pub key_of : Bool → ℕ → Option Key
key_of full byte = option_or (plain_key byte) (if full then found_in further_keys byte else None)

-- ---- plain sequences

-- the keys of the sequences ESC [ A to ESC [ D
abbrev pub arrow_keys : List (ℕ × Key)
arrow_keys =
    (65, key.Arrow Move Up 1) ∷ (66, key.Arrow Move Down 1) ∷ (67, key.Arrow Move Right 1)
    ∷ (68, key.Arrow Move Left 1) ∷ []

-- the keys of the sequences ESC [ 1 ; 2 A to ESC [ 1 ; 2 D
abbrev pub shifted_keys : List (ℕ × Key)
shifted_keys =
    (65, key.Arrow Stretch Up 1) ∷ (66, key.Arrow Stretch Down 1) ∷ (67, key.Arrow Stretch Right 1)
    ∷ (68, key.Arrow Stretch Left 1) ∷ []

-- the plain key of a sequence, by the bytes between ESC [ and its last byte, and by that
unfoldable pub plain_sequence : List ℕ → ℕ → Option Key
plain_sequence [] last = found_in arrow_keys last
plain_sequence (a ∷ b ∷ c ∷ []) last =
    if a == 49 && b == semicolon && c == 50 then found_in shifted_keys last else None
plain_sequence _ last = None

-- ---- arrows

-- the arrows by their last bytes
abbrev pub arrow_sides : List (ℕ × Side)
arrow_sides = (65, Up) ∷ (66, Down) ∷ (67, Right) ∷ (68, Left) ∷ []

-- Home and End, by their last bytes and by their numbers
abbrev pub edges : List (ℕ × Side)
edges = (72, Left) ∷ (70, Right) ∷ []

abbrev pub numbered_edges : List (ℕ × Side)
numbered_edges = (1, Left) ∷ (7, Left) ∷ (4, Right) ∷ (8, Right) ∷ []

-- PageUp and PageDown, by their numbers
abbrev pub pages : List (ℕ × Side)
pages = (5, Up) ∷ (6, Down) ∷ []

-- what an arrow does, by the sum of Shift (1) and Alt (2)
abbrev pub deed_of : ℕ → Deed
deed_of n =
    if n == 0 then Move else (if n == 1 then Stretch else (if n == 2 then Slide else Grow))

-- an arrow with modifiers: one more than the sum of Shift (1), Alt (2) and Control (4)
abbrev pub arrow_key : ℕ → ℕ → Side → Option Key
arrow_key m by side =
    if nat_le 1 m && nat_le m 8
    then Some (key.Arrow (deed_of ((m - 1) % 4)) side
    (if nat_le 5 m then max by RULER_PLACES else by))
    else None

-- the arrow whose side stands beside a number in a table
abbrev pub arrow_in : List (ℕ × Side) → ℕ → ℕ → ℕ → Option Key
arrow_in table n m by = option_and_then (arrow_key m by) (found_in table n)

-- ---- sequences

-- the numbers of a sequence, where one has begun before these bytes: 1 to 3 digits each, and a
-- semicolon between two
unfoldable pub numbers_from : Number → List ℕ → Option (List ℕ)
numbers_from n [] = if nat_le 1 n.digits then Some (n.value ∷ []) else None
numbers_from n (byte ∷ bytes) =
    if continues n byte then numbers_from (more n byte) bytes
    else (if byte == semicolon && nat_le 1 n.digits
    then option_map (λ others. n.value ∷ others) (numbers_from no_digits bytes)
    else None)

abbrev pub numbers_in : List ℕ → Option (List ℕ)
numbers_in [] = Some []
numbers_in bytes = numbers_from no_digits bytes

-- the keys that have a number before `~`
abbrev pub numbered_keys : List (ℕ × Key)
numbered_keys =
    (2, key.Append) ∷ (3, key.Erase) ∷ (11, key.Help) ∷ (12, key.Traffic)
    ∷ (17, key.Slower FAR_BEATS) ∷ (18, key.Slower 1) ∷ (19, key.Faster 1)
    ∷ (20, key.Faster FAR_BEATS) ∷ (200, key.PasteBegin) ∷ (201, key.PasteEnd) ∷ []

-- the arrow of a last byte, and of a number before `~`
abbrev pub ended_key : ℕ → ℕ → Option Key
ended_key last m = option_or (arrow_in arrow_sides last m 1) (arrow_in edges last m MAX_COLUMNS)

abbrev pub paged_key : ℕ → ℕ → Option Key
paged_key n m =
    option_or (arrow_in pages n m RULER_PLACES) (arrow_in numbered_edges n m MAX_COLUMNS)

-- the key of a sequence by its numbers and its last byte
unfoldable pub key_of_numbers : List ℕ → ℕ → Option Key
key_of_numbers [] last = ended_key last 1
key_of_numbers (n ∷ []) last =
    if last == tilde then option_or (found_in numbered_keys n) (paged_key n 1) else None
key_of_numbers (n ∷ m ∷ []) last =
    if last == tilde then paged_key n m else (if n == 1 then ended_key last m else None)
key_of_numbers (n ∷ rows ∷ columns ∷ []) last =
    if n == 8 && last == letter_t then Some (key.Screen rows columns) else None
key_of_numbers _ last = None

-- the sides to which the wheel of a mouse turns
abbrev pub wheel : List (ℕ × Side)
wheel = (64, Up) ∷ (65, Down) ∷ []

-- the key of a button, of a motion with the first one held, and of the wheel
abbrev pub button_key : ℕ → ℕ → ℕ → Option Key
button_key b row column =
    if b == 0 then Some (key.Press row column)
    else (if b == 32 then Some (key.Drag row column) else arrow_in wheel b 1 RULER_PLACES)

-- the key of a report of the mouse: the button, and the column and the row counted from 1
abbrev pub mouse_key : List ℕ → Option Key
mouse_key (b ∷ x ∷ y ∷ []) =
    if nat_le 1 x && nat_le 1 y then button_key b (y - 1) (x - 1) else None
mouse_key _ = None

-- its numbers stand after `<`, and `M` ends it
unfoldable pub mouse_sequence : List ℕ → ℕ → Option Key
mouse_sequence (first ∷ bytes) last =
    if first == less && last == capital_m then option_and_then mouse_key (numbers_in bytes)
    else None
mouse_sequence [] last = None

-- the key of a sequence that full keys add
abbrev pub further_sequence : List ℕ → ℕ → Option Key
further_sequence bytes last =
    option_or (option_and_then (λ numbers. key_of_numbers numbers last) (numbers_in bytes))
    (mouse_sequence bytes last)

-- the key of a sequence
unfoldable pub key_of_sequence : Bool → List ℕ → ℕ → Option Key
key_of_sequence full bytes last =
    option_or (plain_sequence bytes last)
    (if full then further_sequence bytes last else None)

-- ---- single shifts, and F1 to F5 of the Linux console

-- the last bytes of F1 to F4: `P` to `S`
abbrev pub is_function : ℕ → Bool
is_function byte = nat_le 80 byte && nat_le byte 83

-- the keys of the first two; the others are none
abbrev pub function_keys : List (ℕ × Key)
function_keys = (80, key.Help) ∷ (81, key.Traffic) ∷ []

-- what ESC, `O` and this letter are: F1 to F4, or the arrow, Home or End of ESC [ and the letter
abbrev pub single_key : ℕ → Option (Option Key)
single_key byte =
    if is_function byte then Some (found_in function_keys byte)
    else option_map (λ k. Some k) (ended_key byte 1)

-- what ESC, two brackets and this letter are: F1 to F5, of which the first two are keys
abbrev pub console_keys : List (ℕ × Key)
console_keys = (65, key.Help) ∷ (66, key.Traffic) ∷ []

abbrev pub console_key : ℕ → Option (Option Key)
console_key byte =
    if nat_le 65 byte && nat_le byte 69 then Some (found_in console_keys byte) else None

-- what ESC and `O` are where no such letter follows
abbrev pub escape_and_o : List Key
escape_and_o = key.Escape ∷ key.Glyph letter_o ∷ []

-- ---- the reader

-- the key of what is pending where it ends in such a byte: a sequence with too many bytes has none
abbrev pub key_at_end : Bool → Pending → ℕ → Option Key
key_at_end full (Sequence bytes) last = key_of_sequence full bytes last
key_at_end full _ last = None

-- a sequence collects no more bytes than these
abbrev pub pending_with : Pending → ℕ → Pending
pending_with (Sequence bytes) byte =
    if nat_lt (length bytes) SEQUENCE_BYTES then Sequence (bytes ++ byte ∷ []) else Overlong
pending_with p byte = p

-- the bytes that a sequence collects
abbrev pub is_collected : ℕ → Bool
is_collected byte = nat_le 32 byte && nat_le byte 63

-- the bytes that end a sequence
abbrev pub is_last : ℕ → Bool
is_last byte = nat_le 64 byte && nat_le byte 126

-- no key, and this is pending
abbrev pub awaits : Pending → Turn
awaits p = record { keys = []; pending = p }

-- this key, if any, and nothing is pending
abbrev pub ends_as : Option Key → Turn
ends_as k = record { keys = option_to_list k; pending = Nothing }

-- these keys, and then a turn
abbrev pub after : List Key → Turn → Turn
after keys turn = record turn { keys = keys ++ turn.keys }

-- a byte where nothing is pending
abbrev pub turn_outside : Bool → ℕ → Turn
turn_outside full byte = if byte == escape then awaits Lone else ends_as (key_of full byte)

-- a byte after a lone ESC that begins no sequence of it, and is no ESC. With full keys the ESC was
-- the escape key, unless an `O` may make a single shift of it; with plain ones the byte is read as
-- if the ESC hadn't come
abbrev pub turn_alone : Bool → ℕ → Turn
turn_alone false byte = turn_outside false byte
turn_alone true byte =
    if byte == letter_o then awaits Single else after (key.Escape ∷ []) (turn_outside true byte)

-- a byte after a lone ESC: a bracket begins a sequence, and a second ESC makes the first one a key
abbrev pub turn_after_escape : Bool → ℕ → Turn
turn_after_escape full byte =
    if byte == bracket then awaits (Sequence [])
    else (if byte == escape then record { keys = key.Escape ∷ []; pending = Lone }
    else turn_alone full byte)

-- a byte after ESC and `O`: it ends a single shift, or is read anew after both
abbrev pub turn_after_o : Bool → ℕ → Turn
turn_after_o full byte =
    option_map_or ends_as (single_key byte) (after escape_and_o (turn_outside full byte))

-- a second bracket right after the first one, with full keys
abbrev pub opens_console : Bool → Pending → ℕ → Bool
opens_console true (Sequence []) byte = byte == bracket
opens_console _ _ byte = false

-- the end of a sequence; after a second bracket a letter of the console is waited for
abbrev pub turn_at_end : Bool → Pending → ℕ → Turn
turn_at_end full p byte =
    if opens_console full p byte then awaits Console else ends_as (key_at_end full p byte)

-- a byte of a sequence: it is collected, or ends the sequence, or drops it and is read anew
abbrev pub turn_inside : Bool → Pending → ℕ → Turn
turn_inside full p byte =
    if is_collected byte then awaits (pending_with p byte)
    else (if is_last byte then turn_at_end full p byte else turn_outside full byte)

-- a byte after two brackets: a letter of the console, or it is read anew
abbrev pub turn_in_console : Bool → ℕ → Turn
turn_in_console full byte = option_map_or ends_as (console_key byte) (turn_outside full byte)

-- what an item gives, with full keys or with plain ones, and what is pending after it. With plain
-- keys there are no single shifts, and no keys of the console
unfoldable pub turn : Bool → Pending → Item → Turn
turn full Nothing (Byte byte) = turn_outside full byte
turn full Lone (Byte byte) = turn_after_escape full byte
turn full Single (Byte byte) = turn_after_o full byte
turn full (Sequence bytes) (Byte byte) = turn_inside full (Sequence bytes) byte
turn full Overlong (Byte byte) = turn_inside full Overlong byte
turn full Console (Byte byte) = turn_in_console full byte
turn full Lone Due = ends_as (Some key.Escape)
turn full Single Due = record { keys = escape_and_o; pending = Nothing }
turn full Console Due = ends_as None
turn full p Due = awaits p

-- the keys of these items, where something is pending before them
unfoldable pub keys_from : Bool → Pending → List Item → List Key
keys_from full p [] = []
keys_from full p (item ∷ items) =
    (turn full p item).keys ++ keys_from full (turn full p item).pending items

-- ---- full keys beside plain ones

-- items, the plain keys of them, and the full ones. Each plain key is the same full key, in the
-- same order, but for those after an ESC: there full keys may have an Escape more, and lack an `O`
-- and the letter after it, or the letter after two brackets
pub data Extends : List Item → List Key → List Key → Type 0 where
  over : Extends [] [] []
  -- where an item gives a plain key, that is the full one
  same : (item : Item) (items : List Item) (k l : Option Key) (plain full : List Key)
      → IfSome k (λ k. l ≡ Some k) → Extends items plain full
      → Extends (item ∷ items) (option_to_list k ++ plain) (option_to_list l ++ full)
  -- an ESC gives an Escape more
  adds : (items : List Item) (plain full : List Key) → Extends items plain full
      → Extends (Byte escape ∷ items) plain (key.Escape ∷ full)
  -- ESC, `O` and a letter give the key of a single shift in place of the `O` and the letter
  lacks : (letter : ℕ) (items : List Item) (k : Option Key) (plain full : List Key)
      → single_key letter ≡ Some k → Extends items plain full
      → Extends (Byte escape ∷ Byte letter_o ∷ Byte letter ∷ items)
      (key.Glyph letter_o ∷ key.Glyph letter ∷ plain) (option_to_list k ++ full)
  -- after a bracket that ends a sequence a letter gives a key of the console in its place
  turns : (letter : ℕ) (items : List Item) (k : Option Key) (plain full : List Key)
      → console_key letter ≡ Some k → Extends items plain full
      → Extends (Byte bracket ∷ Byte letter ∷ items) (key.Glyph letter ∷ plain)
      (option_to_list k ++ full)
  -- an `O` waits for the letter after it
  holds : Extends (Byte escape ∷ Byte letter_o ∷ []) (key.Glyph letter_o ∷ []) []
