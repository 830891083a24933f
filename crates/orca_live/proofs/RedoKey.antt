-- The key of Redo is given by its byte alone, outside of sequences and inside.
use Rattle.std.proofs.Common.{◌≡◌, ◌≢◌, ℕ, ◌+◌, Bool, true, false, not, ◌&&◌, ◌||◌, List, [], ◌∷◌, refl, arith}
use Rattle.std.specs.Prelude.{◌==◌, if◌then◌else◌, Option, Some, None, IfSome, option_and_then}
use Rattle.std.specs.Option.{option_map_or, option_to_list}
use Rattle.std.proofs.lemmas.Bool.{and_parts}
use Rattle.std.proofs.lemmas.Bool.Decides.{nat_tests}
use Rattle.orca_base.specs.Ascii.{escape}
use Rattle.orca_base.specs.declared.limits.TheConstants.{MAX_COLUMNS}
use Rattle.orca_term.specs.Codes.{letter_o}
use Rattle.orca_term.specs.Keys.{Item, Byte, Due, after, arrow_in, arrow_key, arrow_keys, awaits, button_key, console_key, console_keys, edges, ended_key, ends_as, escape_and_o, function_keys, is_collected, is_last, opens_console, pending_with, single_key, turn_after_escape, turn_after_o, turn_alone, turn_at_end, turn_in_console, turn_inside, turn_outside, found_in, further_keys, further_sequence, key_at_end, key_of, key_of_numbers, key_of_sequence, lone_keys, mouse_key, mouse_sequence, numbered_edges, numbered_keys, numbers_in, paged_key, pages, plain_key, plain_sequence, shifted_keys, arrow_sides, turn, wheel}
use Rattle.orca_term.specs.declared.keys.Key.{Key}
use Rattle.orca_term.specs.declared.keys.Key.TheVariants as key
use Rattle.orca_term.specs.declared.keys.Pending.{Pending}
use Rattle.orca_term.specs.declared.keys.Pending.TheVariants.{Nothing, Lone, Single, Sequence, Overlong, Console}
use Rattle.orca_term.specs.declared.keys.Side.{Side}
use Rattle.orca_term.specs.declared.limits.TheConstants.{RULER_PLACES}
use Rattle.orca_live.specs.Solo.{redo_byte}

-- whether a key is that of Redo
abbrev pub is_redo : Key → Bool
is_redo key.Redo = true
is_redo _ = false

-- another key, or none
abbrev pub IsOther : Option Key → Type 0
IsOther None = Unit {0}
IsOther (Some k) = is_redo k ≡ false

-- an item is not the byte of that key
abbrev pub IsSpared : Item → Type 0
IsSpared (Byte byte) = byte ≢ redo_byte
IsSpared Due = Unit {0}

other_then : {A : Type 0} (f : A → Option Key) (o : Option A) → ((a : A) → IsOther (f a))
    → IsOther (option_and_then f o)
other_then f None others = tt
other_then f (Some a) others = others a

-- ---- tables

-- in a table the key stands beside this number, if anywhere
abbrev stands_at : ℕ → List (ℕ × Key) → Bool
stands_at k [] = true
stands_at k (row ∷ rows) = (not (is_redo row.1) || row.0 == k) && stands_at k rows

found_other : (rows : List (ℕ × Key)) (n k : ℕ) → stands_at k rows ≡ true → n ≢ k
    → IsOther (found_in rows n)
found_other [] n k stands apart = tt
found_other (row ∷ rows) n k stands apart =
    let parts = and_parts (not (is_redo row.1) || row.0 == k) (stands_at k rows) stands in
    let rest = found_other rows n k parts.1 apart in
    grind (arith, nat_tests, parts.0, rest)

-- a table without it
never_found : (rows : List (ℕ × Key)) (n : ℕ) → ((k : ℕ) → stands_at k rows ≡ true)
    → IsOther (found_in rows n)
never_found rows n never = found_other rows n (n + 1) (never (n + 1)) (λ is. omega (arith, is))

-- ---- single bytes

plain_other : (byte : ℕ) → byte ≢ redo_byte → IsOther (plain_key byte)
unfolding plain_key
plain_other byte apart = grind (arith, found_other lone_keys byte redo_byte refl apart)

byte_other : (full : Bool) (byte : ℕ) → byte ≢ redo_byte → IsOther (key_of full byte)
unfolding key_of
byte_other full byte apart =
    grind (arith, plain_other byte apart, never_found further_keys byte (λ k. refl))

-- ---- sequences

short_other : (bytes : List ℕ) (last : ℕ) → IsOther (plain_sequence bytes last)
unfolding plain_sequence
short_other bytes last =
    let arrow = never_found arrow_keys last (λ k. refl) in
    let shifted = never_found shifted_keys last (λ k. refl) in
    grind (arith, arrow, shifted)

arrow_other : (m by : ℕ) (side : Side) → IsOther (arrow_key m by side)
arrow_other m by side = grind arith

in_other : (table : List (ℕ × Side)) (n m by : ℕ) → IsOther (arrow_in table n m by)
in_other table n m by = other_then (arrow_key m by) (found_in table n) (arrow_other m by)

ended_other : (last m : ℕ) → IsOther (ended_key last m)
ended_other last m = grind (arith, in_other arrow_sides last m 1, in_other edges last m MAX_COLUMNS)

paged_other : (n m : ℕ) → IsOther (paged_key n m)
paged_other n m =
    grind (arith, in_other pages n m RULER_PLACES, in_other numbered_edges n m MAX_COLUMNS)

numbers_other : (numbers : List ℕ) (last : ℕ) → IsOther (key_of_numbers numbers last)
unfolding key_of_numbers
numbers_other numbers last =
    grind (arith, ended_other, paged_other, λ (n : ℕ). never_found numbered_keys n (λ k. refl))

button_other : (b row column : ℕ) → IsOther (button_key b row column)
button_other b row column = grind (arith, in_other wheel b 1 RULER_PLACES)

report_other : (numbers : List ℕ) → IsOther (mouse_key numbers)
report_other numbers = grind (arith, button_other)

mouse_other : (bytes : List ℕ) (last : ℕ) → IsOther (mouse_sequence bytes last)
unfolding mouse_sequence
mouse_other [] last = tt
mouse_other (first ∷ bytes) last =
    grind (arith, other_then mouse_key (numbers_in bytes) report_other)

further_other : (bytes : List ℕ) (last : ℕ) → IsOther (further_sequence bytes last)
further_other bytes last =
    grind (
      arith,
      other_then (λ numbers. key_of_numbers numbers last) (numbers_in bytes)
          (λ numbers. numbers_other numbers last),
      mouse_other bytes last,
    )

end_other : (full : Bool) (p : Pending) (last : ℕ) → IsOther (key_at_end full p last)
unfolding key_of_sequence
end_other full Nothing last = tt
end_other full Lone last = tt
end_other full Single last = tt
end_other full (Sequence bytes) last =
    grind (arith, short_other bytes last, further_other bytes last)
end_other full Overlong last = tt
end_other full Console last = tt

-- ---- the reader

-- a list of other keys
abbrev pub AreOther : List Key → Type 0
AreOther [] = Unit {0}
AreOther (k ∷ ks) = (is_redo k ≡ false) × AreOther ks

listed_other : (k : Option Key) → IsOther k → AreOther (option_to_list k)
listed_other None other = tt
listed_other (Some k) other = (other, tt)

-- one of two turns, by the keys that a turn gives
either_other : {A : Type 0} (u : A) (keys : A → List Key) (b : Bool) (t : A) → AreOther (keys t)
    → AreOther (keys u) → AreOther (keys (if b then t else u))
either_other u keys true t first second = first
either_other u keys false t first second = second

outside_other : (full : Bool) (byte : ℕ) → byte ≢ redo_byte → AreOther (turn_outside full byte).keys
outside_other full byte apart =
    either_other (ends_as (key_of full byte)) (λ t. t.keys) (byte == escape) (awaits Lone) tt
    (listed_other (key_of full byte) (byte_other full byte apart))

alone_other : (full : Bool) (byte : ℕ) → byte ≢ redo_byte → AreOther (turn_alone full byte).keys
alone_other false byte apart = outside_other false byte apart
alone_other true byte apart =
    either_other (after (key.Escape ∷ []) (turn_outside true byte)) (λ t. t.keys)
    (byte == letter_o) (awaits Single) tt (refl, outside_other true byte apart)

second_other : (full : Bool) (byte : ℕ) → byte ≢ redo_byte
    → AreOther (if byte == escape then key.Escape ∷ [] else (turn_alone full byte).keys)
second_other full byte apart =
    either_other (turn_alone full byte).keys (λ keys. keys) (byte == escape) (key.Escape ∷ [])
    (refl, tt) (alone_other full byte apart)

escape_other : (full : Bool) (byte : ℕ) → byte ≢ redo_byte
    → AreOther (turn_after_escape full byte).keys
escape_other full byte apart = grind (arith, second_other full byte apart)

-- a single shift, or none
shift_other : {A : Type 0} (none : A) (keys : A → List Key) (ends : Option Key → A)
    (single : Option (Option Key)) → IfSome single (λ k. AreOther (keys (ends k)))
    → AreOther (keys none) → AreOther (keys (option_map_or ends single none))
shift_other none keys ends None single other = other
shift_other none keys ends (Some k) single other = single

single_other : (byte : ℕ) → IfSome (single_key byte) IsOther
single_other byte =
    grind (arith, ended_other byte 1, never_found function_keys byte (λ k. refl))

singles_other : (single : Option (Option Key)) → IfSome single IsOther
    → IfSome single (λ k. AreOther (option_to_list k))
singles_other None other = tt
singles_other (Some k) other = listed_other k other

o_other : (full : Bool) (byte : ℕ) → byte ≢ redo_byte → AreOther (turn_after_o full byte).keys
o_other full byte apart =
    shift_other (after escape_and_o (turn_outside full byte)) (λ t. t.keys) ends_as
    (single_key byte) (singles_other (single_key byte) (single_other byte))
    (refl, (refl, outside_other full byte apart))

ended_turn_other : (full : Bool) (p : Pending) (byte : ℕ)
    → AreOther (turn_at_end full p byte).keys
ended_turn_other full p byte =
    either_other (ends_as (key_at_end full p byte)) (λ t. t.keys) (opens_console full p byte)
    (awaits Console) tt (listed_other (key_at_end full p byte) (end_other full p byte))

console_other : (byte : ℕ) → IfSome (console_key byte) IsOther
console_other byte = grind (arith, never_found console_keys byte (λ k. refl))

in_console_other : (full : Bool) (byte : ℕ) → byte ≢ redo_byte
    → AreOther (turn_in_console full byte).keys
in_console_other full byte apart =
    shift_other (turn_outside full byte) (λ t. t.keys) ends_as (console_key byte)
    (singles_other (console_key byte) (console_other byte)) (outside_other full byte apart)

last_other : (full : Bool) (p : Pending) (byte : ℕ) → byte ≢ redo_byte
    → AreOther (if is_last byte then turn_at_end full p byte else turn_outside full byte).keys
last_other full p byte apart =
    either_other (turn_outside full byte) (λ t. t.keys) (is_last byte)
    (turn_at_end full p byte) (ended_turn_other full p byte) (outside_other full byte apart)

inside_other : (full : Bool) (p : Pending) (byte : ℕ) → byte ≢ redo_byte
    → AreOther (turn_inside full p byte).keys
inside_other full p byte apart =
    either_other (if is_last byte then turn_at_end full p byte else turn_outside full byte)
    (λ t. t.keys) (is_collected byte) (awaits (pending_with p byte)) tt
    (last_other full p byte apart)

pub turn_other : (full : Bool) (p : Pending) (item : Item) → IsSpared item
    → AreOther (turn full p item).keys
unfolding turn
turn_other full Nothing (Byte byte) apart = outside_other full byte apart
turn_other full Lone (Byte byte) apart = escape_other full byte apart
turn_other full Single (Byte byte) apart = o_other full byte apart
turn_other full (Sequence bytes) (Byte byte) apart = inside_other full (Sequence bytes) byte apart
turn_other full Overlong (Byte byte) apart = inside_other full Overlong byte apart
turn_other full Console (Byte byte) apart = in_console_other full byte apart
turn_other full Lone Due spared = (refl, tt)
turn_other full Single Due spared = (refl, (refl, tt))
turn_other full p Due spared = tt
