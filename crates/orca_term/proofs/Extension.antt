-- Full keys extend the plain ones.
use Rattle.std.proofs.Common.{◌≡◌, ◌==◌, ◌≤◌, inl, inr, ℕ, Bool, true, false, cond, Option, Some, None, List, [], ◌∷◌, ◌++◌, length, refl, arith}
use Rattle.std.specs.Prelude.{nat_lt}
use Rattle.std.specs.Option.{IfSome, option_map_or, option_or}
use Rattle.std.proofs.lemmas.Bool.{cases_eq, eqb-true, ne_eqb}
use Rattle.std.proofs.lemmas.Bool.Decides.{nat_tests}
use Rattle.orca_base.specs.Ascii.{escape}
use Rattle.orca_base.specs.declared.limits.TheConstants.{SEQUENCE_BYTES}
use Rattle.orca_term.specs.Codes.{bracket, letter_o}
use Rattle.orca_term.specs.Keys.{Item, Byte, Due, Extends, after, console_key, ends_as, escape_and_o, is_collected, is_last, key_at_end, key_of, key_of_sequence, keys_from, pending_with, plain_key, plain_sequence, single_key, turn, turn_after_escape, turn_after_o, turn_alone, turn_at_end, turn_in_console, turn_inside, turn_outside}
use Rattle.orca_term.specs.Keys.Extends.{adds, holds, lacks, over, same, turns}
use Rattle.orca_term.specs.declared.keys.Key.{Key}
use Rattle.orca_term.specs.declared.keys.Key.TheVariants as key
use Rattle.orca_term.specs.declared.keys.Pending.{Pending}
use Rattle.orca_term.specs.declared.keys.Pending.TheVariants.{Nothing, Lone, Single, Sequence, Overlong, Console}
use Rattle.orca_term.specs.declared.keys.Turn.{Turn}

-- the keys of items with this pending
abbrev Read : Pending → List Item → Type 0
Read p items = Extends items (keys_from false p items) (keys_from true p items)

-- the same after an ESC, and after ESC and an `O`, which plain keys have given then
abbrev ReadAfterEscape : List Item → Type 0
ReadAfterEscape items =
    Extends (Byte escape ∷ items) (keys_from false Lone items) (keys_from true Lone items)

abbrev ReadAfterO : List Item → Type 0
ReadAfterO items =
    Extends (Byte escape ∷ Byte letter_o ∷ items)
    (key.Glyph letter_o ∷ keys_from false Nothing items) (keys_from true Single items)

-- the same after a second bracket, which ended a sequence of plain keys
abbrev ReadInConsole : List Item → Type 0
ReadInConsole items =
    Extends (Byte bracket ∷ items) (keys_from false Nothing items) (keys_from true Console items)

-- whatever is pending
record ReadOn (items : List Item) : Type 0 where
  none : Read Nothing items
  sequence : (bytes : List ℕ) → Read (Sequence bytes) items
  overlong : Read Overlong items
  lone : ReadAfterEscape items
  single : ReadAfterO items
  console : ReadInConsole items

-- items that were read, of which plain keys have given these; then a turn of both readers, and the
-- items after it
abbrev Turns : List Item → List Key → List Item → Turn → Turn → Type 0
Turns read given items plain full =
    Extends (read ++ items) (given ++ (plain.keys ++ keys_from false plain.pending items))
    (full.keys ++ keys_from true full.pending items)

-- where both readers make the same test
either : (read items : List Item) (b : Bool) (a c d e : Turn)
    → (b ≡ true → Turns read [] items a d) → Turns read [] items c e
    → Turns read [] items (cond b a c) (cond b d e)
either read items true a c d e first second = first refl
either read items false a c d e first second = second

-- an option that holds what another one does, if that holds anything
or_first : (o p : Option Key) → IfSome (option_or o None) (λ k. option_or o p ≡ Some k)
or_first None p = tt
or_first (Some k) p = refl

-- ---- a byte where nothing is pending

outside : (byte : ℕ) (items : List Item) → ReadOn items
    → Turns (Byte byte ∷ []) [] items (turn_outside false byte) (turn_outside true byte)
unfolding key_of
outside byte items rest =
    elim (cases_eq byte escape) [
      | inl is ↦ rw is rest.lone
      | inr other ↦ rw (ne_eqb byte escape other)
          (same (Byte byte) items (key_of false byte) (key_of true byte) _ _ (or_first _ _)
          rest.none)
    ]

-- ---- a byte of a sequence

at_end : (p : Pending) (byte : ℕ)
    → IfSome (key_at_end false p byte) (λ k. key_at_end true p byte ≡ Some k)
unfolding key_of_sequence
at_end Nothing byte = tt
at_end Lone byte = tt
at_end Single byte = tt
at_end (Sequence bytes) byte = or_first _ _
at_end Overlong byte = tt
at_end Console byte = tt

-- the end of a sequence: where both readers end it
ended : (p : Pending) (byte : ℕ) (items : List Item) → ReadOn items
    → Turns (Byte byte ∷ []) [] items (ends_as (key_at_end false p byte))
    (ends_as (key_at_end true p byte))
ended p byte items rest =
    same (Byte byte) items (key_at_end false p byte) (key_at_end true p byte) _ _ (at_end p byte)
    rest.none

-- and where it may be a second bracket
bracketed : (byte : ℕ) (items : List Item) → ReadOn items
    → Turns (Byte byte ∷ []) [] items (turn_at_end false (Sequence []) byte)
    (turn_at_end true (Sequence []) byte)
unfolding key_of_sequence plain_sequence
bracketed byte items rest =
    elim (cases_eq byte bracket) [
      | inl is ↦ rw is rest.console
      | inr other ↦ rw (ne_eqb byte bracket other) (ended (Sequence []) byte items rest)
    ]

at_last : (p : Pending) (byte : ℕ) (items : List Item) → ReadOn items
    → Turns (Byte byte ∷ []) [] items (turn_at_end false p byte) (turn_at_end true p byte)
at_last Nothing byte items rest = ended Nothing byte items rest
at_last Lone byte items rest = ended Lone byte items rest
at_last Single byte items rest = ended Single byte items rest
at_last (Sequence []) byte items rest = bracketed byte items rest
at_last (Sequence (b ∷ bytes)) byte items rest = ended (Sequence (b ∷ bytes)) byte items rest
at_last Overlong byte items rest = ended Overlong byte items rest
at_last Console byte items rest = ended Console byte items rest

inside : (p : Pending) (byte : ℕ) (items : List Item) → ReadOn items
    → Read (pending_with p byte) items
    → Turns (Byte byte ∷ []) [] items (turn_inside false p byte) (turn_inside true p byte)
inside p byte items rest collected =
    either (Byte byte ∷ []) items (is_collected byte) _ _ _ _
    (λ _. same (Byte byte) items None None _ _ tt collected)
    (either (Byte byte ∷ []) items (is_last byte) _ _ _ _ (λ _. at_last p byte items rest)
    (outside byte items rest))

-- whether one byte more fits or not
collects : (bytes : List ℕ) (byte : ℕ) (items : List Item) → ReadOn items
    → Read (pending_with (Sequence bytes) byte) items
collects bytes byte items rest = test (nat_lt (length bytes) SEQUENCE_BYTES)
  where
    test : (b : Bool) → Read (cond b (Sequence (bytes ++ byte ∷ [])) Overlong) items
    test true = rest.sequence (bytes ++ byte ∷ [])
    test false = rest.overlong

-- ---- a byte after an ESC

alone : (byte : ℕ) (items : List Item) → ReadOn items
    → Turns (Byte escape ∷ Byte byte ∷ []) [] items (turn_alone false byte) (turn_alone true byte)
unfolding key_of plain_key
alone byte items rest =
    elim (cases_eq byte letter_o) [
      | inl is ↦ rw is rest.single
      | inr other ↦ rw (ne_eqb byte letter_o other)
          (adds (Byte byte ∷ items) _ _ (outside byte items rest))
    ]

after_escape : (byte : ℕ) (items : List Item) → ReadOn items
    → Turns (Byte escape ∷ Byte byte ∷ []) [] items (turn_after_escape false byte)
    (turn_after_escape true byte)
after_escape byte items rest =
    let read : List Item = Byte escape ∷ Byte byte ∷ [] in
    either read items (byte == bracket) _ _ _ _
    (λ _. same (Byte escape) (Byte byte ∷ items) None None _ _ tt
    (same (Byte byte) items None None _ _ tt (rest.sequence [])))
    (either read items (byte == escape) _ _ _ _
    (λ is. rw (eqb-true byte escape is)
    (same (Byte escape) (Byte escape ∷ items) (Some key.Escape) (Some key.Escape) _ _ refl
    rest.lone))
    (alone byte items rest))

-- ---- a byte after ESC and `O`

-- the letters of single shifts
letters : (byte : ℕ) (k : Option Key) → single_key byte ≡ Some k → (65 ≤ byte) × (byte ≤ 83)
letters byte k is = grind (arith, nat_tests)

-- they are glyphs
shifted : (byte : ℕ) → 65 ≤ byte → byte ≤ 83
    → turn_outside false byte ≡ ends_as (Some (key.Glyph byte))
unfolding key_of plain_key
shifted byte first last = grind (arith, nat_tests)

-- an `O` that both readers give
glyph_o : (items : List Item) (plain full : List Key) → Extends items plain full
    → Extends (Byte letter_o ∷ items) (key.Glyph letter_o ∷ plain) (key.Glyph letter_o ∷ full)
glyph_o items plain full rest =
    let o : Option Key = Some (key.Glyph letter_o) in
    same (Byte letter_o) items o o plain full refl rest

after_o : (byte : ℕ) (items : List Item) → ReadOn items
    → Turns (Byte escape ∷ Byte letter_o ∷ Byte byte ∷ []) (key.Glyph letter_o ∷ []) items
    (turn_outside false byte) (turn_after_o true byte)
after_o byte items rest = test (single_key byte) refl
  where
    test : (o : Option (Option Key)) → single_key byte ≡ o
        → Turns (Byte escape ∷ Byte letter_o ∷ Byte byte ∷ []) (key.Glyph letter_o ∷ []) items
        (turn_outside false byte)
        (option_map_or ends_as o (after escape_and_o (turn_outside true byte)))
    test None is =
        adds (Byte letter_o ∷ Byte byte ∷ items) _ _
        (glyph_o (Byte byte ∷ items) _ _ (outside byte items rest))
    test (Some k) is =
        let letter = letters byte k is in
        rw (shifted byte letter.0 letter.1) (lacks byte items k _ _ is rest.none)

-- ---- a byte after two brackets

console_letters : (byte : ℕ) (k : Option Key) → console_key byte ≡ Some k
    → (65 ≤ byte) × (byte ≤ 83)
console_letters byte k is = grind (arith, nat_tests)

in_console : (byte : ℕ) (items : List Item) → ReadOn items
    → Turns (Byte bracket ∷ Byte byte ∷ []) [] items (turn_outside false byte)
    (turn_in_console true byte)
in_console byte items rest = test (console_key byte) refl
  where
    test : (o : Option (Option Key)) → console_key byte ≡ o
        → Turns (Byte bracket ∷ Byte byte ∷ []) [] items (turn_outside false byte)
        (option_map_or ends_as o (turn_outside true byte))
    test None is = same (Byte bracket) (Byte byte ∷ items) None None _ _ tt (outside byte items rest)
    test (Some k) is =
        let letter = console_letters byte k is in
        rw (shifted byte letter.0 letter.1) (turns byte items k _ _ is rest.none)

-- ---- all items

read_byte : (byte : ℕ) (items : List Item) → ReadOn items → ReadOn (Byte byte ∷ items)
unfolding keys_from turn
read_byte byte items rest = record {
  none = outside byte items rest;
  sequence = λ bytes. inside (Sequence bytes) byte items rest (collects bytes byte items rest);
  overlong = inside Overlong byte items rest rest.overlong;
  lone = after_escape byte items rest;
  single = after_o byte items rest;
  console = in_console byte items rest;
}

read_due : (items : List Item) → ReadOn items → ReadOn (Due ∷ items)
unfolding keys_from turn
read_due items rest = record {
  none = same Due items None None _ _ tt rest.none;
  sequence = λ bytes. same Due items None None _ _ tt (rest.sequence bytes);
  overlong = same Due items None None _ _ tt rest.overlong;
  lone =
      same (Byte escape) (Due ∷ items) None None _ _ tt
      (same Due items (Some key.Escape) (Some key.Escape) _ _ refl rest.none);
  single =
      adds (Byte letter_o ∷ Due ∷ items) _ _
      (glyph_o (Due ∷ items) _ _ (same Due items None None _ _ tt rest.none));
  console =
      same (Byte bracket) (Due ∷ items) None None _ _ tt
      (same Due items None None _ _ tt rest.none);
}

read_on : (items : List Item) → ReadOn items
unfolding keys_from
read_on [] = record {
  none = over;
  sequence = λ bytes. over;
  overlong = over;
  lone = same (Byte escape) [] None None [] [] tt over;
  single = holds;
  console = same (Byte bracket) [] None None [] [] tt over;
}
read_on (Byte byte ∷ items) = read_byte byte items (read_on items)
read_on (Due ∷ items) = read_due items (read_on items)

pub keys_extend : (items : List Item)
    → Extends items (keys_from false Nothing items) (keys_from true Nothing items)
keys_extend items = (read_on items).none
