-- A text of a room that is parted, and its whole lines.
use Rattle.std.proofs.Common.{◌≡◌, ◌≢◌, ℕ, suc, ◌+◌, ◌-◌, ◌<◌, ◌≤◌, Bool, true, false, Some, None, List, [], ◌∷◌, ◌++◌, length, take, drop, get_or, refl, sym, ap, ◌∙◌, append_assoc, append-nil, arith, add-one, ◌⊎◌, inl, inr}
use Rattle.std.specs.Prelude.{All, Option, ◌==◌, ◌&&◌}
use Rattle.std.specs.List.{AllByRecursion}
use Rattle.std.specs.Option.{option_map}
use Rattle.std.proofs.Math.ListN.{drop_of_length-le}
use Rattle.std.proofs.Math.Seq.{drop-cons}
use Rattle.std.proofs.lemmas.Bool.{ne_eqb}
use Rattle.std.proofs.lemmas.List.{take_more}
use Rattle.std.proofs.lemmas.List.Elements.{recursion_from_All}
use Rattle.orca_base.specs.Ascii.{line_feed}
use Rattle.orca_cues.specs.Rooms.{Room, begun_with, parted_from, whole_from, whole_lines}

-- ---- parts

-- bytes before the grid of a room
abbrev pub with_front : List ℕ → Room → Room
with_front front room = record { grid = front ++ room.grid; script = room.script }

abbrev pub front_of : List ℕ → Option Room → Option Room
front_of front = option_map (with_front front)

pub front-none : (room : Option Room) → front_of [] room ≡ room
front-none None = refl
front-none (Some room) = refl

pub front-behind : (front : List ℕ) (byte : ℕ) (room : Option Room)
    → front_of front (option_map (begun_with byte) room) ≡ front_of (front ++ byte ∷ []) room
front-behind front byte None = refl
front-behind front byte (Some room) =
    ap (λ grid. Some (record { grid = grid; script = room.script }))
    (sym (append_assoc front (byte ∷ []) room.grid))

-- a byte that is no empty line
pub parts_more : (begins : Bool) (byte : ℕ) (bytes : List ℕ)
    → (begins && (byte == line_feed)) ≡ false
    → parted_from begins (byte ∷ bytes)
    ≡ option_map (begun_with byte) (parted_from (byte == line_feed) bytes)
unfolding parted_from
parts_more begins byte bytes other = rw other refl

-- one that is
pub parts_here : (begins : Bool) (byte : ℕ) (bytes : List ℕ)
    → (begins && (byte == line_feed)) ≡ true
    → parted_from begins (byte ∷ bytes) ≡ Some (record { grid = []; script = bytes })
unfolding parted_from
parts_here begins byte bytes empty = rw empty refl

pub parts_none : (begins : Bool) → parted_from begins [] ≡ None
unfolding parted_from
parts_none begins = refl

-- the first bytes of a text, so many of them, have no empty line
abbrev pub Parted : List ℕ → ℕ → Bool → Type 0
Parted text i begins =
    parted_from true text ≡ front_of (take i text) (parted_from begins (drop i text))

pub parted-start : (text : List ℕ) → Parted text 0 true
parted-start text = sym (front-none (parted_from true text))

module _ (text : List ℕ) (i : ℕ) (begins : Bool) (parted : Parted text i begins)
    (below : i < length text) where
  abbrev here : ℕ
  here = get_or text i 0

  pub parted-more : (begins && (here == line_feed)) ≡ false
      → Parted text (i + 1) (here == line_feed)
  parted-more other =
      parted
      ∙ (ap (λ bytes. front_of (take i text) (parted_from begins bytes)) (drop-cons text i 0 below)
      ∙ (ap (front_of (take i text)) (parts_more begins here (drop (suc i) text) other)
      ∙ (front-behind (take i text) here (parted_from (here == line_feed) (drop (suc i) text))
      ∙ rw (take_more text i 0 below, add-one) refl)))

  pub parted-here : (begins && (here == line_feed)) ≡ true
      → parted_from true text ≡ Some (record { grid = take i text; script = drop (i + 1) text })
  parted-here empty =
      parted
      ∙ (ap (λ bytes. front_of (take i text) (parted_from begins bytes)) (drop-cons text i 0 below)
      ∙ (ap (front_of (take i text)) (parts_here begins here (drop (suc i) text) empty)
      ∙ rw (add-one, append-nil) refl))

-- tests of a byte
pub neither : (begins : Bool) (byte : ℕ)
    → ((begins ≡ true) × (byte ≢ line_feed)) ⊎ (begins ≡ false)
    → (begins && (byte == line_feed)) ≡ false
neither begins byte (inl other) = rw (other.0, ne_eqb byte line_feed other.1) refl
neither begins byte (inr off) = rw off refl

pub both : (begins : Bool) (byte : ℕ) → begins ≡ true → byte ≡ line_feed
    → (begins && (byte == line_feed)) ≡ true
both begins byte on is = rw (on, is) refl

-- all bytes
pub parted-end : (text : List ℕ) (i : ℕ) (begins : Bool) → Parted text i begins → length text ≤ i
    → parted_from true text ≡ None
parted-end text i begins parted all =
    parted
    ∙ (ap (λ bytes. front_of (take i text) (parted_from begins bytes)) (drop_of_length-le text all)
    ∙ ap (front_of (take i text)) (parts_none begins))

-- ---- whole lines

-- a byte behind a text that no line feed ends
pub whole-other : (text : List ℕ) (byte : ℕ) → (byte == line_feed) ≡ false
    → whole_lines (text ++ byte ∷ []) ≡ whole_lines text
unfolding whole_lines
whole-other [] byte other = rw other refl
whole-other (first ∷ text) byte other = ap (whole_from first) (whole-other text byte other)

-- a byte that ends no line
abbrev pub IsInside : ℕ → Type 0
IsInside byte = byte ≢ line_feed

-- such bytes are no whole line
none-whole : (cut : List ℕ) → AllByRecursion IsInside cut → whole_lines cut ≡ []
unfolding whole_lines
none-whole [] free = refl
none-whole (byte ∷ cut) free = rw (none-whole cut free.1, ne_eqb byte line_feed free.0) refl

pub cut_none : (cut : List ℕ) → All IsInside cut → whole_lines cut ≡ []
cut_none cut free = none-whole cut (recursion_from_All IsInside cut free)

whole-end : (bytes : List ℕ) → whole_from line_feed bytes ≡ line_feed ∷ bytes
whole-end [] = refl
whole-end (next ∷ bytes) = refl

whole-more : (first : ℕ) (line bytes : List ℕ)
    → whole_from first (line ++ line_feed ∷ bytes) ≡ first ∷ line ++ line_feed ∷ bytes
whole-more first [] bytes = refl
whole-more first (next ∷ line) bytes = refl

-- a line, and then others
pub whole_line : (line rest : List ℕ)
    → whole_lines (line ++ line_feed ∷ rest) ≡ line ++ line_feed ∷ whole_lines rest
unfolding whole_lines
whole_line [] rest = whole-end (whole_lines rest)
whole_line (first ∷ line) rest =
    ap (whole_from first) (whole_line line rest) ∙ whole-more first line (whole_lines rest)

-- a text that a line feed ends
whole-all : (text : List ℕ) → whole_lines (text ++ line_feed ∷ []) ≡ text ++ line_feed ∷ []
unfolding whole_lines
whole-all text = whole_line text []

-- the text up to a byte
taken : (text : List ℕ) (end : ℕ) → 0 < end → end ≤ length text
    → take end text ≡ take (end - 1) text ++ get_or text (end - 1) 0 ∷ []
taken text end some within =
    let more = take_more text (end - 1) 0 (omega (arith, some, within)) in
    let same : end - 1 + 1 ≡ end = omega (arith, some) in
    rw same at more

-- a last byte that is no line feed
pub whole-back : (text : List ℕ) (end : ℕ) → 0 < end → end ≤ length text
    → get_or text (end - 1) 0 ≢ line_feed
    → whole_lines (take (end - 1) text) ≡ whole_lines (take end text)
whole-back text end some within other =
    rw (taken text end some within)
    (sym (whole-other (take (end - 1) text) (get_or text (end - 1) 0) (ne_eqb _ line_feed other)))

-- one that is
pub whole-here : (text : List ℕ) (end : ℕ) → 0 < end → end ≤ length text
    → get_or text (end - 1) 0 ≡ line_feed
    → take end text ≡ whole_lines (take end text)
whole-here text end some within is =
    let cut = taken text end some within ∙ ap (λ byte. take (end - 1) text ++ byte ∷ []) is in
    cut ∙ (sym (whole-all (take (end - 1) text)) ∙ ap whole_lines (sym cut))

-- no byte
pub whole-none : (text : List ℕ) (end : ℕ) → end ≤ 0 → take end text ≡ whole_lines (take end text)
unfolding whole_lines
whole-none text end none =
    let no : end ≡ 0 = omega (arith, none) in rw no refl
