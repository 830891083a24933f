-- What `read_header` and `read_line2` answer, by the grammar of format 2.
use Rattle.std.proofs.Common.{◌≡◌, ℕ, ◌+◌, ◌≤◌, ◌⊎◌, inl, inr, Bool, true, false, List, [], ◌∷◌, ◌++◌, length, take, None, Some, Option, Result, Ok, Err, refl, sym, ap, ◌∙◌, arith, max, zero-add}
use Rattle.std.specs.Prelude.{if◌then◌else◌, slice_index, ◌==◌, ◌&&◌, option_and_then}
use Rattle.std.specs.List.{prefix_len, list_all}
use Rattle.std.specs.Option.{option_map, option_or, ok_or}
use Rattle.std.specs.Result.{result_map_both}
use Rattle.std.specs.Str.{bytes_eq}
use Rattle.std.proofs.lemmas.Bool.{cases_lt, and_parts, or_cases, or_left, both_ways, eqb-true}
use Rattle.std.proofs.lemmas.List.{append-nil}
use Rattle.std.proofs.lemmas.Option.{none-some}
use Rattle.orca_base.specs.Ascii.{space, hash}
use Rattle.orca_base.specs.Numbers.{number_of}
use Rattle.orca_base.specs.declared.command.Command.{Command}
use Rattle.orca_script.specs.declared.format_2.Line.{Line}
use Rattle.orca_script.specs.declared.format_2.Line.TheVariants.{Do, Frames}
use Rattle.orca_script.specs.declared.forms.TheConstants.{FRAMES, HEADER}
use Rattle.orca_script.specs.declared.forms.Verb.TheVariants.{Frame}
use Rattle.orca_script.specs.Format2.{IsHeader, IsLine2, LeavesAt, seed_of, header_seed, header_reading, times_of, line_frames, line_asks, reading2}
use Rattle.orca_script.specs.Grammar.{is_space, words_of, LineForm, line_forms, has_no_command, line_command, values_by, values_by_form}
use Rattle.orca_script.specs.LineValues.{LineValues, none, adding_number}
use Rattle.orca_script.specs.Readers.{read_number, read_by, or_else_frames, asked_by}
use Rattle.orca_script.specs.Reading.{Letters, nothing_read}
use Rattle.orca_script.proofs.Along.{final}
use Rattle.orca_script.proofs.Laws.{Stops, far, stands_for}
use Rattle.orca_script.proofs.Reach.{read_on-is, begins, goes_along, IsSound, line_values, final-line}
use Rattle.orca_script.proofs.Words.{front, later_words, words-none, words-plain}
use Rattle.orca_script.proofs.Refusals.{sound_forms, blank_begins, no_command, command_read, no_command_front}

-- ---- a line by one form

abbrev first : LineValues → ℕ
first values = slice_index values.numbers 0

-- the number of a line by a form
abbrev number_by : LineForm → List ℕ → Option ℕ
number_by form line = option_map first (line_values form line)

ok_or-map : (f : LineValues → ℕ) (o : Option LineValues) (n : ℕ) →
    result_map_both f (λ count. count) (ok_or o n) ≡ ok_or (option_map f o) n
ok_or-map f None n = refl
ok_or-map f (Some values) n = refl

read_number-is : (form : LineForm) (line : List ℕ) → IsSound form →
    read_number form.word form.kinds line ≡ ok_or (number_by form line) (far form line)
read_number-is form line sound =
    ap (result_map_both first (λ count. count)) (read_on-is line 0 (nothing_read form)
    ∙ (ap (λ n. ok_or (final line (Letters form.word form.kinds) none) n)
    (zero-add (far form line))
    ∙ ap (λ o. ok_or o (far form line)) (final-line form line sound)))
    ∙ ok_or-map first (line_values form line) (far form line)

form_begins : (form : LineForm) (line : List ℕ) (k : ℕ) → IsSound form → k ≤ far form line →
    (rest : List ℕ) × ((n : ℕ) × (number_by form (take k line ++ rest) ≡ Some n))
form_begins form line k sound h =
    let found = begins k line (Letters form.word form.kinds) none h in
    let values : line_values form (take k line ++ found.0) ≡ Some found.1.0 =
    sym (final-line form (take k line ++ found.0) sound) ∙ found.1.1 in
    (found.0, (first found.1.0, ap (option_map first) values))

some_mapped : (o : Option LineValues) (n : ℕ) → option_map first o ≡ Some n →
    (values : LineValues) × (o ≡ Some values)
some_mapped None n e = absurd (none-some n e)
some_mapped (Some values) n e = (values, refl)

form_along : (form : LineForm) (line : List ℕ) (k : ℕ) (rest : List ℕ) (n : ℕ) → IsSound form →
    k ≤ length line → number_by form (take k line ++ rest) ≡ Some n → k ≤ far form line
form_along form line k rest n sound h e =
    let found = some_mapped (line_values form (take k line ++ rest)) n e in
    goes_along k line rest (Letters form.word form.kinds) none found.0 h
    (final-line form (take k line ++ rest) sound ∙ found.1)

ok_or_err : (o : Option ℕ) (n count : ℕ) → ok_or o n ≡ Err count → (o ≡ None) × (n ≡ count)
ok_or_err None n count e = (refl, cc)
ok_or_err (Some x) n count e = absurd cc

ok_or_ok : (o : Option ℕ) (n x : ℕ) → ok_or o n ≡ Ok x → o ≡ Some x
ok_or_ok None n x e = absurd cc
ok_or_ok (Some y) n x e = cc

-- ---- the number that comes last

last_number : (o : Option ℕ) →
    option_map first (option_and_then (λ number. values_by (adding_number none number) [] []) o) ≡ o
unfolding values_by
last_number None = refl
last_number (Some n) = refl

more_words : (o : Option ℕ) (word : List ℕ) (words : List (List ℕ)) →
    option_map first
    (option_and_then (λ number. values_by (adding_number none number) [] (word ∷ words)) o) ≡ None
unfolding values_by
more_words None word words = refl
more_words (Some n) word words = refl

-- ---- the first line

abbrev header_form : LineForm
header_form = record { word = HEADER.0.now; kinds = HEADER.1.now; verb = Frame }

header_sound : IsSound header_form
header_sound = record { some = omega arith; plain = refl }

three : (p q r : Bool) (o : Option LineValues) (n : Option ℕ) → option_map first o ≡ n →
    option_map first
    (if p then (if q then (if r then o else None) else None) else None)
    ≡ (if p && q && r then n else None)
three true true true o n e = e
three true true false o n e = refl
three true false r o n e = refl
three false q r o n e = refl

no_three : (p q r : Bool) (o : Option LineValues) → option_map first o ≡ None →
    option_map first (if p then (if q then (if r then o else None) else None) else None) ≡ None
no_three true true true o e = e
no_three true true false o e = refl
no_three true false r o e = refl
no_three false q r o e = refl

no_two : (p q : Bool) → option_map first (if p then (if q then None else None) else None) ≡ None
no_two true true = refl
no_two true false = refl
no_two false q = refl

no_one : (p : Bool) → option_map first (if p then None else None) ≡ None
no_one true = refl
no_one false = refl

header_words : (words : List (List ℕ)) →
    option_map first (values_by_form header_form words) ≡ seed_of words
unfolding values_by
header_words [] = refl
header_words (a ∷ []) = no_one (bytes_eq a HEADER.0.now)
header_words (a ∷ b ∷ []) = no_two (bytes_eq a HEADER.0.now) (bytes_eq b (50 ∷ []))
header_words (a ∷ b ∷ c ∷ []) =
    no_three (bytes_eq a HEADER.0.now) (bytes_eq b (50 ∷ []))
    (bytes_eq c (115 ∷ 101 ∷ 101 ∷ 100 ∷ [])) None refl
header_words (a ∷ b ∷ c ∷ d ∷ []) =
    three (bytes_eq a HEADER.0.now) (bytes_eq b (50 ∷ []))
    (bytes_eq c (115 ∷ 101 ∷ 101 ∷ 100 ∷ [])) _ (number_of d) (last_number (number_of d))
header_words (a ∷ b ∷ c ∷ d ∷ e ∷ words) =
    no_three (bytes_eq a HEADER.0.now) (bytes_eq b (50 ∷ []))
    (bytes_eq c (115 ∷ 101 ∷ 101 ∷ 100 ∷ [])) _ (more_words (number_of d) e words)

header_spaced : (spaced : Bool) (words : List (List ℕ)) →
    option_map first (if spaced then None else values_by_form header_form words)
    ≡ (if spaced then None else seed_of words)
header_spaced true words = refl
header_spaced false words = header_words words

header_same : (line : List ℕ) → number_by header_form line ≡ header_seed line
unfolding header_seed
header_same line = header_spaced (slice_index line 0 == space) (words_of line)

pub header_found : (line : List ℕ) (seed : ℕ) →
    read_number HEADER.0.now HEADER.1.now line ≡ Ok seed → header_seed line ≡ Some seed
header_found line seed e =
    sym (header_same line) ∙ ok_or_ok (number_by header_form line) (far header_form line) seed
    (sym (read_number-is header_form line header_sound) ∙ e)

header_missed : (line : List ℕ) (count : ℕ) →
    read_number HEADER.0.now HEADER.1.now line ≡ Err count →
    (number_by header_form line ≡ None) × (far header_form line ≡ count)
header_missed line count e =
    ok_or_err (number_by header_form line) (far header_form line) count
    (sym (read_number-is header_form line header_sound) ∙ e)

pub header_refused : (line : List ℕ) (count : ℕ) →
    read_number HEADER.0.now HEADER.1.now line ≡ Err count → count ≤ length line →
    LeavesAt IsHeader line (count + 1)
header_refused line count e within =
    let missed = header_missed line count e in
    record {
      no_line = λ is. none-some is.0 (sym missed.0 ∙ (header_same line ∙ is.1));
      before = λ k h. let found = form_begins header_form line k header_sound
          (omega (arith, missed.1)) in (
            found.0,
            (found.1.0, sym (header_same (take k line ++ found.0)) ∙ found.1.1),
          );
      here = λ h front. omega (
        arith,
        missed.1,
        form_along header_form line (count + 1) front.0 front.1.0 header_sound h
            (header_same (take (count + 1) line ++ front.0) ∙ front.1.1),
      );
      within = omega arith;
    }

pub header_reading-seed : (line : List ℕ) (seed : ℕ) →
    read_number HEADER.0.now HEADER.1.now line ≡ Ok seed → Ok seed ≡ header_reading line
unfolding header_reading
header_reading-seed line seed e = rw (header_found line seed e) refl

pub header_reading-refused : (line : List ℕ) (count : ℕ) →
    read_number HEADER.0.now HEADER.1.now line ≡ Err count →
    Err (record { column = count + 1 }) ≡ header_reading line
unfolding header_reading
header_reading-refused line count e =
    let missed = header_missed line count e in
    rw (sym (header_same line) ∙ missed.0, missed.1) refl

-- ---- another line

abbrev frames_form : LineForm
frames_form = record { word = FRAMES.0.now; kinds = FRAMES.1.now; verb = Frame }

frames_sound : IsSound frames_form
frames_sound = record { some = omega arith; plain = refl }

one : (p : Bool) (o : Option LineValues) (n : Option ℕ) → option_map first o ≡ n →
    option_map first (if p then o else None) ≡ (if p then n else None)
one true o n e = e
one false o n e = refl

no_more : (p : Bool) (o : Option LineValues) → option_map first o ≡ None →
    option_map first (if p then o else None) ≡ None
no_more true o e = e
no_more false o e = refl

frames_words : (words : List (List ℕ)) →
    option_map first (values_by_form frames_form words) ≡ times_of words
unfolding values_by
frames_words [] = refl
frames_words (a ∷ []) = no_one (bytes_eq a FRAMES.0.now)
frames_words (a ∷ b ∷ []) =
    one (bytes_eq a FRAMES.0.now) _ (number_of b) (last_number (number_of b))
frames_words (a ∷ b ∷ c ∷ words) =
    no_more (bytes_eq a FRAMES.0.now) _ (more_words (number_of b) c words)

frames_spaced : (spaced : Bool) (words : List (List ℕ)) →
    option_map first (if spaced then None else values_by_form frames_form words)
    ≡ (if spaced then None else times_of words)
frames_spaced true words = refl
frames_spaced false words = frames_words words

frames_same : (line : List ℕ) → number_by frames_form line ≡ line_frames line
unfolding line_frames
frames_same line = frames_spaced (slice_index line 0 == space) (words_of line)

frames_found : (line : List ℕ) (times : ℕ) →
    read_number FRAMES.0.now FRAMES.1.now line ≡ Ok times → line_frames line ≡ Some times
frames_found line times e =
    sym (frames_same line) ∙ ok_or_ok (number_by frames_form line) (far frames_form line) times
    (sym (read_number-is frames_form line frames_sound) ∙ e)

record FramesMissed (line : List ℕ) (count : ℕ) : Type 0 where
  none : line_frames line ≡ None
  counted : far frames_form line ≡ count

frames_missed : (line : List ℕ) (count : ℕ) →
    read_number FRAMES.0.now FRAMES.1.now line ≡ Err count → FramesMissed line count
frames_missed line count e =
    let missed = ok_or_err (number_by frames_form line) (far frames_form line) count
    (sym (read_number-is frames_form line frames_sound) ∙ e) in
    record { none = sym (frames_same line) ∙ missed.0; counted = missed.1 }

-- a line without a command asks for no frames
times_of-hash : (word : List ℕ) (words : List (List ℕ)) → times_of ((35 ∷ word) ∷ words) ≡ None
times_of-hash word [] = refl
times_of-hash word (number ∷ []) = refl
times_of-hash word (number ∷ other ∷ words) = refl

no_frames : (line : List ℕ) → has_no_command line ≡ true → line_frames line ≡ None
unfolding line_frames
no_frames [] e = rw words-none refl
no_frames (b ∷ bytes) e =
    elim (or_cases (list_all is_space (b ∷ bytes)) (b == hash) e) [
      | inl blank ↦ let spaced : is_space b ≡ true = (and_parts _ _ blank).0 in rw spaced refl
      | inr comment ↦ let at : b ≡ 35 = eqb-true b 35 comment in
          rw (at, words-plain 35 [] bytes refl) (times_of-hash (front bytes) (later_words bytes))
    ]

pub asks_nothing : (line : List ℕ) → has_no_command line ≡ true → line_asks line ≡ None
unfolding line_asks
asks_nothing line e = rw (no_command line e, no_frames line e) refl

pub reading2-nothing : (line : List ℕ) → has_no_command line ≡ true → Ok None ≡ reading2 line
unfolding reading2
reading2-nothing line e = rw e refl

-- where a line stops along the forms of the table
stops_at : (line : List ℕ) (count : ℕ) → read_by line_forms line (prefix_len is_space line) ≡ Err count →
    Stops line_forms line (prefix_len is_space line) count
stops_at line count e = rw e at (stands_for line_forms line (prefix_len is_space line) sound_forms)

by_command : (o : Option Command) (p : Option ℕ) (command : Command) → o ≡ Some command →
    option_or (option_map Do o) (option_map Frames p) ≡ Some (Do command)
by_command o p command e = rw e refl

by_frames : (o : Option Command) (p : Option ℕ) (times : ℕ) → p ≡ Some times →
    (asked : Line) × (option_or (option_map Do o) (option_map Frames p) ≡ Some asked)
by_frames None p times e = (Frames times, rw e refl)
by_frames (Some command) p times e = (Do command, refl)

by_either : (o : Option Command) (p : Option ℕ) (asked : Line) →
    option_or (option_map Do o) (option_map Frames p) ≡ Some asked →
    ((command : Command) × (o ≡ Some command)) ⊎ ((times : ℕ) × (p ≡ Some times))
by_either None None asked e = absurd (none-some asked e)
by_either None (Some times) asked e = inr (times, refl)
by_either (Some command) p asked e = inl (command, refl)

-- what is read is what the line asks for
asked_either : (line : List ℕ) (r : Result Command ℕ) (s : Result ℕ ℕ) (asked : Line) →
    read_by line_forms line (prefix_len is_space line) ≡ r →
    read_number FRAMES.0.now FRAMES.1.now line ≡ s → or_else_frames s r ≡ Ok asked →
    line_asks line ≡ Some asked
unfolding line_asks line_command
asked_either line (Ok command) s asked read other e =
    let same : Do command ≡ asked = cc in
    by_command (line_command line) (line_frames line) command
    (command_read line (prefix_len is_space line) command read) ∙ ap (λ (x : Line). Some x) same
asked_either line (Err count) (Ok times) asked read other e =
    let same : Frames times ≡ asked = cc in
    rw ((stops_at line count read).none, frames_found line times other)
    (ap (λ (x : Line). Some x) same)
asked_either line (Err count) (Err more) asked read other e = absurd cc

pub asked_found : (line : List ℕ) (asked : Line) → asked_by line ≡ Ok asked →
    line_asks line ≡ Some asked
asked_found line asked e = asked_either line _ _ asked refl refl e

-- a line that is not read
record Misses (line : List ℕ) (count : ℕ) : Type 0 where
  most : ℕ
  other : ℕ
  same : max most other ≡ count
  stops : Stops line_forms line (prefix_len is_space line) most
  missed : FramesMissed line other

misses_either : (line : List ℕ) (r : Result Command ℕ) (s : Result ℕ ℕ) (count : ℕ) →
    read_by line_forms line (prefix_len is_space line) ≡ r →
    read_number FRAMES.0.now FRAMES.1.now line ≡ s → or_else_frames s r ≡ Err count →
    Misses line count
misses_either line (Ok command) s count read other e = absurd cc
misses_either line (Err most) (Ok times) count read other e = absurd cc
misses_either line (Err most) (Err more) count read other e =
    record {
      most = most;
      other = more;
      same = cc;
      stops = stops_at line most read;
      missed = frames_missed line more other;
    }

misses : (line : List ℕ) (count : ℕ) → asked_by line ≡ Err count → Misses line count
misses line count e = misses_either line _ _ count refl refl e

asks_none : (line : List ℕ) (count : ℕ) → Misses line count → line_asks line ≡ None
unfolding line_asks line_command
asks_none line count m = rw (m.stops.none, m.missed.none) refl

module _ (line : List ℕ) (count : ℕ) (m : Misses line count) where
  begins_by_frames : (k : ℕ) → k ≤ m.other → (rest : List ℕ) × IsLine2 (take k line ++ rest)
  unfolding line_asks
  begins_by_frames k h =
      let found = form_begins frames_form line k frames_sound (omega (arith, m.missed.counted)) in
      let front = take k line ++ found.0 in (
        found.0,
        inr (by_frames (line_command front) (line_frames front) found.1.0
            (sym (frames_same front) ∙ found.1.1)),
      )

  begins_by_command : (k : ℕ) → k ≤ m.most → (rest : List ℕ) × IsLine2 (take k line ++ rest)
  unfolding line_asks line_command
  begins_by_command k h = elim (m.stops.before k h) [
    | inl low ↦ (
      [],
      inl (rw (append-nil (take k line)) (or_left _ _ (blank_begins k line low))),
    )
    | inr found ↦ let front = take k line ++ found.0 in (
      found.0,
      inr (Do found.1.0, by_command (line_command front) (line_frames front) found.1.0 found.1.1),
    )
  ]

  asked_along : (k : ℕ) (rest : List ℕ) (asked : Line) → k ≤ length line →
      line_asks (take k line ++ rest) ≡ Some asked → k ≤ count
  unfolding line_asks line_command
  asked_along k rest asked h e =
      let front = take k line ++ rest in
      let same = m.same in
      elim (by_either (line_command front) (line_frames front) asked e) [
        | inl found ↦ let low = m.stops.behind k rest found.0 h found.1 in omega (arith, same, low)
        | inr found ↦ let low = form_along frames_form line k rest found.0 frames_sound h
            (frames_same front ∙ found.1) in omega (arith, same, low, m.missed.counted)
      ]

  leaves : has_no_command line ≡ false → count ≤ length line → LeavesAt IsLine2 line (count + 1)
  leaves e within = record {
    no_line = λ is_line. elim is_line [
      | inl none ↦ both_ways _ e none
      | inr found ↦ none-some found.0 (sym (asks_none line count m) ∙ found.1)
    ];
    before = λ k h. elim (cases_lt m.most k) [
      | inl high ↦ begins_by_frames k (omega (arith, m.same))
      | inr low ↦ begins_by_command k low
    ];
    here = λ h front. elim front.1 [
      | inl none ↦ omega (
        arith,
        m.same,
        m.stops.least,
        no_command_front (count + 1) line front.0
            (omega arith) h e none,
      )
      | inr found ↦ omega (arith, asked_along (count + 1) front.0 found.0 h found.1)
    ];
    within = omega arith;
  }

pub line_refused : (line : List ℕ) (count : ℕ) → has_no_command line ≡ false →
    asked_by line ≡ Err count → count ≤ length line → LeavesAt IsLine2 line (count + 1)
line_refused line count e read within = leaves line count (misses line count read) e within

pub reading2-asked : (line : List ℕ) (asked : Line) → has_no_command line ≡ false →
    asked_by line ≡ Ok asked → Ok (Some asked) ≡ reading2 line
unfolding reading2
reading2-asked line asked e read = rw (e, asked_found line asked read) refl

pub reading2-refused : (line : List ℕ) (count : ℕ) → has_no_command line ≡ false →
    asked_by line ≡ Err count → Err (record { column = count + 1 }) ≡ reading2 line
unfolding reading2
reading2-refused line count e read =
    let m = misses line count read in
    rw (e, asks_none line count m, ← m.stops.counted, m.missed.counted, m.same) refl
