-- What read_line answers, by the grammar.
use Rattle.std.proofs.Common.{◌≡◌, ℕ, ◌+◌, ◌≤◌, inl, inr, Bool, true, false, cond, ◌&&◌, List, [], ◌∷◌, ◌++◌, length, take, None, Some, Ok, Err, refl, sym, ◌∙◌, arith, zero, suc}
use Rattle.std.specs.Prelude.{◌==◌}
use Rattle.std.specs.List.{AllByRecursion, list_all, prefix_len}
use Rattle.std.proofs.lemmas.Bool.{or_cases, or_left, or_right, both_ways, false≢true, eqb-true, and_parts}
use Rattle.std.proofs.lemmas.List.{append-nil}
use Rattle.std.proofs.lemmas.Option.{none-some}
use Rattle.orca_base.specs.Ascii.{hash}
use Rattle.orca_base.specs.declared.command.Command.{Command}
use Rattle.orca_script.specs.Grammar.{is_space, line_forms, command_by, line_command, has_no_command, IsRefusedAt}
use Rattle.orca_script.specs.Readers.{read_by}
use Rattle.orca_script.specs.Reading.{reading}
use Rattle.orca_script.proofs.Digits.{all-append}
use Rattle.orca_script.proofs.Laws.{Stops, stands_for}
use Rattle.orca_script.proofs.Reach.{IsSound}
use Rattle.orca_script.proofs.Words.{front, later_words, words-none, words-plain}

-- the words of the table
pub sound_forms : AllByRecursion IsSound line_forms
unfolding line_forms
sound_forms = (record { some = omega arith; plain = refl }, (record { some = omega arith; plain = refl }, (record { some = omega arith; plain = refl }, (record { some = omega arith; plain = refl }, (record { some = omega arith; plain = refl }, (record { some = omega arith; plain = refl }, (record { some = omega arith; plain = refl }, (record { some = omega arith; plain = refl }, (record { some = omega arith; plain = refl }, (record { some = omega arith; plain = refl }, (record { some = omega arith; plain = refl }, (record { some = omega arith; plain = refl }, (record { some = omega arith; plain = refl }, (record { some = omega arith; plain = refl }, (record { some = omega arith; plain = refl }, (record { some = omega arith; plain = refl }, tt))))))))))))))))

-- a comment has no command
command_by-hash : (word : List ℕ) (words : List (List ℕ)) →
    command_by line_forms ((35 ∷ word) ∷ words) ≡ None
unfolding line_forms
command_by-hash word words = refl

command_by-nil : command_by line_forms [] ≡ None
unfolding line_forms
command_by-nil = refl

pub no_command : (line : List ℕ) → has_no_command line ≡ true → line_command line ≡ None
unfolding line_command
no_command [] e = rw words-none command_by-nil
no_command (b ∷ bytes) e =
    elim (or_cases (list_all is_space (b ∷ bytes)) (b == hash) e) [
      | inl blank ↦ let spaced : is_space b ≡ true = (and_parts _ _ blank).0 in rw spaced refl
      | inr comment ↦ let at : b ≡ 35 = eqb-true b 35 comment in
          rw (at, words-plain 35 [] bytes refl) (command_by-hash (front bytes) (later_words bytes))
    ]

-- a line that is read has the command
pub command_read : (line : List ℕ) (most : ℕ) (command : Command) →
    read_by line_forms line most ≡ Ok command → line_command line ≡ Some command
unfolding line_command
command_read line most command e = rw e at (stands_for line_forms line most sound_forms)

-- the spaces before any other byte
blank_step : (spaced : Bool) (k n : ℕ) (all : Bool) → suc k ≤ cond spaced (1 + n) 0 →
    (k ≤ n → all ≡ true) → (spaced && all) ≡ true
blank_step true k n all h ih = ih (omega arith)
blank_step false k n all h ih = absurd (omega arith)

pub blank_begins : (k : ℕ) (line : List ℕ) → k ≤ prefix_len is_space line →
    list_all is_space (take k line) ≡ true
blank_begins zero line h = refl
blank_begins (suc k) [] h = absurd (omega arith)
blank_begins (suc k) (b ∷ line) h = blank_step (is_space b) k (prefix_len is_space line)
    (list_all is_space (take k line)) h (blank_begins k line)

count_step : (spaced : Bool) (k n : ℕ) (all : Bool) → (spaced && all) ≡ true →
    (all ≡ true → k ≤ n) → suc k ≤ cond spaced (1 + n) 0
count_step true k n all e ih = let h = ih e in omega arith
count_step false k n all e ih = absurd (false≢true e)

blank_counts : (k : ℕ) (line : List ℕ) → k ≤ length line → list_all is_space (take k line) ≡ true →
    k ≤ prefix_len is_space line
blank_counts zero line h e = omega arith
blank_counts (suc k) [] h e = absurd (omega arith)
blank_counts (suc k) (b ∷ line) h e = count_step (is_space b) k (prefix_len is_space line)
    (list_all is_space (take k line)) e (blank_counts k line (omega arith))

-- a line without a command begins with spaces alone, or the whole line is one
pub no_command_front : (k : ℕ) (line rest : List ℕ) → 1 ≤ k → k ≤ length line →
    has_no_command line ≡ false → has_no_command (take k line ++ rest) ≡ true →
    k ≤ prefix_len is_space line
no_command_front zero line rest some h e none = absurd (omega arith)
no_command_front (suc k) [] rest some h e none = absurd (omega arith)
no_command_front (suc k) (b ∷ line) rest some h e none =
    elim (or_cases (list_all is_space (b ∷ (take k line ++ rest))) (b == hash) none) [
      | inl blank ↦ blank_counts (suc k) (b ∷ line) h
          (and_parts _ (list_all is_space rest) (sym (all-append is_space (b ∷ take k line) rest)
          ∙ blank)).0
      | inr comment ↦ absurd
          (both_ways _ e (or_right (list_all is_space (b ∷ line)) (b == hash) comment))
    ]

pub refused : (line : List ℕ) (count : ℕ) → has_no_command line ≡ false →
    read_by line_forms line (prefix_len is_space line) ≡ Err count → count ≤ length line →
    IsRefusedAt line (count + 1)
unfolding line_command
refused line count e read within =
    let stops : Stops line_forms line (prefix_len is_space line) count =
    rw read at (stands_for line_forms line (prefix_len is_space line) sound_forms) in
    record {
      no_line = λ is_line. elim is_line [
        | inl none ↦ both_ways _ e none
        | inr found ↦ none-some found.0 (sym stops.none ∙ found.1)
      ];
      before = λ k h. elim (stops.before k (omega arith)) [
        | inl low ↦ (
          [],
          inl (rw (append-nil (take k line))
              (or_left _ _ (blank_begins k line low))),
        )
        | inr found ↦ (found.0, inr found.1)
      ];
      here = λ h front. elim front.1 [
        | inl none ↦ omega (
          arith,
          stops.least,
          no_command_front (count + 1) line front.0
              (omega arith) h e none,
        )
        | inr found ↦ omega (arith, stops.behind (count + 1) front.0 found.0 h found.1)
      ];
      within = omega arith;
    }

-- where a line is read as its command, and where it is refused
pub reading-command : (line : List ℕ) (most : ℕ) (command : Command) → has_no_command line ≡ false →
    read_by line_forms line most ≡ Ok command → Ok (Some command) ≡ reading line
unfolding reading
reading-command line most command e read = rw (e, command_read line most command read) refl

pub reading-refused : (line : List ℕ) (count : ℕ) → has_no_command line ≡ false →
    read_by line_forms line (prefix_len is_space line) ≡ Err count → Err (record { column = count + 1 })
    ≡ reading line
unfolding reading line_command
reading-refused line count e read =
    let stops : Stops line_forms line (prefix_len is_space line) count =
    rw read at (stands_for line_forms line (prefix_len is_space line) sound_forms) in
    rw (e, stops.none, stops.counted) refl
