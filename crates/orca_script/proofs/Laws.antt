-- What is read by the forms is what the grammar says, and it stops at the least column.
use Rattle.std.proofs.Common.{◌≡◌, ℕ, ◌≤◌, ◌⊎◌, inl, inr, Bool, true, false, List, [], ◌∷◌, ◌++◌, length, take, None, Some, Option, Result, Ok, Err, refl, sym, ap, ◌∙◌, arith, max, zero-add}
use Rattle.std.specs.Prelude.{if◌then◌else◌, slice_index, ◌==◌}
use Rattle.std.specs.Option.{option_map, option_or, ok_or}
use Rattle.std.specs.Result.{result_map_both}
use Rattle.std.proofs.lemmas.Bool.{cases_lt}
use Rattle.std.specs.List.{AllByRecursion}
use Rattle.std.proofs.lemmas.Option.{none-some}
use Rattle.orca_base.specs.Ascii.{space}
use Rattle.orca_base.specs.declared.command.Command.{Command}
use Rattle.orca_script.specs.LineValues.{LineValues, none, command_named}
use Rattle.orca_script.specs.Grammar.{words_of, LineForm, values_by_form, command_by}
use Rattle.orca_script.specs.Readers.{or_else_read, read_form, read_by}
use Rattle.orca_script.specs.Reading.{Letters, nothing_read, reach, farthest}
use Rattle.orca_script.proofs.Along.{final}
use Rattle.orca_script.proofs.Reach.{read_on-is, begins, goes_along, IsSound, line_values, final-line}

-- the command of a line by some forms
abbrev pub line_by : List LineForm → List ℕ → Option Command
line_by table line = if slice_index line 0 == space then None else command_by table (words_of line)

-- the command of a line by one form
abbrev pub by_form : LineForm → List ℕ → Option Command
by_form form line = option_map (command_named form.verb) (line_values form line)

line_by_spaced : (spaced : Bool) (form : LineForm) (table : List LineForm) (words : List (List ℕ)) →
    (if spaced then None else command_by (form ∷ table) words)
    ≡ option_or (option_map (command_named form.verb)
    (if spaced then None else values_by_form form words))
    (if spaced then None else command_by table words)
line_by_spaced true form table words = refl
line_by_spaced false form table words = refl

line_by-cons : (form : LineForm) (table : List LineForm) (line : List ℕ) →
    line_by (form ∷ table) line ≡ option_or (by_form form line) (line_by table line)
line_by-cons form table line = line_by_spaced (slice_index line 0 == space) form table
    (words_of line)

none_spaced : (spaced : Bool) → ◌≡◌ {A = Option Command} (if spaced then None else None) None
none_spaced true = refl
none_spaced false = refl

line_by-nil : (line : List ℕ) → line_by [] line ≡ None
line_by-nil line = none_spaced (slice_index line 0 == space)

-- how many bytes of a line go along a form
abbrev pub far : LineForm → List ℕ → ℕ
far form line = reach line (Letters form.word form.kinds) none

-- a line has no command by the forms, and so many of its bytes, or at most so many as before, begin
-- one that has
pub record Stops (table : List LineForm) (line : List ℕ) (most count : ℕ) : Type 0 where
  pub none : line_by table line ≡ None
  pub least : most ≤ count
  pub counted : count ≡ farthest table line most
  pub before : (k : ℕ) → k ≤ count →
      (k ≤ most) ⊎ ((rest : List ℕ)
      × ((command : Command) × (line_by table (take k line ++ rest) ≡ Some command)))
  pub behind : (k : ℕ) (rest : List ℕ) (command : Command) → k ≤ length line →
      line_by table (take k line ++ rest) ≡ Some command → k ≤ count

-- what is read is the line's command, or where it stops
abbrev pub StandsFor : List LineForm → List ℕ → ℕ → Result Command ℕ → Type 0
StandsFor table line most (Ok command) = line_by table line ≡ Some command
StandsFor table line most (Err count) = Stops table line most count

ok_or-map : (f : LineValues → Command) (o : Option LineValues) (n : ℕ) →
    result_map_both f (λ count. count) (ok_or o n) ≡ ok_or (option_map f o) n
ok_or-map f None n = refl
ok_or-map f (Some values) n = refl

read_form-is : (form : LineForm) (line : List ℕ) → IsSound form →
    read_form form line ≡ ok_or (by_form form line) (far form line)
read_form-is form line sound =
    ap (result_map_both (command_named form.verb) (λ count. count)) (read_on-is line 0 (nothing_read form)
    ∙ (ap (λ n. ok_or (final line (Letters form.word form.kinds) none) n)
    (zero-add (far form line))
    ∙ ap (λ o. ok_or o (far form line)) (final-line form line sound)))
    ∙ ok_or-map (command_named form.verb) (line_values form line) (far form line)

some_or : (o : Option Command) (command : Command) →
    (c : Command) × (option_or o (Some command) ≡ Some c)
some_or None command = (command, refl)
some_or (Some c) command = (c, refl)

-- a form more
module _ (form : LineForm) (table : List LineForm) (line : List ℕ) (sound : IsSound form) where
  by_form-begins : (k : ℕ) → k ≤ far form line →
      (rest : List ℕ) × ((command : Command) × (line_by (form ∷ table) (take k line ++ rest)
      ≡ Some command))
  by_form-begins k h =
      let found = begins k line (Letters form.word form.kinds) none h in
      let values : line_values form (take k line ++ found.0) ≡ Some found.1.0 =
      sym (final-line form (take k line ++ found.0) sound) ∙ found.1.1 in (
        found.0,
        (
          command_named form.verb found.1.0,
          line_by-cons form table (take k line ++ found.0)
              ∙ rw values refl,
        ),
      )

  by_form-along : (k : ℕ) (rest : List ℕ) (values : LineValues) → k ≤ length line →
      line_values form (take k line ++ rest) ≡ Some values → k ≤ far form line
  by_form-along k rest values h e =
      goes_along k line rest (Letters form.word form.kinds) none values h
      (final-line form (take k line ++ rest) sound ∙ e)

  later_begins : (k : ℕ) (rest : List ℕ) (command : Command) →
      line_by table (take k line ++ rest) ≡ Some command →
      (others : List ℕ) × ((c : Command) × (line_by (form ∷ table) (take k line ++ others)
      ≡ Some c))
  later_begins k rest command e =
      let found = some_or (by_form form (take k line ++ rest)) command in
      (rest, (found.0, line_by-cons form table (take k line ++ rest) ∙ rw e found.1))

  behind_either : (o : Option LineValues) (most count : ℕ) (k : ℕ) (rest : List ℕ)
      (command : Command) →
      Stops table line (max most (far form line)) count → k ≤ length line →
      line_values form (take k line ++ rest) ≡ o →
      option_or (option_map (command_named form.verb) o) (line_by table (take k line ++ rest))
      ≡ Some command → k ≤ count
  behind_either None most count k rest command stops h values e = stops.behind k rest command h e
  behind_either (Some g) most count k rest command stops h values e =
      omega (arith, stops.least, by_form-along k rest g h values)

  before_either : (most count k : ℕ) →
      (k ≤ max most (far form line))
      ⊎ ((rest : List ℕ) × ((command : Command)
      × (line_by table (take k line ++ rest) ≡ Some command))) →
      (k ≤ most) ⊎ ((rest : List ℕ)
      × ((command : Command) × (line_by (form ∷ table) (take k line ++ rest) ≡ Some command)))
  before_either most count k (inl h) =
      elim (cases_lt most k) [ inl high ↦ inr (by_form-begins k (omega arith)) | inr low ↦ inl low ]
  before_either most count k (inr found) = inr (later_begins k found.0 found.1.0 found.1.1)

  stands_later : (most : ℕ) (r : Result Command ℕ) → by_form form line ≡ None →
      StandsFor table line (max most (far form line)) r → StandsFor (form ∷ table) line most r
  stands_later most (Ok command) e h = line_by-cons form table line ∙ rw e h
  stands_later most (Err count) e stops = record {
    none = line_by-cons form table line ∙ rw e stops.none;
    least = omega (arith, stops.least);
    counted = stops.counted;
    before = λ k h. before_either most count k (stops.before k h);
    behind = λ k rest command h e. behind_either (line_values form (take k line ++ rest)) most count
        k rest command stops h refl (sym (line_by-cons form table (take k line ++ rest)) ∙ e);
  }

  stands_cons : (o : Option Command) (most : ℕ) → by_form form line ≡ o →
      StandsFor table line (max most (far form line))
      (read_by table line (max most (far form line))) →
      StandsFor (form ∷ table) line most
      (or_else_read (λ count. read_by table line (max most count)) (ok_or o (far form line)))
  stands_cons None most e h = stands_later most (read_by table line (max most (far form line))) e h
  stands_cons (Some command) most e h = line_by-cons form table line ∙ rw e refl

pub stands_for : (table : List LineForm) (line : List ℕ) (most : ℕ) → AllByRecursion IsSound table →
    StandsFor table line most (read_by table line most)
unfolding read_by
stands_for [] line most sound = record {
  none = line_by-nil line;
  least = omega arith;
  counted = refl;
  before = λ k h. inl h;
  behind = λ k rest command h e. absurd
      (none-some command (sym (line_by-nil (take k line ++ rest)) ∙ e));
}
stands_for (form ∷ table) line most sound =
    rw (read_form-is form line sound.0)
    (stands_cons form table line sound.0 (by_form form line) most refl
    (stands_for table line (max most (far form line)) sound.1))
