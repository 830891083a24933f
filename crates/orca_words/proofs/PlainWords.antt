-- The lists of words that were read before there were options.
use Rattle.std.proofs.Common.{◌≡◌, ◌∙◌, refl, List, [], ◌∷◌, true, false, ℕ, ◌^◌, ◌<◌, ◌≤◌, Bool, ◌==◌, None, Some, arith, codes, cond, zero-le}
use Rattle.std.specs.Prelude.{not}
use Rattle.std.specs.List.{list_all}
use Rattle.std.specs.Str.Parse.{digits_value}
use Rattle.std.proofs.lemmas.Bool.{and_parts, ltb-true, le-leb}
use Rattle.std.proofs.lemmas.Bool.Decides.{nat_tests}
use Rattle.clap.specs.Words.{Text}
use Rattle.orca_base.specs.Ascii.{dash}
use Rattle.orca_base.specs.Glyphs.{is_digit}
use Rattle.orca_base.specs.Numbers.{is_number, number_of}
use Rattle.orca_words.specs.PlainWords.{is_plain_name, plain_setup}
use Rattle.orca_words.specs.Requests.{Events, Perform, Replay, Run, frames_given, greatest, number_in, option_text, portless_setup_of, positional_text, request_by, request_in_form, setup_of}
use Rattle.orca_words.specs.declared.forms.Verb.{Verb}
use Rattle.orca_words.specs.declared.forms.Verb.TheVariants as verb
use Rattle.orca_words.proofs.PlainForms.{Frames, Script, grid_form, plain_accepted, plain_found, plain_rows, row}
use Rattle.orca_words.proofs.PlainWalk.{has_no_dash}

-- ---- numbers

test_of : (test : Bool) (value count : ℕ) → cond test (Some value) None ≡ Some count
    → (test ≡ true) × (value ≡ count)
test_of true value count is = (refl, cc)
test_of false value count is = cc

number_parts : (digits : Text) (count : ℕ) → number_of digits ≡ Some count
    → (is_number digits ≡ true) × (digits_value 10 digits ≡ count)
unfolding number_of
number_parts digits count is = test_of (is_number digits) (digits_value 10 digits) count is

digit_no_dash : (c : ℕ) → is_digit c ≡ true → not (c == dash) ≡ true
digit_no_dash c digit = grind (arith, nat_tests)

digits_no_dash : (digits : Text) → list_all is_digit digits ≡ true → has_no_dash digits ≡ true
digits_no_dash [] all = refl
digits_no_dash (c ∷ cs) all = digit_no_dash c (and_parts _ _ all).0

-- a number doesn't begin with a dash
number_no_dash : (digits : Text) (count : ℕ) → number_of digits ≡ Some count
    → has_no_dash digits ≡ true
number_no_dash digits count is =
    digits_no_dash digits (and_parts _ _ (and_parts _ _ (number_parts digits count is).0).0).1

value_below : (digits : Text) → is_number digits ≡ true → digits_value 10 digits < 2 ^ 32
value_below digits is = ltb-true (digits_value 10 digits) (2 ^ 32) (and_parts _ _ is).1

number_below : (digits : Text) (count : ℕ) → number_of digits ≡ Some count → count ≤ greatest
number_below digits count is =
    let parts = number_parts digits count is in
    let below = value_below digits parts.0 in
    omega (arith, parts.1)

-- every number is in the range of frames
frames_in : (digits : Text) (count : ℕ) → number_of digits ≡ Some count
    → number_in 0 greatest digits ≡ Some count
unfolding number_in
frames_in digits count is =
    rw (is, le-leb 0 count zero-le, le-leb count greatest (number_below digits count is)) refl

-- ---- requests

name_no_dash : (name : Text) → is_plain_name name ≡ true → has_no_dash name ≡ true
name_no_dash [] plain = refl
name_no_dash (x ∷ xs) plain = plain

plain_frames_of : (grid frames : Text)
    → frames_given (plain_rows Frames grid frames) ≡ number_in 0 greatest frames
unfolding option_text plain_rows row
plain_frames_of grid frames = refl

plain_script_of : (grid script : Text)
    → positional_text (plain_rows Script grid script) (codes "SCRIPT") ≡ script
unfolding option_text plain_rows row
plain_script_of grid script = refl

frames_setup_of : (grid frames : Text)
    → setup_of (plain_rows Frames grid frames) ≡ Some (plain_setup grid)
unfolding setup_of portless_setup_of option_text plain_rows row
frames_setup_of grid frames = refl

script_setup_of : (grid script : Text)
    → setup_of (plain_rows Script grid script) ≡ Some (plain_setup grid)
unfolding setup_of portless_setup_of option_text plain_rows row
script_setup_of grid script = refl

-- by a form of a grid and frames
module _ (word : Text) (options : List Text) (grid frames : Text) (count : ℕ)
    (plain : is_plain_name grid ≡ true) (is : number_of frames ≡ Some count) where
  frames_asked : (v : Verb)
      → request_in_form (grid_form Frames word options v) (grid ∷ frames ∷ [])
      ≡ request_by v (plain_rows Frames grid frames)
  unfolding request_in_form
  frames_asked v =
      let name = name_no_dash grid plain in
      let digits = number_no_dash frames count is in
      rw (
        plain_accepted word options v grid frames name digits Frames,
        plain_found word options v grid frames name digits Frames,
      ) refl

  pub asks_run : request_in_form (grid_form Frames word options verb.Run)
      (grid ∷ frames ∷ []) ≡ Some (Perform (plain_setup grid) (Run count))
  unfolding request_by
  asks_run = frames_asked verb.Run ∙ rw (
    plain_frames_of grid frames,
    frames_in frames count is,
    frames_setup_of grid frames,
  ) refl

  pub asks_events : request_in_form (grid_form Frames word options verb.Events)
      (grid ∷ frames ∷ []) ≡ Some (Perform (plain_setup grid) (Events count))
  unfolding request_by
  asks_events = frames_asked verb.Events ∙ rw (
    plain_frames_of grid frames,
    frames_in frames count is,
    frames_setup_of grid frames,
  ) refl

-- by a form of a grid and a script
module _ (word : Text) (options : List Text) (grid script : Text)
    (plain : is_plain_name grid ≡ true) (plain_script : is_plain_name script ≡ true) where
  script_asked : request_in_form (grid_form Script word options verb.Replay)
      (grid ∷ script ∷ []) ≡ request_by verb.Replay (plain_rows Script grid script)
  unfolding request_in_form
  script_asked =
      let name = name_no_dash grid plain in
      let other = name_no_dash script plain_script in
      rw (
        plain_accepted word options verb.Replay grid script name other Script,
        plain_found word options verb.Replay grid script name other Script,
      ) refl

  pub asks_replay : request_in_form (grid_form Script word options verb.Replay)
      (grid ∷ script ∷ []) ≡ Some (Perform (plain_setup grid) (Replay script))
  unfolding request_by
  asks_replay = script_asked ∙ rw (
    plain_script_of grid script,
    script_setup_of grid script,
  ) refl
