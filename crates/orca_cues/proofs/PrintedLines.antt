-- A script that is printed line by line in format 2.
use Rattle.std.proofs.Common.{◌≡◌, ℕ, ◌+◌, ◌≤◌, Bool, Some, None, Ok, Err, List, [], ◌∷◌, ◌++◌, length, refl, sym, ◌∙◌, ap, subst, append_assoc, append-nil}
use Rattle.std.specs.Prelude.{All, Option, Result}
use Rattle.std.specs.Str.Lines.{lines}
use Rattle.std.proofs.lemmas.List.Elements.{All-append, All-cons, All-replicate}
use Rattle.orca_base.specs.declared.command.Command.{Command}
use Rattle.orca_base.specs.declared.command.Command.TheVariants.{Frame}
use Rattle.orca_base.specs.declared.limits.TheConstants.{MAX_FILE_BYTES}
use Rattle.orca_script.specs.Canonical.{HasValues, line_of}
use Rattle.orca_script.specs.Runs.{LineHasValues, commands_of, printed_header, printed_script, text_behind}
use Rattle.orca_script.specs.declared.format_2.Line.{Line}
use Rattle.orca_script.specs.declared.format_2.Line.TheVariants as asks
use Rattle.orca_script.specs.declared.refusal.ScriptRefusal.{ScriptRefusal}
use Rattle.orca_script.proofs.RunLines.{frame_values}
use Rattle.orca_cues.specs.Readable.{AreReadable}
use Rattle.orca_cues.specs.Scripts.{commands_of_cues, cue_asking, cue_read, cues_of, reading_at}
use Rattle.orca_cues.specs.declared.source.Cue.{Cue}
use Rattle.orca_cues.proofs.Checking.{readable-more, readable-start}

-- ---- the commands of lines

abbrev pub commands_from : Bool → ℕ → List (List ℕ) → List Command
commands_from format_2 number left = commands_of_cues (cues_of format_2 number left)

asked_commands : (number : ℕ) (asked : Line) (cues : List Cue)
    → commands_of_cues (cue_asking number asked ∷ cues)
    ≡ commands_of asked ++ commands_of_cues cues
asked_commands number (asks.Do command) cues = refl
asked_commands number (asks.Frames times) cues = refl

commands_more : (format_2 : Bool) (number : ℕ) (line : List ℕ) (left : List (List ℕ))
    (asked : Line) → reading_at format_2 number line ≡ Ok (Some asked)
    → commands_from format_2 number (line ∷ left)
    ≡ commands_of asked ++ commands_from format_2 (number + 1) left
unfolding cues_of
commands_more format_2 number line left asked read =
    rw read (asked_commands number asked (cues_of format_2 (number + 1) left))

-- a line that asks for nothing
abbrev pub AsksNothing : Result (Option Line) ScriptRefusal → Type 0
AsksNothing (Ok (Some asked)) = ⊥
AsksNothing read = Unit {0}

pub reads_nothing : (read other : Result (Option Line) ScriptRefusal) → read ≡ other
    → AsksNothing other → AsksNothing read
reads_nothing read other is none = subst AsksNothing (sym is) none

cue_none : (number : ℕ) (read : Result (Option Line) ScriptRefusal) → AsksNothing read
    → cue_read number read ≡ []
cue_none number (Ok None) none = refl
cue_none number (Ok (Some asked)) none = absurd none
cue_none number (Err refusal) none = refl

commands_same : (format_2 : Bool) (number : ℕ) (line : List ℕ) (left : List (List ℕ))
    → AsksNothing (reading_at format_2 number line)
    → commands_from format_2 number (line ∷ left) ≡ commands_from format_2 (number + 1) left
unfolding cues_of
commands_same format_2 number line left none =
    ap (λ cues. commands_of_cues (cues ++ cues_of format_2 (number + 1) left))
    (cue_none number (reading_at format_2 number line) none)

pub commands_nil : (format_2 : Bool) (number : ℕ) → commands_from format_2 number [] ≡ []
unfolding cues_of
commands_nil format_2 number = refl

-- ---- values

asked_values : (asked : Line) → LineHasValues asked
    → All (λ command. HasValues (line_of command)) (commands_of asked)
asked_values (asks.Do command) values =
    All-cons (λ command. HasValues (line_of command)) command [] values
    (All-replicate (λ command. HasValues (line_of command)) 0 Frame frame_values)
asked_values (asks.Frames times) values =
    All-replicate (λ command. HasValues (line_of command)) times Frame frame_values

-- ---- so many lines were printed

pub record Prints (format_2 : Bool) (seed : ℕ) (text before : List ℕ) (number : ℕ)
    (left : List (List ℕ)) (now : List ℕ) (frames : ℕ) : Type 0 where
  pub readable : AreReadable number left
  pub same : now ++ text_behind frames (commands_from format_2 (number + 1) left)
      ≡ before ++ printed_script seed (commands_from format_2 1 (lines text))
  pub done : List Command
  pub values : All (λ command. HasValues (line_of command)) done
  pub whole : done ++ commands_from format_2 (number + 1) left
      ≡ commands_from format_2 1 (lines text)

pub prints_start : (format_2 : Bool) (seed : ℕ) (text before now : List ℕ)
    → length text ≤ MAX_FILE_BYTES → now ≡ before ++ printed_header seed
    → Prints format_2 seed text before 0 (lines text) now 0
prints_start format_2 seed text before now short is = record {
  readable = readable-start text short;
  same = let commands = commands_from format_2 1 (lines text) in
      ap (λ now. now ++ text_behind 0 commands) is
      ∙ append_assoc before (printed_header seed) (text_behind 0 commands);
  done = [];
  values = All-replicate (λ command. HasValues (line_of command)) 0 Frame frame_values;
  whole = refl;
}

module _ (format_2 : Bool) (seed : ℕ) (text before : List ℕ) (number : ℕ) (line : List ℕ)
    (left : List (List ℕ)) (now : List ℕ) (frames : ℕ)
    (prints : Prints format_2 seed text before number (line ∷ left) now frames) where
  abbrev rest : List Command
  rest = commands_from format_2 (number + 1 + 1) left

  pub prints_more : (asked : Line) (after : List ℕ) (more : ℕ)
      → reading_at format_2 (number + 1) line ≡ Ok (Some asked) → LineHasValues asked
      → ((others : List Command) → after ++ text_behind more others
      ≡ now ++ text_behind frames (commands_of asked ++ others))
      → Prints format_2 seed text before (number + 1) left after more
  prints_more asked after more read values added =
      let split = commands_more format_2 (number + 1) line left asked read in
      record {
        readable = readable-more number line left prints.readable;
        same = added rest
            ∙ (ap (λ commands. now ++ text_behind frames commands) (sym split) ∙ prints.same);
        done = prints.done ++ commands_of asked;
        values = All-append (λ command. HasValues (line_of command)) prints.done
            (commands_of asked) prints.values (asked_values asked values);
        whole = append_assoc prints.done (commands_of asked) rest
            ∙ (ap (λ commands. prints.done ++ commands) (sym split) ∙ prints.whole);
      }

  pub prints_same : AsksNothing (reading_at format_2 (number + 1) line)
      → Prints format_2 seed text before (number + 1) left now frames
  prints_same none =
      let same = commands_same format_2 (number + 1) line left none in
      record {
        readable = readable-more number line left prints.readable;
        same = ap (λ commands. now ++ text_behind frames commands) (sym same) ∙ prints.same;
        done = prints.done;
        values = prints.values;
        whole = ap (λ commands. prints.done ++ commands) (sym same) ∙ prints.whole;
      }

-- all lines were printed
module _ (format_2 : Bool) (seed : ℕ) (text before : List ℕ) (number : ℕ) (now : List ℕ)
    (frames : ℕ) (prints : Prints format_2 seed text before number [] now frames) where
  pub prints_all : (after : List ℕ) → after ≡ now ++ text_behind frames []
      → after ≡ before ++ printed_script seed (commands_from format_2 1 (lines text))
  prints_all after is =
      is ∙ (ap (λ commands. now ++ text_behind frames commands)
      (sym (commands_nil format_2 (number + 1))) ∙ prints.same)

  pub values_all : All (λ command. HasValues (line_of command))
      (commands_from format_2 1 (lines text))
  values_all =
      subst (All (λ command. HasValues (line_of command)))
      (sym (append-nil prints.done)
      ∙ (ap (λ commands. prints.done ++ commands) (sym (commands_nil format_2 (number + 1)))
      ∙ prints.whole)) prints.values
