-- The first commands of a script, printed line by line.
use Rattle.std.proofs.Common.{◌≡◌, ℕ, ◌+◌, ◌-◌, ◌<◌, ◌≤◌, zero, suc, Some, None, List, [], ◌∷◌, ◌++◌, length, take, refl, sym, ◌∙◌, ap, subst, append_assoc, append-nil, arith}
use Rattle.std.specs.Prelude.{All, Option, replicate}
use Rattle.std.proofs.Math.Seq.{take-append-add}
use Rattle.std.proofs.lemmas.List.{length-replicate, take-append-le, take-replicate}
use Rattle.std.proofs.lemmas.List.Elements.{All-append, All-cons, All-replicate}
use Rattle.orca_base.specs.declared.command.Command.{Command}
use Rattle.orca_base.specs.declared.command.Command.TheVariants.{Frame}
use Rattle.orca_script.specs.Canonical.{HasValues, line_of}
use Rattle.orca_script.specs.Runs.{LineHasValues, commands_of, printed_header, printed_script, text_behind}
use Rattle.orca_script.specs.declared.format_2.Line.{Line}
use Rattle.orca_script.specs.declared.format_2.Line.TheVariants as asks
use Rattle.orca_script.proofs.RunLines.{frame_values}
use Rattle.orca_cues.specs.Scripts.{commands_of_cues, cue_asking}
use Rattle.orca_cues.specs.declared.source.Cue.{Cue}
use Rattle.orca_rooms.specs.Sound.{first_commands}

-- ---- so many first commands

pub take_all : (times most : ℕ) (rest : List Command) → times ≤ most
    → take most (replicate times Frame ++ rest)
    ≡ replicate times Frame ++ take (most - times) rest
take_all times most rest below =
    let many : length (replicate times Frame) ≡ times = length-replicate times Frame in
    let all : length (replicate times Frame) + (most - times) ≡ most = omega (arith, many, below) in
    subst (λ (k : ℕ). take k (replicate times Frame ++ rest)
    ≡ replicate times Frame ++ take (most - times) rest) all
    (take-append-add (replicate times Frame) rest (most - times))

pub take_some : (times most : ℕ) (rest : List Command) → most < times
    → take most (replicate times Frame ++ rest) ≡ replicate most Frame ++ take 0 rest
take_some times most rest below =
    let many : length (replicate times Frame) ≡ times = length-replicate times Frame in
    take-append-le most (replicate times Frame) rest (omega (arith, many, below))
    ∙ (take-replicate most times Frame (omega (arith, below)) ∙ sym (append-nil _))

pub take_one : (command : Command) (most : ℕ) (rest : List Command) → 1 ≤ most
    → take most (command ∷ rest) ≡ command ∷ take (most - 1) rest
take_one command zero rest some = absurd (omega (arith, some))
take_one command (suc most) rest some =
    let less : suc most - 1 ≡ most = omega arith in rw less refl

-- ---- the commands of lines

pub asked_commands : (number : ℕ) (asked : Line) (cues : List Cue)
    → commands_of_cues (cue_asking number asked ∷ cues)
    ≡ commands_of asked ++ commands_of_cues cues
asked_commands number (asks.Do command) cues = refl
asked_commands number (asks.Frames times) cues = refl

asked_values : (asked : Line) → LineHasValues asked
    → All (λ command. HasValues (line_of command)) (commands_of asked)
asked_values (asks.Do command) values =
    All-cons (λ command. HasValues (line_of command)) command [] values
    (All-replicate (λ command. HasValues (line_of command)) 0 Frame frame_values)
asked_values (asks.Frames times) values =
    All-replicate (λ command. HasValues (line_of command)) times Frame frame_values

-- nothing is left of no cues
pub first_nil : (most : Option ℕ) → first_commands most [] ≡ []
first_nil None = refl
first_nil (Some zero) = refl
first_nil (Some (suc most)) = refl

-- ---- what was printed so far of these commands

pub record Prints (seed : ℕ) (all : List Command) (before : List ℕ) (most : Option ℕ)
    (cues : List Cue) (now : List ℕ) (frames : ℕ) : Type 0 where
  pub same : now ++ text_behind frames (first_commands most (commands_of_cues cues))
      ≡ before ++ printed_script seed all
  pub done : List Command
  pub values : All (λ command. HasValues (line_of command)) done
  pub whole : done ++ first_commands most (commands_of_cues cues) ≡ all

pub prints_start : (seed : ℕ) (before now : List ℕ) (most : Option ℕ) (cues : List Cue)
    → now ≡ before ++ printed_header seed
    → Prints seed (first_commands most (commands_of_cues cues)) before most cues now 0
prints_start seed before now most cues is = record {
  same = let commands = first_commands most (commands_of_cues cues) in
      ap (λ (now : List ℕ). now ++ text_behind 0 commands) is
      ∙ append_assoc before (printed_header seed) (text_behind 0 commands);
  done = [];
  values = All-replicate (λ command. HasValues (line_of command)) 0 Frame frame_values;
  whole = refl;
}

module _ (seed : ℕ) (all : List Command) (before : List ℕ) (most : Option ℕ) (cues : List Cue)
    (now : List ℕ) (frames : ℕ) (prints : Prints seed all before most cues now frames) where
  -- a line, or so many first commands of it
  pub prints_more : (number : ℕ) (asked first : Line) (others : Option ℕ) (rest : List Cue)
      (after : List ℕ) (more : ℕ) → cues ≡ cue_asking number asked ∷ rest
      → ((left : List Command) → first_commands most (commands_of asked ++ left)
      ≡ commands_of first ++ first_commands others left)
      → LineHasValues first
      → ((left : List Command) → after ++ text_behind more left
      ≡ now ++ text_behind frames (commands_of first ++ left))
      → Prints seed all before others rest after more
  prints_more number asked first others rest after more is cut values added =
      let left = first_commands others (commands_of_cues rest) in
      let split : first_commands most (commands_of_cues cues) ≡ commands_of first ++ left =
      ap (λ (cues : List Cue). first_commands most (commands_of_cues cues)) is
      ∙ (ap (first_commands most) (asked_commands number asked rest)
      ∙ cut (commands_of_cues rest)) in
      record {
        same = added left
            ∙ (ap (λ (commands : List Command). now ++ text_behind frames commands) (sym split)
            ∙ prints.same);
        done = prints.done ++ commands_of first;
        values = All-append (λ command. HasValues (line_of command)) prints.done
            (commands_of first) prints.values (asked_values first values);
        whole = append_assoc prints.done (commands_of first) left
            ∙ (ap (λ (commands : List Command). prints.done ++ commands) (sym split) ∙ prints.whole);
      }

-- all lines were printed
module _ (seed : ℕ) (all : List Command) (before : List ℕ) (most : Option ℕ) (now : List ℕ)
    (frames : ℕ) (prints : Prints seed all before most [] now frames) where
  pub prints_all : (after : List ℕ) → after ≡ now ++ text_behind frames []
      → after ≡ before ++ printed_script seed all
  prints_all after is =
      is ∙ (ap (λ (commands : List Command). now ++ text_behind frames commands)
      (sym (first_nil most)) ∙ prints.same)

  pub values_all : All (λ command. HasValues (line_of command)) all
  values_all =
      subst (All (λ command. HasValues (line_of command)))
      (sym (append-nil prints.done)
      ∙ (ap (λ (commands : List Command). prints.done ++ commands) (sym (first_nil most))
      ∙ prints.whole)) prints.values
