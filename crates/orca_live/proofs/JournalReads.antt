-- The text of a journal is read as its seed and its commands.
use Rattle.std.proofs.Common.{◌≡◌, ◌==◌, ℕ, ◌+◌, ◌≤◌, false, true, arith, List, [], ◌∷◌, refl, ap, ◌∙◌}
use Rattle.std.specs.Prelude.{All, None, map}
use Rattle.std.specs.List.{flat_map}
use Rattle.std.specs.Str.Lines.{lines}
use Rattle.std.proofs.lemmas.Bool.{ne_eqb}
use Rattle.std.proofs.lemmas.List.Elements.{All-cons, All-head, All-tail}
use Rattle.orca_base.specs.declared.command.Command.{Command}
use Rattle.orca_base.specs.declared.command.Command.TheVariants.{Frame}
use Rattle.orca_cues.specs.Scripts.{cues_asking, cues_of, first_fault}
use Rattle.orca_cues.proofs.Printed.{script2_read}
use Rattle.orca_script.specs.Canonical.{HasValues, line_of, printed}
use Rattle.orca_script.specs.Runs.{LineReadsBack, lines_behind, run_of, text_behind}
use Rattle.orca_script.specs.declared.format_2.Line.TheVariants.{Do}
use Rattle.orca_script.proofs.RunsReadBack.{script_reads_back}
use Rattle.orca_live.specs.Journals.{JournalsAreScripts}

-- a command has values
abbrev Valued : Command → Type 0
Valued command = HasValues (line_of command)

valued_none : All Valued []
valued_none k d below = absurd (omega (arith, below))

-- a command alone is one line, also where it is a frame
single_line : (command : Command) → lines_behind 0 (command ∷ []) ≡ Do command ∷ []
unfolding lines_behind run_of
single_line Frame = refl
single_line _ = refl

-- so its line is read as it
line_back : (command : Command) → Valued command → LineReadsBack (Do command)
line_back command values =
    let back = script_reads_back 0 (command ∷ []) (omega arith)
    (All-cons Valued command [] values valued_none) in
    All-head LineReadsBack (Do command) [] (rw single_line at back.others)

-- printed commands, the first of which has this number
pub record AreRead (number : ℕ) (commands : List Command) : Type 0 where
  pub faultless : first_fault true number (lines (flat_map printed commands)) ≡ None
  pub cues : cues_of true number (lines (flat_map printed commands))
      ≡ cues_asking number (map Do commands)

read_more : (number : ℕ) (command : Command) (others : List Command) → 2 ≤ number
    → LineReadsBack (Do command) → AreRead (number + 1) others
    → AreRead number (command ∷ others)
unfolding first_fault cues_of
read_more number command others later back read =
    let rest = flat_map printed others in
    let behind : (number == 1) ≡ false = ne_eqb number 1 (λ e. omega (arith, e, later)) in
    record {
      faultless = ap (first_fault true number) (back.line rest)
          ∙ rw (behind, back.read) read.faultless;
      cues = ap (cues_of true number) (back.line rest)
          ∙ rw (behind, back.read, read.cues) refl;
    }

pub read_all : (number : ℕ) (commands : List Command) → 2 ≤ number → All Valued commands
    → AreRead number commands
unfolding first_fault cues_of
read_all number [] later values = record { faultless = refl; cues = refl }
read_all number (command ∷ others) later values =
    read_more number command others later
    (line_back command (All-head Valued command others values))
    (read_all (number + 1) others (omega (arith, later)) (All-tail Valued command others values))

pub journals_are_scripts : JournalsAreScripts
unfolding first_fault cues_of
journals_are_scripts seed commands small values =
    let back = script_reads_back seed [] small valued_none in
    let rest = flat_map printed commands in
    let read = read_all 2 commands (omega arith) values in
    let alone = (script2_read seed [] back).1 in
    record {
      seeds = rw (back.first rest) (rw (back.first (text_behind 0 [])) at alone);
      cues = rw (back.first rest, back.header, read.faultless, read.cues) refl;
    }
