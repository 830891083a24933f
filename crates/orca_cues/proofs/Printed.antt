-- The script of printed commands.
use Rattle.std.proofs.Common.{◌≡◌, ℕ, ◌+◌, ◌≤◌, ◌==◌, true, false, Option, Some, None, Ok, List, [], ◌∷◌, refl, ap, ◌∙◌, arith}
use Rattle.std.specs.Prelude.{All}
use Rattle.std.specs.List.{flat_map}
use Rattle.std.specs.Option.{option_map_or}
use Rattle.std.specs.Str.Lines.{lines}
use Rattle.std.proofs.lemmas.Bool.{ne_eqb}
use Rattle.std.proofs.lemmas.List.Elements.{All-head, All-tail}
use Rattle.orca_base.specs.declared.command.Command.{Command}
use Rattle.orca_script.specs.Canonical.{printed, line_of, HasValues}
use Rattle.orca_script.specs.declared.format_2.Line.{Line}
use Rattle.orca_script.specs.Format2.{header_seed, header_reading, refused_at}
use Rattle.orca_script.specs.Runs.{lines_behind, printed2, printed_script, text_behind, CommandReadsBack, LineReadsBack, ScriptReadsBack}
use Rattle.orca_script.proofs.ReadsBack.{reads_back, one_line}
use Rattle.orca_cues.specs.Scripts.{any_script_of, cues_of, cues_asking, first_fault, script_of, seed_in, one_a_line}

-- the lines of printed commands, the first of which has this number
pub record IsRead (number : ℕ) (commands : List Command) : Type 0 where
  pub faultless : first_fault false number (lines (flat_map printed commands)) ≡ None
  pub cues : cues_of false number (lines (flat_map printed commands)) ≡ one_a_line number commands

read_more : (number : ℕ) (command : Command) (others : List Command) → CommandReadsBack command →
    IsRead (number + 1) others → IsRead number (command ∷ others)
unfolding first_fault cues_of
read_more number command others back read =
    let rest = flat_map printed others in
    record {
      faultless = ap (first_fault false number) (back.line rest) ∙ rw (back.read) read.faultless;
      cues = ap (cues_of false number) (back.line rest) ∙ rw (back.read, read.cues) refl;
    }

read_all : (number : ℕ) (commands : List Command) → All CommandReadsBack commands →
    IsRead number commands
unfolding first_fault cues_of
read_all number [] back = record { faultless = refl; cues = refl }
read_all number (command ∷ others) back =
    read_more number command others (All-head CommandReadsBack command others back)
    (read_all (number + 1) others (All-tail CommandReadsBack command others back))

pub script_read : (commands : List Command) → All CommandReadsBack commands →
    script_of (flat_map printed commands) ≡ Ok (one_a_line 1 commands)
script_read commands back =
    let read = read_all 1 commands back in
    rw (read.faultless, read.cues) refl

-- a command whose numbers have 32 bits reads back
reads_by_values : (command : Command) → HasValues (line_of command) → CommandReadsBack command
reads_by_values command values = record {
  read = reads_back command values;
  line = λ rest. one_line command rest values;
}

pub script_printed : (commands : List Command) →
    All (λ command. HasValues (line_of command)) commands →
    script_of (flat_map printed commands) ≡ Ok (one_a_line 1 commands)
script_printed commands values =
    script_read commands (λ k d below. reads_by_values _ (values k d below))

-- ---- format 2

-- printed lines after the first, the first of which has this number
record AreRead (number : ℕ) (asked : List Line) : Type 0 where
  faultless : first_fault true number (lines (flat_map printed2 asked)) ≡ None
  cues : cues_of true number (lines (flat_map printed2 asked)) ≡ cues_asking number asked

asked_more : (number : ℕ) (asked : Line) (others : List Line) → 2 ≤ number → LineReadsBack asked →
    AreRead (number + 1) others → AreRead number (asked ∷ others)
unfolding first_fault cues_of
asked_more number asked others later back read =
    let rest = flat_map printed2 others in
    let behind : (number == 1) ≡ false = ne_eqb number 1 (λ e. omega (arith, e, later)) in
    record {
      faultless = ap (first_fault true number) (back.line rest)
          ∙ rw (behind, back.read) read.faultless;
      cues = ap (cues_of true number) (back.line rest)
          ∙ rw (behind, back.read, read.cues) refl;
    }

asked_all : (number : ℕ) (asked : List Line) → 2 ≤ number → All LineReadsBack asked →
    AreRead number asked
unfolding first_fault cues_of
asked_all number [] later back = record { faultless = refl; cues = refl }
asked_all number (asked ∷ others) later back =
    asked_more number asked others later (All-head LineReadsBack asked others back)
    (asked_all (number + 1) others (omega (arith, later))
    (All-tail LineReadsBack asked others back))

-- a first line that is read gives its seed
seed_read : (o : Option ℕ) (column seed : ℕ) →
    option_map_or (λ s. Ok s) o (refused_at {T = ℕ} column) ≡ Ok seed → o ≡ Some seed
seed_read None column seed e = absurd cc
seed_read (Some s) column seed e = cc

pub header_gives : (line : List ℕ) (seed : ℕ) → header_reading line ≡ Ok seed →
    header_seed line ≡ Some seed
unfolding header_reading
header_gives line seed e = seed_read (header_seed line) _ seed e

pub script2_read : (seed : ℕ) (commands : List Command) → ScriptReadsBack seed commands →
    (any_script_of (printed_script seed commands) ≡ Ok (cues_asking 2 (lines_behind 0 commands)))
    × (seed_in (printed_script seed commands) ≡ Some seed)
unfolding first_fault cues_of
script2_read seed commands back =
    let text = text_behind 0 commands in
    let read = asked_all 2 (lines_behind 0 commands) (omega arith) back.others in (
      rw (back.first text, back.header, read.faultless, read.cues) refl,
      rw (back.first text) (header_gives _ seed back.header),
    )
