-- A printed script of format 2 is read as its seed and its commands.
use Rattle.std.proofs.Common.{◌≡◌, ℕ, zero, suc, ◌+◌, ◌*◌, ◌/◌, ◌%◌, ◌^◌, ◌<◌, ◌==◌, Bool, true, false, eqb, List, [], ◌∷◌, ◌++◌, None, Some, Ok, refl, sym, ap, ◌∙◌, arith, append_assoc}
use Rattle.std.specs.Prelude.{if◌then◌else◌, replicate, codes}
use Rattle.std.specs.List.{flat_map, All}
use Rattle.std.specs.Fmt.{decimal}
use Rattle.std.proofs.Math.Nat.{mod-lt}
use Rattle.std.proofs.lemmas.Bool.{eqb-true}
use Rattle.std.proofs.lemmas.Grind.{flat_map-append, replicate_next}
use Rattle.std.proofs.lemmas.List.{append-nil, replicate-append-replicate}
use Rattle.std.proofs.lemmas.List.Elements.{All-append, All-replicate, All-cons, All-head, All-tail}
use Rattle.std.proofs.lemmas.Nat.{div-add-mod'}
use Rattle.orca_base.specs.declared.command.Command.{Command}
use Rattle.orca_base.specs.declared.command.Command.TheVariants.{Frame}
use Rattle.orca_script.specs.declared.format_2.Line.{Line}
use Rattle.orca_script.specs.declared.format_2.Line.TheVariants.{Do, Frames}
use Rattle.orca_script.specs.Canonical.{line_with, line_text, line_of, HasValues}
use Rattle.orca_script.specs.Format2.{header_seed, header_reading, line_frames, line_asks, reading2}
use Rattle.orca_script.specs.Grammar.{words_of, line_forms, line_command}
use Rattle.orca_script.specs.Runs.{header_words, canonical_header, words_asking, canonical2, commands_of, most_frames, short_run, run_of, is_frame, lines_behind, LineReadsBack, ScriptReadsBack, LineHasValues}
use Rattle.orca_script.proofs.ReadsBack.{number_of-decimal, words-spaced, reads, has_command, one_line, spaced_shown, shown_line}
use Rattle.orca_script.proofs.RunLines.{names_frame, frame_values}
use Rattle.orca_script.proofs.Words.{words-plain, later-space}

-- ---- the values of the lines

one_small : (n : ℕ) → n < 2 ^ 32 → All (λ number. number < 2 ^ 32) (n ∷ [])
one_small n small =
    All-cons (λ number. number < 2 ^ 32) n [] small (λ k d below. absurd (omega arith))

frames_values : (n : ℕ) → n < 2 ^ 32 → LineHasValues (Frames n)
frames_values n small = record { small = one_small n small; visible = tt }

single : (asked : Line) → LineHasValues asked → All LineHasValues (asked ∷ [])
single asked values =
    All-cons LineHasValues asked [] values (λ k d below. absurd (omega arith))

short_valued : (none one : Bool) (n : ℕ) → n < 2 ^ 32 →
    All LineHasValues (if none then [] else if one then Do Frame ∷ [] else Frames n ∷ [])
short_valued true one n small = λ k d below. absurd (omega arith)
short_valued false true n small = single (Do Frame) frame_values
short_valued false false n small = single (Frames n) (frames_values n small)

run_valued : (n : ℕ) → All LineHasValues (run_of n)
unfolding run_of
run_valued n =
    let rest = n % most_frames in
    let below : rest < most_frames = mod-lt n (omega arith) in
    All-append LineHasValues (replicate (n / most_frames) (Frames most_frames)) (short_run rest)
    (All-replicate LineHasValues (n / most_frames) (Frames most_frames)
    (frames_values most_frames (omega arith)))
    (short_valued (rest == 0) (rest == 1) rest (omega (arith, below)))

behind_either : (is : Bool) (command : Command) (commands : List Command) (frames : ℕ) →
    HasValues (line_of command) → All LineHasValues (lines_behind (frames + 1) commands) →
    All LineHasValues (lines_behind 0 commands) →
    All LineHasValues (if is then lines_behind (frames + 1) commands
    else run_of frames ++ Do command ∷ lines_behind 0 commands)
behind_either true command commands frames values more none = more
behind_either false command commands frames values more none =
    All-append LineHasValues (run_of frames) (Do command ∷ lines_behind 0 commands)
    (run_valued frames)
    (All-cons LineHasValues (Do command) (lines_behind 0 commands) values none)

behind_valued : (commands : List Command) (frames : ℕ) →
    All (λ command. HasValues (line_of command)) commands →
    All LineHasValues (lines_behind frames commands)
unfolding lines_behind
behind_valued [] frames values = run_valued frames
behind_valued (command ∷ commands) frames values =
    let rest = All-tail (λ c. HasValues (line_of c)) command commands values in
    behind_either (is_frame command) command commands frames
    (All-head (λ c. HasValues (line_of c)) command commands values)
    (behind_valued commands (frames + 1) rest) (behind_valued commands 0 rest)

-- ---- each line is read

frames_asked : (n : ℕ) → n < 2 ^ 32 → line_asks (canonical2 (Frames n)) ≡ Some (Frames n)
unfolding line_asks line_command line_frames line_forms
frames_asked n small =
    rw (
      words-spaced (codes "frames") (n ∷ []) None (omega arith) refl (frames_values n small),
      number_of-decimal n small,
    ) refl

line_back : (asked : Line) → LineHasValues asked → LineReadsBack asked
unfolding reading2 line_asks
line_back (Do command) values = record {
  read = rw (has_command command, reads command values) refl;
  line = λ rest. one_line command rest values;
}
line_back (Frames n) values =
    record {
      read = rw (frames_asked n (values.small 0 0 (omega arith))) refl;
      line = λ rest. shown_line (canonical2 (Frames n)) rest
          (spaced_shown (words_asking (Frames n)) refl values);
    }

-- ---- the first line

header_values : (seed : ℕ) → seed < 2 ^ 32 → HasValues (header_words seed)
header_values seed small = record { small = one_small seed small; visible = tt }

abbrev seed_words : ℕ → List ℕ
seed_words seed = line_text (line_with (codes "seed") (seed ∷ []) None)

header_split : (seed : ℕ) → seed < 2 ^ 32 →
    words_of (canonical_header seed)
    ≡ codes "!orca" ∷ codes "2" ∷ codes "seed" ∷ decimal seed ∷ []
header_split seed small =
    words-plain 33 (codes "orca") (32 ∷ 50 ∷ 32 ∷ seed_words seed) refl
    ∙ ap (λ (words : List (List ℕ)). codes "!orca" ∷ words)
    (later-space 32 (50 ∷ 32 ∷ seed_words seed) refl
    ∙ (words-plain 50 [] (32 ∷ seed_words seed) refl
    ∙ ap (λ (words : List (List ℕ)). codes "2" ∷ words)
    (later-space 32 (seed_words seed) refl
    ∙ words-spaced (codes "seed") (seed ∷ []) None (omega arith) refl
    (record { small = one_small seed small; visible = tt }))))

header_back : (seed : ℕ) → seed < 2 ^ 32 → header_reading (canonical_header seed) ≡ Ok seed
unfolding header_reading header_seed
header_back seed small = rw (header_split seed small, number_of-decimal seed small) refl

-- ---- the commands of the lines

full_same : (most n : ℕ) →
    flat_map commands_of (replicate n (Frames most)) ≡ replicate (n * most) Frame
full_same most zero = let none : 0 * most ≡ 0 = omega arith in rw none refl
full_same most (suc n) =
    let sum : most + n * most ≡ suc n * most = omega arith in
    ap (λ (frames : List Command). replicate most Frame ++ frames) (full_same most n)
    ∙ (replicate-append-replicate most (n * most) Frame
    ∙ ap (λ (k : ℕ). replicate k Frame) sum)

short_either : (none one : Bool) (n : ℕ) → eqb n 0 ≡ none → eqb n 1 ≡ one →
    flat_map commands_of (if none then [] else if one then Do Frame ∷ [] else Frames n ∷ [])
    ≡ replicate n Frame
short_either true one n e f = let at : n ≡ 0 = eqb-true n 0 e in rw at refl
short_either false true n e f = let at : n ≡ 1 = eqb-true n 1 f in rw at refl
short_either false false n e f = append-nil (replicate n Frame)

run_same : (n : ℕ) → flat_map commands_of (run_of n) ≡ replicate n Frame
unfolding run_of
run_same n =
    let full = n / most_frames in
    let rest = n % most_frames in
    flat_map-append commands_of (replicate full (Frames most_frames)) (short_run rest)
    ∙ (ap (λ (frames : List Command). frames ++ flat_map commands_of (short_run rest))
    (full_same most_frames full)
    ∙ (ap (λ (frames : List Command). replicate (full * most_frames) Frame ++ frames)
    (short_either (eqb rest 0) (eqb rest 1) rest refl refl)
    ∙ (replicate-append-replicate (full * most_frames) rest Frame
    ∙ ap (λ (k : ℕ). replicate k Frame) (div-add-mod' n most_frames))))

same_either : (is : Bool) (command : Command) (commands : List Command) (frames : ℕ) →
    is_frame command ≡ is →
    flat_map commands_of (lines_behind (frames + 1) commands)
    ≡ replicate (frames + 1) Frame ++ commands →
    flat_map commands_of (lines_behind 0 commands) ≡ commands →
    flat_map commands_of (if is then lines_behind (frames + 1) commands
    else run_of frames ++ Do command ∷ lines_behind 0 commands)
    ≡ replicate frames Frame ++ command ∷ commands
same_either true command commands frames e more none =
    let at : command ≡ Frame = names_frame command e in
    rw at (more
    ∙ (ap (λ (list : List Command). list ++ commands) (replicate_next frames Frame)
    ∙ append_assoc (replicate frames Frame) (Frame ∷ []) commands))
same_either false command commands frames e more none =
    flat_map-append commands_of (run_of frames) (Do command ∷ lines_behind 0 commands)
    ∙ (ap (λ (list : List Command). list ++ command ∷ flat_map commands_of (lines_behind 0 commands))
    (run_same frames)
    ∙ ap (λ (list : List Command). replicate frames Frame ++ command ∷ list) none)

pub behind_same : (commands : List Command) (frames : ℕ) →
    flat_map commands_of (lines_behind frames commands) ≡ replicate frames Frame ++ commands
unfolding lines_behind
behind_same [] frames = run_same frames ∙ sym (append-nil (replicate frames Frame))
behind_same (command ∷ commands) frames =
    same_either (is_frame command) command commands frames refl
    (behind_same commands (frames + 1)) (behind_same commands 0)

-- ---- the script

pub script_reads_back : (seed : ℕ) (commands : List Command) → seed < 2 ^ 32 →
    All (λ command. HasValues (line_of command)) commands → ScriptReadsBack seed commands
script_reads_back seed commands small values =
    let valued = behind_valued commands 0 values in
    record {
      header = header_back seed small;
      first = λ rest. shown_line (canonical_header seed) rest
          (spaced_shown (header_words seed) refl (header_values seed small));
      others = λ k d below. line_back _ (valued k d below);
      same = behind_same commands 0;
    }
