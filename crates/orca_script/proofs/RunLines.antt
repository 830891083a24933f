-- The lines of runs of frames.
use Rattle.std.proofs.Common.{◌≡◌, ℕ, zero, suc, ◌+◌, ◌/◌, ◌%◌, ◌<◌, Bool, true, false, List, [], ◌∷◌, ◌++◌, refl, ap, ◌∙◌, arith, append_assoc}
use Rattle.std.specs.Prelude.{if◌then◌else◌, replicate}
use Rattle.std.specs.List.{flat_map}
use Rattle.std.proofs.Math.Nat.{div-eq_of_lt, mod-eq_of_lt, add-div_left, add-mod_left}
use Rattle.std.proofs.lemmas.Bool.{false≢true}
use Rattle.std.proofs.lemmas.Grind.{flat_map-append}
use Rattle.std.proofs.lemmas.List.{append-nil}
use Rattle.orca_base.specs.declared.command.Command.{Command}
use Rattle.orca_base.specs.declared.command.Command.TheVariants.{Frame, Write, Fill, Erase, Copy, Cut, Clip, Paste, Move, Resize, Reset, Undo, Rewind, Redo, Retract, Hush}
use Rattle.orca_script.specs.declared.format_2.Line.TheVariants.{Do, Frames}
use Rattle.orca_script.specs.Canonical.{line_of}
use Rattle.orca_script.specs.Runs.{LineHasValues, printed2, most_frames, short_run, run_of, is_frame, lines_behind, text_behind}

-- ---- one run

pub run_of-few : (n : ℕ) → n < most_frames → run_of n ≡ short_run n
unfolding run_of
run_of-few n few =
    let none : n / most_frames ≡ 0 = div-eq_of_lt few in
    let all : n % most_frames ≡ n = mod-eq_of_lt few in
    rw (none, all) refl

run_of-full : (n : ℕ) → run_of (most_frames + n) ≡ Frames most_frames ∷ run_of n
unfolding run_of
run_of-full n =
    let one : (most_frames + n) / most_frames ≡ n / most_frames + 1 =
    add-div_left n (omega arith) in
    let rest : (most_frames + n) % most_frames ≡ n % most_frames = add-mod_left most_frames n in
    let more : n / most_frames + 1 ≡ suc (n / most_frames) = omega arith in
    rw (one, rest, more) refl

-- ---- commands after a run

behind_full : (is : Bool) (command : Command) (commands : List Command) (n : ℕ) →
    lines_behind (most_frames + (n + 1)) commands
    ≡ Frames most_frames ∷ lines_behind (n + 1) commands →
    (if is then lines_behind (most_frames + n + 1) commands
    else run_of (most_frames + n) ++ Do command ∷ lines_behind 0 commands)
    ≡ Frames most_frames ∷ (if is then lines_behind (n + 1) commands
    else run_of n ++ Do command ∷ lines_behind 0 commands)
behind_full true command commands n ih =
    let same : most_frames + n + 1 ≡ most_frames + (n + 1) = omega arith in rw same ih
behind_full false command commands n ih =
    ap (λ lines. lines ++ Do command ∷ lines_behind 0 commands) (run_of-full n)

pub behind-full : (commands : List Command) (n : ℕ) →
    lines_behind (most_frames + n) commands ≡ Frames most_frames ∷ lines_behind n commands
unfolding lines_behind
behind-full [] n = run_of-full n
behind-full (command ∷ commands) n =
    behind_full (is_frame command) command commands n (behind-full commands (n + 1))

pub behind-frames : (n frames : ℕ) (commands : List Command) →
    lines_behind frames (replicate n Frame ++ commands) ≡ lines_behind (frames + n) commands
unfolding lines_behind
behind-frames zero frames commands =
    let same : frames + 0 ≡ frames = omega arith in rw same refl
behind-frames (suc n) frames commands =
    let same : frames + suc n ≡ frames + 1 + n = omega arith in
    rw same (behind-frames n (frames + 1) commands)

pub behind-other : (command : Command) (commands : List Command) (frames : ℕ) →
    is_frame command ≡ false → frames < most_frames →
    lines_behind frames (command ∷ commands)
    ≡ short_run frames ++ Do command ∷ lines_behind 0 commands
unfolding lines_behind
behind-other command commands frames other few = rw (other, run_of-few frames few) refl

pub behind-none : (frames : ℕ) → frames < most_frames → lines_behind frames [] ≡ short_run frames
unfolding lines_behind
behind-none frames few = run_of-few frames few

pub names_frame : (command : Command) → is_frame command ≡ true → command ≡ Frame
names_frame Frame e = refl
names_frame (Write y x glyph) e = absurd (false≢true e)
names_frame (Fill rect glyph) e = absurd (false≢true e)
names_frame (Erase rect) e = absurd (false≢true e)
names_frame (Copy rect) e = absurd (false≢true e)
names_frame (Cut rect) e = absurd (false≢true e)
names_frame (Clip y x glyph) e = absurd (false≢true e)
names_frame (Paste y x) e = absurd (false≢true e)
names_frame (Move rect y x) e = absurd (false≢true e)
names_frame (Resize h w) e = absurd (false≢true e)
names_frame Reset e = absurd (false≢true e)
names_frame Undo e = absurd (false≢true e)
names_frame (Rewind moment) e = absurd (false≢true e)
names_frame Redo e = absurd (false≢true e)
names_frame (Retract moment) e = absurd (false≢true e)
names_frame Hush e = absurd (false≢true e)

pub frame_values : LineHasValues (Do Frame)
unfolding line_of
frame_values = record { small = λ k d below. absurd (omega arith); visible = tt }

-- ---- what is added

-- so many frames, and no line is full
pub frames_kept : (frames n sum : ℕ) (text : List ℕ) (rest : List Command) → sum ≡ frames + n →
    text ++ text_behind sum rest ≡ text ++ text_behind frames (replicate n Frame ++ rest)
frames_kept frames n sum text rest e = rw (e, behind-frames n frames rest) refl

-- so many frames, and one line is full
pub frames_full : (frames n left : ℕ) (old new : List ℕ) (rest : List Command) →
    frames + n ≡ most_frames + left → new ≡ old ++ (printed2 (Frames most_frames) ++ []) →
    new ++ text_behind left rest ≡ old ++ text_behind frames (replicate n Frame ++ rest)
frames_full frames n left old new rest sum e =
    rw (behind-frames n frames rest, sum, behind-full rest left, e)
    (ap (λ line. (old ++ line) ++ text_behind left rest)
    (append-nil (printed2 (Frames most_frames)))
    ∙ append_assoc old (printed2 (Frames most_frames)) (text_behind left rest))

-- another command, after the run
pub other_added : (command : Command) (frames : ℕ) (old middle new : List ℕ) (rest : List Command) →
    is_frame command ≡ false → frames < most_frames →
    middle ≡ old ++ flat_map printed2 (short_run frames) → new ≡ middle ++ printed2 (Do command) →
    new ++ text_behind 0 rest ≡ old ++ text_behind frames (command ∷ rest)
other_added command frames old middle new rest other few first next =
    let run = flat_map printed2 (short_run frames) in
    let line = printed2 (Do command) in
    let more = text_behind 0 rest in
    rw (
      behind-other command rest frames other few,
      flat_map-append printed2 (short_run frames) (Do command ∷ lines_behind 0 rest),
      next,
      first,
    ) (append_assoc (old ++ run) line more ∙ append_assoc old run (line ++ more))
