-- A script of format 2 up to its first wrong line.
use Rattle.std.proofs.Common.{◌≡◌, ◌+◌, ℕ, true, Some, None, Ok, Err, List, [], ◌∷◌, ◌++◌, refl, ap}
use Rattle.std.specs.Prelude.{Option, Result}
use Rattle.std.specs.Option.{option_or}
use Rattle.std.specs.Str.Lines.{lines}
use Rattle.orca_script.specs.declared.format_2.Line.{Line}
use Rattle.orca_script.specs.declared.refusal.ScriptRefusal.{ScriptRefusal}
use Rattle.orca_cues.specs.Scripts.{cue_asking, cue_read, cues_of, fault_read, first_fault, reading_at}
use Rattle.orca_cues.specs.declared.fault.ScriptFault.{ScriptFault}
use Rattle.orca_cues.specs.declared.source.Cue.{Cue}
use Rattle.orca_rooms.specs.Sound.{sound_by, sound_cues}

-- ---- a line

pub sound-some : (number : ℕ) (line : List ℕ) (left : List (List ℕ)) (asked : Line)
    → reading_at true number line ≡ Ok (Some asked)
    → sound_cues number (line ∷ left) ≡ cue_asking number asked ∷ sound_cues (number + 1) left
unfolding sound_cues
sound-some number line left asked read = rw read refl

pub sound-none : (number : ℕ) (line : List ℕ) (left : List (List ℕ))
    → reading_at true number line ≡ Ok None
    → sound_cues number (line ∷ left) ≡ sound_cues (number + 1) left
unfolding sound_cues
sound-none number line left read = rw read refl

pub sound-wrong : (number : ℕ) (line : List ℕ) (left : List (List ℕ)) (refusal : ScriptRefusal)
    → reading_at true number line ≡ Err refusal → sound_cues number (line ∷ left) ≡ []
unfolding sound_cues
sound-wrong number line left refusal read = rw read refl

pub sound-nil : (number : ℕ) → sound_cues number [] ≡ []
unfolding sound_cues
sound-nil number = refl

-- ---- a script without a wrong line

same_by : (number : ℕ) (read : Result (Option Line) ScriptRefusal) (fault : Option ScriptFault)
    (sound cues : List Cue) → option_or (fault_read number read) fault ≡ None
    → (fault ≡ None → sound ≡ cues) → sound_by number read sound ≡ cue_read number read ++ cues
same_by number (Ok found) fault sound cues none same =
    ap (λ (more : List Cue). cue_read number (Ok found) ++ more) (same none)
same_by number (Err refusal) fault sound cues none same = absurd cc

pub sound_same : (number : ℕ) (left : List (List ℕ)) → first_fault true number left ≡ None
    → sound_cues number left ≡ cues_of true number left
unfolding sound_cues cues_of first_fault
sound_same number [] none = refl
sound_same number (line ∷ left) none =
    same_by number (reading_at true number line) (first_fault true (number + 1) left)
    (sound_cues (number + 1) left) (cues_of true (number + 1) left) none
    (sound_same (number + 1) left)
