-- The cues of lines, line by line.
use Rattle.std.proofs.Common.{◌≡◌, ℕ, ◌+◌, Bool, Some, None, List, [], ◌∷◌, refl}
use Rattle.orca_cues.specs.declared.source.Cue.{Cue}
use Rattle.orca_cues.specs.Cues.{cues_left}
use Rattle.orca_cues.specs.Scripts.{cue_read, cues_of, reading_at}

module _ (format_2 : Bool) (number : ℕ) (line : List ℕ) (left : List (List ℕ)) where
  -- a line with a cue
  pub cues-some : (cue : Cue) →
      cues_left (Some cue) ≡ cue_read number (reading_at format_2 number line) →
      cues_of format_2 number (line ∷ left) ≡ cue ∷ cues_of format_2 (number + 1) left
  unfolding cues_of
  cues-some cue is = rw (← is) refl

  -- a line without one
  pub cues-none : cues_left None ≡ cue_read number (reading_at format_2 number line) →
      cues_of format_2 number (line ∷ left) ≡ cues_of format_2 (number + 1) left
  unfolding cues_of
  cues-none is = rw (← is) refl

-- no lines
pub cues-nil : (format_2 : Bool) (number : ℕ) → cues_of format_2 number [] ≡ []
unfolding cues_of
cues-nil format_2 number = refl
