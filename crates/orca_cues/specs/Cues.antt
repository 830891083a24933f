-- Cues, and the sources of some.
use Rattle.std.specs.Prelude.{◌≡◌, ℕ, List, [], ◌∷◌, Option, Some, None}
use Rattle.orca_base.specs.declared.command.Command.TheVariants.{Frame}
use Rattle.orca_cues.specs.declared.source.Cue.{Cue}
use Rattle.orca_cues.specs.declared.source.Order.TheVariants.{Do}

-- the first cue is given, or there is none
abbrev pub Pops : List Cue → Option Cue → List Cue → Type 0
Pops old None new = (old ≡ []) × (new ≡ [])
Pops old (Some cue) new = old ≡ cue ∷ new

-- one cue, or none
abbrev pub cues_left : Option Cue → List Cue
cues_left None = []
cues_left (Some cue) = cue ∷ []

-- n frames, as one cue
abbrev pub frames_cue : ℕ → List Cue
frames_cue n = record { line = 0; times = n; order = Do Frame } ∷ []
