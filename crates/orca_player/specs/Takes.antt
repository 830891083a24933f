-- What a run is recorded as, and the one file that it saves of it.
use Rattle.std.specs.Prelude.{◌≡◌, ℕ, List, [], ◌∷◌}
use Rattle.orca_course.specs.Acts.{Act}
use Rattle.orca_course.specs.Acts.Act.{Append, Begin, Remove, Save}
use Rattle.orca_smf.specs.Songs.{IsTune, Tune, file_of}

-- a song, or the bytes of a wave, with the name of its file
pub data Take : Type 0 where
  Song : List ℕ → Tune → Take
  Wave : List ℕ → List ℕ → Take

-- the saves among acts, and whatever else changes a file that is there
abbrev pub saves_in : List Act → List Act
saves_in [] = []
saves_in (Save name bytes ∷ acts) = Save name bytes ∷ saves_in acts
saves_in (Begin name bytes ∷ acts) = Begin name bytes ∷ saves_in acts
saves_in (Append name bytes ∷ acts) = Append name bytes ∷ saves_in acts
saves_in (Remove name ∷ acts) = Remove name ∷ saves_in acts
saves_in (act ∷ acts) = saves_in acts

-- one file is saved, that of the take, and no other is changed. A song can be read, and gives
-- exactly this song
abbrev pub IsTaken : Take → List Act → Type 0
IsTaken (Song out tune) acts = (saves_in acts ≡ Save out (file_of tune) ∷ []) × IsTune tune
IsTaken (Wave out bytes) acts = saves_in acts ≡ Save out bytes ∷ []
