-- What a terminal of the size that was told last shows, whatever it showed before, once it was sent
-- all paintings since then.
use Rattle.std.specs.Prelude.{◌≡◌, ◌==◌, ℕ, if◌then◌else◌, List, [], ◌∷◌, ◌++◌, None, Some}
use Rattle.orca_base.specs.declared.port.Port.TheVariants as port
use Rattle.orca_base.specs.Ports.{Sent, is_same_port}
use Rattle.orca_course.specs.Acts.{Act, ArePrintable}
use Rattle.orca_course.specs.Acts.Act.{Give, Screen, Show, Tell}
use Rattle.orca_course.specs.Performers.{Hearing, performance}
use Rattle.orca_course.specs.declared.item.Losses.{Losses}
use Rattle.orca_jam.specs.declared.crew.TheConstants.{LEADER}
use Rattle.orca_term.specs.Picture.{IsScreen}
use Rattle.orca_term.specs.Viewing.{Shows}
use Rattle.orca_term.specs.declared.cell.ScreenSize.{ScreenSize}
use Rattle.orca_live.specs.Performing.{live_part}
use Rattle.orca_live.specs.States.{LiveState, screen_at, view_at}

-- the bytes of a send that go to the terminal of the first hand
abbrev pub viewed : Sent → List ℕ
viewed sent = if is_same_port sent.port port.View then sent.bytes else []

-- the bytes of an act that go to the terminal of a hand
abbrev pub seen_by : ℕ → Act → List ℕ
seen_by hand (Give sent) = if hand == LEADER then viewed sent else []
seen_by hand (Tell to bytes) = if to == hand then bytes else []
seen_by hand _ = []

-- wherever a picture is painted for a hand among acts, each terminal of the size that it told last,
-- whatever it showed, that was sent all bytes for this hand since then shows it
abbrev pub ShowsPictures : ℕ → ScreenSize → List ℕ → List Act → Type 0
ShowsPictures hand d sent [] = Unit {0}
ShowsPictures hand d sent (Show to cells ∷ acts) =
    (to ≡ hand → Shows d sent (Some cells)) × ShowsPictures hand d sent acts
ShowsPictures hand d sent (Screen to e ∷ acts) =
    ShowsPictures hand (if to == hand then e else d) (if to == hand then [] else sent) acts
ShowsPictures hand d sent (act ∷ acts) = ShowsPictures hand d (sent ++ seen_by hand act) acts

-- a terminal of each hand, of the size of the start or of the last one that it told, whatever it
-- showed, shows each picture of a whole performance, and of each beginning of one, if it can show
-- their cells
abbrev pub ShowsPerformance : Type 0
ShowsPerformance =
    (s : LiveState) (opening : Losses) (heard : List Hearing) (begun left : List Act) (hand : ℕ)
    → IsScreen (screen_at hand s) → (view_at hand s).shown ≡ None
    → (performance live_part s opening heard).acts ≡ begun ++ left → ArePrintable begun
    → ShowsPictures hand (screen_at hand s) [] begun
