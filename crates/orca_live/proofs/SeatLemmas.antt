-- The hands that are shown a picture are there, whatever was done before.
use Rattle.std.proofs.Common.{◌≡◌, ℕ, List, [], length, sym, ◌∙◌, ap}
use Rattle.std.specs.Prelude.{Option, None, Ok}
use Rattle.orca_base.specs.MarkSet.{MarkSet}
use Rattle.orca_course.specs.Acts.{AreDeaf}
use Rattle.orca_course.specs.Courses.{Course, each}
use Rattle.orca_course.specs.Doing.{Does}
use Rattle.orca_course.specs.Worlds.{AreSeated, Made, Sated, World}
use Rattle.orca_course.specs.declared.ending.Stop.{Stop}
use Rattle.orca_course.proofs.SeatLemmas.{seated_did, seats_made}
use Rattle.orca_live.specs.Carrying.{paints_carried}
use Rattle.orca_live.specs.Deaf.{deaf_carries, views_carries}
use Rattle.orca_live.specs.Performing.{painted_course}
use Rattle.orca_live.specs.States.{LiveState, live_stance}

-- the hands that a state shows a picture
abbrev pub AreThere : LiveState → World → Type 0
AreThere s x = AreSeated (length s.views) x

-- after a course that does not ask the inbox, and that shows a picture to as many
there_after : {c : Course LiveState Stop} {s t : LiveState} {x y : World} {end : Option Stop}
    → AreDeaf c.acts → length c.state.views ≡ length s.views
    → Does live_stance c s x (Ok end) t y → AreThere s x → AreThere t y
there_after {c = c} {s = s} {t = t} deaf same did there hand below =
    let as_many : length t.views ≡ length s.views =
    ap (λ (u : LiveState). length u.views) (sym did.did.state) ∙ same in
    seated_did (length s.views) deaf did there hand (rw as_many at below)

pub there_painted : (marks : List MarkSet) (hands : List ℕ) {s t : LiveState} {x y : World}
    {end : Option Stop} → Does live_stance (each (painted_course marks) hands s) s x (Ok end) t y
    → AreThere s x → AreThere t y
there_painted marks hands {s = s} {t = t} {x = x} {y = y} did there =
    there_after {c = each (painted_course marks) hands s} {s = s} {t = t} {x = x} {y = y}
    (paints_carried deaf_carries None marks hands s) (paints_carried views_carries None marks hands s) did
    there

-- steps alone were taken
pub there_stepped : (hands : ℕ) {bill : ℕ} {x y : World} → Made [] bill x y → Sated x y
    → AreSeated hands x → AreSeated hands y
there_stepped hands made sated there hand below = rw (seats_made made sated) (there hand below)
