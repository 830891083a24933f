-- What was done with the session, which is a part of a larger state.
use Rattle.std.proofs.Common.{refl}
use Rattle.std.specs.Prelude.{Option, Result}
use Rattle.orca_concert.specs.Concerts.{Concert, stance_of}
use Rattle.orca_concert.specs.Manners.{Manner}
use Rattle.orca_course.specs.Courses.{Course}
use Rattle.orca_course.specs.Doing.{Does}
use Rattle.orca_course.specs.Worlds.{World}
use Rattle.orca_course.specs.declared.ending.Stop.{Stop}
use Rattle.orca_course.specs.declared.refused.NoMemory.{NoMemory}
use Rattle.orca_course.proofs.DoingLemmas.{part_did}
use Rattle.orca_sync.specs.Clocks.{Pulse}
use Rattle.orca_sync.specs.Leading.{Metronome}
use Rattle.orca_clock.specs.Followers.{Followed, follow_stance, with_pulse}
use Rattle.orca_clock.specs.Leaders.{Led, lead_stance, with_metronome}

pub followed_did : {R : Type 0} (m : Manner R) (s : Followed R) (pulse : Pulse)
    (c : Course (Concert R) Stop) (t : Concert R) {x y : World}
    (result : Result (Option Stop) NoMemory) → Does (stance_of m) c s.concert x result t y
    → Does (follow_stance m) (with_pulse pulse c) s x result
    (record { concert = t; pulse = pulse }) y
followed_did m s pulse c t result did =
    part_did (stance_of m) (follow_stance m) (λ u. record { concert = u; pulse = pulse }) s c
    s.concert t result refl (λ u. refl) refl did

pub led_did : {R : Type 0} (m : Manner R) (s : Led R) (metronome : Metronome)
    (c : Course (Concert R) Stop) (t : Concert R) {x y : World}
    (result : Result (Option Stop) NoMemory) → Does (stance_of m) c s.concert x result t y
    → Does (lead_stance m) (with_metronome metronome c) s x result
    (record { concert = t; metronome = metronome }) y
led_did m s metronome c t result did =
    part_did (stance_of m) (lead_stance m) (λ u. record { concert = u; metronome = metronome }) s c
    s.concert t result refl (λ u. refl) refl did
