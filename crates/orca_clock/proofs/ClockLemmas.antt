-- A byte of the clock was given.
use Rattle.std.proofs.Common.{ℕ, [], ◌∷◌, refl}
use Rattle.std.specs.Prelude.{Result, Ok, Err}
use Rattle.orca_base.specs.declared.port.Port.TheVariants as port
use Rattle.orca_concert.specs.Concerts.{Concert, stance_of}
use Rattle.orca_concert.specs.Manners.{Manner}
use Rattle.orca_course.specs.Acts.Act.{Give, Stand}
use Rattle.orca_course.specs.Doing.{Does, goes_of}
use Rattle.orca_course.specs.Worlds.{Called, World}
use Rattle.orca_course.specs.declared.ending.Stop.{Stop}
use Rattle.orca_course.specs.declared.refused.NoMemory.{NoMemory}
use Rattle.orca_course.specs.declared.refused.NoMemory.TheVariants.{InSend, Elsewhere}
use Rattle.orca_course.proofs.DoingLemmas.{does_acts, does_begun, rests_none}
use Rattle.orca_course.proofs.WorldLemmas.{made_none, made_stand, made_twice, wants_longer}
use Rattle.orca_notes.specs.Device.{keys_after}
use Rattle.orca_clock.specs.Clocked.{clock_course}

-- it is no message of a note, so a device that follows the run has the same keys
pub clock_did : {R : Type 0} (m : Manner R) (byte : ℕ) (s : Concert R) {x y : World}
    (result : Result (Unit {0}) NoMemory)
    → Called result (Give (record { port = port.Midi; bytes = byte ∷ [] })) x y
    → Does {E = Stop} (stance_of m) (clock_course byte s) s x (goes_of result) s y
unfolding keys_after
clock_did m byte s {y = y} (Ok done) called =
    does_acts (made_twice called.called.0 (made_stand s.standing (made_none y))) called.called.1
    (record {
      settled = refl;
      stands = refl;
      follows = λ hands. record { follows = (tt, (refl, tt)); keys = refl };
    })
clock_did m byte s {x = x} {y = y} (Err InSend) called =
    does_begun [] _ refl called.called.0 (λ hands. tt)
    (wants_longer InSend (Give (record { port = port.Midi; bytes = byte ∷ [] }) ∷ [])
    (Stand s.standing ∷ []) x y called.called.1)
clock_did m byte s {x = x} {y = y} (Err Elsewhere) called =
    does_begun [] _ refl called.called.0 (rests_none _ s s refl) called.called.1
