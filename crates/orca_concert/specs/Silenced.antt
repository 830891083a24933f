-- What is done where memory was refused: the notes that sound are ended.
use Rattle.std.specs.Prelude.{◌≢◌, Bool, Option, Result, Err}
use Rattle.std.specs.Option.{option_map}
use Rattle.orca_course.specs.Acts.{gives}
use Rattle.orca_course.specs.Following.{Accompanies, sounding}
use Rattle.orca_course.specs.Standings.{Standing, standing_closed}
use Rattle.orca_course.specs.Worlds.{Calls, World}
use Rattle.orca_course.specs.declared.refused.NoMemory.{NoMemory}
use Rattle.orca_course.specs.declared.refused.NoMemory.TheVariants.{Elsewhere}
use Rattle.orca_notes.specs.Sound.{ends}
use Rattle.orca_send.specs.Sending.{sends_of}
use Rattle.orca_concert.specs.Concerts.{handed_of}

-- the notes that sound where a run stands were ended, where messages are handed out, unless a port
-- refused memory to one of the sends. A device that follows the run follows them too, and has no key
-- at their end
pub record IsSilenced {T : Type 0} (hands : Bool) (at : Option Standing)
    (result : Result T NoMemory) (x y : World) : Type 0 where
  pub called : Calls (gives (handed_of hands (ends (sounding at)))) result x y
  pub in_send : result ≢ Err Elsewhere
  pub device : Accompanies at (gives (sends_of (ends (sounding at)))) (option_map standing_closed at)
