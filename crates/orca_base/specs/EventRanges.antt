-- The ranges of the events that operators send, and of their messages.
use Rattle.std.specs.Prelude.{ℕ, List, ◌<◌, ◌≤◌, ◌||◌, length, All, IsTrue}
use Rattle.orca_base.specs.declared.limits.TheConstants.{BASE, MIN_VELOCITY, MAX_TEXT, MAX_VALUES}
use Rattle.orca_base.specs.declared.event.Event.{Event}
use Rattle.orca_base.specs.declared.event.Event.TheVariants as event
use Rattle.orca_base.specs.declared.message.Message.{Message}
use Rattle.orca_base.specs.declared.message.Message.TheVariants as message
use Rattle.orca_base.specs.Glyphs.{IsGlyph, is_digit, is_upper, is_lower}
use Rattle.orca_base.specs.Ranges.{AreInRange, IsSendable}

-- a note that starts with at least the least velocity, and sounds for 1 to 35 frames
pub record IsNote (channel key velocity frames : ℕ) : Type 0 where
  pub numbers : AreInRange channel key velocity
  pub loud : MIN_VELOCITY ≤ velocity
  pub some : 1 ≤ frames
  pub short : frames < BASE

-- a text of glyphs, at least one and no more than fit
pub record IsText (text : List ℕ) : Type 0 where
  pub some : 1 ≤ length text
  pub short : length text ≤ MAX_TEXT
  pub glyphs : All IsGlyph text

-- a channel, the number of a controller, which is a value of base 36, and its value
pub record IsControl (channel control amount : ℕ) : Type 0 where
  pub numbers : AreInRange channel control amount
  pub low : control < BASE

-- an address that is a letter or a digit, and no more values than fit, each of base 36
pub record IsOsc (path : ℕ) (values : List ℕ) : Type 0 where
  pub named : IsTrue (is_digit path || is_upper path || is_lower path)
  pub few : length values ≤ MAX_VALUES
  pub low : All (λ value. value < BASE) values

-- an event in range
abbrev pub IsInRange : Event → Type 0
IsInRange (event.Note channel key velocity frames mono) = IsNote channel key velocity frames
IsInRange (event.Control channel control value) = IsControl channel control value
IsInRange (event.Bend channel lsb msb) = AreInRange channel lsb msb
IsInRange (event.Udp text) = IsText text
IsInRange (event.Osc path values) = IsOsc path values

-- a message in range: one of a note can be sent, and any other is that of an event in range. Its
-- controller is below 36, so it is no channel mode message (MIDI 1.0, controllers 120 to 127)
abbrev pub IsMessageInRange : Message → Type 0
IsMessageInRange (message.Control channel control value) = IsControl channel control value
IsMessageInRange (message.Udp text) = IsText text
IsMessageInRange (message.Osc path values) = IsOsc path values
IsMessageInRange m = IsSendable m
