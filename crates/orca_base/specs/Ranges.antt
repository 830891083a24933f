-- The ranges of events, notes and messages.
use Rattle.std.specs.Prelude.{ℕ, ◌≤◌, length}
use Rattle.orca_base.specs.declared.limits.TheConstants.{MAX_CHANNEL, MAX_DATA, MIN_VELOCITY, MAX_VALUES}
use Rattle.orca_base.specs.declared.event.Event.{Event}
use Rattle.orca_base.specs.declared.event.Event.TheVariants as event
use Rattle.orca_base.specs.declared.message.Message.{Message}
use Rattle.orca_base.specs.declared.message.Message.TheVariants as message

-- a channel, and two data bytes
pub record AreInRange (channel first second : ℕ) : Type 0 where
  pub channel_low : channel ≤ MAX_CHANNEL
  pub first_low : first ≤ MAX_DATA
  pub second_low : second ≤ MAX_DATA

-- an event whose channel and data are in range, a note having at least the least velocity
abbrev pub IsPlayable : Event → Type 0
IsPlayable (event.Note channel key velocity length mono) =
    AreInRange channel key velocity × (MIN_VELOCITY ≤ velocity)
IsPlayable (event.Control channel control value) = AreInRange channel control value
IsPlayable (event.Bend channel lsb msb) = AreInRange channel lsb msb
IsPlayable (event.Udp text) = Unit {0}
IsPlayable (event.Osc path values) = Unit {0}

-- a message whose channel and data are in range
abbrev pub HasDataInRange : Message → Type 0
HasDataInRange (message.On channel key velocity) = AreInRange channel key velocity
HasDataInRange (message.Off channel key) = AreInRange channel key 0
HasDataInRange (message.Control channel control value) = AreInRange channel control value
HasDataInRange (message.Bend channel lsb msb) = AreInRange channel lsb msb
HasDataInRange (message.Udp text) = Unit {0}
HasDataInRange (message.Osc path values) = Unit {0}

-- the same, an On having at least the least velocity
abbrev pub IsSendable : Message → Type 0
IsSendable (message.On channel key velocity) =
    AreInRange channel key velocity × (MIN_VELOCITY ≤ velocity)
IsSendable m = HasDataInRange m

-- an event that has no more values than an OSC message
abbrev pub HasFewValues : Event → Type 0
HasFewValues (event.Osc path values) = length values ≤ MAX_VALUES
HasFewValues _ = Unit {0}

-- a message that has no more values than an OSC message
abbrev pub CarriesFewValues : Message → Type 0
CarriesFewValues (message.Osc path values) = length values ≤ MAX_VALUES
CarriesFewValues _ = Unit {0}
