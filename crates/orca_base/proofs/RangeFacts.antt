-- What follows from the ranges of events and messages.
use Rattle.orca_base.specs.declared.event.Event.{Event}
use Rattle.orca_base.specs.declared.event.Event.TheVariants as event
use Rattle.orca_base.specs.declared.message.Message.{Message}
use Rattle.orca_base.specs.declared.message.Message.TheVariants as message
use Rattle.orca_base.specs.EventRanges.{IsInRange}
use Rattle.orca_base.specs.Ranges.{HasDataInRange, HasFewValues, IsPlayable, IsSendable}

-- an event in range can be played
pub IsPlayable-in_range : (e : Event) → IsInRange e → IsPlayable e
IsPlayable-in_range (event.Note channel key velocity frames mono) range =
    (range.numbers, range.loud)
IsPlayable-in_range (event.Control channel control value) range = range.numbers
IsPlayable-in_range (event.Bend channel lsb msb) range = range
IsPlayable-in_range (event.Udp text) range = tt
IsPlayable-in_range (event.Osc path values) range = tt

-- an event in range has few values
pub HasFewValues-in_range : (e : Event) → IsInRange e → HasFewValues e
HasFewValues-in_range (event.Note channel key velocity frames mono) range = tt
HasFewValues-in_range (event.Control channel control value) range = tt
HasFewValues-in_range (event.Bend channel lsb msb) range = tt
HasFewValues-in_range (event.Udp text) range = tt
HasFewValues-in_range (event.Osc path values) range = range.few

-- a message that can be sent has its data in range
pub HasDataInRange-sendable : (m : Message) → IsSendable m → HasDataInRange m
HasDataInRange-sendable (message.On channel key velocity) range = range.0
HasDataInRange-sendable (message.Off channel key) range = range
HasDataInRange-sendable (message.Control channel control value) range = range
HasDataInRange-sendable (message.Bend channel lsb msb) range = range
HasDataInRange-sendable (message.Udp text) range = tt
HasDataInRange-sendable (message.Osc path values) range = tt
