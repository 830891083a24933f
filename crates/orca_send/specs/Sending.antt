-- What is handed out for a message.
use Rattle.std.specs.Prelude.{ℕ, List, map}
use Rattle.orca_base.specs.declared.message.Message.{Message}
use Rattle.orca_base.specs.declared.message.Message.TheVariants as message
use Rattle.orca_base.specs.declared.port.Port.TheVariants as port
use Rattle.orca_base.specs.MidiBytes.{note_on_bytes, note_off_bytes, control_bytes, bend_bytes}
use Rattle.orca_base.specs.Ports.{Sent}
use Rattle.osc_bytes.specs.OscBytes.{message_bytes}

-- the port and the bytes of a message
abbrev pub sent_of : Message → Sent
sent_of (message.On channel key velocity) =
    record { port = port.Midi; bytes = note_on_bytes channel key velocity }
sent_of (message.Off channel key) =
    record { port = port.Midi; bytes = note_off_bytes channel key }
sent_of (message.Control channel control value) =
    record { port = port.Midi; bytes = control_bytes channel control value }
sent_of (message.Bend channel lsb msb) =
    record { port = port.Midi; bytes = bend_bytes channel lsb msb }
sent_of (message.Udp text) = record { port = port.Udp; bytes = text }
sent_of (message.Osc path values) =
    record { port = port.Osc; bytes = message_bytes path values }

-- one send for each message, in order
abbrev pub sends_of : List Message → List Sent
sends_of = map sent_of

-- bytes on the text port
abbrev pub text_sent : List ℕ → Sent
text_sent bytes = record { port = port.Text; bytes = bytes }
