-- The printed lines of messages.
use Rattle.std.specs.Prelude.{ℕ, ◌+◌, ◌-◌, ◌/◌, ◌%◌, nat_lt, if◌then◌else◌, List, [], ◌∷◌, ◌++◌, codes, map}
use Rattle.std.specs.List.{flat_map}
use Rattle.std.specs.Fmt.{decimal}
use Rattle.orca_base.specs.declared.message.Message.{Message}
use Rattle.orca_base.specs.declared.port.Port.TheVariants as port
use Rattle.orca_base.specs.Ports.{port_name}
use Rattle.orca_base.specs.Ascii.{digit_zero, letter_a, line_feed, space}
use Rattle.orca_send.specs.declared.lines.Label.{Label}
use Rattle.orca_send.specs.declared.lines.Label.TheVariants.{Tick, End}
use Rattle.orca_base.specs.Ports.{Sent}
use Rattle.orca_send.specs.Sending.{sent_of}

-- the upper-case hexadecimal digit of a value below 16
abbrev pub hex_digit : ℕ → ℕ
hex_digit n = if nat_lt n 10 then digit_zero + n else letter_a + (n - 10)

-- a space, and two upper-case hexadecimal digits
abbrev pub hex_byte : ℕ → List ℕ
hex_byte byte = space ∷ hex_digit (byte / 16) ∷ hex_digit (byte % 16) ∷ []

-- the tick of the frame, or `end`
abbrev pub label_of : Label → List ℕ
label_of (Tick tick) = decimal tick
label_of End = codes "end"

-- the label, the port and the bytes
unfoldable pub sent_line : Label → Sent → List ℕ
sent_line label sent =
    label_of label ++ space ∷ port_name sent.port ++ flat_map hex_byte sent.bytes ++ line_feed ∷ []

-- the line of a message, on the text port
abbrev pub line_sent : Label → Message → Sent
line_sent label message = record { port = port.Text; bytes = sent_line label (sent_of message) }

-- a line for each message, in order
abbrev pub lines_of : Label → List Message → List Sent
lines_of label messages = map (line_sent label) messages
