-- Worked examples: a message of each kind, its port and its bytes as MIDI 1.0 and OSC 1.0 spell them, and its line.
use Rattle.std.specs.Prelude.{◌≡◌, ◌++◌, [], ◌∷◌, codes, refl}
use Rattle.orca_base.specs.declared.message.Message.TheVariants as message
use Rattle.orca_base.specs.declared.port.Port.TheVariants as port
use Rattle.orca_send.specs.declared.lines.Label.TheVariants.{End}
use Rattle.orca_send.specs.Lines.{sent_line}
use Rattle.orca_send.specs.Sending.{sent_of}
use Rattle.osc_bytes.specs.OscBytes.{message_bytes, osc_string, zeros_after}

sent_on : sent_of (message.On 0 0x30 0x3F)
    ≡ record { port = port.Midi; bytes = 0x90 ∷ 0x30 ∷ 0x3F ∷ [] }
sent_on = refl

line_of_on : sent_line End (sent_of (message.On 0 0x30 0x3F))
    ≡ codes "end midi 90 30 3F" ++ 10 ∷ []
unfolding sent_line
line_of_on = refl

sent_off : sent_of (message.Off 9 0x1D)
    ≡ record { port = port.Midi; bytes = 0x89 ∷ 0x1D ∷ 0x00 ∷ [] }
sent_off = refl

line_of_off : sent_line End (sent_of (message.Off 9 0x1D))
    ≡ codes "end midi 89 1D 00" ++ 10 ∷ []
unfolding sent_line
line_of_off = refl

sent_control : sent_of (message.Control 15 7 127)
    ≡ record { port = port.Midi; bytes = 0xBF ∷ 0x07 ∷ 0x7F ∷ [] }
sent_control = refl

line_of_control : sent_line End (sent_of (message.Control 15 7 127))
    ≡ codes "end midi BF 07 7F" ++ 10 ∷ []
unfolding sent_line
line_of_control = refl

sent_bend : sent_of (message.Bend 1 0 0x40)
    ≡ record { port = port.Midi; bytes = 0xE1 ∷ 0x00 ∷ 0x40 ∷ [] }
sent_bend = refl

line_of_bend : sent_line End (sent_of (message.Bend 1 0 0x40))
    ≡ codes "end midi E1 00 40" ++ 10 ∷ []
unfolding sent_line
line_of_bend = refl

sent_udp : sent_of (message.Udp (0x68 ∷ 0x69 ∷ []))
    ≡ record { port = port.Udp; bytes = 0x68 ∷ 0x69 ∷ [] }
sent_udp = refl

line_of_udp : sent_line End (sent_of (message.Udp (0x68 ∷ 0x69 ∷ [])))
    ≡ codes "end udp 68 69" ++ 10 ∷ []
unfolding sent_line
line_of_udp = refl

sent_osc : sent_of (message.Osc 0x61 (1 ∷ 35 ∷ []))
    ≡ record {
      port = port.Osc;
      bytes = 0x2F ∷ 0x61 ∷ 0x00 ∷ 0x00 ∷ 0x2C ∷ 0x69 ∷ 0x69 ∷ 0x00 ∷ 0x00 ∷ 0x00 ∷ 0x00 ∷ 0x01
          ∷ 0x00 ∷ 0x00 ∷ 0x00 ∷ 0x23 ∷ [];
    }
unfolding message_bytes osc_string zeros_after
sent_osc = refl

line_of_osc : sent_line End (sent_of (message.Osc 0x61 (1 ∷ 35 ∷ [])))
    ≡ codes "end osc 2F 61 00 00 2C 69 69 00 00 00 00 01 00 00 00 23" ++ 10 ∷ []
unfolding sent_line message_bytes osc_string zeros_after
line_of_osc = refl
