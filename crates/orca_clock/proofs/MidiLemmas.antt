-- The MIDI bytes and the commands of acts.
use Rattle.std.proofs.Common.{◌≡◌, ℕ, ◌+◌, ◌*◌, ◌∙◌, ◌<◌, ◌≤◌, Bool, true, false, List, [], ◌∷◌, ◌++◌, refl, append-nil, arith}
use Rattle.std.specs.Prelude.{All}
use Rattle.std.specs.List.{filter}
use Rattle.std.proofs.lemmas.Bool.Decides.{nat_tests}
use Rattle.std.proofs.lemmas.Grind.{flat_map-append}
use Rattle.std.proofs.lemmas.List.{map-append}
use Rattle.std.proofs.lemmas.List.Elements.{All-head, All-tail, filter-append}
use Rattle.orca_base.specs.declared.command.Command.{Command}
use Rattle.orca_base.specs.declared.message.Message.{Message}
use Rattle.orca_base.specs.declared.message.Message.TheVariants as message
use Rattle.orca_base.specs.Ranges.{AreInRange, IsSendable}
use Rattle.orca_concert.specs.Concerts.{handed_of}
use Rattle.orca_concert.specs.Manners.{Remark, acts_of}
use Rattle.orca_concert.specs.Manners.Remark.{File, Lines, Nothing, Text}
use Rattle.orca_course.specs.Acts.{Act, commands_in, gives}
use Rattle.orca_course.specs.Acts.Act.{Stand}
use Rattle.orca_course.specs.Following.{midi_sent}
use Rattle.orca_course.specs.Standings.{Standing}
use Rattle.orca_course.proofs.ActLemmas.{commands_in-append, given-append}
use Rattle.orca_send.specs.Sending.{sends_of}
use Rattle.orca_sync.specs.RealTime.{is_clock, timing_clock}
use Rattle.orca_clock.specs.Laws.{midi_bytes_in}

pub midi_bytes-append : (xs ys : List Act)
    → midi_bytes_in (xs ++ ys) ≡ midi_bytes_in xs ++ midi_bytes_in ys
unfolding midi_sent
midi_bytes-append xs ys = simp (given-append, filter-append, map-append, flat_map-append)

-- the commands of acts and of an end without any
pub end_commands : (first xs ys : List Act) (commands : List Command) → first ≡ xs ++ ys
    → commands_in xs ≡ commands → commands_in ys ≡ [] → commands_in first ≡ commands
end_commands first xs ys commands is some none =
    rw (is, commands_in-append, some, none) (append-nil _)

-- ---- a report gives neither a command nor a MIDI message

pub remark_commands : (r : Remark) → commands_in (acts_of r) ≡ []
remark_commands Nothing = refl
remark_commands (Text bytes) = refl
remark_commands (Lines label []) = refl
remark_commands (Lines label (m ∷ messages)) = remark_commands (Lines label messages)
remark_commands (File name bytes) = refl

pub remark_bytes : (r : Remark) → midi_bytes_in (acts_of r) ≡ []
unfolding midi_sent
remark_bytes Nothing = refl
remark_bytes (Text bytes) = refl
remark_bytes (Lines label []) = refl
remark_bytes (Lines label (m ∷ messages)) = remark_bytes (Lines label messages)
remark_bytes (File name bytes) = refl

-- ---- no byte of a message is a clock

no_clock : (byte : ℕ) → byte < timing_clock → is_clock byte ≡ false
no_clock byte low = grind (arith, nat_tests)

voice_dropped : (kind channel first second : ℕ) (rest : List ℕ) → kind ≤ 14
    → AreInRange channel first second
    → filter is_clock ((kind * 16 + channel) ∷ first ∷ second ∷ rest) ≡ filter is_clock rest
voice_dropped kind channel first second rest low range =
    rw (
      no_clock (kind * 16 + channel) (omega (arith, low, range.channel_low)),
      no_clock first (omega (arith, range.first_low)),
      no_clock second (omega (arith, range.second_low)),
    ) refl

-- the MIDI bytes of messages that are handed out
abbrev bytes_of : List Message → Standing → List ℕ
bytes_of messages t = midi_bytes_in (gives (sends_of messages) ++ Stand t ∷ [])

-- no byte of the first message is one, so the others decide
message_dropped : (m : Message) (messages : List Message) (t : Standing) → IsSendable m
    → filter is_clock (bytes_of (m ∷ messages) t) ≡ filter is_clock (bytes_of messages t)
unfolding midi_sent
message_dropped (message.On channel key velocity) messages t range =
    voice_dropped 9 channel key velocity (bytes_of messages t) (omega arith) range.0
message_dropped (message.Off channel key) messages t range =
    voice_dropped 8 channel key 0 (bytes_of messages t) (omega arith) range
message_dropped (message.Control channel control value) messages t range =
    voice_dropped 11 channel control value (bytes_of messages t) (omega arith) range
message_dropped (message.Bend channel lsb msb) messages t range =
    voice_dropped 14 channel lsb msb (bytes_of messages t) (omega arith) range
message_dropped (message.Udp text) messages t range = refl
message_dropped (message.Osc path values) messages t range = refl

sends_no_clock : (messages : List Message) (t : Standing) → All IsSendable messages
    → filter is_clock (bytes_of messages t) ≡ []
unfolding midi_sent
sends_no_clock [] t all = refl
sends_no_clock (m ∷ messages) t all =
    message_dropped m messages t (All-head IsSendable m messages all)
    ∙ sends_no_clock messages t (All-tail IsSendable m messages all)

pub handed_no_clock : (hands : Bool) (messages : List Message) (t : Standing)
    → All IsSendable messages
    → filter is_clock (midi_bytes_in (gives (handed_of hands messages) ++ Stand t ∷ [])) ≡ []
unfolding midi_sent
handed_no_clock true messages t all = sends_no_clock messages t all
handed_no_clock false messages t all = refl
