-- What is sent, as a picture tells it: the messages of a frame in words.
use Rattle.std.specs.Prelude.{ℕ, ◌+◌, ◌-◌, ◌*◌, ◌/◌, ◌%◌, Bool, true, false, if◌then◌else◌, List, [], ◌∷◌, ◌++◌, codes, filter, map, min, slice_index_or, take}
use Rattle.std.specs.Fmt.{decimal}
use Rattle.std.specs.List.{flat_map, list_any}
use Rattle.orca_base.specs.Ascii.{space}
use Rattle.orca_base.specs.Glyphs.{from_value}
use Rattle.orca_base.specs.declared.limits.TheConstants.{BASE}
use Rattle.orca_base.specs.declared.message.Message.{Message}
use Rattle.orca_base.specs.declared.message.Message.TheVariants as message
use Rattle.orca_term.specs.Forms.{is_shown}
use Rattle.orca_term.specs.declared.limits.TheConstants.{TOLD_MESSAGES}

-- the last frame that sent more than ends of notes: its tick, and its messages without these, as
-- far as a row can tell them. Before any such frame there are none
pub record FrameSent : Type 0 where
  pub tick : ℕ
  pub messages : List Message

abbrev pub nothing_sent : FrameSent
nothing_sent = record { tick = 0; messages = [] }

-- a message is no end of a note
abbrev pub is_told : Message → Bool
is_told (message.Off channel key) = false
is_told _ = true

-- after a frame that was played at this tick and gave these messages
abbrev pub sent_after : ℕ → List Message → FrameSent → FrameSent
sent_after tick messages s =
    if list_any is_told messages
    then record { tick = tick; messages = take TOLD_MESSAGES (filter is_told messages) } else s

-- ---- in words

-- the glyph of a value
abbrev pub glyph_of : ℕ → ℕ
glyph_of n = from_value (min n (BASE - 1))

-- the letter of a note as an operator names it, in lower case for a sharp
abbrev pub note_letter : ℕ → ℕ
note_letter key = slice_index_or (codes "CcDdEFfGgAaB") (key % 12) space

-- a byte of a text, or a space where a terminal can't show it
abbrev pub legible : ℕ → ℕ
legible byte = if is_shown byte then byte else space

-- a message in words, nearly as the operator that sends it is written
unfoldable pub message_words : Message → List ℕ
message_words (message.On channel key velocity) =
    codes ":" ++ glyph_of channel ∷ glyph_of (key / 12) ∷ note_letter key ∷ []
message_words (message.Off channel key) = []
message_words (message.Control channel control value) =
    codes "!" ++ glyph_of channel ∷ codes " " ++ decimal control ++ codes "=" ++ decimal value
message_words (message.Bend channel lsb msb) =
    codes "?" ++ glyph_of channel ∷ codes "=" ++ decimal (128 * msb + lsb)
message_words (message.Udp text) = codes ";" ++ map legible text
message_words (message.Osc path values) = codes "=" ++ path ∷ map glyph_of values

-- the words of messages, each after a space
abbrev pub words_of : List Message → List ℕ
words_of messages = flat_map (λ m. codes " " ++ message_words m) messages

-- the text of the row: the tick of the frame, and what it sent
abbrev pub text_of_frame : ℕ → List Message → List ℕ
text_of_frame tick [] = []
text_of_frame tick messages = decimal tick ++ codes ":" ++ words_of messages

abbrev pub sent_text : FrameSent → List ℕ
sent_text s = text_of_frame s.tick s.messages
