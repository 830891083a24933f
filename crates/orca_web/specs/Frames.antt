-- The frames in which messages go to and fro (RFC 6455, section 5.2).
use Rattle.std.specs.Prelude.{◌≡◌, ℕ, ◌≤◌, List, [], ◌∷◌, ◌++◌, length, drop, Bool, true, false, if◌then◌else◌, codes, Option, None, Some, IsSome}
use Rattle.std.specs.List.{flat_map}
use Rattle.hex.specs.Hex.{encode_lower}
use Rattle.websocket.specs.FrameHeader.{StartsWithHeader, encode_header}
use Rattle.websocket.specs.Frame.{encode_frame}
use Rattle.websocket.specs.Connection.{Connection, whole_header}
use Rattle.websocket.specs.Content.{Content, text, binary, ping, pong, close}
use Rattle.websocket.specs.declared.protocol.config.Role.TheVariants.{Server}
use Rattle.websocket.specs.declared.protocol.frame.header.FrameHeader.{FrameHeader}
use Rattle.websocket.specs.declared.protocol.frame.coding.OpCode.{OpCode}
use Rattle.websocket.specs.declared.protocol.frame.coding.OpCode.TheVariants as Op
use Rattle.websocket.specs.declared.protocol.frame.coding.Data.{Data}
use Rattle.websocket.specs.declared.protocol.frame.coding.Data.TheVariants.{Continue, Text, Binary}
use Rattle.orca_web.specs.declared.limits.TheConstants.{MAX_MESSAGE_BYTES}

-- ---- what a server sends: whole messages without a mask

pub record Message : Type 0 where
  pub opcode : OpCode
  pub payload : List ℕ

-- the header of the frame of a message of so many bytes
abbrev pub header_bytes : OpCode → ℕ → List ℕ
header_bytes opcode length = encode_header (whole_header opcode None) length

-- the frame of a message
abbrev pub frame_of : Message → List ℕ
frame_of message = header_bytes message.opcode (length message.payload) ++ message.payload

-- the frames of messages
abbrev pub framed : List Message → List ℕ
framed messages = flat_map frame_of messages

-- the header of the frame of data of so many bytes
abbrev pub data_header : Data → ℕ → List ℕ
data_header kind length = header_bytes (Op.Data kind) length

abbrev pub message : Data → List ℕ → Message
message kind bytes = record { opcode = Op.Data kind; payload = bytes }

-- a message, if it is due
abbrev pub if_due : Bool → Message → List Message
if_due is_due message = if is_due then message ∷ [] else []

-- the messages of a picture: after one that was given up, CAN and ESC [ ? 1 l go before it
abbrev pub picture_messages : Bool → List ℕ → List Message
picture_messages is_torn bytes =
    if_due is_torn (message Binary (24 ∷ 27 ∷ codes "[?1l")) ++ message Binary bytes ∷ []

-- the messages of bytes of MIDI, two hexadecimal digits each: after some that were given up, `-`,
-- which ends all notes, goes before them
abbrev pub sound_messages : Bool → List ℕ → List Message
sound_messages is_due bytes =
    if_due is_due (message Text (codes "-")) ++ message Text (encode_lower bytes) ∷ []

-- ---- what a browser sends

-- a frame as its sender made it: the payload is that before the mask
pub record Frame : Type 0 where
  pub header : FrameHeader
  pub payload : List ℕ

abbrev pub frame_bytes : Frame → List ℕ
frame_bytes frame = encode_frame frame.header frame.payload

-- a frame that is heard: a whole message, masked and short
pub record IsHeardFrame (frame : Frame) : Type 0 where
  pub whole : frame.header.is_final ≡ true
  pub masked : IsSome frame.header.mask
  pub short : length frame.payload ≤ MAX_MESSAGE_BYTES

abbrev pub keys_by : OpCode → List ℕ → List ℕ
keys_by (Op.Data Continue) payload = []
keys_by (Op.Data Text) payload = []
keys_by (Op.Data Binary) payload = payload
keys_by (Op.Control control) payload = []

-- the keys in a frame: the payload of a binary one
abbrev pub keys_in : Frame → List ℕ
keys_in frame = keys_by frame.header.opcode frame.payload

-- the bytes begin with the header of a whole message
abbrev pub HasWholeHeader : List ℕ → Type 0
HasWholeHeader bytes =
    (header : FrameHeader) × (size : ℕ) × StartsWithHeader bytes header size
    × (header.is_final ≡ true)

-- a frame at the front of the bytes has these keys, and so many bytes
pub record TakesFrame (bytes : List ℕ) (count : ℕ) (keys : List ℕ) : Type 0 where
  pub frame : Frame
  pub heard : IsHeardFrame frame
  pub split : bytes ≡ frame_bytes frame ++ drop count bytes
  pub given : keys ≡ keys_in frame
  pub within : count ≤ length bytes

-- ---- what a browser's frames are read by

-- a server that takes masked frames of short whole messages, and has no fragments
pub record IsReady (connection : Connection) : Type 0 where
  pub role : connection.role ≡ Server
  pub masked : connection.config.accept_unmasked_frames ≡ false
  pub short_frames : connection.config.max_frame_size ≡ Some MAX_MESSAGE_BYTES
  pub short_messages : connection.config.max_message_size ≡ Some MAX_MESSAGE_BYTES
  pub whole : connection.fragments ≡ None

-- the keys of a message that was read
abbrev pub keys_of : Option Content → List ℕ
keys_of None = []
keys_of (Some (text bytes)) = []
keys_of (Some (binary bytes)) = bytes
keys_of (Some (ping bytes)) = []
keys_of (Some (pong bytes)) = []
keys_of (Some (close frame)) = []
