-- Worked rows: frames, after the examples of RFC 6455, section 5.7.
use Rattle.std.proofs.Common.{◌≡◌, [], ◌∷◌, ◌++◌, codes, true, false, Some, refl}
use Rattle.hex.specs.Hex.{encode_with}
use Rattle.websocket.specs.FrameHeader.{encode_header}
use Rattle.websocket.specs.Mask.{mask_from}
use Rattle.websocket.specs.declared.protocol.frame.header.FrameHeader.{FrameHeader}
use Rattle.websocket.specs.declared.protocol.frame.coding.OpCode.TheVariants.{Data}
use Rattle.websocket.specs.declared.protocol.frame.coding.Data.TheVariants as kind
use Rattle.orca_web.specs.Frames.{Frame, frame_bytes, keys_in, data_header, framed, message, picture_messages, sound_messages}

-- an unmasked text, and the headers of 256 and of 65,536 bytes
pub hello : framed (message kind.Text (codes "Hello") ∷ []) ≡ 0x81 ∷ 5 ∷ codes "Hello"
unfolding encode_header
hello = refl

pub longer : (data_header kind.Binary 256 ≡ 0x82 ∷ 0x7e ∷ 1 ∷ 0 ∷ [])
    × (data_header kind.Binary 65536 ≡ 0x82 ∷ 0x7f ∷ 0 ∷ 0 ∷ 0 ∷ 0 ∷ 0 ∷ 1 ∷ 0 ∷ 0 ∷ [])
unfolding encode_header
longer = (refl, refl)

-- a picture after one that was given up, and sound after some that was
pub anew : framed (picture_messages true (codes "x"))
    ≡ 0x82 ∷ 6 ∷ 0x18 ∷ 0x1b ∷ codes "[?1l" ++ 0x82 ∷ 1 ∷ codes "x"
unfolding encode_header
anew = refl

pub sound : framed (sound_messages true (0x90 ∷ 0x3c ∷ 0x7f ∷ []))
    ≡ 0x81 ∷ 1 ∷ codes "-" ++ 0x81 ∷ 6 ∷ codes "903c7f"
unfolding encode_header encode_with
sound = refl

-- a masked message: as keys it counts where it is binary
abbrev masked : FrameHeader
masked = record {
  is_final = true;
  rsv1 = false;
  rsv2 = false;
  rsv3 = false;
  opcode = Data kind.Binary;
  mask = Some (0x37 ∷ 0xfa ∷ 0x21 ∷ 0x3d ∷ []);
}

abbrev heard : Frame
heard = record { header = masked; payload = codes "Hello" }

pub masked_hello : (keys_in heard ≡ codes "Hello")
    × (frame_bytes heard ≡ 0x82 ∷ 0x85 ∷ 0x37 ∷ 0xfa ∷ 0x21 ∷ 0x3d ∷ 0x7f ∷ 0x9f ∷ 0x4d ∷ 0x51 ∷ 0x58 ∷ [])
unfolding encode_header mask_from
masked_hello = (refl, refl)
