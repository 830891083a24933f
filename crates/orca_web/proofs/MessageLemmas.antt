-- What was sent is whole frames.
use Rattle.std.proofs.Common.{◌≡◌, ◌≤◌, ℕ, ◌-◌, ◌+◌, List, [], ◌∷◌, ◌++◌, length, take, replicate, Option, arith, sym, append-nil, ap, ◌∙◌, subst}
use Rattle.std.proofs.lemmas.List.{length-append, length-take, length-replicate}
use Rattle.std.specs.Prelude.{Result, Ok, Err, OnOk, OnErr, min}
use Rattle.std.proofs.lemmas.Grind.{flat_map-append}
use Rattle.std.specs.Io.KnownBytes.{Appends, Keeps}
use Rattle.std.proofs.KnownBytes.{Appends-trans, Appends-nil, Appends-kept}
use Rattle.orca_web.specs.Wire.{filling}
use Rattle.websocket.specs.declared.protocol.frame.coding.Data.{Data}
use Rattle.websocket.specs.declared.protocol.frame.coding.OpCode.TheVariants as Op
use Rattle.orca_web.specs.Frames.{Message, message, header_bytes, frame_of, framed, if_due}
use Rattle.std.specs.Prelude.{Bool, true}

pub room_kept : (count all : ℕ) → count ≤ all → min count all + (all - count) ≡ all
room_kept count all few = grind arith

-- filling keeps the length
pub length_filling : (count : ℕ) (bytes : List ℕ) → count ≤ length bytes
    → length (filling count bytes) ≡ length bytes
length_filling count bytes few =
    length-append (take count bytes) (replicate (length bytes - count) 24)
    ∙ ap (λ n. n + length {A = ℕ} (replicate (length bytes - count) 24)) (length-take count bytes)
    ∙ ap (λ n. min count (length bytes) + n) (length-replicate {A = ℕ} (length bytes - count) 24)
    ∙ room_kept count (length bytes) few

-- a header and its bytes are a frame
pub sent_whole : {T E : Type 0} (result : Result T E) (old new : Option (List ℕ))
    (kind : Data) (header bytes : List ℕ) → header ≡ header_bytes (Op.Data kind) (length bytes)
    → OnOk result (Appends old new (header ++ bytes))
    → OnOk result (Appends old new (frame_of (message kind bytes)))
sent_whole (Ok value) old new kind header bytes is sent =
    subst (λ h. Appends old new (h ++ bytes)) is sent
sent_whole (Err error) old new kind header bytes is sent = tt

-- one message
pub one_frame : (m : Message) → framed (m ∷ []) ≡ frame_of m
one_frame m = append-nil (frame_of m)

-- a header, the first of its bytes and CAN are a frame too
pub sent_filled : {T E : Type 0} (result : Result T E) (old new : Option (List ℕ))
    (kind : Data) (header bytes : List ℕ) → header ≡ header_bytes (Op.Data kind) (length bytes)
    → OnErr result ((count : ℕ) × (count ≤ length bytes)
    × Appends old new (header ++ filling count bytes))
    → OnErr result ((messages : List Message) × Appends old new (framed messages))
sent_filled (Ok value) old new kind header bytes is sent = tt
sent_filled (Err error) old new kind header bytes is (count, few, sent) = (
  message kind (filling count bytes) ∷ [],
  subst (Appends old new) (sym (one_frame (message kind (filling count bytes))))
      (subst (λ n. Appends old new (header_bytes (Op.Data kind) n ++ filling count bytes))
      (sym (length_filling count bytes few))
      (subst (λ h. Appends old new (h ++ filling count bytes)) is sent)),
)

-- some messages, and then others
pub more_frames : (was mid now : Option (List ℕ)) (these others : List Message)
    → Appends was mid (framed these) → Appends mid now (framed others)
    → Appends was now (framed (these ++ others))
more_frames was mid now these others first second =
    subst (Appends was now) (sym (flat_map-append frame_of these others))
    (Appends-trans was mid now (framed these) (framed others) first second)

-- none
pub no_frames : (was now : Option (List ℕ)) → Keeps was now → Appends was now (framed [])
no_frames was now still = Appends-kept was was now [] (Appends-nil was) still

pub one_more : (was now : Option (List ℕ)) (m : Message) → Appends was now (frame_of m)
    → Appends was now (framed (m ∷ []))
one_more was now m sent = subst (Appends was now) (sym (one_frame m)) sent

-- a message that was due was sent
pub due_sent : {T E : Type 0} (result : Result T E) (was now : Option (List ℕ)) (is_due : Bool)
    (m : Message) → is_due ≡ true → OnOk result (Appends was now (frame_of m))
    → OnOk result (Appends was now (framed (if_due is_due m)))
due_sent (Ok value) was now is_due m due sent =
    subst (λ b. Appends was now (framed (if_due b m))) (sym due) (one_more was now m sent)
due_sent (Err error) was now is_due m due sent = tt

-- messages that were due were sent, and then another, or a part of it that is filled
pub sent_after : {T E : Type 0} (result : Result T E) (was mid now : Option (List ℕ))
    (due : List Message) (m : Message) → Appends was mid (framed due)
    → OnOk result (Appends mid now (frame_of m))
    → OnErr result ((messages : List Message) × Appends mid now (framed messages))
    → (messages : List Message) × Appends was now (framed messages)
sent_after (Ok value) was mid now due m first whole filled =
    (due ++ m ∷ [], more_frames was mid now due (m ∷ []) first (one_more mid now m whole))
sent_after (Err error) was mid now due m first whole (messages, filled) =
    (due ++ messages, more_frames was mid now due messages first filled)

-- the same of what was sent whole
pub sent_both : {T E : Type 0} (result : Result T E) (was mid now : Option (List ℕ))
    (due : List Message) (m : Message) → Appends was mid (framed due)
    → OnOk result (Appends mid now (frame_of m)) → OnOk result (Appends was now (framed (due ++ m ∷ [])))
sent_both (Ok value) was mid now due m first whole =
    more_frames was mid now due (m ∷ []) first (one_more mid now m whole)
sent_both (Err error) was mid now due m first whole = tt

-- what waited was sent, and then messages
pub sent_first : (was mid now : Option (List ℕ)) (due : List Message) → Keeps was mid
    → Appends mid now (framed due) → Appends was now (framed due)
sent_first was mid now due still sent = more_frames was mid now [] due (no_frames was mid still) sent
