-- What a read takes is a frame, and what it gives are the keys in it.
use Rattle.std.proofs.Common.{◌≡◌, ℕ, suc, ◌+◌, ◌-◌, ◌≤◌, List, [], ◌∷◌, ◌++◌, length, take, drop, Bool, true, false, cond, not, nat_lt, codes, Option, None, Some, is_some, option_map, Result, Ok, Err, arith, sym, refl, ap, subst, ◌∙◌, append_assoc, take-append-drop, length-append, append-nil}
use Rattle.std.specs.Prelude.{OnOk, OnErr}
use Rattle.std.proofs.lemmas.Bool.Decides.{nat_tests}
use Rattle.std.proofs.Math.Seq.{drop-append_seam}
use Rattle.std.proofs.lemmas.List.{length-take-le}
use Rattle.httparse.specs.Spans.{span_bytes}
use Rattle.websocket.specs.declared.error.Error.{Error}
use Rattle.websocket.specs.declared.error.Error.TheVariants.{Protocol, Utf8}
use Rattle.websocket.specs.declared.error.ProtocolError.TheVariants.{ControlFrameTooBig}
use Rattle.websocket.specs.declared.protocol.state.WebSocketState.TheVariants.{ClosedByPeer, CloseAcknowledged}
use Rattle.websocket.specs.declared.protocol.frame.coding.CloseCode.TheVariants as Code
use Rattle.websocket.specs.declared.protocol.frame.coding.Data.{Data}
use Rattle.websocket.specs.declared.protocol.frame.header.FrameHeader.{FrameHeader}
use Rattle.websocket.specs.declared.protocol.frame.codec.RawFrame.{RawFrame}
use Rattle.websocket.specs.declared.protocol.frame.codec.FrameStatus.{FrameStatus}
use Rattle.websocket.specs.declared.protocol.frame.codec.FrameStatus.TheVariants.{Partial, Complete}
use Rattle.websocket.specs.declared.protocol.frame.coding.CloseCode.{CloseCode}
use Rattle.websocket.specs.declared.protocol.frame.coding.OpCode.{OpCode}
use Rattle.websocket.specs.declared.protocol.frame.coding.OpCode.TheVariants as Op
use Rattle.websocket.specs.declared.protocol.frame.coding.Data.TheVariants.{Continue, Text, Binary}
use Rattle.websocket.specs.declared.protocol.frame.coding.Control.{Control}
use Rattle.websocket.specs.declared.protocol.frame.coding.Control.TheVariants.{Close, Ping, Pong}
use Rattle.websocket.specs.Content.{text, received_content, FitsLimit}
use Rattle.websocket.specs.Mask.{apply_mask_if}
use Rattle.websocket.specs.FrameHeader.{IsHeader, StartsWithHeader, encode_header, decode_header, header_len}
use Rattle.websocket.specs.Frame.{encode_frame, decode_frame, check_size}
use Rattle.websocket.specs.Connection.{Connection, Effect, read_step, read_decoded, consumed_with, check_open, check_header, on_frame, on_opcode, on_control, on_short_control, on_close, on_data, on_data_after, on_message_bytes, decode_close, deliver, close_effect, has_allowed_code, can_write, is_server, whole_header, Outgoing, Sends, IsAllowedFrame, failed_connection}
use Rattle.websocket.proofs.StreamLemmas.{after_check_passed}
use Rattle.websocket.proofs.FrameHeaderLemmas.{decode_header_from_start, length-encode_header}
use Rattle.websocket.proofs.MaskLemmas.{apply_mask_if-apply_mask_if, length-apply_mask_if}
use Rattle.websocket.specs.declared.protocol.config.Role.{Role}
use Rattle.websocket.specs.declared.protocol.config.Role.TheVariants.{Server}
use Rattle.websocket.specs.declared.protocol.context.Step.{Step}
use Rattle.websocket.specs.View.{Returns, ReadLeaves, KeepsRest}
use Rattle.orca_web.specs.Frames.{Message, IsReady, HasWholeHeader, TakesFrame, framed, keys_of, keys_by}

-- ---- the frame

-- a read has taken the frame of this header at the front of the bytes
pub record ReadsFrame (conn : Connection) (bytes : List ℕ) (h : FrameHeader) (p : ℕ × Effect) : Type 0 where
  pub payload : List ℕ
  pub valid : IsHeader h (length payload)
  pub split : bytes ≡ encode_frame h payload ++ drop p.0 bytes
  pub does : on_frame conn h payload ≡ Ok p.1

-- the frame that was decoded
record Decodes (conn : Connection) (bytes : List ℕ) (p : ℕ × Effect) : Type 0 where
  frame : RawFrame
  decoded : decode_frame conn.config.max_frame_size bytes ≡ Ok (Complete frame)
  consumed : consumed_with frame.payload.end
      (on_frame conn frame.header (apply_mask_if frame.header.mask (span_bytes bytes frame.payload)))
      ≡ Ok (Complete p)

decodes_from : (conn : Connection) (bytes : List ℕ) (r : Result (FrameStatus RawFrame) Error)
    (p : ℕ × Effect) → decode_frame conn.config.max_frame_size bytes ≡ r
    → read_decoded conn bytes r ≡ Ok (Complete p) → Decodes conn bytes p
decodes_from conn bytes (Err e) p is read = absurd (cc read)
decodes_from conn bytes (Ok (Partial n)) p is read = absurd (cc read)
decodes_from conn bytes (Ok (Complete frame)) p is read = record { frame = frame; decoded = is; consumed = read }

decodes : (conn : Connection) (bytes : List ℕ) (p : ℕ × Effect) → read_step conn bytes ≡ Ok (Complete p)
    → Decodes conn bytes p
unfolding read_step
decodes conn bytes p read =
    decodes_from conn bytes _ p refl (after_check_passed (check_open conn.role conn.state) _ _ read)

abbrev frame_of_header : FrameHeader → ℕ → RawFrame
frame_of_header h n =
    record { header = h; payload = record { start = header_len h n; end = header_len h n + n } }

at_header : (bytes : List ℕ) (h : FrameHeader) (n : ℕ) (frame : RawFrame) (short : Bool)
    → nat_lt (length bytes) (header_len h n + n) ≡ short
    → ◌≡◌ {A = Result (FrameStatus RawFrame) Error}
    (Ok (cond short (Partial (header_len h n + n)) (Complete (frame_of_header h n)))) (Ok (Complete frame))
    → (frame_of_header h n ≡ frame) × (header_len h n + n ≤ length bytes)
at_header bytes h n frame true short is = absurd (cc is)
at_header bytes h n frame false short is = (cc is, grind (arith, nat_tests, short))

decoded_at : (limit : Option ℕ) (bytes : List ℕ) (h : FrameHeader) (n : ℕ) (frame : RawFrame)
    → decode_header bytes ≡ Ok (Some (h, n)) → decode_frame limit bytes ≡ Ok (Complete frame)
    → (frame_of_header h n ≡ frame) × (header_len h n + n ≤ length bytes)
unfolding decode_frame
decoded_at limit bytes h n frame header is =
    at_header bytes h n frame _ refl
    (after_check_passed (check_size n limit) _ _ (rw header at is))

span_after : (front rest : List ℕ) (m n : ℕ) → length front ≡ m
    → span_bytes (front ++ rest) (record { start = m; end = m + n }) ≡ take n rest
span_after front rest m n is =
    let left : m + n - m ≡ n = omega arith in
    let after : drop m (front ++ rest) ≡ rest =
    subst (λ k. drop k (front ++ rest) ≡ rest) is (drop-append_seam front rest) in
    ap (λ k. take k (drop m (front ++ rest))) left ∙ ap (take n) after

consumed_is : (n : ℕ) (r : Result Effect Error) (p : ℕ × Effect) → consumed_with n r ≡ Ok (Complete p)
    → (p.0 ≡ n) × (r ≡ Ok p.1)
consumed_is n (Err e) p is = absurd (cc is)
consumed_is n (Ok effect) p is =
    let pair : ◌≡◌ {A = ℕ × Effect} (n, effect) p = cc is in
    (sym (ap (λ (q : ℕ × Effect). q.0) pair), ap (λ (q : ℕ × Effect). Ok q.1) pair)

drop_past : (front rest : List ℕ) (n : ℕ) → drop (length front + n) (front ++ rest) ≡ drop n rest
drop_past [] rest n =
    let none : 0 + n ≡ n = omega arith in ap (λ k. drop k rest) none
drop_past (x ∷ front) rest n =
    let one : suc (length front) + n ≡ suc (length front + n) = omega arith in
    ap (λ k. drop k (x ∷ (front ++ rest))) one ∙ drop_past front rest n

frame_splits : (bytes : List ℕ) (h : FrameHeader) (n end : ℕ) (rest : List ℕ)
    → bytes ≡ encode_header h n ++ rest → length (encode_header h n) ≡ header_len h n
    → length (apply_mask_if h.mask (take n rest)) ≡ n → end ≡ header_len h n + n
    → bytes ≡ encode_frame h (apply_mask_if h.mask (take n rest)) ++ drop end bytes
frame_splits bytes h n end rest is long count at =
    let front = encode_header h n in
    let payload = apply_mask_if h.mask (take n rest) in
    let frame : encode_frame h payload ≡ front ++ take n rest =
    ap (λ k. encode_header h k ++ apply_mask_if h.mask payload) count
    ∙ ap (λ b. front ++ b) (apply_mask_if-apply_mask_if h.mask (take n rest)) in
    let past : drop end bytes ≡ drop n rest =
    ap (λ k. drop k bytes) (at ∙ ap (λ k. k + n) (sym long))
    ∙ ap (drop (length front + n)) is ∙ drop_past front rest n in
    is ∙ ap (λ b. front ++ b) (sym (take-append-drop n rest))
    ∙ sym (append_assoc front (take n rest) (drop n rest))
    ∙ sym (ap (λ b. b ++ drop end bytes) frame ∙ ap (λ b. (front ++ take n rest) ++ b) past)

pub reads_frame : (conn : Connection) (bytes : List ℕ) (h : FrameHeader) (n : ℕ) (p : ℕ × Effect)
    → StartsWithHeader bytes h n → read_step conn bytes ≡ Ok (Complete p) → ReadsFrame conn bytes h p
reads_frame conn bytes h n p (valid, (rest, is)) read =
    let found = decodes conn bytes p read in
    let at = decoded_at conn.config.max_frame_size bytes h n found.frame
    (decode_header_from_start bytes h n (valid, (rest, is))) found.decoded in
    let took = consumed_is (header_len h n + n) (on_frame conn h (apply_mask_if h.mask
    (span_bytes bytes (frame_of_header h n).payload))) p
    (subst (λ (f : RawFrame). consumed_with f.payload.end (on_frame conn f.header
    (apply_mask_if f.header.mask (span_bytes bytes f.payload))) ≡ Ok (Complete p)) (sym at.0) found.consumed) in
    let long = length-encode_header h n valid.mask in
    let span : span_bytes bytes (frame_of_header h n).payload ≡ take n rest =
    subst (λ (b : List ℕ). span_bytes b (frame_of_header h n).payload ≡ take n rest) (sym is)
    (span_after (encode_header h n) rest (header_len h n) n long) in
    let payload = apply_mask_if h.mask (take n rest) in
    let room : n ≤ length rest =
    omega (arith, at.1, ap length is, length-append (encode_header h n) rest, long) in
    let count : length payload ≡ n =
    length-apply_mask_if h.mask (take n rest) ∙ length-take-le n rest room in
    record {
      payload = payload;
      valid = subst (λ k. IsHeader h k) (sym count) valid;
      split = frame_splits bytes h n p.0 rest is long count took.0;
      does = subst (λ (b : List ℕ). on_frame conn h (apply_mask_if h.mask b) ≡ Ok p.1) span took.1;
    }

-- ---- what it does

-- a whole frame leaves no fragments, and gives its keys
pub record LeavesWhole (conn : Connection) (opcode : OpCode) (payload : List ℕ) (effect : Effect) : Type 0 where
  pub role : effect.next.role ≡ conn.role
  pub config : effect.next.config ≡ conn.config
  pub whole : effect.next.fragments ≡ None
  pub keys : keys_of effect.message ≡ keys_by opcode payload

leaves_as : (conn : Connection) (opcode : OpCode) (payload : List ℕ) (one effect : Effect)
    → ◌≡◌ {A = Result Effect Error} (Ok one) (Ok effect) → LeavesWhole conn opcode payload one
    → LeavesWhole conn opcode payload effect
leaves_as conn opcode payload one effect is leaves = subst (LeavesWhole conn opcode payload) (cc is) leaves

close_leaves : (conn : Connection) (payload : List ℕ)
    (r : Result (Option (CloseCode × List ℕ)) Error) (effect : Effect) → conn.fragments ≡ None
    → on_close conn payload r ≡ Ok effect → LeavesWhole conn (Op.Control Close) payload effect
close_leaves conn payload (Err e) effect none is = absurd (cc is)
close_leaves conn payload (Ok frame) effect none is =
    answered (not (can_write conn.state)) (has_allowed_code frame) is where
      answered : (silent allowed : Bool)
          → ◌≡◌ {A = Result Effect Error} (Ok (cond silent (close_effect conn frame None CloseAcknowledged)
          (cond allowed (close_effect conn frame (Some payload) ClosedByPeer)
          (close_effect conn (Some (Code.Protocol, [])) (Some (3 ∷ 234 ∷ codes "Protocol violation")) ClosedByPeer))))
          (Ok effect) → LeavesWhole conn (Op.Control Close) payload effect
      answered true allowed is =
          leaves_as conn _ payload _ effect is (record { role = refl; config = refl; whole = none; keys = refl })
      answered false true is =
          leaves_as conn _ payload _ effect is (record { role = refl; config = refl; whole = none; keys = refl })
      answered false false is =
          leaves_as conn _ payload _ effect is (record { role = refl; config = refl; whole = none; keys = refl })

short_control_leaves : (conn : Connection) (control : Control) (payload : List ℕ) (effect : Effect)
    → conn.fragments ≡ None → on_short_control conn control payload ≡ Ok effect
    → LeavesWhole conn (Op.Control control) payload effect
short_control_leaves conn Close payload effect none is =
    close_leaves conn payload (decode_close payload) effect none is
short_control_leaves conn Pong payload effect none is =
    leaves_as conn _ payload _ effect is (record { role = refl; config = refl; whole = none; keys = refl })
short_control_leaves conn Ping payload effect none is =
    leaves_as conn _ payload _ effect is (record { role = refl; config = refl; whole = none; keys = refl })

control_leaves : (conn : Connection) (control : Control) (payload : List ℕ) (effect : Effect)
    → conn.fragments ≡ None → on_control conn control true payload ≡ Ok effect
    → LeavesWhole conn (Op.Control control) payload effect
unfolding on_control
control_leaves conn control payload effect none is = by_length (nat_lt 125 (length payload)) is where
  by_length : (long : Bool) → cond long (Err (Protocol ControlFrameTooBig)) (on_short_control conn control payload) ≡ Ok effect
      → LeavesWhole conn (Op.Control control) payload effect
  by_length true is = absurd (cc is)
  by_length false is = short_control_leaves conn control payload effect none is

text_leaves : (conn : Connection) (payload : List ℕ) (valid : Bool) (effect : Effect)
    → deliver conn (cond valid (Ok (text payload)) (Err Utf8)) ≡ Ok effect
    → LeavesWhole conn (Op.Data Text) payload effect
text_leaves conn payload true effect is =
    leaves_as conn _ payload _ effect is (record { role = refl; config = refl; whole = refl; keys = refl })
text_leaves conn payload false effect is = absurd (cc is)

data_leaves : (conn : Connection) (kind : Data) (payload : List ℕ) (effect : Effect)
    → on_data_after conn None kind true payload ≡ Ok effect
    → LeavesWhole conn (Op.Data kind) payload effect
unfolding on_message_bytes
data_leaves conn Continue payload effect is = absurd (cc is)
data_leaves conn Text payload effect is =
    text_leaves conn payload _ effect
    (after_check_passed (check_size (length payload) conn.config.max_message_size) _ _ is)
data_leaves conn Binary payload effect is =
    leaves_as conn _ payload _ effect
    (after_check_passed (check_size (length payload) conn.config.max_message_size) _ _ is)
    (record { role = refl; config = refl; whole = refl; keys = refl })

opcode_leaves : (conn : Connection) (opcode : OpCode) (payload : List ℕ) (effect : Effect)
    → conn.fragments ≡ None → on_opcode conn opcode true payload ≡ Ok effect
    → LeavesWhole conn opcode payload effect
unfolding on_data
opcode_leaves conn (Op.Control control) payload effect none is =
    control_leaves conn control payload effect none is
opcode_leaves conn (Op.Data kind) payload effect none is =
    data_leaves conn kind payload effect
    (subst (λ f. on_data_after conn f kind true payload ≡ Ok effect) none is)

pub frame_leaves : (conn : Connection) (h : FrameHeader) (payload : List ℕ) (effect : Effect)
    → conn.fragments ≡ None → h.is_final ≡ true → on_frame conn h payload ≡ Ok effect
    → LeavesWhole conn h.opcode payload effect
unfolding on_frame
frame_leaves conn h payload effect none final is =
    opcode_leaves conn h.opcode payload effect none
    (subst (λ f. on_opcode conn h.opcode f payload ≡ Ok effect) final
    (after_check_passed (check_header conn h) _ _ is))

-- ---- a reader that is ready reads a frame

ready_as : (conn next : Connection) → next.role ≡ conn.role → next.config ≡ conn.config
    → next.fragments ≡ None → IsReady conn → IsReady next
ready_as conn next role config whole ready = record {
  role = role ∙ ready.role;
  masked = ap (λ c. c.accept_unmasked_frames) config ∙ ready.masked;
  short_frames = ap (λ c. c.max_frame_size) config ∙ ready.short_frames;
  short_messages = ap (λ c. c.max_message_size) config ∙ ready.short_messages;
  whole = whole;
}

-- it is ready after an error too
pub ready_failed : (conn next : Connection) → IsReady conn → next ≡ failed_connection conn → IsReady next
ready_failed conn next ready is =
    subst IsReady (sym is) (ready_as conn (failed_connection conn) refl refl refl ready)

-- and after a frame or a wait
pub ready_read : (conn next : Connection) (bytes old new : List ℕ) → IsReady conn
    → HasWholeHeader bytes → ReadLeaves (read_step conn bytes) conn next old new → IsReady next
ready_read conn next bytes old new ready (h, n, starts, final) leaves =
    by_step (read_step conn bytes) refl leaves where
      by_step : (r : Result (FrameStatus (ℕ × Effect)) Error) → read_step conn bytes ≡ r
          → ReadLeaves r conn next old new → IsReady next
      by_step (Err e) is leaves = absurd leaves
      by_step (Ok (Partial needed)) is leaves = subst IsReady (sym leaves.0) ready
      by_step (Ok (Complete p)) is leaves =
          let reads = reads_frame conn bytes h n p starts is in
          let after = frame_leaves conn h reads.payload p.1 ready.whole final reads.does in
          subst IsReady (sym leaves.0) (ready_as conn p.1.next after.role after.config after.whole ready)

-- what it gives are the keys of the frame
pub takes_frame : (conn : Connection) (bytes after : List ℕ) (step : Step) → IsReady conn
    → HasWholeHeader bytes → Returns (read_step conn bytes) after (Complete step)
    → KeepsRest (Complete step) bytes after
    → ((h : FrameHeader) (payload rest : List ℕ) → IsHeader h (length payload)
    → bytes ≡ encode_frame h payload ++ rest → IsAllowedFrame conn h payload)
    → TakesFrame bytes step.consumed (keys_of (option_map (received_content after) step.message))
takes_frame conn bytes after step ready (h, n, starts, final) returns keeps allowed =
    by_step (read_step conn bytes) refl returns where
      by_step : (r : Result (FrameStatus (ℕ × Effect)) Error) → read_step conn bytes ≡ r
          → Returns r after (Complete step)
          → TakesFrame bytes step.consumed (keys_of (option_map (received_content after) step.message))
      by_step (Err e) is returns = absurd returns
      by_step (Ok (Partial needed)) is returns = absurd (cc returns)
      by_step (Ok (Complete p)) is returns =
          let reads = reads_frame conn bytes h n p starts is in
          let gives = frame_leaves conn h reads.payload p.1 ready.whole final reads.does in
          let rules = allowed h reads.payload (drop p.0 bytes) reads.valid reads.split in
          record {
            frame = record { header = h; payload = reads.payload };
            heard = record {
              whole = final;
              masked = rules.from_client ready.role ready.masked;
              short = subst (λ limit. FitsLimit limit reads.payload) ready.short_frames rules.within_limit;
            };
            split = reads.split ∙ ap (λ k. encode_frame h reads.payload ++ drop k bytes) (sym returns.0);
            given = ap keys_of returns.1.0 ∙ gives.keys;
            within = keeps.0;
          }

-- the same of bytes that were copied
pub ready_after : (result : Result (FrameStatus Step) Error) (conn next : Connection)
    (input bytes old new : List ℕ) → IsReady conn → HasWholeHeader input → bytes ≡ input
    → OnOk result (ReadLeaves (read_step conn bytes) conn next old new)
    → OnErr result (next ≡ failed_connection conn) → IsReady next
ready_after (Ok status) conn next input bytes old new ready whole same leaves failed =
    ready_read conn next bytes old new ready (subst HasWholeHeader (sym same) whole) leaves
ready_after (Err error) conn next input bytes old new ready whole same leaves failed =
    ready_failed conn next ready failed

pub takes_copy : (conn : Connection) (input bytes after keys : List ℕ) (step : Step) → IsReady conn
    → HasWholeHeader input → bytes ≡ input → Returns (read_step conn bytes) after (Complete step)
    → KeepsRest (Complete step) bytes after
    → ((h : FrameHeader) (payload rest : List ℕ) → IsHeader h (length payload)
    → bytes ≡ encode_frame h payload ++ rest → IsAllowedFrame conn h payload)
    → keys ≡ keys_of (option_map (received_content after) step.message)
    → TakesFrame input step.consumed keys
takes_copy conn input bytes after keys step ready whole same returns keeps allowed given =
    subst (λ b. TakesFrame b step.consumed keys) same
    (subst (λ k. TakesFrame bytes step.consumed k) (sym given)
    (takes_frame conn bytes after step ready (subst HasWholeHeader (sym same) whole) returns keeps allowed))

-- ---- what it answers is a frame

sent_frame : (opcode : OpCode) (payload old new : List ℕ) (mask : Option (List ℕ)) → old ≡ []
    → is_some mask ≡ false → new ≡ old ++ encode_frame (whole_header opcode mask) payload
    → new ≡ framed (record { opcode = opcode; payload = payload } ∷ [])
sent_frame opcode payload old new (Some key) none bare is = absurd (cc bare)
sent_frame opcode payload old new None none bare is =
    is ∙ ap (λ b. b ++ encode_frame (whole_header opcode None) payload) none
    ∙ sym (append-nil (encode_frame (whole_header opcode None) payload))

sends_frames : (role : Role) (reply : Option Outgoing) (old new : List ℕ) → role ≡ Server → old ≡ []
    → Sends role reply old new → (messages : List Message) × (new ≡ framed messages)
sends_frames role None old new server none sends = ([], sends ∙ none)
sends_frames role (Some frame) old new server none (mask, fits, is) = (
  record { opcode = frame.opcode; payload = frame.payload } ∷ [],
  sent_frame frame.opcode frame.payload old new mask none
      (fits.0 ∙ ap (λ r. not (is_server r)) server) is,
)

pub answers_frames : (conn next : Connection) (bytes old new : List ℕ) → IsReady next → old ≡ []
    → ReadLeaves (read_step conn bytes) conn next old new
    → (messages : List Message) × (new ≡ framed messages)
answers_frames conn next bytes old new ready none leaves =
    by_step (read_step conn bytes) leaves where
      by_step : (r : Result (FrameStatus (ℕ × Effect)) Error) → ReadLeaves r conn next old new
          → (messages : List Message) × (new ≡ framed messages)
      by_step (Err e) leaves = absurd leaves
      by_step (Ok (Partial needed)) leaves = ([], leaves.1 ∙ none)
      by_step (Ok (Complete p)) leaves = sends_frames next.role p.1.reply old new ready.role none leaves.1
