use Rattle.std.proofs.Common.{rules, ◌≡◌, ℕ, List, ◌++◌, length}
use Rattle.websocket.specs.FrameHeader.{IsHeader}
use Rattle.websocket.specs.Frame.{encode_frame}
use Rattle.websocket.specs.Connection.{read_step, IsAllowedFrame}
use Rattle.websocket.specs.View.{Returns, ReadLeaves, KeepsRest}
use Rattle.websocket.specs.declared.protocol.frame.header.FrameHeader.{FrameHeader}
use Rattle.websocket.specs.declared.protocol.frame.codec.FrameStatus.TheVariants.{Complete}
use Rattle.orca_web.specs.Frames.{IsReady, HasWholeHeader}
use Rattle.orca_web.proofs.FrameLemmas.{ready_after, takes_copy, answers_frames}
use Rattle.orca_web.proofs.incoming.Reader.read.Goals as goal

pub invariant_of-self : goal.invariant_of-self
invariant_of-self c =
    let whole : HasWholeHeader c.args.input.now = search rules in
    record {
      ready = ready_after c.read.result c.args.self.now.context c.read.new.self c.args.input.now
          c.copy_from_slice.new.self _ _ c.args.self.now.ready whole c.copy_from_slice.ensures.after
          c.read.ensures.leaves c.read.ensures.err_state;
    }

pub returns-in-Ok-Complete-clause-frame : goal.returns-in-Ok-Complete-clause-frame
returns-in-Ok-Complete-clause-frame c =
    let connection = c.args.self.now.context in
    let bytes = c.copy_from_slice.new.self in
    let step = c.in-Ok-Complete.step in
    let whole : HasWholeHeader c.args.input.now = search rules in
    let returns : Returns (read_step connection bytes) c.read.new.input (Complete step) = search rules in
    let keeps : KeepsRest (Complete step) bytes c.read.new.input = search rules in
    let allowed : (h : FrameHeader) (payload rest : List ℕ) → IsHeader h (length payload)
    → bytes ≡ encode_frame h payload ++ rest → IsAllowedFrame connection h payload = search rules in
    takes_copy connection c.args.input.now bytes c.read.new.input c.of-keys.result step
    c.args.self.now.ready whole c.copy_from_slice.ensures.after returns keeps allowed (search rules)

pub returns-in-Ok-Complete-clause-reply : goal.returns-in-Ok-Complete-clause-reply
returns-in-Ok-Complete-clause-reply c =
    let connection = c.args.self.now.context in
    let bytes = c.copy_from_slice.new.self in
    let whole : HasWholeHeader c.args.input.now = search rules in
    let leaves : ReadLeaves (read_step connection bytes) connection c.read.new.self
    c.args.reply.now c.read.new.output = search rules in
    let ready : IsReady c.read.new.self =
    ready_after c.read.result connection c.read.new.self c.args.input.now bytes _ _
    c.args.self.now.ready whole c.copy_from_slice.ensures.after c.read.ensures.leaves
    c.read.ensures.err_state in
    answers_frames connection c.read.new.self bytes c.args.reply.now c.read.new.output ready
    c.requires.reply leaves
