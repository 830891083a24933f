use Rattle.std.proofs.Common.{◌≡◌, ◌++◌, ◌∷◌, [], get_or, sym, ap, ◌∙◌, arith}
use Rattle.orca_base.specs.declared.message.Message.{Message}
use Rattle.orca_term.specs.Traffic.{is_told}
use Rattle.orca_term.specs.declared.limits.TheConstants.{TOLD_MESSAGES}
use Rattle.orca_term.proofs.TrafficLemmas.{failing_more, passing_full, passing_more}
use Rattle.orca_term.proofs.traffic.keep.Goals as goal
use Rattle.orca_term.proofs.traffic.keep.Goals.{then-is_told+then-len-lt-TOLD_MESSAGES, else-is_told, else-is_told-via-then-is_told+else-len-lt-TOLD_MESSAGES, else-is_told-via-else-is_told}

pub loop-message-preserved : goal.loop-message-preserved
loop-message-preserved c =
    let all = c.args.messages.now in
    let i = c.loop-message.message-index in
    let here = c.message-item.result in
    let test : c.is_told.result ≡ is_told (get_or all i here) =
    c.is_told.ensures ∙ ap is_told c.message-item.is in
    elim c.if-is_told.branch [
      | then-is_told+then-len-lt-TOLD_MESSAGES w ↦
          let more : c.loop-message.kept.items ++ get_or all i here ∷ [] ≡ _ =
          passing_more is_told TOLD_MESSAGES all c.loop-message.kept.items i here (omega arith)
          c.loop-message.invariant.kept (sym test ∙ w.if-is_told.true) (omega arith) in
          rw w.kept-is (record {
            kept =
                w.push_reserved.ensures.items
                ∙ (ap (λ (m : Message). c.loop-message.kept.items ++ m ∷ []) c.message-item.is ∙ more);
            few = omega arith;
            room = omega arith;
          })
      | else-is_told w ↦
          rw w.kept-is (record {
            kept =
                elim w.else-is_told.branch [
                  | else-is_told-via-then-is_told+else-len-lt-TOLD_MESSAGES w' ↦
                      passing_full is_told TOLD_MESSAGES all c.loop-message.kept.items i here
                      (omega arith) c.loop-message.invariant.kept (sym test ∙ w'.if-is_told.true)
                      (omega arith)
                  | else-is_told-via-else-is_told w' ↦
                      failing_more is_told TOLD_MESSAGES all c.loop-message.kept.items i here
                      (omega arith) c.loop-message.invariant.kept (sym test ∙ w'.if-is_told.false)
                ];
            few = c.loop-message.invariant.few;
            room = c.loop-message.invariant.room;
          })
    ]
