use Rattle.std.proofs.Common.{◌≡◌, ◌++◌, ℕ, List, append_assoc, get_or, take, codes, ap, ◌∙◌, arith}
use Rattle.orca_base.specs.declared.limits.TheConstants.{MAX_SCREEN_COLUMNS}
use Rattle.orca_base.specs.declared.message.Message.{Message}
use Rattle.orca_term.specs.Traffic.{message_words}
use Rattle.orca_term.proofs.TrafficLemmas.{words_more}
use Rattle.orca_term.proofs.traffic.push_messages.Goals as goal

pub loop-message-preserved : goal.loop-message-preserved
loop-message-preserved c =
    let said : Message → List ℕ = λ m. codes " " ++ message_words m in
    let more : take MAX_SCREEN_COLUMNS c.push_message.new.text
    ≡ take MAX_SCREEN_COLUMNS (c.loop-message.text
    ++ said (get_or c.args.messages.now c.loop-message.message-index c.message-item.result)) =
    c.push_message.ensures.text
    ∙ (ap (take MAX_SCREEN_COLUMNS)
    (append_assoc c.loop-message.text (codes " ") (message_words c.message-item.result))
    ∙ ap (λ (m : Message). take MAX_SCREEN_COLUMNS (c.loop-message.text ++ said m)) c.message-item.is) in
    record {
      text =
          words_more said MAX_SCREEN_COLUMNS c.args.text.now c.loop-message.text
          c.push_message.new.text c.args.messages.now c.loop-message.message-index
          c.message-item.result (omega arith) c.loop-message.invariant.text more;
      printable = c.push_message.ensures.printable;
    }
