use Rattle.std.proofs.Common.{codes, length, ap, arith}
use Rattle.orca_base.specs.declared.limits.TheConstants.{MAX_SCREEN_COLUMNS}
use Rattle.orca_term.specs.Traffic.{message_words}
use Rattle.orca_term.proofs.TrafficLemmas.{full_row}
use Rattle.orca_term.proofs.traffic.push_message.Goals as goal

pub returns-then-as_slice-from-clause-text : goal.returns-then-as_slice-from-clause-text
returns-then-as_slice-from-clause-text c =
    full_row MAX_SCREEN_COLUMNS c.args.text.now (codes " ") (message_words c.args.message.now)
    (omega (arith, ap length c.as_slice.ensures.bytes))
