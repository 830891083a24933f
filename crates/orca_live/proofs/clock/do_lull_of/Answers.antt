use Rattle.orca_term.specs.Keys.{Due}
use Rattle.orca_live.proofs.DoneLemmas.{hands_turned}
use Rattle.orca_live.proofs.clock.do_lull_of.Goals as goal

pub press_all-requires : goal.press_all-requires
press_all-requires g c = record {
  hand = hands_turned c.args.hand Due _ _ _ c.due-keys.ensures.crew c.hands.ensures.hands
      c.if-hand-hands.false;
}
