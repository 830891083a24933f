use Rattle.orca_base.proofs.ListFacts.{resized}
use Rattle.orca_base.specs.declared.limits.TheConstants.{LIVE_WORDS}
use Rattle.orca_board.proofs.live_bits.LiveBits.start.Goals as goal

pub returns : goal.returns
unfolding Rattle.orca_board.specs.LiveBits.no_bits
returns c = resized LIVE_WORDS _ _ _ 0 c.new-words.ensures.items c.new-words.ensures.len
    c.in_ok-resize.ensures.items
