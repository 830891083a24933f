use Rattle.orca_board.proofs.LiveBitsLemmas.{or_here, or_other}
use Rattle.orca_board.proofs.live_bits.or_bit.Goals as goal

pub returns-clause-here : goal.returns-clause-here
returns-clause-here c =
    or_here c.args.word c.args.bit c.from.result c.args.on c.requires.place c.from.ensures
    c.requires.off

pub returns-clause-other : goal.returns-clause-other
returns-clause-other c k other =
    or_other c.args.word c.args.bit c.from.result c.args.on k c.requires.place c.from.ensures other
