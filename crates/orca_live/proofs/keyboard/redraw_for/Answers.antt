use Rattle.orca_live.proofs.DoneLemmas.{redrawn_at}
use Rattle.orca_live.proofs.keyboard.redraw_for.Goals as goal

pub returns-then-from-as_slice : goal.returns-then-from-as_slice
returns-then-from-as_slice c other =
    redrawn_at c.args.views.now.items c.args.hand c.from-then-from-as_slice.result c.args.size other
    c.index_mut.result.now c.redraw.new.view c.from-then-from-as_slice.ensures
    (rw (c.from.ensures, c.as_slice.ensures.value) at c.if-from-as_slice.true)
    c.index_mut.ensures.value c.redraw.ensures
