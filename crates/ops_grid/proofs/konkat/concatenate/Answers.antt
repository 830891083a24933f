use Rattle.ops_grid.proofs.RowLemmas.{stored_marked}
use Rattle.ops_grid.proofs.konkat.concatenate.Goals as goal

pub returns-clause-deeds : goal.returns-clause-deeds
returns-clause-deeds g c =
    stored_marked _ _ _ c.args.at c.args.length c.input_span.ensures.deeds c.store.ensures.deeds
