use Rattle.ops_grid.proofs.RowLemmas.{copied_marked}
use Rattle.ops_grid.proofs.generator.generate.Goals as goal

pub returns-clause-deeds : goal.returns-clause-deeds
returns-clause-deeds g c =
    copied_marked _ _ _ _ c.args.at c.args.y c.args.x c.args.length c.input_span.ensures.deeds
    c.far_span.ensures.deeds c.copy.ensures.deeds
