use Rattle.orca_checkpoints.proofs.PointLemmas.{best-is, best-point, dropped-of, due-next, next-after, spacing-after}
use Rattle.orca_checkpoints.proofs.laws.checkpoint_law.Goals as goal

pub returns-clause-next : goal.returns-clause-next
returns-clause-next c = λ at new len peak most points are same higher below. (
  due-next at len peak points are,
  next-after at new len peak most points are same higher below,
)

pub returns-clause-dropped : goal.returns-clause-dropped
returns-clause-dropped c = λ at new len moment peak points are within same.
    dropped-of at new len moment peak points are within same

pub returns-clause-best : goal.returns-clause-best
returns-clause-best c = λ at len moment peak points are within. (
  best-is at len moment peak points are within,
  best-point at len moment peak points are within,
)

pub returns-clause-spacing : goal.returns-clause-spacing
returns-clause-spacing c = λ at len peak points p are all.
    spacing-after at len peak points p are all
