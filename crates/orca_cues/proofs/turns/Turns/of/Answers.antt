use Rattle.orca_cues.proofs.Turning.{turns_left-start}
use Rattle.orca_cues.proofs.turns.Turns.of.Goals as goal

pub returns : goal.returns
returns c = turns_left-start c.args.maker.seed c.args.maker.dims c.args.frames
