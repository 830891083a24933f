use Rattle.orca_cues.proofs.Checking.{readable-start}
use Rattle.orca_rooms.proofs.sound.SoundScript.of.Goals as goal

pub invariant_of-result : goal.invariant_of-result
invariant_of-result c = rw c.of.ensures (readable-start c.args.text.now c.requires)
