use Rattle.std.proofs.Common.{◌≡◌, [], ◌∷◌, ◌++◌, arith, sym, ◌∙◌, ap}
use Rattle.orca_base.specs.Histories.{worn_of}
use Rattle.orca_base.proofs.WornFacts.{worn-none}
use Rattle.orca_history.specs.Trails.{touched_of}
use Rattle.orca_history.proofs.Worn.{room-made, touched-more}
use Rattle.orca_history.proofs.ring.Ring.push.Goals as goal

pub loop-self-preserved : goal.loop-self-preserved
loop-self-preserved c =
    let i = c.loop-self.invariant in
    let made = room-made c.args.self.now c.loop-self.self c.drop_oldest.new.self c.args.touched
    c.requires.most (sym c.has_room.ensures.room ∙ c.loop-self-test.true) i.within i.rest i.worn
    c.drop_oldest.ensures in
    record { within = made.0; rest = made.1; worn = made.2 }

pub returns-clause-worn : goal.returns-clause-worn
returns-clause-worn c =
    let none : worn_of (touched_of c.loop-self.self ++ c.args.touched ∷ []) ≡ 0 =
    worn-none (touched_of c.loop-self.self ++ c.args.touched ∷ [])
    (sym c.has_room.ensures.room ∙ c.loop-self-test.false) in
    omega (
      arith,
      c.len-before.ensures.len,
      c.len.ensures.len,
      c.loop-self.invariant.worn,
      none,
      ap worn_of (touched-more c.args.self.now
          (record { patch = c.args.patch; touched = c.args.touched })),
    )
