use Rattle.std.proofs.Common.{ap, arith, [], drop, length, List, refl, ℕ}
use Rattle.orca_smf.specs.declared.track.Track.TheInside.{Inside}
use Rattle.orca_smf.proofs.Growing.{Holds, held_track, held_value}
use Rattle.orca_smf.proofs.track.Track.start.Goals as goal

-- no message stands after the room for the front
pub invariant_of-result : goal.invariant_of-result
invariant_of-result c =
    let t : Inside = record { tempo = c.args.tempo; last = 0; file = c.in_ok-file.file } in
    let held : Holds t [] = record {
      tempo = c.requires;
      front = omega (arith, ap length c.in_ok-file.ensures.items);
      spelled = ap (λ (x : List ℕ). drop 29 x) c.in_ok-file.ensures.items;
      messages = tt;
      last = refl;
      short = omega arith;
    } in
    held_track t [] held

pub returns : goal.returns
returns c =
    let t : Inside = record { tempo = c.args.tempo; last = 0; file = c.in_ok-file.file } in
    let held : Holds t [] = record {
      tempo = c.requires;
      front = omega (arith, ap length c.in_ok-file.ensures.items);
      spelled = ap (λ (x : List ℕ). drop 29 x) c.in_ok-file.ensures.items;
      messages = tt;
      last = refl;
      short = omega arith;
    } in
    held_value t [] held
