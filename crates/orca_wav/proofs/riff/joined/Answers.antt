use Rattle.std.proofs.Common.{◌/◌, ◌%◌, [], get_or, rules}
use Rattle.std.proofs.lemmas.List.FromFn.{fill_by_all}
use Rattle.orca_wav.specs.declared.limits.TheConstants.{HEADER_BYTES}
use Rattle.orca_wav.proofs.riff.joined.Goals as goal

pub returns : goal.returns
returns c =
    fill_by_all (λ k. get_or (get_or c.args.words (k / 4) []) (k % 4) 0) c.loop-i.bytes HEADER_BYTES
    0 c.loop-i.invariant.0 (search rules)
