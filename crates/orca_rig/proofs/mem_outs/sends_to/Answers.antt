use Rattle.std.proofs.Common.{rules, tests, ◌≡◌, ◌∙◌, Bool, ℕ, Vec, Global, filter, length}
use Rattle.std.proofs.lemmas.Iterator.{YieldsList-from_slice}
use Rattle.std.proofs.lemmas.Iterator.Consumers.{YieldsList-from_filter, count_from_yields_List}
use Rattle.std.proofs.lemmas.List.Sums.{length-filter}
use Rattle.orca_base.specs.declared.port.Port.{Port}
use Rattle.orca_base.specs.Ports.{is_same_port}
use Rattle.orca_rig.proofs.InMemoryLemmas.{sends_to_sents}
use Rattle.orca_rig.proofs.mem_outs.sends_to.Goals as goal

pub returns-clause-count : goal.returns-clause-count
returns-clause-count c =
    let is_kept : Port × Vec ℕ Global → Bool =
    λ (piece : Port × Vec ℕ Global). is_same_port piece.0 c.args.port in
    let kept : c.count.result ≡ length (filter is_kept c.args.pieces.now) =
    count_from_yields_List c.filter.result c.count.result c.count.ensures.ran
    (YieldsList-from_filter _ is_kept (YieldsList-from_slice c.args.pieces.now cc)
    c.filter.ensures.closure (λ x r q k. search (rules, tests))) in
    rw sends_to_sents (kept ∙ length-filter is_kept c.args.pieces.now)
