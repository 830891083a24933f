use Rattle.std.proofs.Common.{rules, tests, ◌≡◌, ◌∙◌, Bool, String, Global, filter, length}
use Rattle.std.proofs.lemmas.Iterator.{YieldsList-from_slice}
use Rattle.std.proofs.lemmas.Iterator.Consumers.{YieldsList-from_filter, count_from_yields_List}
use Rattle.std.proofs.lemmas.List.Sums.{length-filter}
use Rattle.orca_base.specs.declared.port.Port.{Port}
use Rattle.orca_base.specs.Ports.{is_same_port}
use Rattle.orca_rig.proofs.InMemoryLemmas.{attaches_to_attaches}
use Rattle.orca_rig.proofs.mem_outs.attaches_to.Goals as goal

pub returns-clause-count : goal.returns-clause-count
returns-clause-count c =
    let is_kept : Port × String Global → Bool =
    λ (name : Port × String Global). is_same_port name.0 c.args.port in
    let kept : c.count.result ≡ length (filter is_kept c.args.names.now) =
    count_from_yields_List c.filter.result c.count.result c.count.ensures.ran
    (YieldsList-from_filter _ is_kept (YieldsList-from_slice c.args.names.now cc)
    c.filter.ensures.closure (λ x r q k. search (rules, tests))) in
    rw attaches_to_attaches (kept ∙ length-filter is_kept c.args.names.now)
