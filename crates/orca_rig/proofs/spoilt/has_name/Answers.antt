use Rattle.std.proofs.Common.{rules, tests, ◌∙◌, string_bytes}
use Rattle.std.proofs.lemmas.Iterator.{YieldsList-from_slice}
use Rattle.std.proofs.lemmas.Iterator.Search.{any_from_yields_List}
use Rattle.std.specs.Str.{bytes_eq}
use Rattle.orca_rig.proofs.SpoiltLemmas.{any_named}
use Rattle.orca_rig.proofs.spoilt.has_name.Goals as goal

pub returns : goal.returns
returns c =
    any_from_yields_List (λ other. bytes_eq c.args.name.now (string_bytes other)) _ _ _
    c.any.ensures.ran (YieldsList-from_slice c.args.names.now cc)
    (λ x b q k. search (rules, tests))
    ∙ any_named c.args.names.now c.args.name.now
