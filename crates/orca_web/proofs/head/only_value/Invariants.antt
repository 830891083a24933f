use Rattle.std.proofs.Common.{◌≡◌, ◌++◌, drop, option_map}
use Rattle.websocket.specs.Headers.{fields_of}
use Rattle.orca_web.specs.Heads.{values}
use Rattle.orca_web.proofs.HeadLemmas.{as_list}
use Rattle.orca_web.proofs.head.only_value.Given as goal

-- what was found, and then what the other fields have
abbrev pub invariant-loop-field : goal.invariant-loop-field
invariant-loop-field l =
    values (fields_of l.bytes l.fields) l.name
    ≡ as_list (option_map (λ value. value.now) l.found)
    ++ values (fields_of l.bytes (drop l.field-index l.fields)) l.name
