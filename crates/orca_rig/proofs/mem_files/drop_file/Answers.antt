use Rattle.std.proofs.Common.{◌≡◌, ◌∙◌, ap, filter, rules}
use Rattle.std.proofs.lemmas.Fn.{filter_same}
use Rattle.orca_rig.specs.InMemory.{files_of}
use Rattle.orca_rig.proofs.InMemoryLemmas.{has_other, files_of_without}
use Rattle.orca_rig.proofs.mem_files.drop_file.Goals as goal

pub returns : goal.returns
returns c =
    let name = c.args.name.now in
    let left : c.retain.new.self.items ≡ filter (has_other name) c.args.files.now.items =
    filter_same _ (has_other name) _ (λ x b f' k. search rules) _ _ c.retain.ensures.filtered in
    ap files_of left ∙ files_of_without c.args.files.now.items name
