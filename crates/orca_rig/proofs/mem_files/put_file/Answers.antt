use Rattle.std.proofs.Common.{◌≡◌, ◌∙◌, sym, ap, ℕ, Some, string_bytes}
use Rattle.std.specs.Prelude.{None, position, Option}
use Rattle.orca_rig.specs.InMemory.{files_of}
use Rattle.orca_rig.proofs.InMemoryLemmas.{has_name, files_of_over, files_of_push, placed, unplaced}
use Rattle.orca_rig.proofs.mem_files.put_file.Goals as goal

pub returns-in-Some : goal.returns-in-Some
returns-in-Some c =
    let name = string_bytes c.args.name in
    let files = c.args.files.now.items in
    let found : position (has_name name) files ≡ Some c.in-Some.place =
    rw (← c.as_str.ensures.value, ← c.deref.ensures.value)
    (sym c.place_of.ensures ∙ c.in-Some.is) in
    let place = placed files name c.in-Some.place found in
    files_of_over files c.in-Some.place c.index_mut.result.now name c.args.bytes place.0 place.1
    c.index_mut.ensures.value

pub returns-in-None : goal.returns-in-None
returns-in-None c =
    let name = string_bytes c.args.name in
    let files = c.args.files.now.items in
    let found : ◌≡◌ {A = Option ℕ} (position (has_name name) files) None =
    rw (← c.as_str.ensures.value, ← c.deref.ensures.value)
    (sym c.place_of.ensures ∙ c.in-None.is) in
    ap files_of c.push_reserved.ensures.items
    ∙ files_of_push files (c.args.name, c.args.bytes) (unplaced files name found)
