use Rattle.std.proofs.Common.{◌≡◌, ◌≤◌, drop, length, map}
use Rattle.std.specs.List.{prefix_len}
use Rattle.orca_script.specs.Grammar.{is_space}
use Rattle.orca_script.specs.Readers.{form_of}
use Rattle.orca_script.specs.Readers.{read_by}
use Rattle.orca_script.proofs.read.read_forms.Given as goal

-- the forms that are left give what all of them give
abbrev pub invariant-loop-form : goal.invariant-loop-form
invariant-loop-form l = record {
  within : l.most ≤ length l.line;
  same : read_by (map form_of (drop l.form-index l.table)) l.line l.most
      ≡ read_by (map form_of l.table) l.line (prefix_len is_space l.line);
}
