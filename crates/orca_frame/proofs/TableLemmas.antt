-- The table is lawful where each row is.
use Rattle.std.proofs.Common.{arith, Option, Some, None}
use Rattle.orca_op.specs.declared.kind.Kind.{Kind}
use Rattle.orca_op.specs.Kinds.{kind_of}
use Rattle.orca_op.specs.Laws.{IsLawful}
use Rattle.orca_op.specs.Rules.{rule, rule_of, rule_if}

lawful_if : ((kind : Kind) → IsLawful (rule_of kind)) → (kind : Option Kind)
    → IsLawful (rule_if kind)
lawful_if each None = record {
  few_deeds = λ g s at now. omega arith;
  one_event = λ g s at now. omega arith;
  glyphs = λ g s at now whole glyph. tt;
  covered = λ g s at now. tt;
  events = λ g s at now whole. tt;
}
lawful_if each (Some kind) = each kind

pub lawful_table : ((kind : Kind) → IsLawful (rule_of kind)) → IsLawful rule
unfolding rule
lawful_table each = record {
  few_deeds = λ g s at now. (lawful_if each (kind_of g)).few_deeds g s at now;
  one_event = λ g s at now. (lawful_if each (kind_of g)).one_event g s at now;
  glyphs = λ g s at now whole glyph. (lawful_if each (kind_of g)).glyphs g s at now whole glyph;
  covered = λ g s at now. (lawful_if each (kind_of g)).covered g s at now;
  events = λ g s at now whole. (lawful_if each (kind_of g)).events g s at now whole;
}
