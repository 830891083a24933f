use Rattle.std.proofs.Common.{List, rules, sym, subst}
use Rattle.std.specs.Prelude.{All}
use Rattle.std.specs.List.{IsDistinct}
use Rattle.std.proofs.lemmas.List.Elements.{All-nil}
use Rattle.orca_base.specs.declared.change.Change.{Change}
use Rattle.orca_base.specs.Grids.{IsInside, is_place}
use Rattle.orca_board.specs.Listing.{places_of}
use Rattle.orca_patch.proofs.patch.Patch.empty.Goals as goal

pub invariant_of-result : goal.invariant_of-result
unfolding IsDistinct
invariant_of-result c = record {
  size = search rules;
  inside = subst (λ (changes : List Change). All (IsInside c.args.dims) (places_of changes))
      (sym c.new.ensures.items) (All-nil (IsInside c.args.dims));
  once = subst (λ (changes : List Change). IsDistinct is_place (places_of changes))
      (sym c.new.ensures.items) tt;
}
