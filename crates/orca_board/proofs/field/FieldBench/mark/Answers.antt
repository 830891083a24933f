use Rattle.std.proofs.Common.{refl, sym, ◌∙◌}
use Rattle.std.proofs.lemmas.List.{length-set}
use Rattle.orca_board.specs.Board.{slate_of}
use Rattle.orca_board.proofs.LargestLemmas.{marked-none, marked-part}
use Rattle.orca_board.proofs.SlateLemmas.{lists-mark}
use Rattle.orca_board.proofs.field.FieldBench.mark.Goals as goal

pub invariant_of-self : goal.invariant_of-self
invariant_of-self g c =
    rw c.add.ensures (record {
      lists = lists-mark (slate_of c.self.inside) _ c.args.at c.args.marks
          c.self.inside.listing.changes c.self.invariant.lists
          (marked-part (slate_of c.self.inside) c.self.inside.marks c.args.at c.in-Some.place
          c.args.marks c.self.invariant.lists.slate.state.sheet.size refl
          c.self.invariant.marks_whole
          c.in-Some.ensures.place c.in-Some.ensures.inside);
      whole = c.self.invariant.whole;
      marks_whole = length-set c.self.inside.marks _ _ ∙ c.self.invariant.marks_whole;
      outside = c.self.invariant.outside;
      live = c.self.invariant.live;
      events_roomy = c.self.invariant.events_roomy;
    })

pub returns-in-Some-clause-deed : goal.returns-in-Some-clause-deed
returns-in-Some-clause-deed g c =
    rw (← c.self.view_is, c.add.ensures)
    (marked-part (slate_of c.self.inside) c.self.inside.marks c.args.at c.in-Some.place
    c.args.marks c.self.invariant.lists.slate.state.sheet.size refl c.self.invariant.marks_whole
    c.in-Some.ensures.place c.in-Some.ensures.inside)

pub returns-in_default-clause-deed : goal.returns-in_default-clause-deed
returns-in_default-clause-deed g c =
    rw (← c.self.view_is)
    (marked-none (slate_of c.self.inside) c.args.at c.args.marks
    c.self.invariant.lists.slate.state.sheet.size
    (sym c.in_default.is ∙ c.in_largest.ensures.place))
