use Rattle.std.proofs.Common.{◌≡◌, ◌+◌, Bool, true, false, not, List, take, arith, ap, refl, sym, ◌∙◌}
use Rattle.std.specs.Prelude.{count_by}
use Rattle.orca_base.specs.Grids.{by_place, cells_of, place_of}
use Rattle.orca_base.specs.MarkSet.{MarkSet, is_marked}
use Rattle.orca_board.specs.Board.{cell_marks}
use Rattle.orca_board.proofs.LargestLemmas.{counted_all, counted_no, counted_yes}
use Rattle.orca_board.proofs.field.count_marked.Goals as goal
use Rattle.orca_board.proofs.field.count_marked.Goals.{then-not-is_empty, else-not-is_empty}

flip_false : (b c : Bool) → b ≡ not c → b ≡ false → c ≡ true
flip_false b true is none = refl
flip_false b false is none = cc

flip_true : (b c : Bool) → b ≡ not c → b ≡ true → c ≡ false
flip_true b true is holds = cc
flip_true b false is holds = refl

pub loop-n-preserved : goal.loop-n-preserved
loop-n-preserved g c =
    let here : is_marked c.at.result ≡ is_marked
    (cell_marks c.args.marks.now (place_of c.args.dims c.loop-n.n)) =
    rw (c.at.ensures, c.place.ensures.place) refl in
    elim c.if-not-is_empty.branch [
      | then-not-is_empty w ↦
          let more = counted_yes c.args.dims c.args.marks.now c.loop-n.n (omega arith)
          (sym here ∙ flip_false _ _ c.is_empty.ensures w.if-not-is_empty.true) in
          omega (arith, more, w.steps-is, w.count_one.ensures, c.loop-n.invariant)
      | else-not-is_empty w ↦
          let same = counted_no c.args.dims c.args.marks.now c.loop-n.n (omega arith)
          (sym here ∙ flip_true _ _ c.is_empty.ensures w.if-not-is_empty.false) in
          omega (arith, same, w.steps-is, c.loop-n.invariant)
    ]

pub returns : goal.returns
returns g c =
    let all : c.loop-n.n ≡ cells_of c.args.dims = omega (arith, c.cells-n-end.ensures.cells) in
    c.loop-n.invariant ∙ ap (λ (xs : List MarkSet). c.args.steps.now + count_by is_marked xs)
    (ap (λ n. take n (by_place c.args.dims (cell_marks c.args.marks.now))) all
    ∙ counted_all c.args.dims c.args.marks.now)
