use Rattle.std.proofs.Common.{◌≡◌, ◌+◌, List, ℕ, length, refl, sym, ◌∙◌, arith, true, false}
use Rattle.std.specs.Prelude.{slice_index}
use Rattle.std.proofs.lemmas.Bool.{eq-eqb, ne_eqb}
use Rattle.std.proofs.lemmas.Bool.Decides.{nat_tests}
use Rattle.std.proofs.lemmas.List.{length_push}
use Rattle.orca_grid.specs.GridText.{row_at}
use Rattle.orca_grid.proofs.Lines.{cell_is_no_end}
use Rattle.orca_grid.proofs.Places.{cell-free, free_of, no-cell}
use Rattle.orca_grid.proofs.Reading.{reading-more, column_read, widest-push}
use Rattle.orca_grid.proofs.Counting.{counts-start, counts-more, counts-size, grid_text-refused, grid_text-clean}
use Rattle.orca_grid.proofs.read.size_of.Goals as goal
use Rattle.orca_grid.proofs.read.size_of.Goals.{then-is_cell_with_room, else-is_cell_with_room+in_default+then-byte-eq10, else-is_cell_with_room+in_default+else-byte-eq10}

pub loop-i-init : goal.loop-i-init
loop-i-init c = counts-start c.args.bytes.now

pub offence-requires-clause-column : goal.offence-requires-clause-column
offence-requires-clause-column c =
    c.loop-i.invariant.column_is ∙ column_read _ _ _ c.loop-i.invariant.read

pub returns-in-Some-clause-refused : goal.returns-in-Some-clause-refused
returns-in-Some-clause-refused c =
    let found = sym c.offence.ensures.offence ∙ c.in-Some.is in
    grid_text-refused c.args.bytes.now _ _ c.loop-i-test.true c.loop-i.invariant.clean found

pub loop-i-preserved : goal.loop-i-preserved
loop-i-preserved c =
    let counts = c.loop-i.invariant in
    let h = c.loop-i-test.true in
    let row : c.loop-i.height + 1 ≡ row_at c.args.bytes.now c.loop-i.i =
    omega (arith, counts.height_is, counts.read.row) in
    let column = counts.column_is ∙ column_read _ _ _ counts.read in
    elim c.if-is_cell_with_room.branch [
      | then-is_cell_with_room w ↦
          let free = free_of (slice_index c.args.bytes.now c.loop-i.i) c.loop-i.height
          c.loop-i.column (sym w.if-is_cell_with_room.ensures) in
          let good = cell-free _ _ _ _ row column free.0 free.1 free.2 in
          let next = reading-more false true _ _ (cell_is_no_end _ free.0) free.0 in
          counts-more _ _ _ _ _ _ _ _ _ counts h good next
          (omega arith) (omega arith) (omega (arith, length_push {X = ℕ}))
      | else-is_cell_with_room+in_default+then-byte-eq10 w ↦
          let good = sym w.offence.ensures.offence ∙ w.in_default.is in
          let next = reading-more true _ _ _ (eq-eqb _ 10 w.if-byte-eq10.true) refl in
          counts-more _ _ _ _ _ _ _ _ _ counts h good next
          (omega (arith, length_push {X = List ℕ})) (omega (arith, widest-push)) w.column-is
      | else-is_cell_with_room+in_default+else-byte-eq10 w ↦
          let good = sym w.offence.ensures.offence ∙ w.in_default.is in
          let other = no-cell _ _ _ _ row column (omega (arith, counts.column_is, counts.fit.wide))
          good (sym w.if-is_cell_with_room.ensures) in
          let no_end = ne_eqb _ 10 w.if-byte-eq10.false in
          let next = reading-more false false _ _ no_end other in
          counts-more _ _ _ _ _ _ _ _ _ counts h good next (omega arith) (omega arith) (omega arith)
    ]

pub returns-then-h-eq0-clause-refused : goal.returns-then-h-eq0-clause-refused
returns-then-h-eq0-clause-refused c =
    let end : c.loop-i.i ≡ length c.args.bytes.now = omega arith in
    let clean = rw end at c.loop-i.invariant.clean in
    let size = counts-size _ _ _ _ _ end c.loop-i.invariant in
    grid_text-clean _ _ clean size ∙ grind (arith, nat_tests)

pub returns-clause-size : goal.returns-clause-size
returns-clause-size c =
    let end : c.loop-i.i ≡ length c.args.bytes.now = omega arith in
    rw (c.min.ensures, c.max-w.ensures) (sym (counts-size _ _ _ _ _ end c.loop-i.invariant))

pub returns-clause-found : goal.returns-clause-found
returns-clause-found c =
    let end : c.loop-i.i ≡ length c.args.bytes.now = omega arith in
    let clean = rw end at c.loop-i.invariant.clean in
    let size = counts-size _ _ _ _ _ end c.loop-i.invariant in
    grid_text-clean _ _ clean size ∙ grind (arith, nat_tests)
