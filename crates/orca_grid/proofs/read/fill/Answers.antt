use Rattle.std.proofs.Common.{true, false, ◌≡◌, length, refl, sym, ◌∙◌, arith}
use Rattle.std.proofs.lemmas.Bool.{eq-eqb, ne_eqb}
use Rattle.std.proofs.lemmas.Option.{cond_some}
use Rattle.std.proofs.lemmas.List.{length_push}
use Rattle.orca_grid.proofs.Reading.{reading-more}
use Rattle.orca_grid.proofs.Filling.{shows-row, shows-cell, cond_none, fills-start, fills-inside, fills-more, fills-end}
use Rattle.orca_grid.proofs.read.fill.Goals as goal
use Rattle.orca_grid.proofs.read.fill.Goals.{then-byte-eq10, else-byte-eq10+in-Some, else-byte-eq10+in_default}

pub loop-byte-init : goal.loop-byte-init
loop-byte-init c =
    fills-start _ _ c.requires.clean c.requires.whole c.requires.blank

pub set-requires : goal.set-requires
set-requires c =
    let cell = cond_some _ _ _ (sym c.in-Some.ensures) in
    let inside = fills-inside _ _ _ _ c.loop-byte.invariant c.loop-byte-test.true cell.0 in
    rw c.loop-byte.invariant.shows.dims inside

pub loop-byte-preserved : goal.loop-byte-preserved
loop-byte-preserved c =
    let fills = c.loop-byte.invariant in
    let h = c.loop-byte-test.true in
    elim c.if-byte-eq10.branch [
      | then-byte-eq10 w ↦
          let next = reading-more true _ _ _ (eq-eqb _ 10 w.if-byte-eq10.true) refl in
          let place = w.at-is ∙ rw (fills.at_is, length_push) refl in
          fills-more _ _ _ _ _ _ _ fills h next place (rw w.grid-is (shows-row _ _ _ fills.shows))
      | else-byte-eq10+in-Some w ↦
          let cell = cond_some _ _ _ (sym w.in-Some.ensures) in
          let next = reading-more false true _ _ (ne_eqb _ 10 w.if-byte-eq10.false) cell.0 in
          let place = w.at-is ∙ rw (fills.at_is, length_push) refl in
          let inside = fills-inside _ _ _ _ fills h cell.0 in
          let set = w.set.ensures in
          let shows = shows-cell _ _ _ _ _ _ _ _ inside fills.at_is cell.1 set fills.shows in
          fills-more _ _ _ _ _ _ _ fills h next place (rw w.grid-is shows)
      | else-byte-eq10+in_default w ↦
          let none = cond_none _ _ (sym w.cell.ensures ∙ w.in_default.is) in
          let next = reading-more false false _ _ (ne_eqb _ 10 w.if-byte-eq10.false) none in
          fills-more _ _ _ _ _ _ _ fills h next (w.at-is ∙ fills.at_is) (rw w.grid-is fills.shows)
    ]

pub returns : goal.returns
returns c =
    let end : c.loop-byte.byte-index ≡ length c.args.bytes.now = omega arith in
    fills-end _ _ _ _ end c.loop-byte.invariant
