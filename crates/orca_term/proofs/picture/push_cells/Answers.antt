use Rattle.std.proofs.Common.{◌≡◌, ℕ, ◌+◌, ◌-◌, ◌++◌, ◌∙◌, ◌&&◌, true, nat_le, nat_lt, map, sym, ap, rules, arith}
use Rattle.std.specs.List.{range_with_len}
use Rattle.std.proofs.lemmas.List.Elements.{All-push}
use Rattle.orca_base.specs.Grids.{is_inside}
use Rattle.orca_base.specs.declared.place.Place.{Place}
use Rattle.orca_term.specs.Picture.{IsPrintable, scene_of, grid_cell}
use Rattle.orca_term.specs.declared.cell.Cell.{Cell}
use Rattle.orca_term.proofs.DrawnRows.{cell_more, row_place}
use Rattle.orca_term.proofs.picture.push_cells.Goals as goal

pub loop-x-preserved : goal.loop-x-preserved
loop-x-preserved g c =
    let scene =
    scene_of (g.T.Look.sheet c.args.look.now)
    (g.T.Look.marks c.args.look.now) c.args.over.now in
    let here : Place = record { y = c.args.at.y; x = c.loop-x.x } in
    let f : ℕ → Cell =
    λ x. grid_cell scene (record { y = c.args.at.y; x = c.args.at.x + x }) in
    let done = c.loop-x.x - c.args.at.x in
    let column : c.args.at.x + done ≡ c.loop-x.x = omega arith in
    let next : c.loop-x.x + 1 - c.args.at.x ≡ done + 1 = omega arith in
    let selected : (nat_le c.columns_at-selected.result.start c.loop-x.x
    && nat_lt c.loop-x.x c.columns_at-selected.result.end) ≡ c.contains-is_selected.result =
    search (rules, arith) in
    let inside : is_inside scene.sheet.dims here ≡ true = search (rules, arith) in
    let bare =
    c.place_cell-cell.ensures.cell c.args.over.now
    (c.columns_at-selected.ensures c.loop-x.x ∙ selected)
    (sym c.is_met-is_met.ensures) c.requires.guided in
    let cell : c.ruled_cell.result ≡ f done =
    (rw bare at c.ruled_cell.ensures.cell)
    ∙ (row_place scene here _ inside c.requires.ruled
    ∙ ap (λ x. grid_cell scene (record { y = c.args.at.y; x = x })) (sym column)) in
    record {
      cells =
          cell_more f done c.args.cells.now.items c.loop-x.cells.items
          c.push_reserved.new.self.items c.ruled_cell.result c.loop-x.invariant.cells cell
          c.push_reserved.ensures.items
          ∙ ap (λ n. c.args.cells.now.items ++ map f (range_with_len 0 n)) (sym next);
      len = omega arith;
      printable =
          rw c.push_reserved.ensures.items
          (All-push IsPrintable c.loop-x.cells.items c.ruled_cell.result
          c.loop-x.invariant.printable c.ruled_cell.ensures.printable);
      room = omega arith;
    }
