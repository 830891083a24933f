use Rattle.std.proofs.Common.{◌≡◌, ℕ, ◌+◌, ◌-◌, ◌++◌, List, true, refl, sym, ◌∙◌, arith}
use Rattle.orca_term.specs.Picture.{grid_row, rows_of, scene_of, tells_sent, text_row}
use Rattle.orca_term.specs.declared.cell.Cell.{Cell}
use Rattle.orca_term.proofs.DrawnRows.{len_more, piece_told}
use Rattle.orca_term.proofs.picture.draw_piece.Goals as goal

-- a row with the text at the end of the others
row_last : (rows drawn after : List Cell) (columns n : ℕ) (text shown : List ℕ) → drawn ≡ rows
    → n ≡ columns → shown ≡ text → after ≡ drawn ++ text_row n shown
    → after ≡ rows ++ text_row columns text
row_last rows drawn after columns n text shown is_rows is_n is_text more =
    rw (more, is_rows, is_n, is_text) refl

pub returns-then-tells_sent-clause-rows : goal.returns-then-tells_sent-clause-rows
returns-then-tells_sent-clause-rows g c =
    let d = c.args.size in
    let scene =
    scene_of (g.T.Look.sheet c.args.look.now) (g.T.Look.marks c.args.look.now) c.args.over.now in
    let tells : tells_sent d scene.editor ≡ true =
    sym c.tells_sent.ensures ∙ c.if-tells_sent.true in
    row_last (rows_of (grid_row d scene) (d.rows - 2)) c.draw_grid.new.cells.items _ d.columns
    c.from.result c.text.result c.as_slice.result.now c.draw_grid.ensures.rows c.from.ensures
    c.as_slice.ensures.bytes c.push_text.ensures.row
    ∙ sym (piece_told d scene c.args.sent.now c.text.result (omega arith)
    c.requires.screen.few_columns tells c.text.ensures.text)

pub returns-then-tells_sent-clause-len : goal.returns-then-tells_sent-clause-len
returns-then-tells_sent-clause-len g c =
    let d = c.args.size in
    let next : d.rows - 1 ≡ d.rows - 2 + 1 = omega (arith, c.requires.screen.rows) in
    rw next
    (len_more c.draw_grid.new.cells.len c.push_text.new.cells.len (d.rows - 2) d.columns
    (omega arith) (omega arith))
