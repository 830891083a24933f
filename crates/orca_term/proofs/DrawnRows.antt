-- The picture a row at a time.
use Rattle.std.proofs.Common.{◌≡◌, ℕ, zero, suc, ◌+◌, ◌-◌, ◌*◌, ◌%◌, ◌<◌, ◌≤◌, ◌==◌, Bool, true, false, ◌&&◌, map, get_or, take, List, [], ◌∷◌, ◌++◌, append_assoc, length, refl, subst, ap, sym, ◌∙◌, rules, arith, add-one}
use Rattle.std.specs.List.{list_any, range_with_len}
use Rattle.std.proofs.lemmas.Bool.{cond-true, cond-false, or_parts}
use Rattle.std.proofs.lemmas.List.{append-nil, get_or-take, length-append}
use Rattle.std.proofs.lemmas.List.FromFn.{length-map-range_with_len, map-range_with_len_more}
use Rattle.std.specs.Prelude.{if◌then◌else◌, slice_index_or}
use Rattle.orca_base.specs.Glyphs.{empty}
use Rattle.orca_base.specs.Grids.{Size, glyph_at, is_inside}
use Rattle.orca_base.specs.declared.place.Place.{Place}
use Rattle.orca_term.specs.Codes.{plus}
use Rattle.orca_base.specs.Ascii.{space}
use Rattle.orca_term.specs.Editing.{page_of}
use Rattle.orca_base.specs.declared.limits.TheConstants.{MAX_SCREEN_COLUMNS}
use Rattle.orca_term.specs.Picture.{Scene, blank_cell, cut_row, faint, glyph_under, grid_cell, grid_row, is_met, page_row, picture, piece_row, rows_of, screen_cells, status_cells, style_at, tells_sent, text_cell, text_row, upper_rows}
use Rattle.orca_term.specs.Traffic.{FrameSent, sent_text}
use Rattle.orca_term.specs.declared.cell.Cell.{Cell}
use Rattle.orca_term.specs.declared.cell.ScreenSize.{ScreenSize}
use Rattle.orca_term.specs.declared.limits.TheConstants.{RULER_PLACES}
use Rattle.orca_term.specs.declared.status.StatusLine.{StatusLine}

-- a cell more
pub cell_more : (f : ℕ → Cell) (n : ℕ) (start before after : List Cell) (cell : Cell)
    → before ≡ start ++ map f (range_with_len 0 n) → cell ≡ f n → after ≡ before ++ cell ∷ []
    → after ≡ start ++ map f (range_with_len 0 (n + 1))
cell_more f n start before after cell drawn is more =
    rw (more, drawn, is, map-range_with_len_more f 0 n n (omega arith))
    (append_assoc start (map f (range_with_len 0 n)) (f n ∷ []))

-- functions that are the same before a column make the same cells up to it
pub same_cells : (f g : ℕ → Cell) (n : ℕ) → ((x : ℕ) → x < n → f x ≡ g x)
    → map f (range_with_len 0 n) ≡ map g (range_with_len 0 n)
same_cells f g zero same = refl
same_cells f g (suc n) same =
    let so_far : map f (range_with_len 0 n) ≡ map g (range_with_len 0 n) =
    same_cells f g n (λ x below. same x (omega arith)) in
    let more : map f (range_with_len 0 (n + 1)) ≡ map g (range_with_len 0 (n + 1)) =
    rw (
      map-range_with_len_more f 0 n n (omega arith),
      map-range_with_len_more g 0 n n (omega arith),
      so_far,
      same n (omega arith),
    ) refl in
    subst (λ (k : ℕ). map f (range_with_len 0 k) ≡ map g (range_with_len 0 k)) (add-one n) more

-- cells that are all one from a column on
one_from : (f : ℕ → Cell) (cell : Cell) (n k : ℕ) → ((x : ℕ) → n ≤ x → x < n + k → f x ≡ cell)
    → map f (range_with_len 0 (n + k))
    ≡ map f (range_with_len 0 n) ++ map (λ x. cell) (range_with_len 0 k)
one_from f cell n zero one =
    let none : n + 0 ≡ n = omega arith in
    ap (λ j. map f (range_with_len 0 j)) none ∙ sym (append-nil _)
one_from f cell n (suc k) one =
    let more : map f (range_with_len 0 (n + k + 1))
    ≡ map f (range_with_len 0 (n + k)) ++ f (n + k) ∷ [] =
    map-range_with_len_more f 0 (n + k) (n + k) (omega arith) in
    let through : map f (range_with_len 0 (n + k + 1))
    ≡ map f (range_with_len 0 n) ++ map (λ x. cell) (range_with_len 0 (k + 1)) =
    cell_more (λ x. cell) k (map f (range_with_len 0 n)) (map f (range_with_len 0 (n + k)))
    (map f (range_with_len 0 (n + k + 1))) (f (n + k))
    (one_from f cell n k (λ x from to. one x from (omega arith)))
    (one (n + k) (omega arith) (omega arith)) more in
    let next : n + suc k ≡ n + k + 1 = omega arith in
    ap (λ j. map f (range_with_len 0 j)) next
    ∙ (through
    ∙ ap (λ j. map f (range_with_len 0 n) ++ map (λ x. cell) (range_with_len 0 j)) (add-one k))

-- a place below the grid, and one at the right of it
pub outside_below : (d : Size) (y x : ℕ) → d.h ≤ y
    → is_inside d (record { y = y; x = x }) ≡ false
outside_below d y x below = search (rules, arith)

pub outside_right : (d : Size) (y x : ℕ) → d.w ≤ x
    → is_inside d (record { y = y; x = x }) ≡ false
outside_right d y x right = search (rules, arith)

-- a row of the window whose first places lie in the grid, and the others outside it
pub row_cut : (scene : Scene) (y left inside columns : ℕ) → inside ≤ columns
    → ((x : ℕ) → inside ≤ x → x < columns
    → is_inside scene.sheet.dims (record { y = y; x = left + x }) ≡ false)
    → map (λ x. grid_cell scene (record { y = y; x = left + x })) (range_with_len 0 columns)
    ≡ map (λ x. grid_cell scene (record { y = y; x = left + x })) (range_with_len 0 inside)
    ++ map (λ x. blank_cell) (range_with_len 0 (columns - inside))
unfolding grid_cell
row_cut scene y left inside columns fits outside =
    let f : ℕ → Cell = λ x. grid_cell scene (record { y = y; x = left + x }) in
    let whole : columns ≡ inside + (columns - inside) = omega arith in
    ap (λ j. map f (range_with_len 0 j)) whole
    ∙ one_from f blank_cell inside (columns - inside)
    (λ x from to. cond-false _ _ _ (outside x from (omega arith)))

-- where no other cursor lies in the row, none is at a place of it
pub none_in_row : (others : List Place) (at : Place)
    → list_any (λ other. at.y == other.y) others ≡ false → is_met others at ≡ false
none_in_row [] at none = refl
none_in_row (other ∷ others) at none =
    let parts = or_parts (at.y == other.y) (list_any (λ other. at.y == other.y) others) none in
    rw (parts.0, none_in_row others at parts.1) refl

-- the ruler's test, by whether it goes through the row
by_row : (guide row column empty faint ruled : Bool) → (guide && row) ≡ ruled
    → (guide && (row && column) && empty && faint) ≡ (ruled && column && empty && faint)
by_row false row column empty faint ruled is = ap (λ r. r && column && empty && faint) is
by_row true false column empty faint ruled is = ap (λ r. r && column && empty && faint) is
by_row true true column empty faint ruled is = ap (λ r. r && column && empty && faint) is

-- a place of the grid, by whether the ruler goes through its row
pub row_place : (scene : Scene) (at : Place) (ruled : Bool) → is_inside scene.sheet.dims at ≡ true
    → (scene.editor.guide && at.y % RULER_PLACES == 0) ≡ ruled
    → (record {
      byte = if ruled && at.x % RULER_PLACES == 0 && glyph_at scene.sheet at == empty
          && style_at scene at == faint then plus else glyph_at scene.sheet at;
      style = style_at scene at;
    }) ≡ grid_cell scene at
unfolding grid_cell
row_place scene at ruled inside is =
    sym (cond-true _ _ _ inside
    ∙ ap (λ (b : Bool). let c : Cell = record {
      byte = if b then plus else glyph_at scene.sheet at;
      style = style_at scene at;
    } in c)
    (by_row scene.editor.guide (at.y % RULER_PLACES == 0) (at.x % RULER_PLACES == 0)
    (glyph_at scene.sheet at == empty) (style_at scene at == faint) ruled is))

-- ---- rows

-- a row more
pub row_more : (row : ℕ → List Cell) (y : ℕ) (before after more : List Cell)
    → before ≡ rows_of row y → after ≡ before ++ more → more ≡ row y → after ≡ rows_of row (y + 1)
row_more row y before after more drawn is same =
    rw (is, drawn, same) (sym (ap (rows_of row) (add-one y)))

-- a row of the window, where its corner is known
pub grid_row_is : (d : ScreenSize) (scene : Scene) (y top left columns : ℕ)
    → top ≡ page_of (d.rows - 1) scene.editor.y → left ≡ page_of d.columns scene.editor.x
    → columns ≡ d.columns
    → map (λ x. grid_cell scene (record { y = top + y; x = left + x })) (range_with_len 0 columns)
    ≡ grid_row d scene y
grid_row_is d scene y top left columns is_top is_left is_w = rw (is_top, is_left, is_w) refl

-- how many cells there are after one row more
pub len_more : (old new y columns : ℕ) → old ≡ y * columns → new ≡ old + columns
    → new ≡ (y + 1) * columns
len_more old new y columns len more = omega arith

-- rows that are the same before a number
same_rows : (f g : ℕ → List Cell) (n : ℕ) → ((y : ℕ) → y < n → f y ≡ g y)
    → rows_of f n ≡ rows_of g n
same_rows f g zero same = refl
same_rows f g (suc n) same =
    rw (same_rows f g n (λ y below. same y (omega arith)), same n (omega arith)) refl

-- a row of the piece above the one that tells what was sent
above : (d : ScreenSize) (scene : Scene) (sent : FrameSent) (y : ℕ) → y < d.rows - 2
    → piece_row d scene sent y ≡ grid_row d scene y
above d scene sent y below =
    let other : (y + 2 == d.rows) ≡ false = search (rules, arith) in
    by (tells_sent d scene.editor) other
  where
    by : (b : Bool) → (y + 2 == d.rows) ≡ false
        → (if b && y + 2 == d.rows then text_row d.columns (sent_text sent)
        else grid_row d scene y) ≡ grid_row d scene y
    by true other = cond-false _ _ _ other
    by false other = refl

-- the row that tells what was sent
told : (d : ScreenSize) (scene : Scene) (sent : FrameSent) (y : ℕ) → y + 2 ≡ d.rows
    → tells_sent d scene.editor ≡ true
    → piece_row d scene sent y ≡ text_row d.columns (sent_text sent)
told d scene sent y last tells =
    let here : (y + 2 == d.rows) ≡ true = search (rules, arith) in
    rw (tells, here) refl

-- the rows of the piece
pub piece_told : (d : ScreenSize) (scene : Scene) (sent : FrameSent) (text : List ℕ)
    → 2 ≤ d.rows → d.columns ≤ MAX_SCREEN_COLUMNS → tells_sent d scene.editor ≡ true
    → take MAX_SCREEN_COLUMNS text ≡ take MAX_SCREEN_COLUMNS (sent_text sent)
    → rows_of (piece_row d scene sent) (d.rows - 1)
    ≡ rows_of (grid_row d scene) (d.rows - 2) ++ text_row d.columns text
piece_told d scene sent text some few tells same =
    let k = d.rows - 2 in
    let next : d.rows - 1 ≡ k + 1 = omega arith in
    let last : k + 2 ≡ d.rows = omega arith in
    let row : text_row d.columns text ≡ text_row d.columns (sent_text sent) =
    same_cells (text_cell text) (text_cell (sent_text sent)) d.columns
    (λ x below. ap (λ (b : ℕ). let c : Cell = record { byte = b; style = 0 } in c)
    (sym (get_or-take MAX_SCREEN_COLUMNS text x space (omega arith))
    ∙ (ap (λ (t : List ℕ). get_or t x space) same
    ∙ get_or-take MAX_SCREEN_COLUMNS (sent_text sent) x space (omega arith)))) in
    ap (rows_of (piece_row d scene sent)) next
    ∙ (ap (rows_of (piece_row d scene sent)) (add-one k)
    ∙ (ap (λ (cells : List Cell). cells ++ piece_row d scene sent k)
    (same_rows (piece_row d scene sent) (grid_row d scene) k
    (λ y below. above d scene sent y below))
    ∙ ap (λ (cells : List Cell). rows_of (grid_row d scene) k ++ cells)
    (told d scene sent k last tells ∙ sym row)))

-- the whole picture
pub drawn_picture : (d : ScreenSize) (scene : Scene) (sent : FrameSent) (line : StatusLine)
    (upper drawn : List Cell) → upper ≡ upper_rows d scene sent
    → drawn ≡ upper ++ cut_row d.columns (status_cells scene.editor (glyph_under scene) line)
    → drawn ≡ picture d scene sent line
unfolding picture
drawn_picture d scene sent line upper drawn is more = rw (more, is) refl

-- a picture has a cell for each place of the screen
rows_cells : (row : ℕ → List Cell) (w n : ℕ) → ((y : ℕ) → length (row y) ≡ w)
    → length (rows_of row n) ≡ n * w
rows_cells row w zero one =
    let none : 0 * w ≡ 0 = omega arith in sym none
rows_cells row w (suc n) one =
    let so_far = rows_cells row w n one in
    let last = one n in
    let both = length-append (rows_of row n) (row n) in
    omega (arith, so_far, last, both)

piece_cells : (d : ScreenSize) (scene : Scene) (sent : FrameSent) (y : ℕ)
    → length (piece_row d scene sent y) ≡ d.columns
piece_cells d scene sent y = by (tells_sent d scene.editor && y + 2 == d.rows)
  where
    by : (b : Bool) → length (if b then text_row d.columns (sent_text sent)
        else grid_row d scene y) ≡ d.columns
    by true = length-map-range_with_len (text_cell (sent_text sent)) 0 d.columns
    by false = length-map-range_with_len _ 0 d.columns

pub picture_cells : (d : ScreenSize) (scene : Scene) (sent : FrameSent) (line : StatusLine)
    → 1 ≤ d.rows → length (picture d scene sent line) ≡ screen_cells d
unfolding picture upper_rows
picture_cells d scene sent line some =
    let upper : length (upper_rows d scene sent) ≡ (d.rows - 1) * d.columns =
    by (scene.editor.page == 0) in
    let strip = status_cells scene.editor (glyph_under scene) line in
    let status : length (cut_row d.columns strip) ≡ d.columns =
    length-map-range_with_len (λ x. slice_index_or strip x blank_cell) 0 d.columns in
    let both = length-append (upper_rows d scene sent) (cut_row d.columns strip) in
    all_cells d.rows d.columns _ _ _ some upper status both
  where
    by : (b : Bool)
        → length (if b then rows_of (piece_row d scene sent) (d.rows - 1)
        else rows_of (page_row d scene.editor.page) (d.rows - 1)) ≡ (d.rows - 1) * d.columns
    by true = rows_cells (piece_row d scene sent) d.columns (d.rows - 1) (piece_cells d scene sent)
    by false =
        rows_cells (page_row d scene.editor.page) d.columns (d.rows - 1)
        (λ y. length-map-range_with_len _ 0 d.columns)

    all_cells : (rows columns all upper status : ℕ) → 1 ≤ rows → upper ≡ (rows - 1) * columns
        → status ≡ columns → all ≡ upper + status → all ≡ rows * columns
    all_cells zero columns all upper status some is last both = absurd (omega (arith, some))
    all_cells (suc k) columns all upper status some is last both =
        let less : suc k - 1 ≡ k = omega arith in
        let more : upper ≡ k * columns = rw less at is in
        omega (arith, more, last, both)
