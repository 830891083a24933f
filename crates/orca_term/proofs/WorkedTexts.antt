-- Texts that are pasted into a grid of 25 x 57, computed by the definitions.
use Rattle.std.specs.Prelude.{◌≡◌, ℕ, false, true, Option, Some, None, List, [], ◌∷◌, ◌++◌, codes, refl}
use Rattle.orca_base.specs.Ascii.{escape}
use Rattle.orca_base.specs.declared.command.Command.TheVariants as command
use Rattle.orca_term.proofs.WorkedKeys.{bytes, sequence, worked}
use Rattle.orca_term.specs.Codes.{introducer}
use Rattle.orca_term.specs.Editing.{editor_after, new_editor, wish_of}
use Rattle.orca_term.specs.Keys.{Item, keys_from}
use Rattle.orca_term.specs.declared.around.Around.{Around}
use Rattle.orca_term.specs.declared.editor.Editor.{Editor}
use Rattle.orca_term.specs.declared.editor.Wish.{Wish}
use Rattle.orca_term.specs.declared.editor.Wish.TheVariants as wish
use Rattle.orca_term.specs.declared.flow.Flow.{Flow}
use Rattle.orca_term.specs.declared.keys.Key.{Key}
use Rattle.orca_term.specs.declared.keys.Key.TheVariants as key
use Rattle.orca_term.specs.declared.keys.Pending.TheVariants.{Nothing}

abbrev plain : Around
plain = record {
  dims = record { h = 25; w = 57 };
  moments = 9;
  glyph = 68;
  screen = record { rows = 24; columns = 80 };
  own = None;
}

-- the editor on row 2 and column 3, with a selection of 2 x 2
abbrev editor : Option Flow → Editor
editor flow = record (new_editor true) { y = 2; x = 3; h = 2; w = 2; flow = flow }

-- the same in a text whose next cell is this one, after a Return or not
abbrev reads : ℕ → ℕ → Editor
reads y x = editor (Some (record { y = y; x = x; returned = false }))

abbrev returned : ℕ → ℕ → Editor
returned y x = editor (Some (record { y = y; x = x; returned = true }))

-- what a key gives: a wish, and the editor after it
abbrev given : Key → Editor → Wish × Editor
given k e = (wish_of k plain e, editor_after k plain e)

-- ---- newlines

-- none before the first cell is a row
first_line : given key.Line (reads 0 0) ≡ (wish.Nothing, reads 0 0)
first_line = refl

first_return : given key.Return (reads 0 0) ≡ (wish.Nothing, returned 0 0)
first_return = refl

return : given key.Return (reads 0 3) ≡ (wish.Nothing, returned 1 0)
return = refl

-- a Line after a Return belongs to it, and the next one doesn't
line_of_a_return : given key.Line (returned 1 0) ≡ (wish.Nothing, reads 1 0)
line_of_a_return = refl

line : given key.Line (reads 1 0) ≡ (wish.Nothing, reads 2 0)
line = refl

second_return : given key.Return (returned 1 0) ≡ (wish.Nothing, returned 2 0)
second_return = refl

-- ---- cells

last_column : given (key.Glyph 68) (reads 2 255)
    ≡ (wish.Do (command.Clip 2 255 68), reads 2 256)
last_column = refl

beyond_the_columns : given (key.Glyph 69) (reads 2 256) ≡ (wish.Nothing, reads 2 256)
beyond_the_columns = refl

last_row : given key.Line (reads 99 4) ≡ (wish.Nothing, reads 100 0)
last_row = refl

beyond_the_rows : given (key.Glyph 68) (reads 100 0) ≡ (wish.Nothing, reads 100 1)
beyond_the_rows = refl

still_beyond : given key.Return (reads 100 1) ≡ (wish.Nothing, returned 100 0)
still_beyond = refl

space : given key.Pause (returned 0 1) ≡ (wish.Do (command.Clip 0 1 46), reads 0 2)
space = refl

tab : given key.Append (returned 0 1) ≡ (wish.Do (command.Clip 0 1 46), reads 0 2)
tab = refl

-- ---- the end

no_cell : given key.PasteEnd (returned 0 0) ≡ (wish.Nothing, editor None)
no_cell = refl

end : given key.PasteEnd (reads 1 0) ≡ (wish.Do (command.Paste 2 3), editor None)
end = refl

no_text : given key.PasteEnd (editor None) ≡ (wish.Nothing, editor None)
no_text = refl

given_up : given key.Escape (returned 0 1) ≡ (wish.Nothing, editor None)
given_up = refl

anew : given key.PasteBegin (returned 0 1) ≡ (wish.Nothing, reads 0 0)
anew = refl

begin : given key.PasteBegin (editor None) ≡ (wish.Nothing, reads 0 0)
begin = refl

-- ---- other keys in a text

quit : given key.Quit (returned 0 1) ≡ (wish.Nothing, returned 0 1)
quit = refl

click : given (key.Press 0 0) (returned 0 1) ≡ (wish.Nothing, returned 0 1)
click = refl

size : given (key.Screen 50 90) (returned 0 1)
    ≡ (wish.Redraw (Some (record { rows = 50; columns = 90 })), returned 0 1)
size = refl

-- ---- the ends of lines outside a text

no_line : given key.Line (editor None) ≡ (wish.Nothing, editor None)
no_line = refl

no_return : given key.Return (editor None) ≡ (wish.Nothing, editor None)
no_return = refl

-- ---- bytes

-- what keys ask for, one after another
abbrev asked : List Key → Editor → List Wish
asked [] e = []
asked (k ∷ ks) e = asked_with (wish_of k plain e) (asked ks (editor_after k plain e))
  where
    asked_with : Wish → List Wish → List Wish
    asked_with wish.Nothing ws = ws
    asked_with w ws = w ∷ ws

-- what items ask for at the first place of a grid
abbrev asked_by : List Item → List Wish
asked_by items = asked (keys_from true Nothing items) (new_editor true)

-- a text of these bytes whose end is still to come, and a whole one
abbrev begun : List ℕ → List Item
begun text = sequence (codes "200~") ++ bytes text

abbrev whole : List ℕ → List Item
whole text = begun text ++ sequence (codes "201~")

abbrev clip : ℕ → ℕ → ℕ → Wish
clip y x glyph = wish.Do (command.Clip y x glyph)

abbrev paste : Wish
paste = wish.Do (command.Paste 0 0)

abbrev write : ℕ → ℕ → ℕ → Wish
write y x glyph = wish.Do (command.Write y x glyph)

two_rows : asked_by (whole (codes "D *" ++ 13 ∷ codes ":0"))
    ≡ clip 0 0 68 ∷ clip 0 1 46 ∷ clip 0 2 42 ∷ clip 1 0 58 ∷ clip 1 1 48 ∷ paste ∷ []
unfolding worked
two_rows = refl

-- Quit, Save and an arrow are no cells, and a tab is one
controls : asked_by (whole (codes "a" ++ 17 ∷ 19 ∷ 9 ∷ codes " b" ++ introducer ++ codes "Ac"))
    ≡ clip 0 0 97 ∷ clip 0 1 46 ∷ clip 0 2 46 ∷ clip 0 3 98 ∷ clip 0 4 99 ∷ paste ∷ []
unfolding worked
controls = refl

newlines : asked_by (whole (10 ∷ 13 ∷ 10 ∷ codes "a" ++ 13 ∷ 10 ∷ codes "b" ++ 10 ∷ 10
    ∷ codes "c" ++ 13 ∷ 13 ∷ []))
    ≡ clip 0 0 97 ∷ clip 1 0 98 ∷ clip 3 0 99 ∷ paste ∷ []
unfolding worked
newlines = refl

no_cells : asked_by (whole (13 ∷ 10 ∷ []) ++ bytes (codes "7")) ≡ write 0 0 55 ∷ []
unfolding worked
no_cells = refl

-- an ESC before a byte that begins no sequence gives the text up, and then the byte is a key
escape_and_a_letter : asked_by (begun (codes "ab" ++ escape ∷ codes "c" ++ 22 ∷ []))
    ≡ clip 0 0 97 ∷ clip 0 1 98 ∷ write 0 0 99 ∷ paste ∷ []
unfolding worked
escape_and_a_letter = refl

escape_and_a_tab : asked_by (begun (codes "a" ++ escape ∷ 9 ∷ codes "bc"))
    ≡ clip 0 0 97 ∷ write 0 0 98 ∷ write 0 1 99 ∷ []
unfolding worked
escape_and_a_tab = refl

escape_and_rub : asked_by (begun (codes "a" ++ escape ∷ 127 ∷ []))
    ≡ clip 0 0 97 ∷ wish.Do (command.Erase (record { y = 0; x = 0; h = 1; w = 1 })) ∷ []
unfolding worked
escape_and_rub = refl

-- two ESC do so by themselves
two_escapes : asked_by (whole (codes "a" ++ escape ∷ escape ∷ [])) ≡ clip 0 0 97 ∷ []
unfolding worked
two_escapes = refl

-- the end may be cut after its ESC
cut_end : asked_by (begun (codes "ab" ++ escape ∷ []) ++ bytes (codes "[201~"))
    ≡ clip 0 0 97 ∷ clip 0 1 98 ∷ paste ∷ []
unfolding worked
cut_end = refl
