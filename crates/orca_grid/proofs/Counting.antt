-- The first pass: how many rows there are, how long the longest is, and that no byte offends.
use Rattle.std.proofs.Common.{min, ◌≡◌, ℕ, ◌+◌, ◌-◌, ◌<◌, List, length, max, None, Ok, Err, Some, refl, ap, ◌∙◌, arith, subst, below_more}
use Rattle.std.specs.Prelude.{◌==◌, ◌||◌, if◌then◌else◌}
use Rattle.std.specs.Str.Lines.{lines}
use Rattle.orca_base.specs.Grids.{Size}
use Rattle.orca_grid.specs.declared.refusal.GridRefusal.{GridRefusal}
use Rattle.orca_grid.specs.declared.refusal.GridRefusal.TheVariants.{NoCells}
use Rattle.orca_grid.specs.GridText.{offence, first_offence, widest, size_of_rows, sheet_of_rows, unless_refused, grid_text, IsClean}
use Rattle.orca_grid.proofs.Places.{NoneOffends, none-offends, first_offence-none, first_offence-found}
use Rattle.orca_grid.proofs.Reading.{Reading, reading, IsReading, reads-start, reads-more, IsFit, fits-more, largest, size-read}

pub record Counts (text : List ℕ) (i height width column : ℕ) : Type 0 where
  pub clean : NoneOffends text i
  pub read : IsReading text i (reading text i)
  pub fit : IsFit largest (reading text i)
  pub height_is : height ≡ length (reading text i).ended
  pub width_is : width ≡ widest (reading text i).ended
  pub column_is : column ≡ length (reading text i).begun

pub counts-start : (text : List ℕ) → Counts text 0 0 0 0
unfolding reading widest
counts-start text =
    record {
      clean = λ k h. absurd (omega (arith, h));
      read = reads-start text;
      fit = record { high = omega arith; wide = omega arith };
      height_is = refl;
      width_is = refl;
      column_is = refl;
    }

-- a byte more
pub counts-more : (text : List ℕ) (i height width column h w c : ℕ) (next : Reading)
    → Counts text i height width column → i < length text → offence text i ≡ None
    → reading text (i + 1) ≡ next → h ≡ length next.ended → w ≡ widest next.ended
    → c ≡ length next.begun → Counts text (i + 1) h w c
counts-more text i height width column h w c next counts below good is h_is w_is c_is =
    let free = none-offends text i good in
    record {
      clean = below_more _ _ counts.clean good;
      read = reads-more text i below free.good counts.read;
      fit = fits-more text i counts.read free counts.fit;
      height_is = rw is h_is;
      width_is = rw is w_is;
      column_is = rw is c_is;
    }

-- at the end of the text
pub counts-size : (text : List ℕ) (i height width column : ℕ) → i ≡ length text
    → Counts text i height width column
    → size_of_rows (lines text) ≡ record { h = height + min column 1; w = max width column }
counts-size text i height width column end counts =
    let read = subst (λ n. IsReading text n (reading text i)) end counts.read in
    size-read text (reading text i) read
    ∙ rw (counts.height_is, counts.width_is, counts.column_is) refl

-- ---- what the text is read as

pub grid_text-clean : (text : List ℕ) (d : Size) → IsClean text → size_of_rows (lines text) ≡ d
    → grid_text text
    ≡ (if (d.h == 0) || (d.w == 0) then Err NoCells else Ok (sheet_of_rows (lines text)))
unfolding grid_text
grid_text-clean text d clean size = rw (← size, first_offence-none text (length text) clean) refl

pub grid_text-refused : (text : List ℕ) (i : ℕ) (r : GridRefusal) → i < length text
    → NoneOffends text i → offence text i ≡ Some r → grid_text text ≡ Err r
unfolding grid_text
grid_text-refused text i r h clean found =
    let rest : length text ≡ i + 1 + (length text - (i + 1)) = omega arith in
    let first = first_offence-found text i (length text - (i + 1)) r clean found in
    ap (λ o. unless_refused o (lines text)) (ap (first_offence text) rest ∙ first)
