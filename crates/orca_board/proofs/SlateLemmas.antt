-- The slate that the parts of a board stand for: a grid at the start of a frame, and a write.
use Rattle.std.proofs.Common.{◌≡◌, ℕ, List, [], refl, arith, ◌∙◌}
use Rattle.std.proofs.Math.ListN.{set}
use Rattle.std.specs.Prelude.{replicate, Some}
use Rattle.orca_base.specs.declared.change.Change.{Change}
use Rattle.orca_base.specs.declared.limits.TheConstants.{BASE}
use Rattle.orca_base.specs.declared.place.Place.{Place}
use Rattle.orca_base.specs.declared.place.Spot.{Spot}
use Rattle.orca_base.specs.Glyphs.{IsGlyph, empty}
use Rattle.orca_base.specs.Grids.{Sheet, IsSheet, IsInside, index_of, place_in}
use Rattle.orca_base.specs.MarkSet.{MarkSet}
use Rattle.orca_op.specs.State.{State, blank_marks, state_glyph}
use Rattle.orca_op.specs.Deeds.{Mark, Write, after}
use Rattle.orca_op.specs.Slate.{Slate, changes_of, slate_of_sheet, slate_after, list_after, list_with}
use Rattle.orca_op.proofs.SlateFacts.{IsSlate-after, IsSlate-of_sheet}
use Rattle.orca_board.specs.Listing.{ListsChanges, changes_with, places_of}
use Rattle.orca_board.proofs.ListingLemmas.{changes-written}

-- the parts of a board at the start of a frame
pub started : (d : Slate) (g : Sheet) → d.scan.dims ≡ g.dims → d.scan.cells ≡ g.cells
    → d.scan.marks ≡ blank_marks g.dims → d.scan.vars ≡ replicate BASE empty
    → d.scan.events ≡ [] → d.began ≡ g → d.listed ≡ [] → d ≡ slate_of_sheet g
started d g dims cells marks vars events began listed =
    parts d.scan d.began d.listed dims cells marks vars events began listed
  where
    parts : (s : State) (began : Sheet) (listed : List Place) → s.dims ≡ g.dims → s.cells ≡ g.cells
        → s.marks ≡ blank_marks g.dims → s.vars ≡ replicate BASE empty
        → s.events ≡ [] → began ≡ g → listed ≡ []
        → ◌≡◌ {A = Slate} (record {
          scan = record {
            dims = s.dims;
            cells = s.cells;
            marks = s.marks;
            vars = s.vars;
            events
                = s.events;
          };
          began = began;
          listed = listed;
        }) (slate_of_sheet g)
    parts s began listed dims cells marks vars events same none =
        rw (dims, cells, marks, vars, events, same, none) refl

-- it is a slate, and has no changes
pub lists-of_sheet : (d : Slate) (g : Sheet) (known : List Change) → IsSheet g → d ≡ slate_of_sheet g
    → known ≡ [] → ListsChanges d known
lists-of_sheet d g known sheet is none =
    rw (is, none) (record { slate = IsSlate-of_sheet g sheet; changes = refl })

-- the parts after a glyph is written in the grid
pub written : (d d' : Slate) (spot : Spot) (at : Place) (glyph : ℕ) → place_in d.scan.dims spot
    ≡ Some at → d'.scan ≡ record d.scan { cells = set d.scan.cells (index_of d.scan.dims at) glyph }
    → d'.began ≡ d.began → d'.listed ≡ list_with d.began.dims d.listed (Some at) → d'
    ≡ slate_after d (Write spot glyph)
unfolding after list_after
written d d' spot at glyph place scan began listed =
    rw place (parts d'.scan d'.began d'.listed scan began listed)
  where
    parts : (s : State) (b : Sheet) (l : List Place) → s
        ≡ record d.scan { cells = set d.scan.cells (index_of d.scan.dims at) glyph } → b ≡ d.began
        → l ≡ list_with d.began.dims d.listed (Some at)
        → ◌≡◌ {A = Slate} (record { scan = s; began = b; listed = l })
        (record {
          scan = record d.scan
              { cells = set d.scan.cells (index_of d.scan.dims at) glyph };
          began =
              d.began;
          listed = list_with d.began.dims d.listed (Some at);
        })
    parts s b l scan began listed = rw (scan, began, listed) refl

-- it is a slate, and its changes are one more at most
pub lists-write : (d d' : Slate) (spot : Spot) (at : Place) (glyph : ℕ) (known known' : List Change)
    → ListsChanges d known
    → IsInside d.scan.dims at → place_in d.scan.dims spot ≡ Some at → IsGlyph glyph → d'
    ≡ slate_after d (Write spot glyph) → places_of known ≡ d.listed
    → known' ≡ changes_with d.began.dims known at (state_glyph d.scan at) → ListsChanges d' known'
unfolding list_after
lists-write d d' spot at glyph known known' lists inside place is after_it places more =
    rw after_it (record {
      slate = IsSlate-after d (Write spot glyph) lists.slate is
          (omega (arith, lists.slate.state.events));
      changes = more ∙ (changes-written d known at lists.slate.kept places lists.changes
          ∙ listed place);
    })
  where
    listed : place_in d.scan.dims spot ≡ Some at
        → changes_of (record d { listed = list_with d.began.dims d.listed (Some at) })
        ≡ changes_of (slate_after d (Write spot glyph))
    listed here = rw here refl

-- a slate after marks has the same changes
pub lists-mark : (d d' : Slate) (spot : Spot) (marks : MarkSet) (known : List Change)
    → ListsChanges d known → d' ≡ slate_after d (Mark spot marks) → ListsChanges d' known
unfolding list_after
lists-mark d d' spot marks known lists after_it =
    rw after_it (record {
      slate = IsSlate-after d (Mark spot marks) lists.slate tt
          (omega (arith, lists.slate.state.events));
      changes = lists.changes;
    })
