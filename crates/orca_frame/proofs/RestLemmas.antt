-- A frame of a grid that holds no operator.
use Rattle.std.proofs.Common.{◌≡◌, ℕ, ◌+◌, List, [], arith, ap, sym, ◌∙◌, zero-add}
use Rattle.std.specs.Prelude.{slice_index}
use Rattle.orca_base.specs.declared.now.Now.{Now}
use Rattle.orca_base.specs.declared.place.Place.{Place}
use Rattle.orca_base.specs.Glyphs.{is_operator}
use Rattle.orca_base.specs.Grids.{Sheet, IsSheet, index_of, place_of}
use Rattle.orca_base.proofs.PlaceFacts.{index_of-place_of}
use Rattle.orca_op.specs.Deeds.{Deed}
use Rattle.orca_op.specs.Slate.{Slate, list_after_all}
use Rattle.orca_op.specs.Rules.{rule}
use Rattle.orca_op.specs.Scan.{state_after_places, scan_deeds, scan, written_places, busy, busy_of, places}
use Rattle.orca_op.specs.State.{State, fresh}
use Rattle.orca_op.proofs.SlateFacts.{residue-of_sheet}
use Rattle.orca_frame.specs.Skips.{IsInert, IsAtRest}
use Rattle.orca_frame.proofs.SkipLemmas.{HoldsNone, state-skip, deeds-skip, busy-skip, idle-none}

-- none of all places holds an operator as the frame begins
none_at_first : (g : Sheet) (now : Now) → IsSheet g → IsInert g → HoldsNone rule 0 (places g) g now
none_at_first g now sheet inert i below =
    let number : index_of g.dims (place_of g.dims (0 + i)) ≡ i =
    index_of-place_of g.dims (0 + i) sheet.size ∙ zero-add i
    in
    ap (λ (k : ℕ). is_operator (slice_index g.cells k)) number ∙ inert i below

scan-rest : (g : Sheet) (now : Now) → HoldsNone rule 0 (places g) g now → scan g now ≡ fresh g
unfolding scan
scan-rest g now none =
    ap (λ (n : ℕ). state_after_places rule n g now) (sym (zero-add (places g)))
    ∙ state-skip rule 0 (places g) g now (idle-none rule 0 (places g) g now none)

written-rest : (g : Sheet) (now : Now) → HoldsNone rule 0 (places g) g now
    → written_places g now ≡ []
unfolding written_places
written-rest g now none =
    let deeds : scan_deeds (places g) g now ≡ [] =
    ap (λ (n : ℕ). scan_deeds n g now) (sym (zero-add (places g)))
    ∙ deeds-skip 0 (places g) g now (idle-none rule 0 (places g) g now none)
    in
    ap (λ (ds : List Deed). list_after_all g.dims g.dims [] ds) deeds

busy-rest : (g : Sheet) (now : Now) → HoldsNone rule 0 (places g) g now → busy g now ≡ 0
unfolding busy
busy-rest g now none =
    ap (λ (n : ℕ). busy_of n g now) (sym (zero-add (places g))) ∙ busy-skip 0 (places g) g now none

slate_by_parts : (d : Slate) (s : State) (g : Sheet) (at : List Place) → d.scan ≡ s → d.began ≡ g
    → d.listed ≡ at → d ≡ record { scan = s; began = g; listed = at }
slate_by_parts d s g at scan began listed =
    ap (λ (t : State). record { scan = t; began = d.began; listed = d.listed }) scan
    ∙ ap (λ (b : Sheet). record { scan = s; began = b; listed = d.listed }) began
    ∙ ap (λ (l : List Place). record { scan = s; began = g; listed = l }) listed

pub at_rest : (g : Sheet) (now : Now) → IsSheet g → IsInert g → IsAtRest g now
at_rest g now sheet inert =
    let none = none_at_first g now sheet inert in
    let clear = residue-of_sheet g in
    let idle = busy-rest g now none in
    record {
      same = λ d framed. slate_by_parts d (fresh g) g []
          (framed.scan ∙ scan-rest g now none) framed.began
          (framed.listed ∙ written-rest g now none);
      steps = rw (clear, idle) (omega arith);
    }
