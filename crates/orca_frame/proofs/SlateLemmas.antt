-- The slate of a frame, one visit after another.
use Rattle.std.proofs.Common.{◌≡◌, ℕ, suc, List, [], ◌∷◌, ◌++◌, refl, ap, sym, ◌∙◌}
use Rattle.orca_base.specs.declared.now.Now.{Now}
use Rattle.orca_base.specs.declared.place.Place.{Place}
use Rattle.orca_base.specs.Grids.{Size, Sheet, place_of}
use Rattle.orca_op.specs.State.{State}
use Rattle.orca_op.specs.Deeds.{Deed}
use Rattle.orca_op.specs.Slate.{Slate, slate_after, slate_after_all, list_after, list_after_all}
use Rattle.orca_op.proofs.LawFacts.{scan-slate_after_all}
use Rattle.orca_op.specs.Rules.{rule}
use Rattle.orca_op.specs.Scan.{visit_deeds, state_after_places, scan_deeds}
use Rattle.orca_op.proofs.StateFacts.{dims_after}
use Rattle.orca_op.proofs.VisitFacts.{dims_after_places}
use Rattle.orca_frame.specs.Frames.{slate_after_places}

listed-slate_after_all : (d : Slate) (deeds : List Deed)
    → (slate_after_all d deeds).listed ≡ list_after_all d.began.dims d.scan.dims d.listed deeds
listed-slate_after_all d [] = refl
listed-slate_after_all d (deed ∷ deeds) =
    listed-slate_after_all (slate_after d deed) deeds
    ∙ ap (λ (dims : Size). list_after_all d.began.dims dims
    (list_after d.began.dims d.scan.dims d.listed deed) deeds) (dims_after d.scan deed)

began-slate_after_all : (d : Slate) (deeds : List Deed) → (slate_after_all d deeds).began ≡ d.began
began-slate_after_all d [] = refl
began-slate_after_all d (deed ∷ deeds) = began-slate_after_all (slate_after d deed) deeds

list_after_all-append : (began dims : Size) (listed : List Place) (xs ys : List Deed)
    → list_after_all began dims listed (xs ++ ys) ≡ list_after_all began dims
    (list_after_all began dims listed xs) ys
list_after_all-append began dims listed [] ys = refl
list_after_all-append began dims listed (x ∷ xs) ys =
    list_after_all-append began dims (list_after began dims listed x) xs ys

same_slate : (d e : Slate) → d.scan ≡ e.scan → d.began ≡ e.began → d.listed ≡ e.listed → d ≡ e
same_slate d e scan began listed =
    ap (λ (s : State). record { scan = s; began = d.began; listed = d.listed }) scan
    ∙ (ap (λ (b : Sheet). record { scan = e.scan; began = b; listed = d.listed }) began
    ∙ ap (λ (l : List Place). record { scan = e.scan; began = e.began; listed = l }) listed)

-- one visit more
pub slate_suc : (n : ℕ) (g : Sheet) (now : Now)
    → slate_after_all (slate_after_places n g now) (visit_deeds rule (state_after_places rule n g now)
    (place_of g.dims n) now) ≡ slate_after_places (suc n) g now
slate_suc n g now =
    let d = slate_after_places n g now in
    let deeds = visit_deeds rule (state_after_places rule n g now) (place_of g.dims n) now in
    same_slate (slate_after_all d deeds) (slate_after_places (suc n) g now)
    (scan-slate_after_all d deeds)
    (began-slate_after_all d deeds)
    (listed-slate_after_all d deeds
    ∙ (ap (λ (dims : Size). list_after_all g.dims dims d.listed deeds)
    (dims_after_places rule n g now)
    ∙ sym (list_after_all-append g.dims g.dims [] (scan_deeds n g now) deeds)))
