-- What going back and forward takes, beside the bill.
use Rattle.std.proofs.Common.{◌≡◌, ℕ, ◌+◌, ◌-◌, ◌*◌, ◌/◌, ◌%◌, ◌<◌, ◌≤◌, true, List, [], ◌∷◌, length, get_or, take, refl, arith, ap, sym, ◌∙◌, subst}
use Rattle.std.specs.Prelude.{◌==◌, Some, if◌then◌else◌, max, min, slice_get}
use Rattle.std.proofs.lemmas.List.{length-append, length-map, length-take-le}
use Rattle.std.proofs.lemmas.Option.{same_Some, slice_get-get_or}
use Rattle.std.proofs.Math.Nat.{mul_comm}
use Rattle.orca_base.specs.declared.command.Entry.{Entry}
use Rattle.orca_base.specs.declared.command.Entry.TheVariants.{Fill, Put, Move, Resize, Reset, Frame, Hush}
use Rattle.orca_base.specs.declared.change.Change.{Change}
use Rattle.orca_base.specs.declared.place.Place.{Place}
use Rattle.orca_base.specs.Grids.{Size, Sheet, cells_of, glyph_at}
use Rattle.orca_board.specs.Sizes.{cut_places}
use Rattle.orca_checkpoints.specs.Laws.{AreOf, points_after}
use Rattle.orca_checkpoints.specs.Points.{ArePoints, Point, Points, best_of, is_point_due, next_moment, points_dropped}
use Rattle.orca_checkpoints.proofs.PointLemmas.{best-is, best-point, dropped-of, due-next, spacing-after}
use Rattle.orca_edit.specs.Obeying.{MachineState, piece_of}
use Rattle.orca_edit.specs.Pieces.{Piece, apply}
use Rattle.orca_edit.specs.Prices.{best_moment, change_price, jumped, least_first, load_price, new_cells, moment_piece, price, pushed, spaced, total, touched}
use Rattle.orca_edit.specs.Pricing.{KeepsSize, TouchesListed, listed_by}
use Rattle.orca_edit.proofs.FoldLemmas.{silence-closes}
use Rattle.orca_edit.proofs.PriceLemmas.{of_entry-at, total-one, total-split}
use Rattle.orca_history.specs.declared.ring.Kept.{Kept as Trailed}
use Rattle.orca_op.specs.Slate.{Slate, residue}
use Rattle.orca_op.specs.State.{sheet_of}
use Rattle.orca_patch.specs.Patches.{Before, before_of}
use Rattle.orca_session.specs.Past.{IsPast, PastState, Undoes, moment_of, numbers_of, past_jumped, past_pushed, plain_machine, point_at, present, touched_at, touched_by}
use Rattle.orca_session.proofs.JumpLemmas.{first-jumped, point-jumped}
use Rattle.orca_session.proofs.PushLemmas.{first-pushed, point-pushed}

-- ---- one entry after the other

-- a total with the entry before it
total-before : (f : Piece → Entry → ℕ) (m : MachineState) (at to : ℕ) (entry : Entry) → 0 < at
    → at ≤ to → slice_get m.history (at - 1) ≡ Some entry
    → total f m (at - 1) to ≡ f (moment_piece m (at - 1)) entry + total f m at to
total-before f m at to entry some within is =
    let next : at - 1 + 1 ≡ at = omega (arith, some) in
    total-split f m (at - 1) at to (omega arith) within
    ∙ ap (λ (n : ℕ). n + total f m at to)
    (ap (total f m (at - 1)) (sym next) ∙ total-one f m (at - 1) entry is)

-- a total with the entry after it
pub total-after : (f : Piece → Entry → ℕ) (m : MachineState) (from at : ℕ) (entry : Entry)
    → from ≤ at → slice_get m.history at ≡ Some entry
    → total f m from (at + 1) ≡ total f m from at + f (moment_piece m at) entry
total-after f m from at entry within is =
    total-split f m from at (at + 1) within (omega arith)
    ∙ ap (λ (n : ℕ). total f m from at + n) (total-one f m at entry is)

-- ---- going back

-- the entry of a number
some-entry : (p : PastState) (n : ℕ) → n < length p.trail.entries
    → (entry : Entry) × (slice_get p.trail.entries n ≡ Some entry)
some-entry p n below =
    (get_or p.trail.entries n Hush, slice_get-get_or p.trail.entries n Hush below)

-- its patch takes no more than the price of its change
pub pays-undo : (p : PastState) (at : ℕ) (patch : Before) (old new : Slate) (from to : ℕ)
    → Undoes patch (moment_of p (at - 1)) (moment_of p at) (touched_at p (at - 1))
    → 0 < at → at ≤ length p.trail.entries → sheet_of old.scan ≡ (moment_of p at).sheet
    → to ≡ from + length (cut_places old.scan.dims patch.dims) + length patch.changes
    → residue new + from ≤ residue old + to
    → to + residue new + total change_price (plain_machine p) at (length p.trail.entries)
    ≤ from + residue old + total change_price (plain_machine p) (at - 1) (length p.trail.entries)
pays-undo p at patch old new from to undoes some within sheet steps grows =
    let its = some-entry p (at - 1) (omega (arith, some, within)) in
    omega (
      arith,
      steps,
      grows,
      undoes.few,
      ap (λ (g : Sheet). length (cut_places g.dims patch.dims)) sheet,
      total-before change_price (plain_machine p) at (length p.trail.entries) its.0 some within its.1,
      of_entry-at touched (plain_machine p) (at - 1) its.0 its.1,
    )

-- ---- from a checkpoint on

-- the grid of the whole history is that of the piece as it stands
pub sheet-plain : (p : PastState) → (piece_of (plain_machine p)).sheet ≡ (present p).sheet
sheet-plain p =
    ap (λ (x : Piece). x.sheet) (silence-closes p.opened p.seed p.trail.entries 0 p.closed)

best-moment : (p : PastState) (moment : ℕ) → IsPast p → moment < length p.trail.entries
    → best_of p.points moment * p.points.spacing ≡ best_moment p.points.spacing moment
best-moment p moment past below =
    ap (λ (k : ℕ). k * p.points.spacing)
    (best-is (point_at p) (length p.trail.entries) moment p.peak p.points past.points
    (omega (arith, below)))
    ∙ mul_comm (moment / p.points.spacing) p.points.spacing

-- the size of the checkpoint is that of its moment
best-size : (p : PastState) (moment tick : ℕ) (dims : Size) (cells : List ℕ) → IsPast p
    → moment < length p.trail.entries
    → slice_get p.points.kept (best_of p.points moment)
    ≡ Some (record { sheet = record { dims = dims; cells = cells }; tick = tick })
    → dims ≡ (moment_of p (best_moment p.points.spacing moment)).sheet.dims
best-size p moment tick dims cells past below is =
    ap (λ (x : Point). x.sheet.dims)
    (same_Some _ (point_at p (moment / p.points.spacing * p.points.spacing))
    (sym is
    ∙ best-point (point_at p) (length p.trail.entries) moment p.peak p.points past.points
    (omega (arith, below))))
    ∙ ap (λ (n : ℕ). (moment_of p n).sheet.dims)
    (mul_comm (moment / p.points.spacing) p.points.spacing)

pub pays-load : (p : PastState) (moment b at tick : ℕ) (dims : Size) (cells : List ℕ)
    (old new : Slate) (from mid to : ℕ) → IsPast p → moment < length p.trail.entries
    → slice_get p.points.kept (best_of p.points moment)
    ≡ Some (record { sheet = record { dims = dims; cells = cells }; tick = tick })
    → b ≡ best_of p.points moment * p.points.spacing → at ≡ moment
    → sheet_of old.scan ≡ (present p).sheet
    → mid ≡ from + cells_of old.scan.dims + cells_of dims
    → to + residue new ≤ mid + total price (plain_machine p) b at
    → to + residue new
    ≤ from + residue old + load_price (plain_machine p) (best_moment p.points.spacing moment) moment
pays-load p moment b at tick dims cells old new from mid to past below is begun end sheet steps
    paid =
    let best : b ≡ best_moment p.points.spacing moment = begun ∙ best-moment p moment past below in
    omega (
      arith,
      paid,
      steps,
      ap (λ (d : Size). cells_of d) (best-size p moment tick dims cells past below is),
      ap (λ (g : Sheet). cells_of g.dims) (sheet ∙ sym (sheet-plain p)),
      ap (λ (n : ℕ). total price (plain_machine p) n at) best,
      ap (total price (plain_machine p) (best_moment p.points.spacing moment)) end,
    )

-- the entry of a moment costs its price
pub pays-next : (p : PastState) (b at : ℕ) (entry : Entry) (from mid to : ℕ) → b ≤ at
    → slice_get p.trail.entries at ≡ Some entry → mid ≤ from + total price (plain_machine p) b at
    → to ≤ mid + price (moment_of p at) entry → to ≤ from + total price (plain_machine p) b (at + 1)
pays-next p b at entry from mid to within is before now =
    omega (arith, before, now, total-after price (plain_machine p) b at entry within is)

-- ---- a checkpoint that is due

-- the cells of the new grid, where the history has so many entries
pub pays-kept : (s n : ℕ) (m : MachineState) (size : Size) (from to : ℕ)
    → to ≤ from + (if n % s == 0 then cells_of size else 0)
    → size ≡ (moment_piece m (length m.history)).sheet.dims → n ≡ length m.history
    → to ≤ from + new_cells s m
pays-kept s n m size from to most same long =
    subst (λ (c : ℕ). to ≤ from + c)
    (ap (λ (d : Size). if n % s == 0 then cells_of d else 0) same
    ∙ ap (λ (k : ℕ). if k % s == 0 then cells_of (moment_piece m (length m.history)).sheet.dims else 0)
    long)
    most

-- ---- a jump

-- the checkpoints up to the moment
drops : (p : PastState) (moment : ℕ) → IsPast p → moment < length p.trail.entries
    → AreOf (point_at p) moment p.peak (points_dropped p.points moment)
drops p moment past below =
    dropped-of (point_at p) (point_at p) (length p.trail.entries) moment p.peak p.points
    past.points (omega (arith, below)) (λ k within. refl)

pub due-jumped : (p : PastState) (moment : ℕ) (dropped : Points) → IsPast p
    → moment < length p.trail.entries → dropped ≡ points_dropped p.points moment
    → is_point_due dropped (moment + 1) ≡ true → moment + 1 ≡ next_moment dropped
due-jumped p moment dropped past below is due =
    subst (λ (c : Points). is_point_due c (moment + 1) ≡ true → moment + 1 ≡ next_moment c) (sym is)
    (due-next (point_at p) moment p.peak (points_dropped p.points moment)
    (drops p moment past below))
    due

-- what is kept is the point of the new moment
pub kept-jumped : (p : PastState) (moment : ℕ) (patch : Before) (points dropped : Points)
    (sheet : Sheet) (tick : ℕ) → moment < length p.trail.entries
    → dropped ≡ points_dropped p.points moment
    → points ≡ points_after dropped (moment + 1) (record { sheet = sheet; tick = tick })
    → sheet ≡ (moment_of p moment).sheet → tick ≡ (moment_of p moment).tick
    → points ≡ points_after (points_dropped p.points moment) (moment + 1)
    (point_at (past_jumped p moment patch points) (moment + 1))
kept-jumped p moment patch points dropped sheet tick below is kept same next =
    let point : record { sheet = sheet; tick = tick }
    ≡ point_at (past_jumped p moment patch points) (moment + 1) =
    ap (λ (g : Sheet). record { sheet = g; tick = tick }) same
    ∙ (ap (λ (t : ℕ). record { sheet = (moment_of p moment).sheet; tick = t }) next
    ∙ sym (point-jumped p moment patch points below)) in
    kept
    ∙ (ap (λ (c : Points). points_after c (moment + 1) (record { sheet = sheet; tick = tick })) is
    ∙ ap (points_after (points_dropped p.points moment) (moment + 1)) point)

length-jumped : (p : PastState) (moment : ℕ) (patch : Before) (points : Points)
    → moment < length p.trail.entries
    → length (past_jumped p moment patch points).trail.entries ≡ moment + 1
length-jumped p moment patch points below =
    length-append (take moment p.trail.entries) (Hush ∷ [])
    ∙ ap (λ (k : ℕ). k + 1) (length-take-le moment p.trail.entries (omega (arith, below)))

pub numbers-jumped : (p : PastState) (moment : ℕ) (patch : Before) (points dropped : Points)
    (point : Point) → IsPast p → moment < length p.trail.entries
    → dropped ≡ points_dropped p.points moment → ArePoints dropped
    → points ≡ points_after dropped (moment + 1) point
    → numbers_of (past_jumped p moment patch points)
    ≡ jumped (plain_machine (past_jumped p moment patch points)) (numbers_of p) moment
numbers-jumped p moment patch points dropped point past below is all kept =
    let q : PastState = past_jumped p moment patch points in
    let long : length q.trail.entries ≡ moment + 1 = length-jumped p moment patch points below in
    let wide : points.spacing ≡ spaced p.points.spacing (length q.trail.entries) =
    ap (λ (c : Points). c.spacing)
    (kept ∙ ap (λ (c : Points). points_after c (moment + 1) point) is)
    ∙ (spacing-after (point_at p) moment p.peak (points_dropped p.points moment) point
    (drops p moment past below) (subst ArePoints is all)
    ∙ ap (spaced p.points.spacing) (sym long)) in
    let most : p.peak ≡ max p.peak (length q.trail.entries) =
    omega (arith, long, below, past.most) in
    ap (λ (f : ℕ). record { first = f; spacing = points.spacing; peak = p.peak })
    (sym (first-jumped p moment patch points past below))
    ∙ (ap (λ (s : ℕ). record {
      first = least_first (plain_machine q) (min p.trail.first moment);
      spacing = s;
      peak = p.peak;
    }) wide
    ∙ ap (λ (n : ℕ). record {
      first = least_first (plain_machine q) (min p.trail.first moment);
      spacing = spaced p.points.spacing (length q.trail.entries);
      peak = n;
    }) most)

pub steps-jumped : (p : PastState) (moment : ℕ) (patch : Before) (points dropped : Points)
    (sheet : Sheet) (from to : ℕ) → moment < length p.trail.entries
    → dropped ≡ points_dropped p.points moment → sheet ≡ (moment_of p moment).sheet
    → to ≤ from + (if is_point_due dropped (moment + 1) then cells_of sheet.dims else 0)
    → to ≤ from + new_cells p.points.spacing (plain_machine (past_jumped p moment patch points))
steps-jumped p moment patch points dropped sheet from to below is same most =
    let q : PastState = past_jumped p moment patch points in
    let long : length q.trail.entries ≡ moment + 1 = length-jumped p moment patch points below in
    pays-kept p.points.spacing (moment + 1) (plain_machine q) sheet.dims from to
    (subst (λ (c : Points). to ≤ from
    + (if is_point_due c (moment + 1) then cells_of sheet.dims else 0)) is most)
    (ap (λ (g : Sheet). g.dims) same
    ∙ sym (ap (λ (x : Point). x.sheet.dims)
    (ap (point_at q) long ∙ point-jumped p moment patch points below)))
    (sym long)

-- ---- a push

-- how many cells the entry touched, by what it left on the board
touched-changes : TouchesListed → (d : Slate) (tick : ℕ) (piece : Piece) (entry : Entry)
    → KeepsSize entry → d.listed ≡ listed_by piece entry
    → length (before_of d tick).changes ≡ touched piece entry
touched-changes law d tick piece entry keeps listed =
    length-map {B = Change} d.listed (λ (at : Place). record { at = at; old = glyph_at d.began at })
    ∙ (ap length listed ∙ law piece entry keeps)

pub touched-is : TouchesListed → (d : Slate) (tick : ℕ) (piece : Piece) (entry : Entry)
    → d.began ≡ piece.sheet → d.listed ≡ listed_by piece entry
    → sheet_of d.scan ≡ (apply piece entry).piece.sheet
    → touched_by entry (before_of d tick) d.scan.dims ≡ touched piece entry
unfolding apply
touched-is law d tick piece (Fill area glyph) began listed sheet =
    touched-changes law d tick piece (Fill area glyph) tt listed
touched-is law d tick piece (Put at block) began listed sheet =
    touched-changes law d tick piece (Put at block) tt listed
touched-is law d tick piece (Move area to) began listed sheet =
    touched-changes law d tick piece (Move area to) tt listed
touched-is law d tick piece (Resize dims) began listed sheet =
    ap (λ (g : Sheet). cells_of g.dims + cells_of d.scan.dims) began
    ∙ ap (λ (g : Sheet). cells_of piece.sheet.dims + cells_of g.dims) sheet
touched-is law d tick piece Reset began listed sheet =
    touched-changes law d tick piece Reset tt listed
touched-is law d tick piece Frame began listed sheet =
    touched-changes law d tick piece Frame tt listed
touched-is law d tick piece Hush began listed sheet =
    touched-changes law d tick piece Hush tt listed

pub due-pushed : (p : PastState) (n : ℕ) → IsPast p → n ≡ length p.trail.entries + 1
    → is_point_due p.points n ≡ true → n ≡ next_moment p.points
due-pushed p n past is =
    subst (λ (k : ℕ). is_point_due p.points k ≡ true → k ≡ next_moment p.points) (sym is)
    (due-next (point_at p) (length p.trail.entries) p.peak p.points past.points)

-- what is kept is the point of the new moment
pub kept-pushed : (p : PastState) (entry : Entry) (newest : Trailed) (points : Points)
    (sheet : Sheet) (tick n : ℕ) → n ≡ length p.trail.entries + 1
    → points ≡ points_after p.points n (record { sheet = sheet; tick = tick })
    → sheet ≡ (apply (present p) entry).piece.sheet → tick ≡ (apply (present p) entry).piece.tick
    → points ≡ points_after p.points (length p.trail.entries + 1)
    (point_at (past_pushed p entry newest points) (length p.trail.entries + 1))
kept-pushed p entry newest points sheet tick n is kept same next =
    let point : record { sheet = sheet; tick = tick }
    ≡ point_at (past_pushed p entry newest points) (length p.trail.entries + 1) =
    ap (λ (g : Sheet). record { sheet = g; tick = tick }) same
    ∙ (ap (λ (t : ℕ). record { sheet = (apply (present p) entry).piece.sheet; tick = t }) next
    ∙ sym (point-pushed p entry newest points (length p.trail.entries + 1) refl)) in
    kept
    ∙ (ap (λ (k : ℕ). points_after p.points k (record { sheet = sheet; tick = tick })) is
    ∙ ap (points_after p.points (length p.trail.entries + 1)) point)

pub numbers-pushed : (p : PastState) (entry : Entry) (newest : Trailed) (points : Points)
    (point : Point) (n : ℕ) → IsPast p → newest.touched ≡ touched (present p) entry
    → n ≡ length p.trail.entries + 1 → ArePoints p.points
    → points ≡ points_after p.points n point
    → numbers_of (past_pushed p entry newest points)
    ≡ pushed (plain_machine (past_pushed p entry newest points)) (numbers_of p)
numbers-pushed p entry newest points point n past same is all kept =
    let q : PastState = past_pushed p entry newest points in
    let long : length q.trail.entries ≡ length p.trail.entries + 1 =
    length-append p.trail.entries (entry ∷ []) in
    let wide : points.spacing ≡ spaced p.points.spacing (length q.trail.entries) =
    ap (λ (c : Points). c.spacing)
    (kept ∙ ap (λ (k : ℕ). points_after p.points k point) is)
    ∙ (spacing-after (point_at p) (length p.trail.entries) p.peak p.points point past.points all
    ∙ ap (spaced p.points.spacing) (sym long)) in
    let most : max p.peak (length p.trail.entries + 1) ≡ max p.peak (length q.trail.entries) =
    ap (max p.peak) (sym long) in
    ap (λ (f : ℕ). record {
      first = f;
      spacing = points.spacing;
      peak = max p.peak (length p.trail.entries + 1);
    })
    (sym (first-pushed p entry newest points past same))
    ∙ (ap (λ (s : ℕ). record {
      first = least_first (plain_machine q) p.trail.first;
      spacing = s;
      peak = max p.peak (length p.trail.entries + 1);
    }) wide
    ∙ ap (λ (n : ℕ). record {
      first = least_first (plain_machine q) p.trail.first;
      spacing = spaced p.points.spacing (length q.trail.entries);
      peak = n;
    }) most)

pub steps-pushed : (p : PastState) (entry : Entry) (newest : Trailed) (points : Points)
    (sheet : Sheet) (n from to : ℕ) → n ≡ length p.trail.entries + 1
    → sheet ≡ (apply (present p) entry).piece.sheet
    → to ≤ from + (if is_point_due p.points n then cells_of sheet.dims else 0)
    → to ≤ from + new_cells p.points.spacing (plain_machine (past_pushed p entry newest points))
steps-pushed p entry newest points sheet n from to is same most =
    let q : PastState = past_pushed p entry newest points in
    let long : length q.trail.entries ≡ length p.trail.entries + 1 =
    length-append p.trail.entries (entry ∷ []) in
    pays-kept p.points.spacing n (plain_machine q) sheet.dims from to most
    (ap (λ (g : Sheet). g.dims) same
    ∙ sym (ap (λ (x : Point). x.sheet.dims)
    (point-pushed p entry newest points (length q.trail.entries) long)))
    (is ∙ sym long)
