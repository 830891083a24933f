-- What the calls of a session take, beside the bill of their command, and the numbers that they
-- keep.
use Rattle.std.proofs.Common.{◌≡◌, ℕ, zero, suc, ◌+◌, ◌-◌, ◌%◌, ◌≤◌, Bool, List, length, max, min, Ok, Err, refl, arith, ap, sym, ◌∙◌}
use Rattle.std.specs.Prelude.{◌==◌, Option, Some, None, OnOk, Result, if◌then◌else◌, nat_le, sum_by, unwrap_or}
use Rattle.std.specs.List.{range_with_len}
use Rattle.std.specs.Option.{option_map_or}
use Rattle.std.proofs.lemmas.List.Sums.{sum_by-cons}
use Rattle.orca_base.specs.declared.command.Command.{Command}
use Rattle.orca_base.specs.declared.command.Command.TheVariants as command
use Rattle.orca_base.specs.declared.command.Entry.{Entry}
use Rattle.orca_base.specs.declared.command.Entry.TheVariants as entry
use Rattle.orca_base.specs.declared.command.Fault.{Fault}
use Rattle.orca_base.specs.declared.command.Fault.TheVariants.{Memory}
use Rattle.orca_base.specs.declared.command.Reply.{Reply}
use Rattle.orca_base.specs.declared.command.Reply.TheVariants.{Edited, Copied, Jumped}
use Rattle.orca_base.specs.declared.limits.TheConstants.{COMMAND_PRICE, KEPT_PATCHES, KEPT_TOUCHED}
use Rattle.orca_base.specs.declared.message.Message.{Message}
use Rattle.orca_base.specs.Grids.{Size, Sheet, cells_of}
use Rattle.orca_board.specs.Laws.{BeginLaw}
use Rattle.orca_board.specs.Sizes.{cut_places}
use Rattle.orca_edit.specs.Editing.{FitsIn, IsGridEdit, slate_with, steps_of}
use Rattle.orca_edit.specs.Machines.{obeyed}
use Rattle.orca_edit.specs.Obeying.{MachineState, Obeyed, entry_of, jump_to, obey, piece_of}
use Rattle.orca_edit.specs.Pieces.{Piece, apply}
use Rattle.orca_edit.specs.Prices.{Kept, best_moment, bill_of, change_price, charge, entry_price, fits_from, jump_price, jumped, kept_after, kept_by, kept_cells, least_first, load_price, new_cells, moment_piece, price, pushed, redo_price, retract_price, total, touched, undo_price}
use Rattle.orca_edit.specs.Pricing.{AgreeUpTo, IgnoresNotesOf, ListsPlaces, PaysTwice, TouchesBothWays, listed_by}
use Rattle.orca_edit.proofs.FoldLemmas.{silence-closes}
use Rattle.orca_edit.proofs.PriceLemmas.{change_price-same, charge-reply, piece_at-agree, price-same, total-agree, touched-same}
use Rattle.orca_op.specs.Slate.{Slate, slate_at_begin, slate_of_sheet, residue}
use Rattle.orca_op.specs.State.{sheet_of}
use Rattle.orca_op.specs.First.{first_where}
use Rattle.orca_session.specs.Past.{PastState, machine_of, plain_machine}
use Rattle.orca_session.specs.Session.{edit_price}
use Rattle.orca_session.proofs.PriceLemmas.{no-cut, pays-refused}

-- ---- the machine, and the past alone

agree-plain : (p : PastState) (clip : Option Sheet) (n : ℕ)
    → AgreeUpTo n (plain_machine p) (machine_of p clip)
agree-plain p clip n = record { opened = refl; seed = refl; entries = refl }

total-plain : (f : Piece → Entry → ℕ) → IgnoresNotesOf f
    → (p : PastState) (clip : Option Sheet) (from to : ℕ)
    → total f (plain_machine p) from to ≡ total f (machine_of p clip) from to
total-plain f ignores p clip from to =
    total-agree f ignores to from to (plain_machine p) (machine_of p clip) (agree-plain p clip to)
    (omega arith)

size-plain : (p : PastState) (clip : Option Sheet) (n : ℕ)
    → (moment_piece (plain_machine p) n).sheet.dims ≡ (moment_piece (machine_of p clip) n).sheet.dims
size-plain p clip n =
    ap (λ (x : Piece). x.sheet.dims)
    (piece_at-agree n n (plain_machine p) (machine_of p clip) (agree-plain p clip n) (omega arith))

present-plain : (p : PastState) (clip : Option Sheet)
    → (piece_of (plain_machine p)).sheet.dims ≡ (piece_of (machine_of p clip)).sheet.dims
present-plain p clip =
    ap (λ (x : Piece). x.sheet.dims)
    (silence-closes p.opened p.seed p.trail.entries 0 p.closed)

-- tests that agree find the same
first_where-same : (f g : ℕ → Bool) → ((k : ℕ) → f k ≡ g k) → (from many : ℕ)
    → first_where f from many ≡ first_where g from many
unfolding first_where
first_where-same f g same from zero = refl
first_where-same f g same from (suc many) =
    ap (λ (b : Bool). if b then Some from else first_where f (from + 1) many) (same from)
    ∙ ap (λ (o : Option ℕ). if g from then Some from else o)
    (first_where-same f g same (from + 1) many)

first-plain : (p : PastState) (clip : Option Sheet) (first : ℕ)
    → least_first (plain_machine p) first ≡ least_first (machine_of p clip) first
unfolding least_first
first-plain p clip first =
    ap (λ (o : Option ℕ). unwrap_or o (length p.trail.entries))
    (first_where-same (fits_from (plain_machine p)) (fits_from (machine_of p clip))
    (λ k. ap (λ (n : ℕ). nat_le n KEPT_TOUCHED)
    (total-plain touched touched-same p clip k (length p.trail.entries)))
    (max first (length p.trail.entries - KEPT_PATCHES))
    (length p.trail.entries - max first (length p.trail.entries - KEPT_PATCHES)))

pub pushed-plain : (p : PastState) (clip : Option Sheet) (k : Kept)
    → pushed (plain_machine p) k ≡ pushed (machine_of p clip) k
pushed-plain p clip k =
    ap (λ (f : ℕ). record (pushed (machine_of p clip) k) { first = f })
    (first-plain p clip k.first)

pub jumped-plain : (p : PastState) (clip : Option Sheet) (k : Kept) (moment : ℕ)
    → jumped (plain_machine p) k moment ≡ jumped (machine_of p clip) k moment
jumped-plain p clip k moment = pushed-plain p clip (record k { first = min k.first moment })

cells-plain : (p : PastState) (clip : Option Sheet) (s n : ℕ)
    → kept_cells s (plain_machine p) n ≡ kept_cells s (machine_of p clip) n
cells-plain p clip s n =
    ap (λ (d : Size). if n % s == 0 then cells_of d else 0) (size-plain p clip n)

pub new-plain : (p : PastState) (clip : Option Sheet) (s : ℕ)
    → new_cells s (plain_machine p) ≡ new_cells s (machine_of p clip)
new-plain p clip s = cells-plain p clip s (length p.trail.entries)

undo-plain : (p : PastState) (clip : Option Sheet) (moment : ℕ)
    → undo_price (plain_machine p) moment ≡ undo_price (machine_of p clip) moment
undo-plain p clip moment =
    omega (
      arith,
      total-plain change_price change_price-same p clip moment (length p.trail.entries),
    )

load-plain : (p : PastState) (clip : Option Sheet) (from moment : ℕ)
    → load_price (plain_machine p) from moment ≡ load_price (machine_of p clip) from moment
load-plain p clip from moment =
    omega (
      arith,
      total-plain price price-same p clip from moment,
      ap cells_of (size-plain p clip from),
      ap cells_of (present-plain p clip),
    )

pub jump-plain : (p : PastState) (clip : Option Sheet) (k : Kept) (moment : ℕ)
    → jump_price (plain_machine p) k moment ≡ jump_price (machine_of p clip) k moment
jump-plain p clip k moment =
    ap (λ (n : ℕ). if nat_le k.first moment then n
    else load_price (plain_machine p) (best_moment k.spacing moment) moment) (undo-plain p clip moment)
    ∙ ap (λ (n : ℕ). if nat_le k.first moment then undo_price (machine_of p clip) moment else n)
    (load-plain p clip (best_moment k.spacing moment) moment)

cells-sum : (p : PastState) (clip : Option Sheet) (s from many : ℕ)
    → sum_by (kept_cells s (plain_machine p)) (range_with_len from many)
    ≡ sum_by (kept_cells s (machine_of p clip)) (range_with_len from many)
cells-sum p clip s from zero = refl
cells-sum p clip s from (suc many) =
    omega (
      arith,
      sum_by-cons (kept_cells s (plain_machine p)) from (range_with_len (from + 1) many),
      sum_by-cons (kept_cells s (machine_of p clip)) from (range_with_len (from + 1) many),
      cells-plain p clip s from,
      cells-sum p clip s (from + 1) many,
    )

pub redo-plain : (p : PastState) (clip : Option Sheet) (k : Kept) (group : ℕ)
    → redo_price (plain_machine p) k group ≡ redo_price (machine_of p clip) k group
redo-plain p clip k group =
    omega (
      arith,
      total-plain price price-same p clip (length p.trail.entries - group - 1)
          (length p.trail.entries - 1),
      cells-sum p clip k.spacing (length p.trail.entries - group) (group + 1),
    )

pub retract-plain : (p q : PastState) (clip : Option Sheet) (k : Kept) (moment : ℕ)
    → retract_price (plain_machine p) k moment (plain_machine q)
    ≡ retract_price (machine_of p clip) k moment (machine_of q clip)
retract-plain p q clip k moment =
    let n : ℕ = length q.trail.entries in
    let best : ℕ = best_moment k.spacing moment in
    omega (
      arith,
      total-plain price price-same q clip best (n - 1),
      cells-sum q clip k.spacing (best + 1) (n - best),
      ap cells_of (size-plain p clip best),
      ap cells_of (present-plain p clip),
    )

-- ---- by the answer

-- one that was refused, or had no memory, changes no number
pub kept-none : (m : MachineState) (k : Kept) (c : Command) (fault : Fault)
    → k ≡ kept_after m k c (Err fault)
unfolding kept_after
kept-none m k c fault = refl

pub charge-memory : (m : MachineState) (k : Kept) (c : Command)
    → charge (Err Memory) m k c ≡ entry_price m c
unfolding charge
charge-memory m k c = refl

pub kept-done : (m : MachineState) (k now : Kept) (c : Command) (reply : Reply)
    (after : MachineState) (messages : List Message)
    → obey m c ≡ obeyed (Ok reply) after messages → now ≡ kept_by reply after k
    → now ≡ kept_after m k c (Ok reply)
kept-done m k now c reply after messages done is =
    is ∙ sym (charge-reply m k c reply after messages done).1

pub charge-done : (m : MachineState) (k : Kept) (c : Command) (reply : Reply)
    (after : MachineState) (messages : List Message) (from to : ℕ)
    → obey m c ≡ obeyed (Ok reply) after messages → to ≤ from + bill_of (Ok reply) m k c after
    → to ≤ from + charge (Ok reply) m k c
charge-done m k c reply after messages from to done paid =
    omega (arith, paid, (charge-reply m k c reply after messages done).0)

-- what the entry of a frame, of a reset and of a Hush costs
pub entry-frame : (m : MachineState) → entry_price m command.Frame ≡ price (piece_of m) entry.Frame
unfolding entry_of
entry-frame m = refl

pub entry-reset : (m : MachineState) → entry_price m command.Reset ≡ price (piece_of m) entry.Reset
unfolding entry_of
entry-reset m = refl

pub entry-hush : (m : MachineState) → entry_price m command.Hush ≡ price (piece_of m) entry.Hush
unfolding entry_of
entry-hush m = refl

-- no place is cut off where the size stays
pub cut-kept : TouchesBothWays → (p : Piece) (a b : Size) → a ≡ p.sheet.dims → b ≡ p.sheet.dims
    → length (cut_places a b) ≡ 0
cut-kept both p a b first second =
    ap (λ (d : Size). length (cut_places d b)) first
    ∙ (ap (λ (d : Size). length (cut_places p.sheet.dims d)) second ∙ no-cut both p)

-- two facts about a result
pub on-both : {T E P Q R : Type 0} (r : Result T E) → (P → Q → R) → OnOk r P → OnOk r Q
    → OnOk r R
on-both (Ok x) both p q = both p q
on-both (Err e) both p q = tt

-- ---- a grid edit

-- the board after a begin has the grid alone, and nothing to clear
pub begun-clear : BeginLaw → (old new : Slate) (g : Sheet) → new ≡ slate_at_begin old
    → sheet_of old.scan ≡ g → (new ≡ slate_of_sheet g) × (residue new ≡ 0)
begun-clear law old new g is same =
    let laid : new ≡ slate_of_sheet g = is ∙ ap slate_of_sheet same in
    (laid, ap residue laid ∙ law g)

-- the entry lists its places
pub edit-lists : ListsPlaces → (p : Piece) (entry : Entry) (begun new : Slate) → IsGridEdit entry
    → FitsIn p.sheet.dims entry → begun ≡ slate_of_sheet p.sheet → new ≡ slate_with begun entry
    → new.listed ≡ listed_by p entry
edit-lists law p entry begun new edit fits laid is =
    ap (λ (d : Slate). d.listed) (is ∙ ap (λ (d : Slate). slate_with d entry) laid)
    ∙ law p entry edit fits

-- a begin, the edit, and what is left to clear
pub pays-change : PaysTwice → (p : Piece) (entry : Entry) (old begun new : Slate)
    (from mid to : ℕ) → IsGridEdit entry → FitsIn p.sheet.dims entry
    → begun ≡ slate_of_sheet p.sheet → residue begun ≡ 0 → mid ≡ from + 1 + residue old
    → to ≡ mid + steps_of begun.scan.dims entry → residue new + mid ≤ residue begun + to
    → to + residue new ≤ from + residue old + price p entry
pays-change pays p entry old begun new from mid to edit fits laid clear first steps grows =
    omega (
      arith,
      pays p entry edit fits,
      clear,
      first,
      steps,
      grows,
      ap (λ (d : Slate). steps_of d.scan.dims entry) laid,
    )

-- the same, taken back
pub pays-taken_back : PaysTwice → TouchesBothWays → (p : Piece) (entry : Entry)
    (old begun new last : Slate) (size : Size) (from mid to end : ℕ) → IsGridEdit entry
    → FitsIn p.sheet.dims entry → begun ≡ slate_of_sheet p.sheet → residue begun ≡ 0
    → mid ≡ from + 1 + residue old → to ≡ mid + steps_of begun.scan.dims entry
    → residue new + mid ≤ residue begun + to
    → sheet_of new.scan ≡ (apply p entry).piece.sheet → size ≡ p.sheet.dims
    → end + residue last ≤ to + residue new + length (cut_places new.scan.dims size)
    → end + residue last ≤ from + residue old + price p entry
pays-taken_back pays both p entry old begun new last size from mid to end edit fits laid clear
    first steps grows sheet same back =
    omega (
      arith,
      pays-refused pays both p entry edit fits,
      clear,
      first,
      steps,
      grows,
      back,
      ap (λ (d : Slate). steps_of d.scan.dims entry) laid,
      ap (λ (g : Sheet). length (cut_places g.dims size)) sheet,
      ap (λ (d : Size). length (cut_places (apply p entry).piece.sheet.dims d)) same,
    )

-- the numbers, and the cells of a checkpoint, whatever the clip is
pub pushed-clip : (m : MachineState) (clip : Option Sheet) (k : Kept)
    → pushed (record m { clip = clip }) k ≡ pushed m k
unfolding least_first total
pushed-clip m clip k = refl

-- ---- a jump

jump-reply : (m after : MachineState) (moment : ℕ) (reply : Reply) (messages : List Message)
    → jump_to m moment ≡ obeyed (Ok reply) after messages → reply ≡ Jumped moment
unfolding jump_to
jump-reply m after moment reply messages is =
    let answer : Ok (Jumped moment) ≡ Ok reply = ap (λ (o : Obeyed). o.answer) is in cc

pub kept-jump : (m : MachineState) (k now : Kept) (c : Command) (moment : ℕ) (reply : Reply)
    (after : MachineState) (messages : List Message) → obey m c ≡ jump_to m moment
    → jump_to m moment ≡ obeyed (Ok reply) after messages → now ≡ jumped after k moment
    → now ≡ kept_after m k c (Ok reply)
kept-jump m k now c moment reply after messages obeys done is =
    kept-done m k now c reply after messages (obeys ∙ done)
    (is ∙ ap (λ (r : Reply). kept_by r after k)
    (sym (jump-reply m after moment reply messages done)))

pub charge-jump : (m : MachineState) (k : Kept) (c : Command) (moment : ℕ) (reply : Reply)
    (after : MachineState) (messages : List Message) (from to : ℕ) → obey m c ≡ jump_to m moment
    → jump_to m moment ≡ obeyed (Ok reply) after messages
    → to ≤ from + jump_price m k moment + new_cells k.spacing after
    → to ≤ from + charge (Ok reply) m k c
charge-jump m k c moment reply after messages from to obeys done paid =
    charge-done m k c reply after messages from to (obeys ∙ done)
    (omega (
      arith,
      paid,
      ap (λ (r : Reply). bill_of (Ok r) m k c after)
          (jump-reply m after moment reply messages done),
    ))

-- ---- a block edit

-- the entry is that of the command, by the machine
pub same-entry : (m : MachineState) (d : Size) (clip : Option Sheet) (c : Command)
    (entry : Option Entry) → d ≡ (piece_of m).sheet.dims → clip ≡ m.clip
    → entry ≡ entry_of d clip c → entry ≡ entry_of (piece_of m).sheet.dims m.clip c
same-entry m d clip c entry size same is =
    is
    ∙ (ap (λ (x : Size). entry_of x clip c) size
    ∙ ap (λ (x : Option Sheet). entry_of (piece_of m).sheet.dims x c) same)

pub bill-edit : (m : MachineState) (k : Kept) (c : Command) (entry : Option Entry) (reply : Reply)
    (after : MachineState) → entry ≡ entry_of (piece_of m).sheet.dims m.clip c
    → reply ≡ option_map_or (λ _. Edited) entry Copied
    → bill_of (Ok reply) m k c after
    ≡ edit_price (piece_of m) entry
    + option_map_or (λ _. new_cells k.spacing after) entry 0
bill-edit m k c None reply after is same = rw same (omega arith)
bill-edit m k c (Some e) reply after is same =
    rw same
    (ap (λ (o : Option Entry). option_map_or (price (piece_of m)) o COMMAND_PRICE
    + new_cells k.spacing after) (sym is))
