use Rattle.std.proofs.Common.{◌≡◌, ◌+◌, ◌≤◌, List, [], ◌∷◌, length, length-append, max, arith, ap, sym, ◌∙◌, subst}
use Rattle.std.specs.Prelude.{All}
use Rattle.std.specs.List.{IsDistinct}
use Rattle.orca_base.specs.declared.change.Change.{Change}
use Rattle.orca_base.specs.Grids.{Size, Sheet, IsInside, is_place}
use Rattle.orca_board.specs.Listing.{places_of}
use Rattle.orca_op.specs.State.{sheet_of}
use Rattle.orca_patch.specs.Patches.{Before, before_of}
use Rattle.orca_patch.proofs.Inverse.{inside-listed, once-listed}
use Rattle.orca_edit.specs.Editing.{FitsIn}
use Rattle.orca_edit.specs.Pieces.{Piece, apply}
use Rattle.orca_edit.specs.Prices.{new_cells, pushed, touched}
use Rattle.orca_edit.specs.Pricing.{listed_by}
use Rattle.orca_history.specs.declared.ring.Kept.{Kept}
use Rattle.orca_history.specs.Trails.{IsTrail, Trail}
use Rattle.orca_session.specs.Past.{IsPast, PastState, Undoes, numbers_of, past_pushed, plain_machine, present, touched_by}
use Rattle.orca_session.specs.Views.{past_of}
use Rattle.orca_session.proofs.BillLemmas.{due-pushed, kept-pushed, numbers-pushed, steps-pushed, touched-is}
use Rattle.orca_session.proofs.PastLemmas.{changes-parts, tick-present, undoes-changes}
use Rattle.orca_session.proofs.PushLemmas.{IsPast-pushed, present-pushed, pushed-parts}
use Rattle.orca_session.proofs.past.Past.push_changes.Given.{Over}
use Rattle.orca_session.proofs.past.Past.push_changes.Goals as goal

pub of_changes-requires-clause-inside : goal.of_changes-requires-clause-inside
of_changes-requires-clause-inside g c =
    let old : Size = c.args.board.now.began.dims in
    let size : old ≡ c.args.dims =
    ap (λ (s : Sheet). s.dims) c.requires.began ∙ sym c.requires.size in
    let listed : All (IsInside c.args.dims) (places_of c.changes.result.now) =
    subst (λ (d : Size). All (IsInside d) (places_of c.changes.result.now)) size
    (subst (λ (changes : List Change). All (IsInside old) (places_of changes))
    (sym c.changes.ensures) (inside-listed c.args.board.now c.dims-now.ensures.slate)) in
    listed

pub of_changes-requires-clause-once : goal.of_changes-requires-clause-once
of_changes-requires-clause-once g c =
    subst (λ (changes : List Change). IsDistinct is_place (places_of changes))
    (sym c.changes.ensures) (once-listed c.args.board.now c.dims-now.ensures.slate)

-- what is kept of the entry
abbrev newest : (g : Over) (c : goal.After-keep_due g) → Kept
newest g c = record { patch = c.in_ok-patch.patch; touched = c.touched_by-touched.result }

pub tick_after-after-requires : goal.tick_after-after-requires
tick_after-after-requires g c =
    let p : PastState = c.args.self.now in
    let trail : IsTrail p.trail =
    subst (λ (q : PastState). IsTrail q.trail) c.self.view_is c.self.invariant.trail in
    omega (arith, c.requires.tick, tick-present p, c.requires.room, trail.most)

pub keep_due-requires : goal.keep_due-requires
keep_due-requires g c =
    due-pushed (past_of c.self.inside) c.len-len.result c.self.invariant
    (c.len-len.ensures.len
    ∙ (ap (λ (t : Trail). length t.entries) c.in_ok-push.ensures.pushed
    ∙ length-append c.self.inside.history.entries (c.args.entry ∷ [])))

-- the parts are those of a push
parts : (g : Over) (c : goal.After-keep_due g)
    → record (past_of c.self.inside) {
      trail = c.push.new.self;
      points = c.keep_due.new.checkpoints;
      peak = c.max-self-inside.result;
    }
    ≡ past_pushed (past_of c.self.inside) c.args.entry (newest g c) c.keep_due.new.checkpoints
parts g c =
    pushed-parts (past_of c.self.inside) c.args.entry (newest g c) c.keep_due.new.checkpoints
    c.push.new.self c.max-self-inside.result c.in_ok-push.ensures.pushed
    (c.max-self-inside.ensures ∙ ap (max c.self.inside.peak) c.len-len.ensures.len)

long : (g : Over) (c : goal.After-keep_due g)
    → c.len-len.result ≡ length (past_of c.self.inside).trail.entries + 1
long g c =
    c.len-len.ensures.len
    ∙ (ap (λ (t : Trail). length t.entries) c.in_ok-push.ensures.pushed
    ∙ length-append c.self.inside.history.entries (c.args.entry ∷ []))

-- the piece as it stands before
abbrev before : (g : Over) (c : goal.After-keep_due g) → Piece
before g c = present (past_of c.self.inside)

here : (g : Over) (c : goal.After-keep_due g) → present c.args.self.now ≡ before g c
here g c = ap present (sym c.self.view_is)

began : (g : Over) (c : goal.After-keep_due g)
    → c.args.board.now.began ≡ (before g c).sheet
began g c = c.requires.began ∙ ap (λ (x : Piece). x.sheet) (here g c)

listed : (g : Over) (c : goal.After-keep_due g)
    → c.args.board.now.listed ≡ listed_by (before g c) c.args.entry
listed g c = c.requires.listed ∙ ap (λ (x : Piece). listed_by x c.args.entry) (here g c)

sheet : (g : Over) (c : goal.After-keep_due g)
    → sheet_of c.args.board.now.scan ≡ (apply (before g c) c.args.entry).piece.sheet
sheet g c =
    c.requires.sheet ∙ ap (λ (x : Piece). (apply x c.args.entry).piece.sheet) (here g c)

-- the patch is that of the board's changes
patch : (g : Over) (c : goal.After-keep_due g)
    → c.in_ok-patch.patch ≡ before_of c.args.board.now c.args.tick
patch g c =
    c.in_ok-patch.ensures.patch
    ∙ changes-parts c.args.board.now c.args.dims c.args.tick c.changes.result.now
    (c.requires.size ∙ sym (ap (λ (s : Sheet). s.dims) c.requires.began)) c.changes.ensures

-- the entry touched so many cells
touches : (g : Over) (c : goal.After-keep_due g)
    → c.touched_by-touched.result ≡ touched (before g c) c.args.entry
touches g c =
    c.touched_by-touched.ensures.touched
    ∙ (ap (λ (b : Before). touched_by c.args.entry b c.dims-now.result) (patch g c)
    ∙ (ap (λ (d : Size). touched_by c.args.entry (before_of c.args.board.now c.args.tick) d)
    c.dims-now.ensures.size
    ∙ touched-is c.touch_law.ensures.listed c.args.board.now c.args.tick (before g c)
    c.args.entry (began g c) (listed g c) (sheet g c)))

-- the patch leads back over the entry
undoes : (g : Over) (c : goal.After-keep_due g)
    → Undoes c.in_ok-patch.patch (before g c) (apply (before g c) c.args.entry).piece
    (touched (before g c) c.args.entry)
undoes g c =
    let p : Piece = before g c in
    let after : Piece = (apply p c.args.entry).piece in
    subst (λ (b : Before). Undoes b p after (touched p c.args.entry)) (sym (patch g c))
    (undoes-changes c.args.board.now c.args.tick p after (touched p c.args.entry)
    c.dims-now.ensures.slate (began g c)
    (c.requires.tick ∙ ap (λ (x : Piece). x.tick) (here g c)) (sheet g c)
    (omega (arith, c.touch_law.ensures.both p c.args.entry, ap length (listed g c))))

pub invariant_of-self-2 : goal.invariant_of-self-2
invariant_of-self-2 g c =
    let p : PastState = past_of c.self.inside in
    subst IsPast (sym (parts g c))
    (IsPast-pushed p c.args.entry (newest g c) c.keep_due.new.checkpoints c.self.invariant
    (subst (λ (x : Piece). FitsIn x.sheet.dims c.args.entry) (here g c) c.requires.fits)
    (record { size = c.touched_by-touched.ensures.size; most = c.touched_by-touched.ensures.most })
    (touches g c) (undoes g c)
    (kept-pushed p c.args.entry (newest g c) c.keep_due.new.checkpoints
    (sheet_of c.args.board.now.scan) c.tick_after-after.result c.len-len.result (long g c)
    c.keep_due.ensures.points (sheet g c)
    (c.tick_after-after.ensures (before g c)
    (sym (c.requires.tick ∙ ap (λ (x : Piece). x.tick) (here g c)))))
    (subst IsTrail c.in_ok-push.ensures.pushed c.push.ensures.trail))

pub returns-clause-present : goal.returns-clause-present
returns-clause-present g c =
    rw (← c.self.view_is)
    (ap present (parts g c)
    ∙ present-pushed (past_of c.self.inside) c.args.entry (newest g c) c.keep_due.new.checkpoints
    c.self.invariant)

pub returns-clause-early : goal.returns-clause-early
returns-clause-early g c =
    let p : PastState = c.args.self.now in
    let trail : IsTrail p.trail =
    subst (λ (q : PastState). IsTrail q.trail) c.self.view_is c.self.invariant.trail in
    omega (arith, c.requires.tick, tick-present p, c.requires.room, trail.most)

pub returns-clause-numbers : goal.returns-clause-numbers
returns-clause-numbers g c =
    rw (← c.self.view_is)
    (subst (λ (q : PastState). numbers_of q ≡ pushed (plain_machine q) (numbers_of (past_of c.self.inside)))
    (sym (parts g c))
    (numbers-pushed (past_of c.self.inside) c.args.entry (newest g c) c.keep_due.new.checkpoints _
    c.len-len.result c.self.invariant (touches g c) (long g c) c.keep_due.ensures.all
    c.keep_due.ensures.points))

pub returns-clause-steps : goal.returns-clause-steps
returns-clause-steps g c =
    rw (← c.self.view_is)
    (subst (λ (q : PastState). c.keep_due.new.steps
    ≤ c.args.steps.now + new_cells (past_of c.self.inside).points.spacing (plain_machine q))
    (sym (parts g c))
    (steps-pushed (past_of c.self.inside) c.args.entry (newest g c) c.keep_due.new.checkpoints
    (sheet_of c.args.board.now.scan) c.len-len.result c.args.steps.now c.keep_due.new.steps
    (long g c) (sheet g c) c.keep_due.ensures.steps))
