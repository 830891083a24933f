-- Hands that share a session keep whose each entry is, and an undo spares the edits of others.
use Rattle.std.proofs.Common.{◌≡◌, ◌≢◌, ◌⊎◌, inl, inr, ℕ, suc, ◌<◌, ◌≤◌, Bool, true, false, List, [], ◌∷◌, length, take, refl, sym, ◌∙◌, ap, subst, arith, length-append}
use Rattle.std.specs.Prelude.{if◌then◌else◌, Option, Some, None}
use Rattle.std.specs.List.{remove}
use Rattle.std.specs.Option.{option_map_or}
use Rattle.std.proofs.lemmas.Bool.{le-leb}
use Rattle.std.proofs.lemmas.List.{length-take-le}
use Rattle.std.proofs.lemmas.List.Edits.{length-remove}
use Rattle.std.proofs.lemmas.Option.{none-some, same_Some}
use Rattle.orca_jam.specs.declared.owner.TheConstants.{NOBODY}
use Rattle.orca_base.specs.declared.command.Command.{Command}
use Rattle.orca_base.specs.declared.command.Command.TheVariants as command
use Rattle.orca_base.specs.declared.command.Entry.{Entry}
use Rattle.orca_base.specs.declared.command.Entry.TheVariants.{Hush}
use Rattle.orca_base.specs.declared.command.Rule.{Rule}
use Rattle.orca_base.specs.declared.command.Rule.TheVariants.{NothingToUndo}
use Rattle.orca_base.specs.Grids.{Sheet}
use Rattle.orca_base.specs.Histories.{is_edit, last_edit}
use Rattle.orca_base.specs.MarkSet.{MarkSet}
use Rattle.orca_concert.specs.Concerts.{command_course as obey_course}
use Rattle.orca_concert.specs.Manners.News.{Done}
use Rattle.orca_course.specs.Acts.{Act}
use Rattle.orca_course.specs.Courses.{mapped, onward}
use Rattle.orca_course.specs.Performers.{Hearing}
use Rattle.orca_course.specs.Standings.{refusal_of, standing_after}
use Rattle.orca_course.specs.declared.item.Losses.{Losses}
use Rattle.orca_edit.specs.Obeying.{MachineState, Obeyed, accept, adds_entry, carry_out, clip_after, entry_of, jump_to, obey, piece_of, refuse, retract, rule_against, taken_area}
use Rattle.orca_edit.proofs.RuleLemmas.{entered, has-room, some-entry, some-moment}
use Rattle.orca_jam.specs.Crews.{CrewState, denial_at, denial_of, offered, struck_by}
use Rattle.orca_jam.specs.Denials.{rule_of_denial}
use Rattle.orca_term.specs.Editing.{wish_of}
use Rattle.orca_term.specs.declared.around.Around.{Around}
use Rattle.orca_term.specs.declared.came.Came.TheVariants.{Denied, Kept}
use Rattle.orca_term.specs.declared.editor.Editor.{Editor}
use Rattle.orca_term.specs.declared.editor.Wish.{Wish}
use Rattle.orca_term.specs.declared.editor.Wish.TheVariants as wish
use Rattle.orca_term.specs.declared.flow.Flow.{Flow}
use Rattle.orca_jam.specs.Laws.{edits_of_others}
use Rattle.orca_jam.specs.declared.denial.Denial.{Denial}
use Rattle.orca_jam.specs.Owners.{owned}
use Rattle.orca_jam.proofs.OwnerLaws.{keeps_owners, undo_spares}
use Rattle.orca_term.specs.declared.keys.Key.TheVariants as key
use Rattle.orca_live.specs.Carrying.{Carries}
use Rattle.orca_live.proofs.Carried.{Anyhow, begun_carried}
use Rattle.orca_live.specs.Hands.{HasOwners, StartsWithOwners}
use Rattle.orca_live.specs.Laws.{so_far}
use Rattle.orca_live.specs.Performing.{hand_course, denied_course, key_course, obeyed_by, owning, picture_course, struck_course, struck_well, struck_where, wish_course}
use Rattle.orca_live.specs.Quiet.{sent_by}
use Rattle.orca_live.specs.States.{LiveState, around_at, editor_at, fitted, unpainted, with_view, with_word}

-- the last edit is in the history
edit_by : (last : Option ℕ) (edit : Bool) (n i : ℕ) → ((j : ℕ) → last ≡ Some j → j < n)
    → option_map_or (λ j. Some (suc j)) last (if edit then Some 0 else None) ≡ Some i → i < suc n
edit_by (Some j) edit n i later is =
    let same : suc j ≡ i = same_Some _ _ is in omega (arith, later j refl)
edit_by None true n i later is = let same : 0 ≡ i = same_Some _ _ is in omega arith
edit_by None false n i later is = absurd (none-some _ is)

edit_below : (h : List Entry) (i : ℕ) → last_edit h ≡ Some i → i < length h
edit_below [] i is = absurd (none-some _ is)
edit_below (e ∷ h) i is =
    edit_by (last_edit h) (is_edit e) (length h) i (λ j found. edit_below h j found) is

-- ---- one command

-- what an accepted command makes of a session
record IsTaken (m : MachineState) (o : Obeyed) : Type 0 where
  pub note : refusal_of o.answer ≡ None
  pub limit : o.machine.limit ≡ m.limit
  pub fits : length m.history ≤ m.limit → length o.machine.history ≤ m.limit

taken_entry : (m : MachineState) (c : Command) (clip : Option Sheet) (e : Option Entry)
    → length m.history < m.limit → IsTaken m (carry_out m c clip e)
taken_entry m c clip None room = record { note = refl; limit = refl; fits = λ fits. fits }
taken_entry m c clip (Some e) room = record {
  note = refl;
  limit = refl;
  fits = λ fits. omega (arith, length-append m.history (e ∷ []));
}

taken_entered : (m : MachineState) (c : Command) → rule_against m c ≡ None → adds_entry c ≡ true
    → accept m c ≡ entered m c → IsTaken m (accept m c)
taken_entered m c allowed adds is =
    let d = (piece_of m).sheet.dims in
    subst (IsTaken m) (sym is)
    (taken_entry m c (clip_after m.clip (piece_of m).sheet (taken_area d c)) (entry_of d m.clip c)
    (has-room m c allowed adds))

taken_jump : (m : MachineState) (i : ℕ) → i < length m.history → IsTaken m (jump_to m i)
unfolding jump_to
taken_jump m i below = record {
  note = refl;
  limit = refl;
  fits = λ fits.
      omega (
        arith,
        length-append (take i m.history) (Hush ∷ []),
        length-take-le i m.history (omega arith),
      );
}

taken_retract : (m : MachineState) (i : ℕ) → i < length m.history → IsTaken m (retract m i)
unfolding retract
taken_retract m i below = record {
  note = refl;
  limit = refl;
  fits = λ fits.
      omega (
        arith,
        length-append (remove m.history i) (Hush ∷ []),
        length-remove m.history i below,
      );
}

taken_undo : (m : MachineState) (last : Option ℕ) → last_edit m.history ≡ last
    → rule_against m command.Undo ≡ None
    → IsTaken m (option_map_or (jump_to m) last (refuse m NothingToUndo))
unfolding rule_against
taken_undo m (Some i) is allowed = taken_jump m i (edit_below m.history i is)
taken_undo m None is allowed = absurd (none-some NothingToUndo (sym allowed ∙ rw is refl))

taken : (m : MachineState) (c : Command) → rule_against m c ≡ None → c ≢ command.Redo
    → IsTaken m (accept m c)
unfolding accept entry_of
taken m command.Frame allowed other = taken_entered m command.Frame allowed refl refl
taken m (command.Write y x glyph) allowed other =
    taken_entered m (command.Write y x glyph) allowed refl refl
taken m (command.Fill rect glyph) allowed other =
    taken_entered m (command.Fill rect glyph) allowed refl refl
taken m (command.Erase rect) allowed other =
    taken_entered m (command.Erase rect) allowed refl refl
taken m (command.Copy rect) allowed other =
    record { note = refl; limit = refl; fits = λ fits. fits }
taken m (command.Cut rect) allowed other = taken_entered m (command.Cut rect) allowed refl refl
taken m (command.Clip y x glyph) allowed other =
    record { note = refl; limit = refl; fits = λ fits. fits }
taken m (command.Paste y x) allowed other = taken_entered m (command.Paste y x) allowed refl refl
taken m (command.Move rect y x) allowed other =
    taken_entered m (command.Move rect y x) allowed refl refl
taken m (command.Resize h w) allowed other = taken_entered m (command.Resize h w) allowed refl refl
taken m command.Reset allowed other = taken_entered m command.Reset allowed refl refl
taken m command.Undo allowed other = taken_undo m (last_edit m.history) refl allowed
taken m (command.Rewind moment) allowed other =
    taken_jump m moment (some-moment m moment allowed)
taken m command.Redo allowed other = absurd (other refl)
taken m (command.Retract moment) allowed other =
    taken_retract m moment (some-entry m moment allowed)
taken m command.Hush allowed other = taken_entered m command.Hush allowed refl refl

taken_obeyed : (m : MachineState) (c : Command) → rule_against m c ≡ None → c ≢ command.Redo
    → IsTaken m (obey m c)
unfolding obey
taken_obeyed m c allowed other = rw allowed (taken m c allowed other)

-- the hands after it own what they own by its definition
owning_taken : (who : ℕ) (c : Command) (refused : Option Rule) (n : ℕ) (crew : CrewState)
    → refused ≡ None → crew.alone ≡ false → n ≤ crew.room
    → owning who c refused n crew ≡ record crew { owners = owned who c n crew.owners }
owning_taken who c refused n crew taken shared room =
    rw (taken, le-leb n crew.room room, shared) refl

-- the same, of the session of a performance
pub owning_obeyed : (who : ℕ) (c : Command) (s : LiveState) → HasOwners s
    → rule_against s.standing.machine c ≡ None → c ≢ command.Redo
    → let o = obey s.standing.machine c in
    let n = length o.machine.history in
    owning who c (refusal_of o.answer) n s.crew
    ≡ record s.crew { owners = owned who c n s.crew.owners }
owning_obeyed who c s has allowed other =
    let m = s.standing.machine in
    let o = obey m c in
    let is = taken_obeyed m c allowed other in
    owning_taken who c (refusal_of o.answer) (length o.machine.history) s.crew is.note has.shared
    (omega (arith, is.fits has.fits, has.room))

-- ---- steps

-- from one state to another they go on to own what they did
abbrev Owns : LiveState → List Act → LiveState → Type 0
Owns s acts t = HasOwners s → HasOwners t

-- where nothing that is owned has changed
pub owns_same : (s t : LiveState) → t.standing ≡ s.standing
    → t.crew ≡ record s.crew { players = t.crew.players } → HasOwners s → HasOwners t
owns_same s t standing crew has =
    let alone : t.crew.alone ≡ s.crew.alone = ap (λ (c : CrewState). c.alone) crew in
    let room : t.crew.room ≡ s.crew.room = ap (λ (c : CrewState). c.room) crew in
    let owners : t.crew.owners ≡ s.crew.owners = ap (λ (c : CrewState). c.owners) crew in
    record {
      shared = alone ∙ has.shared;
      fits = rw standing has.fits;
      room = rw (standing, room) has.room;
      owners = rw (standing, owners) has.owners;
    }

-- where a command leads
abbrev pub led : ℕ → Command → LiveState → Obeyed → LiveState
led who c s o =
    obeyed_by who c s (standing_after s.standing o) (sent_by (Done 0 o.answer o.messages) s.sent)

owns_accepted : (who : ℕ) (c : Command) (s : LiveState) → HasOwners s
    → rule_against s.standing.machine c ≡ None → c ≢ command.Redo
    → HasOwners (led who c s (obey s.standing.machine c))
owns_accepted who c s has allowed other =
    let m = s.standing.machine in
    let after = obey m c in
    let taken = taken_obeyed m c allowed other in
    let is = owning_obeyed who c s has allowed other in
    record {
      shared = ap (λ (crew : CrewState). crew.alone) is ∙ has.shared;
      fits = omega (arith, taken.fits has.fits, taken.limit);
      room = omega (arith, ap (λ (crew : CrewState). crew.room) is, taken.limit, has.room);
      owners = rw (ap (λ (crew : CrewState). crew.owners) is)
          (keeps_owners m s.crew.owners who c has.owners other allowed);
    }

owns_refused : (who : ℕ) (c : Command) (s : LiveState) (rule : Rule) → HasOwners s
    → HasOwners (led who c s (refuse s.standing.machine rule))
owns_refused who c s rule has = record {
  shared = has.shared;
  fits = has.fits;
  room = has.room;
  owners = has.owners;
}

pub owns_by : (who : ℕ) (c : Command) (s : LiveState) (rule : Option Rule)
    → rule_against s.standing.machine c ≡ rule → c ≢ command.Redo → HasOwners s
    → HasOwners (led who c s (obey s.standing.machine c))
unfolding obey
owns_by who c s None is other has = owns_accepted who c s has is other
owns_by who c s (Some rule) is other has =
    let m = s.standing.machine in
    subst (λ (against : Option Rule).
    HasOwners (led who c s (option_map_or (refuse m) against (accept m c))))
    (sym is) (owns_refused who c s rule has)

owns_command : (who : ℕ) (c : Command) (s : LiveState)
    → (s.crew.alone ≡ false → c ≢ command.Redo)
    → Owns s (hand_course who c s).acts (hand_course who c s).state
unfolding hand_course obey_course onward mapped
owns_command who c s may has =
    owns_by who c s (rule_against s.standing.machine c) refl (may has.shared) has

owns_paint : (marks : List MarkSet) (hand : ℕ) (s : LiveState)
    → Owns s [] (picture_course marks hand s).state
unfolding picture_course
owns_paint marks hand s has = owns_same s (picture_course marks hand s).state refl refl has

owns_carries : Carries (Anyhow Owns)
owns_carries = record {
  none = λ who s t alike has. owns_same s t alike.standing alike.crew has;
  both = λ who end r s t xs ys first second has. second (first has);
  leaves = λ who s has. has;
  full = λ s is has. has;
  command = owns_command;
  frame = λ s. owns_command NOBODY command.Frame s (λ shared is. cc);
  struck = λ who hand key s has. owns_same s (struck_well hand key s) refl refl has;
  single = λ hand s owns. owns;
  denied = λ who hand denial s has.
      owns_same s (with_word hand (Denied (rule_of_denial denial)) s) refl refl has;
  kept = λ who hand bytes s has. owns_same s (with_word hand Kept s) refl refl has;
  save = λ who name bytes s saved has. has;
  append = λ who name byte bytes s named is has.
      owns_same s (record s { unwritten = [] }) refl refl has;
  paint = λ who marks hand s is. owns_paint marks hand s;
  screen = λ who hand d s is has. owns_same s (with_view hand (unpainted d) s) refl refl has;
}

-- ---- a performance

pub starts_with_owners : StartsWithOwners
starts_with_owners set full views hands room at begins none fits = record {
  shared = refl;
  fits = rw none (omega arith);
  room = fits;
  owners = rw none refl;
}

pub owns_so_far : (s : LiveState) (opening : Losses) (heard : List Hearing) → HasOwners s
    → HasOwners (so_far s opening heard).state
owns_so_far s opening heard =
    begun_carried owns_carries (record { asks = λ poll t has. has; learns = λ came t has. has })
    (λ who name s has. has) s opening heard

-- the edits of other hands stay
abbrev Spares : ℕ → LiveState → LiveState → Type 0
Spares hand s t =
    edits_of_others hand t.standing.machine.history t.crew.owners
    ≡ edits_of_others hand s.standing.machine.history s.crew.owners

pub spares_allowed : (hand : ℕ) (s : LiveState) → HasOwners s
    → denial_of s.crew hand (wish.Do command.Undo) ≡ None
    → rule_against s.standing.machine command.Undo ≡ None
    → Spares hand s (hand_course hand command.Undo s).state
unfolding hand_course obey_course onward mapped
spares_allowed hand s has granted allowed =
    let m = s.standing.machine in
    let is = owning_obeyed hand command.Undo s has allowed (λ same. cc) in
    ap (λ (crew : CrewState).
    edits_of_others hand (obey m command.Undo).machine.history crew.owners) is
    ∙ undo_spares m s.crew hand has.owners has.shared granted allowed

-- an undo that a rule refuses changes nothing
spares_by : (hand : ℕ) (s : LiveState) (rule : Option Rule)
    → rule_against s.standing.machine command.Undo ≡ rule → HasOwners s
    → denial_of s.crew hand (wish.Do command.Undo) ≡ None
    → Spares hand s (hand_course hand command.Undo s).state
unfolding hand_course obey_course onward mapped obey
spares_by hand s None is has granted = spares_allowed hand s has granted is
spares_by hand s (Some rule) is has granted =
    let m = s.standing.machine in
    ap (λ (against : Option Rule).
    let t = led hand command.Undo s (option_map_or (refuse m) against (accept m command.Undo)) in
    edits_of_others hand t.standing.machine.history t.crew.owners) is

-- the key asks for an undo, or for nothing, inside a text that is pasted
undo_asks : (a : Around) (e : Editor) (flow : Option Flow) → e.flow ≡ flow
    → (wish_of key.Undo a e ≡ wish.Nothing) ⊎ (wish_of key.Undo a e ≡ wish.Do command.Undo)
undo_asks a e None is = inr (rw is refl)
undo_asks a e (Some f) is = inl (rw is refl)

spares_asked : (hand : ℕ) (w : Wish) (s : LiveState)
    → (w ≡ wish.Nothing) ⊎ (w ≡ wish.Do command.Undo) → denial_of s.crew hand w ≡ None
    → HasOwners s → Spares hand s (wish_course hand (offered s.crew w) s).state
unfolding wish_course
spares_asked hand w s (inl is) granted has = rw is refl
spares_asked hand w s (inr is) granted has =
    rw is
    (spares_by hand s (rule_against s.standing.machine command.Undo) refl has (rw is at granted))

-- nor does a key that is denied
spares_where : (hand : ℕ) (s : LiveState) (denial : Option Denial)
    → denial_at s.crew hand key.Undo (around_at hand key.Undo s) ≡ denial → HasOwners s
    → Spares hand s (struck_where hand key.Undo s denial).state
unfolding denied_course denial_of
spares_where hand s (Some denial) is has = refl
spares_where hand s None is has =
    let around = around_at hand key.Undo s in
    let e = editor_at hand s in
    let t : LiveState = record s { crew = struck_by hand key.Undo around s.crew } in
    spares_asked hand (wish_of key.Undo around e) t (undo_asks around e e.flow refl) is
    (owns_same s t refl refl has)

pub spares_key : (hand : ℕ) (s : LiveState) → HasOwners s
    → Spares hand s (key_course hand key.Undo s).state
unfolding key_course struck_course
spares_key hand s has =
    let t = fitted s in
    spares_where hand t (denial_at t.crew hand key.Undo (around_at hand key.Undo t)) refl
    (owns_same s t refl refl has)
