-- What a command finds against which no rule stands.
use Rattle.std.proofs.Common.{◌≡◌, ℕ, ◌<◌, Bool, true, false, List, [], ◌∷◌, ◌++◌, length, Option, Some, None, refl, sym, ◌∙◌, inl, inr}
use Rattle.std.specs.Prelude.{◌&&◌, ◌||◌, nat_le}
use Rattle.std.proofs.lemmas.Bool.{cases_Bool, leb-false}
use Rattle.std.proofs.lemmas.Option.{none-some}
use Rattle.orca_base.specs.declared.command.Command.{Command}
use Rattle.orca_base.specs.declared.command.Command.TheVariants as command
use Rattle.orca_base.specs.declared.command.Rule.TheVariants.{HistoryFull, NoSuchMoment, NothingToRedo, NothingToUndo, SizeInUse}
use Rattle.orca_base.specs.Histories.{last_edit}
use Rattle.orca_edit.specs.Obeying.{MachineState, Obeyed, Test, accept, adds_entry, block_tests, carry_out, clip_after, entry_of, first_standing, has_no_room, jump_to, obey, piece_of, redo, redoes_nothing, retract, rewinds_too_far, rule_against, taken_area, takes_used_size, test, undoes_nothing}

-- where none of these tests stands, this one doesn't
no-test : (before : List Test) (t : Test) (after : List Test)
    → first_standing (before ++ t ∷ after) ≡ None → t.stands ≡ false
no-test [] t after none = elim (cases_Bool t.stands) [
  | inl stands ↦
      let some : first_standing (t ∷ after) ≡ Some t.rule = rw stands refl in absurd (cc)
  | inr fails ↦ fails
]
no-test (b ∷ before) t after none = elim (cases_Bool b.stands) [
  | inl stands ↦
      let some : first_standing (b ∷ (before ++ t ∷ after)) ≡ Some b.rule = rw stands refl in
      absurd (cc)
  | inr fails ↦ no-test before t after (rw fails at none)
]

-- no rule on the history stands
pub record IsOpen (m : MachineState) (c : Command) : Type 0 where
  pub undoes : undoes_nothing m.history c ≡ false
  pub rewinds : rewinds_too_far m.history c ≡ false
  pub sizes : takes_used_size m.history c ≡ false
  pub room : has_no_room m.limit m.history m.tail c ≡ false
  pub redoes : redoes_nothing m.tail c ≡ false

pub is-open : (m : MachineState) (c : Command) → rule_against m c ≡ None → IsOpen m c
unfolding rule_against
is-open m c allowed =
    let block : List Test = block_tests (piece_of m).sheet.dims m.clip c in
    let undoes : Test = test NothingToUndo (undoes_nothing m.history c) in
    let rewinds : Test =
    test (NoSuchMoment (length m.history)) (rewinds_too_far m.history c) in
    let sizes : Test = test SizeInUse (takes_used_size m.history c) in
    let room : Test = test HistoryFull (has_no_room m.limit m.history m.tail c) in
    let redoes : Test = test NothingToRedo (redoes_nothing m.tail c) in
    record {
      undoes = no-test block undoes (rewinds ∷ sizes ∷ room ∷ redoes ∷ []) allowed;
      rewinds = no-test (block ++ undoes ∷ []) rewinds (sizes ∷ room ∷ redoes ∷ []) allowed;
      sizes = no-test (block ++ undoes ∷ rewinds ∷ []) sizes (room ∷ redoes ∷ []) allowed;
      room = no-test (block ++ undoes ∷ rewinds ∷ sizes ∷ []) room (redoes ∷ []) allowed;
      redoes = no-test (block ++ undoes ∷ rewinds ∷ sizes ∷ room ∷ []) redoes [] allowed;
    }

not-full : (adds full b : Bool) → adds ≡ true → (adds && full) || b ≡ false → full ≡ false
not-full true true b is none = none
not-full true false b is none = refl
not-full false full b is none = absurd cc

-- a command that adds an entry finds room for it
pub has-room : (m : MachineState) (c : Command) → rule_against m c ≡ None → adds_entry c ≡ true
    → length m.history < m.limit
has-room m c allowed adds =
    leb-false m.limit (length m.history)
    (not-full (adds_entry c) (nat_le m.limit (length m.history)) _ adds (is-open m c allowed).room)

-- a Rewind finds its moment
pub some-moment : (m : MachineState) (moment : ℕ)
    → rule_against m (command.Rewind moment) ≡ None → moment < length m.history
some-moment m moment allowed =
    leb-false (length m.history) moment (is-open m (command.Rewind moment) allowed).rewinds

-- and goes back to it
pub obey-rewind : (m : MachineState) (moment : ℕ) → rule_against m (command.Rewind moment) ≡ None
    → obey m (command.Rewind moment) ≡ jump_to m moment
unfolding obey accept
obey-rewind m moment allowed = rw allowed refl

-- an Undo finds an edit
pub undoes_some : (m : MachineState) (last : Option ℕ) → last_edit m.history ≡ last
    → rule_against m command.Undo ≡ None → (P : Type 0) → ((i : ℕ) → last ≡ Some i → P) → P
unfolding rule_against
undoes_some m (Some i) is allowed P next = next i refl
undoes_some m None is allowed P next =
    absurd (none-some NothingToUndo (sym allowed ∙ rw is refl))

-- and goes back to the last one
pub obey-undo : (m : MachineState) (moment : ℕ) → rule_against m command.Undo ≡ None
    → last_edit m.history ≡ Some moment → obey m command.Undo ≡ jump_to m moment
unfolding obey accept
obey-undo m moment allowed last = rw (allowed, last) refl

pub obey-redo : (m : MachineState) → rule_against m command.Redo ≡ None
    → obey m command.Redo ≡ redo m
unfolding obey accept
obey-redo m allowed = rw allowed refl

-- a Retract finds its entry
pub some-entry : (m : MachineState) (moment : ℕ)
    → rule_against m (command.Retract moment) ≡ None → moment < length m.history
some-entry m moment allowed =
    leb-false (length m.history) moment (is-open m (command.Retract moment) allowed).undoes

-- and takes it out
pub obey-retract : (m : MachineState) (moment : ℕ)
    → rule_against m (command.Retract moment) ≡ None
    → obey m (command.Retract moment) ≡ retract m moment
unfolding obey accept
obey-retract m moment allowed = rw allowed refl

-- what is done with a command that is no jump, no Retract and no Clip
abbrev pub entered : MachineState → Command → Obeyed
entered m c =
    let d = (piece_of m).sheet.dims in
    carry_out m c (clip_after m.clip (piece_of m).sheet (taken_area d c)) (entry_of d m.clip c)
