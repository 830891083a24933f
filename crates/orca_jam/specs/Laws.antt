-- What holds of the owners of a history, and of hands that share a session.
use Rattle.std.specs.Prelude.{ℕ, ◌≡◌, ◌≢◌, Bool, true, false, ◌||◌, List, filter, length, map, zip, Some, None, slice_get, All}
use Rattle.orca_base.specs.declared.command.Command.{Command}
use Rattle.orca_base.specs.declared.command.Command.TheVariants as command
use Rattle.orca_base.specs.declared.command.Entry.{Entry}
use Rattle.orca_base.specs.declared.command.Entry.TheVariants.{Frame}
use Rattle.orca_base.specs.Histories.{is_edit}
use Rattle.orca_edit.specs.Obeying.{MachineState, obey, rule_against}
use Rattle.orca_jam.specs.Crews.{CrewState, denial_of}
use Rattle.orca_jam.specs.Owners.{is_of_other, owned}
use Rattle.orca_jam.specs.declared.crew.TheConstants.{LEADER}
use Rattle.orca_jam.specs.declared.owner.Owner.{Owner}
use Rattle.orca_jam.specs.declared.owner.TheConstants.{NOBODY}
use Rattle.orca_term.specs.declared.editor.Wish.{Wish}
use Rattle.orca_term.specs.declared.editor.Wish.TheVariants as wish

-- owners of a history: one of each entry, and an edit where it has one
abbrev pub AreOwners : List Entry → List Owner → Type 0
AreOwners history owners = map (λ owner. owner.edit) owners ≡ map is_edit history

-- they stay so: with each command that is accepted, but for a redo, which hands that share a
-- session are not offered
abbrev pub KeepsOwners : Type 0
KeepsOwners =
    (m : MachineState) (owners : List Owner) (hand : ℕ) (c : Command)
    → AreOwners m.history owners → c ≢ command.Redo → rule_against m c ≡ None
    → let after = (obey m c).machine.history in
    AreOwners after (owned hand c (length after) owners)

-- the edits of other hands, in order, each with its entry
abbrev pub edits_of_others : ℕ → List Entry → List Owner → List (Entry × Owner)
edits_of_others hand history owners = filter (λ e. is_of_other hand e.1) (zip history owners)

-- an undo that is neither denied nor refused leaves every edit of every other hand, in order
abbrev pub UndoSpares : Type 0
UndoSpares =
    (m : MachineState) (c : CrewState) (hand : ℕ)
    → AreOwners m.history c.owners → c.alone ≡ false → denial_of c hand (wish.Do command.Undo) ≡ None
    → rule_against m command.Undo ≡ None
    → let after = (obey m command.Undo).machine.history in
    edits_of_others hand after (owned hand command.Undo (length after) c.owners)
    ≡ edits_of_others hand m.history c.owners

-- the entry is a frame
abbrev pub is_frame : Entry → Bool
is_frame Frame = true
is_frame _ = false

-- the frames and the edits of other hands, in order, each with its entry
abbrev pub frames_and_others : ℕ → List Entry → List Owner → List (Entry × Owner)
frames_and_others hand history owners =
    filter (λ e. is_frame e.0 || is_of_other hand e.1) (zip history owners)

-- a Retract of an edit of the hand's own leaves every edit of every other hand and every frame, in
-- order
abbrev pub RetractSpares : Type 0
RetractSpares =
    (m : MachineState) (owners : List Owner) (hand moment : ℕ) (owner : Owner)
    → AreOwners m.history owners → slice_get owners moment ≡ Some owner → owner.edit ≡ true
    → owner.hand ≡ hand → rule_against m (command.Retract moment) ≡ None
    → let after = (obey m (command.Retract moment)).machine.history in
    frames_and_others hand after
    (owned hand (command.Retract moment) (length after) owners)
    ≡ frames_and_others hand m.history owners

-- each edit is the first hand's
abbrev pub AreLeaders : List Owner → Type 0
AreLeaders owners = All (λ owner. owner.edit ≡ true → owner.hand ≡ LEADER) owners

-- where each edit is the first hand's, nothing is denied to it
abbrev pub LeaderIsFree : Type 0
LeaderIsFree =
    (c : CrewState) (w : Wish) → AreLeaders c.owners → denial_of c LEADER w ≡ None

-- its own commands, and the frames that nobody asked for, leave it so
abbrev pub LeaderStaysFree : Type 0
LeaderStaysFree =
    (owners : List Owner) (c : Command) (n : ℕ) → AreLeaders owners
    → AreLeaders (owned LEADER c n owners) × AreLeaders (owned NOBODY command.Frame n owners)
