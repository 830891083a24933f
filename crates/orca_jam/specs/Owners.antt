-- Whose the entries of a history are.
use Rattle.std.specs.Prelude.{ℕ, ◌-◌, ◌==◌, Bool, true, false, not, ◌&&◌, nat_lt, if◌then◌else◌, List, [], ◌∷◌, ◌++◌, length, take, Option, Some, None}
use Rattle.std.specs.List.{remove}
use Rattle.std.specs.Option.{option_or}
use Rattle.orca_base.specs.declared.command.Command.{Command}
use Rattle.orca_base.specs.declared.command.Command.TheVariants as command
use Rattle.orca_edit.specs.Machines.{is_jump}
use Rattle.orca_jam.specs.declared.owner.Owner.{Owner}
use Rattle.orca_jam.specs.declared.owner.TheConstants.{NOBODY}

-- the hand of the last edit, if there is one
abbrev pub last_editor : List Owner → Option ℕ
last_editor [] = None
last_editor (owner ∷ owners) =
    option_or (last_editor owners) (if owner.edit then Some owner.hand else None)

-- an edit of another hand
abbrev pub is_of_other : ℕ → Owner → Bool
is_of_other hand owner = owner.edit && not (owner.hand == hand)

-- the entry that a command adds is an edit, but for a frame and a Hush
abbrev pub is_edit_command : Command → Bool
is_edit_command command.Frame = false
is_edit_command command.Hush = false
is_edit_command _ = true

-- the owner of the Hush at the end of a jump or a Retract
abbrev pub nobodys : Owner
nobodys = record { hand = NOBODY; edit = false }

-- a command that adds a Hush of nobody's: a jump or a Retract
abbrev pub ends_in_hush : Command → Bool
ends_in_hush (command.Retract moment) = true
ends_in_hush c = is_jump c

-- the owners without that of the entry that a Retract takes out
abbrev pub left_owners : Command → List Owner → List Owner
left_owners (command.Retract moment) owners = remove owners moment
left_owners c owners = owners

-- the owners after a command of a hand that was accepted, where the history has n entries then: a
-- Retract takes one out, a jump cuts them off as it cuts the history, and the Hush of both is
-- nobody's; an entry that was added is the hand's
unfoldable pub owned : ℕ → Command → ℕ → List Owner → List Owner
owned hand c n owners =
    if ends_in_hush c then take (n - 1) (left_owners c owners) ++ nobodys ∷ []
    else (if nat_lt (length owners) n
    then owners ++ record { hand = hand; edit = is_edit_command c } ∷ [] else owners)
