-- The hands at a session, and what each may ask for.
use Rattle.std.specs.Prelude.{ℕ, zero, suc, ◌==◌, ◌+◌, ◌-◌, Bool, true, false, not, ◌&&◌, if◌then◌else◌, List, [], ◌∷◌, ◌++◌, count_by, drop, filter, map, min, slice_get, length, replicate, slice_index_or, slice_set, take, Option, Some, None, Result, Ok, Err}
use Rattle.std.specs.Option.{option_map_or}
use Rattle.orca_base.specs.declared.command.Command.{Command}
use Rattle.orca_base.specs.declared.command.Command.TheVariants as command
use Rattle.orca_base.specs.Grids.{Size}
use Rattle.orca_base.specs.declared.command.Entry.{Entry}
use Rattle.orca_base.specs.declared.limits.TheConstants.{RETRACTED_ENTRIES}
use Rattle.orca_base.specs.declared.place.Place.{Place}
use Rattle.orca_edit.specs.Machines.{is_free_edit}
use Rattle.orca_jam.specs.Denials.{is_undo, not_yours}
use Rattle.orca_jam.specs.Owners.{is_of_other, last_editor, owned}
use Rattle.orca_jam.specs.declared.crew.TheConstants.{LEADER}
use Rattle.orca_jam.specs.declared.denial.Denial.{Denial}
use Rattle.orca_jam.specs.declared.denial.Denial.TheVariants.{LeaderOnly}
use Rattle.orca_jam.specs.declared.owner.Owner.{Owner}
use Rattle.orca_jam.specs.declared.player.Player.{Player}
use Rattle.orca_term.specs.Editing.{editor_after, editor_inside, new_editor, turned_page, wish_of}
use Rattle.orca_term.specs.Keys.{Item, turn}
use Rattle.orca_term.specs.declared.around.Around.{Around}
use Rattle.orca_term.specs.declared.editor.Editor.{Editor}
use Rattle.orca_term.specs.declared.editor.Wish.{Wish}
use Rattle.orca_term.specs.declared.editor.Wish.TheVariants as wish
use Rattle.orca_term.specs.declared.keys.Key.{Key}
use Rattle.orca_term.specs.declared.keys.Key.TheVariants as key
use Rattle.orca_term.specs.declared.keys.Pending.TheVariants.{Nothing}

-- whether a hand plays alone, whether the full keys are read, whether each hand has a picture of
-- its own, the players in the order of their hands, whose each entry of the history is, and room for
-- how many of them there is. Of a hand that plays alone no owners are kept
pub record CrewState : Type 0 where
  pub alone : Bool
  pub full : Bool
  pub views : Bool
  pub players : List Player
  pub owners : List Owner
  pub room : ℕ

-- nothing is pending, and a new editor
abbrev pub new_player : Bool → Player
new_player full = record { keys = Nothing; editor = new_editor full; away = false }

-- a hand that plays alone
abbrev pub crew_alone : Bool → CrewState
crew_alone full = record {
  alone = true;
  full = full;
  views = false;
  players = new_player full ∷ [];
  owners = [];
  room = 0;
}

-- so many hands share a session, with room for the owners of so many entries
abbrev pub crew_at_start : Bool → Bool → ℕ → ℕ → CrewState
crew_at_start full views hands room = record {
  alone = false;
  full = full;
  views = views;
  players = replicate hands (new_player full);
  owners = [];
  room = room;
}

-- how many hands are shown a picture: all, or the first one alone
abbrev pub viewers_of : CrewState → ℕ
viewers_of c = if c.views then length c.players else 1

-- the player of a hand
abbrev pub player_at : CrewState → ℕ → Player
player_at c hand = slice_index_or c.players hand (new_player false)

abbrev pub with_player : ℕ → Player → CrewState → CrewState
with_player hand p c = record c { players = slice_set c.players hand p }

-- the editor of a hand is this one
abbrev pub with_editor : ℕ → Editor → CrewState → CrewState
with_editor hand e c = with_player hand (record (player_at c hand) { editor = e }) c

-- the reader of a player was given a byte, or nothing came for a while
abbrev pub turned_player : Bool → Item → Player → Player
turned_player full item p = record p { keys = (turn full p.keys item).pending }

-- that of a hand was
abbrev pub turned_by : ℕ → Item → CrewState → CrewState
turned_by hand item c = with_player hand (turned_player c.full item (player_at c hand)) c

-- the editor of a player is brought into a grid of this size
abbrev pub fitted_player : Size → Player → Player
fitted_player d p = record p { editor = editor_inside d p.editor }

-- every editor is
abbrev pub fitted_crew : Size → CrewState → CrewState
fitted_crew d c = record c { players = map (fitted_player d) c.players }

-- the place of the cursor of a player
abbrev pub cursor_of : Player → Place
cursor_of p = record { y = p.editor.y; x = p.editor.x }

-- a hand that is away is not shown
abbrev pub is_here : Player → Bool
is_here p = not p.away

-- the cursors of the other hands, which the picture of a hand shows where each hand has one
abbrev pub cursors_beside : CrewState → ℕ → List Place
cursors_beside c hand =
    if c.views
    then map cursor_of (filter is_here (take hand c.players ++ drop (hand + 1) c.players)) else []

-- whether a hand is away, and how many are
abbrev pub is_away : CrewState → ℕ → Bool
is_away c hand = (player_at c hand).away

abbrev pub away_in : CrewState → ℕ
away_in c = count_by (λ p. p.away) c.players

-- ---- what a hand may ask for

-- the wishes of the first hand alone: to go back, to begin anew, to pause, to save, to end, and to
-- change the tempo or the size of the grid; with full keys a frame is one, and, unless each hand has
-- a picture of its own, what changes the picture
abbrev pub is_leaders : CrewState → Wish → Bool
is_leaders c wish.Toggle = true
is_leaders c wish.Save = true
is_leaders c wish.Quit = true
is_leaders c (wish.Slower beats) = true
is_leaders c (wish.Faster beats) = true
is_leaders c (wish.Redraw size) = not c.views
is_leaders c (wish.Do (command.Rewind moment)) = true
is_leaders c (wish.Do command.Reset) = true
is_leaders c (wish.Do (command.Resize h w)) = true
is_leaders c (wish.Do command.Frame) = c.full
is_leaders c _ = false

-- why a wish is denied to a hand, if it is: the first reason that stands. A hand that plays alone
-- may do all
unfoldable pub denial_of : CrewState → ℕ → Wish → Option Denial
denial_of c hand w =
    if c.alone then None
    else (if is_leaders c w && not (hand == LEADER) then Some LeaderOnly
    else (if is_undo w then not_yours hand (last_editor c.owners) else None))

-- hands that share a session do nothing again that was taken back
abbrev pub offers : CrewState → Wish → Bool
offers c (wish.Do command.Redo) = c.alone
offers c _ = true

-- what comes of a wish that isn't denied
abbrev pub offered : CrewState → Wish → Wish
offered c w = if offers c w then w else wish.Nothing

-- what a key of a hand asks for
abbrev pub wish_at : CrewState → ℕ → Key → Around → Wish
wish_at c hand key a = wish_of key a (player_at c hand).editor

-- whether a hand may go away: where each hand has a picture, another one than the first
abbrev pub may_leave : CrewState → ℕ → Bool
may_leave c hand = c.views && not (hand == LEADER)

-- a key by which a terminal of no rows and no columns is told
abbrev pub tells_nothing : Key → Bool
tells_nothing (key.Screen rows columns) = rows == 0 && columns == 0
tells_nothing _ = false

-- whether a key says that its hand is away
abbrev pub says_away : CrewState → ℕ → Key → Bool
says_away c hand key = tells_nothing key && may_leave c hand

-- the same where it isn't denied: a hand that goes away asks for nothing
abbrev pub asked : CrewState → ℕ → Key → Around → Wish
asked c hand key a =
    if says_away c hand key then wish.Nothing else offered c (wish_at c hand key a)

-- why a key is denied to a hand, if it is
abbrev pub denial_at : CrewState → ℕ → Key → Around → Option Denial
denial_at c hand key a = denial_of c hand (wish_at c hand key a)

-- what a hand is told of a key
abbrev pub answer_to : CrewState → ℕ → Key → Around → Result Wish Denial
answer_to c hand key a = option_map_or Err (denial_at c hand key a) (Ok (asked c hand key a))

-- a hand that goes away: its text ends, and all else stays
abbrev pub left_player : Player → Player
left_player p = record p { editor = record p.editor { flow = None }; away = true }

-- whether a hand is away after another key: any other size says that it is here
abbrev pub away_after : Key → Bool → Bool
away_after (key.Screen rows columns) away = false
away_after _ away = away

-- a hand after another key
abbrev pub struck_player : Key → Around → Player → Player
struck_player key a p =
    record p { editor = editor_after key a p.editor; away = away_after key p.away }

-- the crew after a key that isn't denied
abbrev pub struck_by : ℕ → Key → Around → CrewState → CrewState
struck_by hand key a c =
    let p = player_at c hand in
    with_player hand (if says_away c hand key then left_player p else struck_player key a p) c

-- after one that is: it closes the page of help
abbrev pub denied_by : ℕ → Key → CrewState → CrewState
denied_by hand key c = with_editor hand (turned_page key (player_at c hand).editor) c

-- the crew after a command of a hand that was accepted, where the history has n entries then
abbrev pub took_by : ℕ → Command → ℕ → CrewState → CrewState
took_by hand command n c =
    if c.alone then c else record c { owners = owned hand command n c.owners }

-- ---- what a hand may take back

-- an entry of a history is an edit that a Retract may take out, and is not another hand's
abbrev pub is_own : CrewState → ℕ → List Entry → ℕ → Bool
is_own c hand history moment =
    is_free_edit (drop moment history)
    && not (option_map_or (is_of_other hand) (slice_get c.owners moment) false)

-- the last of them among the last n entries before a moment
abbrev pub last_own : CrewState → ℕ → List Entry → ℕ → ℕ → Option ℕ
last_own c hand history end zero = None
last_own c hand history end (suc n) =
    if is_own c hand history (end - 1) then Some (end - 1)
    else last_own c hand history (end - 1) n

-- the last of them among the last entries
abbrev pub own_edit : CrewState → ℕ → List Entry → Option ℕ
own_edit c hand history =
    last_own c hand history (length history) (min (length history) RETRACTED_ENTRIES)

-- what a key is told of that: the key alone that takes an edit back
abbrev pub own_for : Key → CrewState → ℕ → List Entry → Option ℕ
own_for key.Retract c hand history = own_edit c hand history
own_for _ c hand history = None
