-- Laws of several hands at one session: each of them is heard, and they keep whose each entry is.
use Rattle.std.specs.Prelude.{◌≡◌, ◌≤◌, ◌==◌, ℕ, Bool, true, false, not, ◌&&◌, if◌then◌else◌, List, [], ◌∷◌, ◌++◌, length, Option, Some, None}
use Rattle.std.specs.Option.{option_map_or}
use Rattle.orca_base.specs.declared.command.Command.{Command}
use Rattle.orca_base.specs.declared.command.Command.TheVariants as command
use Rattle.orca_base.specs.Grids.{Size}
use Rattle.orca_course.specs.Acts.{Act, commands_in, keys_in}
use Rattle.orca_course.specs.Acts.Act.{Await, Obey, Strike}
use Rattle.orca_course.specs.Performers.{Hearing}
use Rattle.orca_course.specs.Standings.{Standing}
use Rattle.orca_course.specs.declared.item.Losses.{Losses}
use Rattle.orca_edit.specs.Obeying.{MachineState, obey, rule_against}
use Rattle.orca_jam.specs.Crews.{crew_at_start, denial_of, may_leave, player_at, tells_nothing}
use Rattle.orca_jam.specs.Laws.{AreOwners, edits_of_others}
use Rattle.orca_jam.specs.Owners.{owned}
use Rattle.orca_jam.specs.declared.owner.Owner.{Owner}
use Rattle.orca_jam.specs.declared.owner.TheConstants.{NOBODY}
use Rattle.orca_rig.specs.declared.inbox.Answer.{Answer}
use Rattle.orca_rig.specs.declared.inbox.Answer.TheVariants as answer
use Rattle.orca_term.specs.Editing.{editor_after, editor_inside, turned_page}
use Rattle.orca_term.specs.Keys.{Byte, Due, Item, turn}
use Rattle.orca_term.specs.declared.around.Around.{Around}
use Rattle.orca_term.specs.declared.editor.Editor.{Editor}
use Rattle.orca_term.specs.declared.editor.Wish.TheVariants as wish
use Rattle.orca_term.specs.declared.keys.Key.{Key}
use Rattle.orca_term.specs.declared.keys.Key.TheVariants as key
use Rattle.orca_term.specs.declared.keys.Pending.{Pending}
use Rattle.orca_live.specs.Items.{ByteOf, FrameDue, HeardItem, items_heard}
use Rattle.orca_live.specs.Laws.{so_far}
use Rattle.orca_live.specs.Performing.{hand_course, key_course}
use Rattle.orca_live.specs.Starting.{live_at_start}
use Rattle.orca_live.specs.States.{LiveState, Setting, editor_at, is_hand, moments_at, reads_text}

-- ---- each hand is heard

-- the session after commands, one after another
abbrev pub after_commands : List Command → MachineState → MachineState
after_commands [] machine = machine
after_commands (command ∷ commands) machine =
    after_commands commands (obey machine command).machine

-- what reads the bytes of a hand: what is pending of them, and whether its editor reads a text that
-- is pasted
pub record Reader : Type 0 where
  pub pending : Pending
  pub text : Bool

abbrev pub reader_at : ℕ → LiveState → Reader
reader_at hand s =
    record { pending = (player_at s.crew hand).keys; text = reads_text hand s }

-- how the bytes of a hand are read: as full keys or as plain ones, and whether the hand may go away
pub record Mode : Type 0 where
  pub full : Bool
  pub leaves : Bool

abbrev pub mode_at : ℕ → LiveState → Mode
mode_at hand s = record { full = s.crew.full; leaves = may_leave s.crew hand }

-- whether a text is read after a key, and after keys, of a hand that may go away, or not
abbrev pub text_after : Bool → Bool → Key → Bool
text_after leaves text key.PasteBegin = true
text_after leaves text key.PasteEnd = false
text_after leaves text key.Escape = false
text_after leaves text key = text && not (tells_nothing key && leaves)

abbrev pub text_by : Bool → Bool → List Key → Bool
text_by leaves text [] = text
text_by leaves text (key ∷ keys) = text_by leaves (text_after leaves text key) keys

-- what an item of the performance is to a reader: a byte of its hand, and where a frame is due, that
-- nothing came for a while. Bytes of other hands are nothing to it, nor is a frame while a text is
-- read
abbrev pub item_for : ℕ → Reader → HeardItem → Option Item
item_for hand r (ByteOf other byte) = if other == hand then Some (Byte byte) else None
item_for hand r FrameDue = if r.text then None else Some Due

-- the keys that it ends
abbrev pub ended_by : Mode → Reader → Option Item → List Key
ended_by m r None = []
ended_by m r (Some item) = (turn m.full r.pending item).keys

-- the reader after it
abbrev pub reader_after : Mode → Reader → Option Item → Reader
reader_after m r None = r
reader_after m r (Some item) =
    let t = turn m.full r.pending item in
    record { pending = t.pending; text = text_by m.leaves r.text t.keys }

-- after items, one after another
abbrev pub reader_by : Mode → ℕ → Reader → List HeardItem → Reader
reader_by m hand r [] = r
reader_by m hand r (item ∷ items) =
    reader_by m hand (reader_after m r (item_for hand r item)) items

-- the keys that they end
abbrev pub keys_by : Mode → ℕ → Reader → List HeardItem → List Key
keys_by m hand r [] = []
keys_by m hand r (item ∷ items) =
    let i = item_for hand r item in
    ended_by m r i ++ keys_by m hand (reader_after m r i) items

-- what changes an editor: a key of its hand, which is told this; the size that says that the hand
-- is away, which ends its text; a key that is denied, which closes a page of help alone; and the
-- size of the grid
pub data Change : Type 0 where
  Struck : Key → Around → Change
  Left : Change
  Denied : Key → Change
  Fitted : Size → Change

-- the editor after changes, one after another
abbrev pub editor_by : List Change → Editor → Editor
editor_by [] e = e
editor_by (Struck key a ∷ changes) e = editor_by changes (editor_after key a e)
editor_by (Left ∷ changes) e = editor_by changes (record e { flow = None })
editor_by (Denied key ∷ changes) e = editor_by changes (turned_page key e)
editor_by (Fitted d ∷ changes) e = editor_by changes (editor_inside d e)

-- the keys among changes
abbrev pub keys_of : List Change → List Key
keys_of [] = []
keys_of (Struck key a ∷ changes) = key ∷ keys_of changes
keys_of (Left ∷ changes) = key.Screen 0 0 ∷ keys_of changes
keys_of (Denied key ∷ changes) = key ∷ keys_of changes
keys_of (Fitted d ∷ changes) = keys_of changes

-- exactly these keys, in order, and the size of the grid have made one editor of another
pub record IsMadeBy (keys : List Key) (e f : Editor) : Type 0 where
  pub changes : List Change
  pub own : keys_of changes ≡ keys
  pub after : f ≡ editor_by changes e

-- wherever a performance stands, its session is the one after its commands, in the order in which
-- they came; and, unless it ended, whatever the other hands sent, the reader of each hand stands
-- where its own bytes and the due frames have left it, its keys are those that these have ended,
-- and these keys alone have moved its editor
pub record HearsEach (s : LiveState) : Type 0 where
  pub obeys : (opening : Losses) (heard : List Hearing)
      → let c = so_far s opening heard in
      c.state.standing.machine ≡ after_commands (commands_in c.acts) s.standing.machine
  pub reads : (opening : Losses) (heard : List Hearing) (hand : ℕ) → is_hand hand s ≡ true
      → let c = so_far s opening heard in
      c.ending ≡ None
      → reader_at hand c.state
      ≡ reader_by (mode_at hand s) hand (reader_at hand s)
      (items_heard (length s.crew.players) heard)
  pub keys : (opening : Losses) (heard : List Hearing) (hand : ℕ) → is_hand hand s ≡ true
      → let c = so_far s opening heard in
      c.ending ≡ None
      → keys_in hand c.acts
      ≡ keys_by (mode_at hand s) hand (reader_at hand s) (items_heard (length s.crew.players) heard)
  pub moves : (opening : Losses) (heard : List Hearing) (hand : ℕ) → is_hand hand s ≡ true
      → let c = so_far s opening heard in
      c.ending ≡ None → IsMadeBy (keys_in hand c.acts) (editor_at hand s) (editor_at hand c.state)

abbrev pub EachIsHeard : Type 0
EachIsHeard = (s : LiveState) → HearsEach s

-- ---- whose each entry is

-- hands share the session, whose history has no more entries than it may have; each entry has an
-- owner, and there is room for those of a full history
pub record HasOwners (s : LiveState) : Type 0 where
  pub shared : s.crew.alone ≡ false
  pub fits : moments_at s ≤ s.standing.machine.limit
  pub room : s.standing.machine.limit ≤ s.crew.room
  pub owners : AreOwners s.standing.machine.history s.crew.owners

-- so it is where hands begin to share a session without a history
abbrev pub StartsWithOwners : Type 0
StartsWithOwners =
    (set : Setting) (full views : Bool) (hands room at : ℕ) (begins : Standing)
    → begins.machine.history ≡ [] → begins.machine.limit ≤ room
    → HasOwners (live_at_start set (crew_at_start full views hands room) at begins)

-- the hand whose bytes an answer brings, if it brings any
abbrev pub giver : Answer → Option ℕ
giver (answer.Bytes hand count at) = Some hand
giver _ = None

-- who gives a command: the hand whose bytes came. Where a frame is due nobody gives the frame, and
-- the hand that struck a key last gives another command
abbrev pub given_by : Option ℕ → ℕ → Command → ℕ
given_by (Some hand) struck command = hand
given_by None struck command.Frame = NOBODY
given_by None struck command = struck

-- the owners after a command of a hand, or of nobody: a refused one changes none of them
abbrev pub owners_given : ℕ → Command → MachineState → List Owner → List Owner
owners_given who command machine owners =
    option_map_or (λ rule. owners) (rule_against machine command)
    (owned who command (length (obey machine command).machine.history) owners)

-- the owners after acts: each command is of whoever gives it, by the last answer and the last key
abbrev pub owners_after : Option ℕ → ℕ → List Act → MachineState → List Owner → List Owner
owners_after who struck [] machine owners = owners
owners_after who struck (Await poll ∷ acts) machine owners =
    owners_after (giver poll.answer) struck acts machine owners
owners_after who struck (Strike hand key ∷ acts) machine owners =
    owners_after who hand acts machine owners
owners_after who struck (Obey command ∷ acts) machine owners =
    owners_after who struck acts (obey machine command).machine
    (owners_given (given_by who struck command) command machine owners)
owners_after who struck (_ ∷ acts) machine owners = owners_after who struck acts machine owners

-- hands that share a session keep whose each entry is, wherever they stand: what came of the keys
-- of a hand is this hand's, and a frame of the clock is nobody's. So an undo that is neither denied
-- to a hand nor refused leaves every edit of every other hand, in order
pub record SharesSession (s : LiveState) : Type 0 where
  pub owners : (opening : Losses) (heard : List Hearing) → HasOwners (so_far s opening heard).state
  pub names : (opening : Losses) (heard : List Hearing)
      → let c = so_far s opening heard in
      c.state.crew.owners ≡ owners_after None NOBODY c.acts s.standing.machine s.crew.owners
  pub spares : (opening : Losses) (heard : List Hearing) (hand : ℕ)
      → let t = (so_far s opening heard).state in
      let u = (hand_course hand command.Undo t).state in
      denial_of t.crew hand (wish.Do command.Undo) ≡ None
      → rule_against t.standing.machine command.Undo ≡ None
      → edits_of_others hand u.standing.machine.history u.crew.owners
      ≡ edits_of_others hand t.standing.machine.history t.crew.owners
  -- the key of it leaves them too, whatever becomes of the key
  pub undoes : (opening : Losses) (heard : List Hearing) (hand : ℕ)
      → let t = (so_far s opening heard).state in
      let u = (key_course hand key.Undo t).state in
      edits_of_others hand u.standing.machine.history u.crew.owners
      ≡ edits_of_others hand t.standing.machine.history t.crew.owners

abbrev pub HandsShare : Type 0
HandsShare = (s : LiveState) → HasOwners s → SharesSession s
