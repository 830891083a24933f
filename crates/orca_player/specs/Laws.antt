-- Laws of performances, on the outlines of runs: how bytes were cut into answers changes nothing
-- that lasts, the script that is saved ends in the same session, and a journal is kept.
use Rattle.std.specs.Prelude.{◌≡◌, ◌≢◌, ℕ, Bool, true, false, List, [], ◌∷◌, ◌++◌, Ok, Option, Some, None, IfSome, is_some}
use Rattle.std.specs.List.{list_any}
use Rattle.std.specs.Option.{option_map}
use Rattle.orca_base.specs.Grids.{Sheet}
use Rattle.orca_course.specs.Acts.{Act, commands_in}
use Rattle.orca_course.specs.Acts.Act.{Claim, Listen}
use Rattle.orca_course.specs.Courses.{Course}
use Rattle.orca_course.specs.Standings.{Standing}
use Rattle.orca_grid.specs.GridText.{grid_text}
use Rattle.orca_live.specs.Items.{items_heard}
use Rattle.orca_live.specs.Journals.{KeepsJournal, KeepsText}
use Rattle.orca_player.specs.declared.live.TheConstants.{ALONE}
use Rattle.orca_rig.specs.declared.files.Claim.TheVariants.{Made}
use Rattle.orca_script.specs.Runs.{printed_script}
use Rattle.orca_words.specs.Requests.{Perform, Performance, Play, Replay, Request, Setup, request_of}
use Rattle.orca_player.specs.Outlines.{Heard, Outline, Script, hands_asked, leavings, outline, request_outline, room_start}
use Rattle.orca_player.specs.declared.status.Status.{Status}
use Rattle.orca_player.specs.Doing.{ReadsBack}

-- the answers of the inbox do not break off
abbrev pub HasEnd : Outline → Type 0
HasEnd o = o.course.ending ≢ None

-- how many hands are heard: one, unless hands share a performance
abbrev pub hands_heard : Option Request → ℕ
hands_heard (Some (Perform setup (Play play))) = hands_asked play
hands_heard asked = ALONE

-- the files hold the same, and the same bytes of the hands that are heard and due frames come, in
-- the same order; moments, and how the bytes are cut into answers, may differ
pub record HearAlike (hands : ℕ) (h k : Heard) : Type 0 where
  pub grid : k.grid ≡ h.grid
  pub script : k.brought.script ≡ h.brought.script
  pub claimed : k.brought.claimed ≡ h.brought.claimed
  pub starts : is_some k.brought.start ≡ is_some h.brought.start
  pub items : items_heard hands h.brought.hearings ≡ items_heard hands k.brought.hearings

-- the same commands, the same session at last, and the same script that is saved
pub record EndAlike (o p : Outline) : Type 0 where
  pub commands : commands_in o.course.acts ≡ commands_in p.course.acts
  pub standing : o.course.state ≡ p.course.state
  pub given : o.given ≡ p.given

-- any cutting
abbrev pub CutsAlike : List (List ℕ) → Type 0
CutsAlike words =
    (h k : Heard) → HearAlike (hands_heard (request_of words)) h k
    → HasEnd (outline words h) → HasEnd (outline words k)
    → EndAlike (outline words h) (outline words k)

-- the same files, but with the text of this script
abbrev pub with_script : Script → Heard → Heard
with_script script h = record h {
  brought = record h.brought { script = Some (printed_script script.seed script.commands) };
}

-- the script that a performance saves is that of its seed and all its commands. A `replay` of it on
-- the same grid, with the same limit and any seed, ends in the same session
pub record IsReplayed (setup : Setup) (h : Heard) (script : Script) (o : Outline)
    : Type 0 where
  pub seed : script.seed ≡ setup.seed
  pub all : script.commands ≡ commands_in o.course.acts
  pub session : (other : Setup) (name : List ℕ) → other.limit ≡ setup.limit
      → option_map (λ s. s.machine) (request_outline (Perform other (Replay name))
      (with_script script h)).course.state
      ≡ option_map (λ s. s.machine) o.course.state

abbrev pub ReplaysAlike : List (List ℕ) → Type 0
ReplaysAlike words =
    (setup : Setup) (performance : Performance) (h : Heard) (script : Script)
    → request_of words ≡ Some (Perform setup (Play performance))
    → HasEnd (outline words h) → (outline words h).given ≡ Some script
    → ReadsBack script → IsReplayed setup h script (outline words h)

-- where words ask for a performance with a journal that is no room, it is kept from the first picture
-- on. A run that ends before paints on no screen, and has none
abbrev pub KeepsJournals : List (List ℕ) → Type 0
KeepsJournals words =
    (setup : Setup) (performance : Performance) (h : Heard) (name : List ℕ)
    → request_of words ≡ Some (Perform setup (Play performance))
    → performance.journal ≡ Some name → performance.room ≡ false
    → IfSome (outline words h).screen (λ screen.
    KeepsJournal name setup.seed (outline words h).course)

-- whether an act opens the inbox
abbrev pub is_listen : Act → Bool
is_listen (Listen address hands start) = true
is_listen act = false

-- a run claims a room before it opens the inbox or does a command: it made a file of this name with
-- the text of the grid, an empty line, and the first lines of a script. From there on it keeps its
-- commands in this file, behind that, and does not take it away. The very last acts do, once a
-- performance has ended, unless files have failed at a call, or a command is loose
pub record KeepsRoom (setup : Setup) (name : List ℕ) (h : Heard) (o : Outline) : Type 0 where
  pub sheet : Sheet
  pub read : option_map grid_text h.grid ≡ Some (Ok sheet)
  pub before : List Act
  pub during : Course (Option Standing) Status
  pub gone : List Act
  pub splits : o.course.acts
      ≡ before ++ Claim name (room_start setup sheet) (Some Made) ∷ (during.acts ++ gone)
  pub unheard : list_any is_listen before ≡ false
  pub none : commands_in before ≡ []
  pub ends : during.ending ≡ o.course.ending
  pub keeps : KeepsText name (room_start setup sheet) (Some (room_start setup sheet)) during
  pub loose : Bool
  pub leaves : o.course.ending ≢ None → gone ≡ leavings (Some name) h.brought.closing loose
  pub stays : o.course.ending ≡ None → gone ≡ []

-- where words ask for a performance in a room, it is kept, once a performance is opened
abbrev pub KeepsRooms : List (List ℕ) → Type 0
KeepsRooms words =
    (setup : Setup) (performance : Performance) (h : Heard) (name : List ℕ)
    → request_of words ≡ Some (Perform setup (Play performance))
    → performance.journal ≡ Some name → performance.room ≡ true
    → IfSome (outline words h).screen (λ screen. KeepsRoom setup name h (outline words h))
