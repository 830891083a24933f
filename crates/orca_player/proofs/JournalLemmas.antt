-- A run with a journal keeps it, and so does a run in a room.
use Rattle.std.proofs.Common.{◌≡◌, ◌≢◌, ℕ, Bool, true, false, List, [], ◌∷◌, ◌++◌, refl, sym, ◌∙◌, ap, subst, append_assoc, append-nil, arith}
use Rattle.std.specs.Prelude.{Option, Some, None, IfSome, Result, Ok, Err}
use Rattle.std.specs.List.{list_any}
use Rattle.std.specs.Option.{option_map, option_map_or}
use Rattle.std.proofs.lemmas.Option.{IfSome_then}
use Rattle.orca_base.specs.declared.command.Command.{Command}
use Rattle.orca_base.specs.Grids.{Sheet}
use Rattle.orca_base.specs.declared.port.Port.{Port}
use Rattle.orca_base.specs.declared.port.Port.TheVariants as port
use Rattle.orca_course.specs.Acts.{Act, commands_in}
use Rattle.orca_course.specs.Acts.Act.{Attach, Await, Claim, Listen, Load, Stand}
use Rattle.orca_course.specs.Courses.{mapped}
use Rattle.orca_course.specs.Performers.{performance}
use Rattle.orca_course.specs.Standings.{Standing}
use Rattle.orca_course.specs.declared.ending.Ending.{Ending}
use Rattle.orca_course.specs.declared.item.Losses.{Losses}
use Rattle.orca_grid.specs.GridText.{grid_text}
use Rattle.orca_grid.specs.declared.refusal.GridRefusal.{GridRefusal}
use Rattle.orca_live.specs.Journals.{IsApart, JournalsPerformance, KeepsJournal, StartsSo, held_after, kept_text}
use Rattle.orca_live.specs.Performing.{live_part}
use Rattle.orca_rig.specs.declared.files.Claim.{Claim as Claimed}
use Rattle.orca_rig.specs.declared.files.Claim.TheVariants.{Made as ClaimMade, Left as ClaimLeft, Held as ClaimHeld}
use Rattle.orca_script.specs.Canonical.{Extends}
use Rattle.orca_script.specs.Runs.{printed_header}
use Rattle.orca_term.specs.declared.cell.ScreenSize.{ScreenSize}
use Rattle.orca_trace.specs.Calls.{Poll}
use Rattle.orca_words.specs.Recordings.{HasOwnJournal, OwnsJournals}
use Rattle.orca_words.specs.Requests.{Perform, Performance, Play, Setup}
use Rattle.orca_player.specs.Laws.{KeepsJournals, KeepsRoom, KeepsRooms, is_listen}
use Rattle.orca_player.specs.Outlines.{Brought, Heard, Outline, after_claim, attach_act, attach_acts, closings, grid_outline, hands_asked, leavings, live_outline, live_start, loading, opening, outline, performed, preceded, request_outline, room_name, room_start, roomed, setting_of, start_of, status_of_ending, work_outline, waiting}
use Rattle.orca_player.proofs.CameLemmas.{attaches-calls, calls_bare}
use Rattle.orca_player.proofs.LawLemmas.{ended_by}
use Rattle.orca_player.proofs.LeavingLemmas.{closings_none}

-- ---- calls before a performance

-- acts keep their commands under a name, behind a start, where this is held at first, and tell all of
-- them at their end if this holds
record Tells (name start : List ℕ) (held : Option (List ℕ)) (ended : Type 0) (acts : List Act)
    : Type 0 where
  pub asked : (xs ys : List Act) (poll : Poll) → acts ≡ xs ++ Await poll ∷ ys
      → held_after name held xs ≡ Some (kept_text start (commands_in xs))
  pub begun : (xs ys : List Act) → acts ≡ xs ++ ys
      → IfSome (held_after name held xs) (λ text. Extends text (kept_text start (commands_in xs)))
  pub last : ended → held_after name held acts ≡ Some (kept_text start (commands_in acts))

-- what is held after acts, and the commands among them
abbrev Told : Type 0
Told = Option (List ℕ) × List Command

abbrev told : List ℕ → Option (List ℕ) → List Act → Told
told name held acts = (held_after name held acts, commands_in acts)

-- an act that saves nothing, gives no command and does not ask the inbox
record IsBare (name : List ℕ) (held : Option (List ℕ)) (act : Act) : Type 0 where
  pub same : (xs : List Act) → told name held (act ∷ xs) ≡ told name held xs
  pub deaf : (poll : Poll) → act ≡ Await poll → ⊥

-- it tells all commands, or a beginning of them
abbrev AllTold : List ℕ → Told → Type 0
AllTold start x = x.0 ≡ Some (kept_text start x.1)

abbrev SomeTold : List ℕ → Told → Type 0
SomeTold start x = IfSome x.0 (λ text. Extends text (kept_text start x.1))

tells_before : {name start : List ℕ} {held : Option (List ℕ)} {ended : Type 0} (act : Act)
    {acts : List Act} → IsBare name held act → Tells name start held ended acts
    → Tells name start held ended (act ∷ acts)
tells_before {start = start} act {acts = acts} bare tells = record {
  asked = elim [
    | [] ↦ λ ys poll is. let same : act ≡ Await poll = cc in absurd (bare.deaf poll same)
    | x ∷ xs ↦ λ ys poll is.
        let same : x ≡ act = cc in
        let more : acts ≡ xs ++ Await poll ∷ ys = cc in
        rw same (subst (AllTold start) (sym (bare.same xs)) (tells.asked xs ys poll more))
  ];
  begun = elim [
    | [] ↦ λ ys is. tells.begun [] acts refl
    | x ∷ xs ↦ λ ys is.
        let same : x ≡ act = cc in
        let more : acts ≡ xs ++ ys = cc in
        rw same (subst (SomeTold start) (sym (bare.same xs)) (tells.begun xs ys more))
  ];
  last = λ ends. subst (AllTold start) (sym (bare.same acts)) (tells.last ends);
}

-- nothing is claimed among these
abbrev AreUnclaimed : List Act → Type 0
AreUnclaimed [] = Unit {0}
AreUnclaimed (Attach attached ∷ acts) = AreUnclaimed acts
AreUnclaimed (Load name text ∷ acts) = AreUnclaimed acts
AreUnclaimed (Listen name hands start ∷ acts) = AreUnclaimed acts
AreUnclaimed (_ ∷ acts) = ⊥

attaches_unclaimed : (setup : Setup) → AreUnclaimed (attach_acts setup)
attaches_unclaimed setup = grind arith

tells_calls : {name start : List ℕ} {held : Option (List ℕ)} {ended : Type 0} (xs acts : List Act)
    → AreUnclaimed xs → Tells name start held ended acts → Tells name start held ended (xs ++ acts)
tells_calls [] acts calls tells = tells
tells_calls (Attach attached ∷ xs) acts calls tells =
    tells_before (Attach attached)
    (record { same = λ xs. refl; deaf = λ poll is. cc })
    (tells_calls xs acts calls tells)
tells_calls (Load name text ∷ xs) acts calls tells =
    tells_before (Load name text)
    (record { same = λ xs. refl; deaf = λ poll is. cc })
    (tells_calls xs acts calls tells)
tells_calls (Listen name hands start ∷ xs) acts calls tells =
    tells_before (Listen name hands start)
    (record { same = λ xs. refl; deaf = λ poll is. cc })
    (tells_calls xs acts calls tells)
tells_calls (_ ∷ xs) acts calls tells = absurd calls

-- ---- a performance

-- no other file of a performance has the name of its journal
journal_apart : (setup : Setup) (play : Performance) (name : List ℕ) → play.journal ≡ Some name
    → HasOwnJournal setup (Play play) → IsApart name (setting_of setup play)
journal_apart setup play name journal own =
    let apart = subst (λ (o : Option (List ℕ)). IfSome o (λ name.
    (name ≢ setup.grid) × IfSome play.save (λ other. name ≢ other)
    × IfSome play.script (λ other. name ≢ other) × (name ≢ play.address)
    × IfSome setup.midi (λ other. name ≢ other))) journal own in
    record { grid = apart.0; save = apart.1; script = apart.2 }

-- the session is opened, and then its performance keeps the journal or the room
tells_live : JournalsPerformance → (setup : Setup) (play : Performance) (b : Brought)
    (s : Standing) (name start : List ℕ) (held : Option (List ℕ)) → play.journal ≡ Some name
    → HasOwnJournal setup (Play play) → StartsSo play.room setup.seed start held → (at : ℕ)
    → let c = performance live_part (live_start setup play at s) b.opening b.hearings in
    Tells name start held (option_map status_of_ending c.ending ≢ None) (Stand s ∷ c.acts)
tells_live law setup play b s name start held journal own starts at =
    let u = live_start setup play at s in
    let keeps = law u b.opening b.hearings name start held journal
    (journal_apart setup play name journal own) refl starts in
    tells_before (Stand s)
    (record { same = λ xs. refl; deaf = λ poll is. cc })
    (record {
      asked = keeps.asked;
      begun = keeps.begun;
      last = λ ends. keeps.ended (ended_by (performance live_part u b.opening b.hearings).ending ends);
    })

-- what is not there ends the run, and the rest has this property
some_or : {A : Type 0} (P : Outline → Type 0) (other : Outline) (found : Option A)
    (next : A → Outline) → P other → ((a : A) → found ≡ Some a → P (next a))
    → P (option_map_or next found other)
some_or P other None next none some = none
some_or P other (Some a) next none some = some a refl

-- ---- a journal

-- an outline that paints on a screen keeps the journal
abbrev Kept : List ℕ → ℕ → Outline → Type 0
Kept name seed o =
    IfSome o.screen (λ screen.
    Tells name (printed_header seed) None (o.course.ending ≢ None) o.course.acts)

kept_by : (name start : List ℕ) (held : Option (List ℕ)) (ended : Type 0)
    (screen : Option ScreenSize) (xs acts : List Act) → AreUnclaimed xs
    → IfSome screen (λ d. Tells name start held ended acts)
    → IfSome screen (λ d. Tells name start held ended (xs ++ acts))
kept_by name start held ended None xs acts calls kept = tt
kept_by name start held ended (Some d) xs acts calls kept = tells_calls xs acts calls kept

-- a journal that is no room has no room
no_room : (play : Performance) → play.room ≡ false → room_name play ≡ None
no_room play none = rw none refl

nothing_left : (room : Option (List ℕ)) (ending : Option Ending) (came : Losses) (loose : Bool)
    (acts : List Act) → room ≡ None → acts ++ closings room ending came loose ≡ acts
nothing_left room ending came loose acts none =
    rw (none, closings_none) (append-nil acts)

kept_live : JournalsPerformance → (setup : Setup) (play : Performance) (b : Brought)
    (s : Standing) (name : List ℕ) → play.journal ≡ Some name → play.room ≡ false
    → HasOwnJournal setup (Play play) → (at : ℕ)
    → Kept name setup.seed (live_outline setup play b s at)
unfolding live_outline opening mapped
kept_live law setup play b s name journal none own at =
    let c = performance live_part (live_start setup play at s) b.opening b.hearings in
    rw (nothing_left (room_name play) c.ending b.closing c.state.loose c.acts (no_room play none))
    (tells_live law setup play b s name (printed_header setup.seed) None journal own
    (rw none (refl, refl)) at)

kept_grid : JournalsPerformance → (setup : Setup) (play : Performance) (b : Brought)
    (read : Result Sheet GridRefusal) (name : List ℕ) → play.journal ≡ Some name
    → play.room ≡ false → HasOwnJournal setup (Play play)
    → Kept name setup.seed (grid_outline setup (Play play) b read)
unfolding grid_outline work_outline waiting roomed
kept_grid law setup play b (Err refusal) name journal none own = tt
kept_grid law setup play b (Ok sheet) name journal none own =
    rw (no_room play none)
    (kept_by name (printed_header setup.seed) None _ _
    (Listen play.address (hands_asked play) b.start ∷ []) _ tt
    (some_or (Kept name setup.seed) _ b.start _ tt
    (λ at is. kept_live law setup play b (start_of setup sheet) name journal none own at)))

kept_request : JournalsPerformance → (setup : Setup) (play : Performance) (h : Heard)
    (name : List ℕ) → play.journal ≡ Some name → play.room ≡ false
    → HasOwnJournal setup (Play play)
    → Kept name setup.seed (request_outline (Perform setup (Play play)) h)
unfolding request_outline performed loading
kept_request law setup play h name journal none own =
    let start = printed_header setup.seed in
    kept_by name start None _ _ (attach_acts setup) _ (attaches_unclaimed setup)
    (kept_by name start None _ _ (Load setup.grid h.grid ∷ []) _ tt
    (some_or (Kept name setup.seed) _ h.grid _ tt
    (λ text is. kept_grid law setup play h.brought (grid_text text) name journal none own)))

keeps_by : (name : List ℕ) (seed : ℕ) (o : Outline) → Kept name seed o
    → IfSome o.screen (λ screen. KeepsJournal name seed o.course)
keeps_by name seed o kept =
    IfSome_then o.screen kept (λ screen tells. record {
      asked = tells.asked;
      begun = tells.begun;
      ended = tells.last;
    })

pub keeps_journals : JournalsPerformance → OwnsJournals → (words : List (List ℕ))
    → KeepsJournals words
unfolding outline
keeps_journals law owns words setup play h name is journal none =
    rw is (keeps_by name setup.seed (request_outline (Perform setup (Play play)) h)
    (kept_request law setup play h name journal none (owns words setup (Play play) is)))

-- ---- a room

-- calls before the session is opened give no command
first_none : (setup : Setup) (text : Option (List ℕ))
    → commands_in (attach_acts setup ++ Load setup.grid text ∷ []) ≡ []
first_none setup text =
    (calls_bare (attach_acts setup) (attaches-calls setup)).commands (Load setup.grid text ∷ [])

-- and do not open the inbox
attach_unheard : (port : Port) (name : Option (List ℕ)) (more : List Act)
    → list_any is_listen more ≡ false → list_any is_listen (attach_act port name ++ more) ≡ false
attach_unheard port None more none = none
attach_unheard port (Some name) more none = none

first_unheard : (setup : Setup) (text : Option (List ℕ))
    → list_any is_listen (attach_acts setup ++ Load setup.grid text ∷ []) ≡ false
first_unheard setup text =
    let load = Load setup.grid text ∷ [] in
    let midi = attach_act port.Midi setup.midi in
    let udp = attach_act port.Udp setup.udp in
    let osc = attach_act port.Osc setup.osc in
    let parts : (midi ++ (udp ++ osc)) ++ load ≡ midi ++ (udp ++ (osc ++ load)) =
    append_assoc midi (udp ++ osc) load ∙ ap (λ more. midi ++ more) (append_assoc udp osc load) in
    ap (list_any is_listen) parts
    ∙ attach_unheard port.Midi setup.midi _ (attach_unheard port.Udp setup.udp _
    (attach_unheard port.Osc setup.osc load refl))

leaves_so : (room : Option (List ℕ)) (name : List ℕ) (ending : Option Ending) (came : Losses)
    (loose : Bool) → room ≡ Some name → option_map status_of_ending ending ≢ None
    → closings room ending came loose ≡ leavings (Some name) came loose
leaves_so room name None came loose is ends = absurd (ends refl)
leaves_so room name (Some ending) came loose is ends = rw is refl

stays_so : (room : Option (List ℕ)) (ending : Option Ending) (came : Losses) (loose : Bool)
    → option_map status_of_ending ending ≡ None → closings room ending came loose ≡ []
stays_so room None came loose is = refl
stays_so room (Some ending) came loose is = absurd cc

module _ (law : JournalsPerformance) (setup : Setup) (play : Performance) (h : Heard)
    (name : List ℕ) (journal : play.journal ≡ Some name) (roomy : play.room ≡ true)
    (own : HasOwnJournal setup (Play play)) where
  -- the outline, once the grid is loaded
  abbrev behind : Outline → Outline
  behind o = preceded (attach_acts setup) (preceded (Load setup.grid h.grid ∷ []) o)

  abbrev InRoom : Outline → Type 0
  InRoom o = IfSome o.screen (λ screen. KeepsRoom setup name h (behind o))

  named : room_name play ≡ Some name
  named = rw roomy journal

  room_live : (sheet : Sheet) → option_map grid_text h.grid ≡ Some (Ok sheet) → (at : ℕ)
      → h.brought.start ≡ Some at
      → InRoom (preceded (Claim name (room_start setup sheet) (Some ClaimMade) ∷ [])
      (preceded (Listen play.address (hands_asked play) h.brought.start ∷ [])
      (live_outline setup play h.brought (start_of setup sheet) at)))
  unfolding live_outline opening mapped
  room_live sheet read at listens =
      let b = h.brought in
      let s = start_of setup sheet in
      let start = room_start setup sheet in
      let c = performance live_part (live_start setup play at s) b.opening b.hearings in
      let listen = Listen play.address (hands_asked play) b.start in
      let gone = closings (room_name play) c.ending b.closing c.state.loose in
      let tells = tells_live law setup play b s name start (Some start) journal own
      (rw roomy refl) at in
      let all = tells_calls (listen ∷ []) (Stand s ∷ c.acts) tt tells in
      record {
        sheet = sheet;
        read = read;
        before = attach_acts setup ++ Load setup.grid h.grid ∷ [];
        during = record {
          acts = listen ∷ Stand s ∷ c.acts;
          bill = c.bill;
          state = Some c.state.standing;
          ending = option_map status_of_ending c.ending;
        };
        gone = gone;
        splits = sym (append_assoc (attach_acts setup) (Load setup.grid h.grid ∷ [])
            (Claim name start (Some ClaimMade) ∷ (listen ∷ Stand s ∷ (c.acts ++ gone))));
        unheard = first_unheard setup h.grid;
        none = first_none setup h.grid;
        ends = refl;
        keeps = record { asked = all.asked; begun = all.begun; ended = all.last };
        loose = c.state.loose;
        leaves = leaves_so (room_name play) name c.ending b.closing c.state.loose named;
        stays = stays_so (room_name play) c.ending b.closing c.state.loose;
      }

  room_claimed : (sheet : Sheet) → option_map grid_text h.grid ≡ Some (Ok sheet)
      → (answer : Option Claimed)
      → InRoom (preceded (Claim name (room_start setup sheet) answer ∷ [])
      (after_claim answer (waiting (leavings (Some name) h.brought.closing false) play.address
      (hands_asked play) h.brought.start (live_outline setup play h.brought (start_of setup sheet)))))
  unfolding waiting
  room_claimed sheet read None = tt
  room_claimed sheet read (Some ClaimLeft) = tt
  room_claimed sheet read (Some ClaimHeld) = tt
  room_claimed sheet read (Some ClaimMade) =
      some_or (λ o. InRoom (preceded (Claim name (room_start setup sheet) (Some ClaimMade) ∷ [])
      (preceded (Listen play.address (hands_asked play) h.brought.start ∷ []) o)))
      _ h.brought.start _ tt (room_live sheet read)

  room_grid : (read : Result Sheet GridRefusal) → option_map grid_text h.grid ≡ Some read
      → InRoom (grid_outline setup (Play play) h.brought read)
  unfolding grid_outline work_outline roomed
  room_grid (Err refusal) read = tt
  room_grid (Ok sheet) read = rw named (room_claimed sheet read h.brought.claimed)

  room_request : IfSome (request_outline (Perform setup (Play play)) h).screen
      (λ screen. KeepsRoom setup name h (request_outline (Perform setup (Play play)) h))
  unfolding request_outline performed loading
  room_request =
      some_or InRoom _ h.grid _ tt
      (λ text is. room_grid (grid_text text) (ap (option_map grid_text) is))

pub keeps_rooms : JournalsPerformance → OwnsJournals → (words : List (List ℕ)) → KeepsRooms words
unfolding outline
keeps_rooms law owns words setup play h name is journal roomy =
    rw is (room_request law setup play h name journal roomy (owns words setup (Play play) is))
