-- The laws of runs by a clock, from those of performances by a clock.
use Rattle.std.proofs.Common.{◌≡◌, ◌≢◌, ◌⊎◌, inl, inr, ◌<◌, ℕ, false, List, [], ◌∷◌, ◌++◌, refl, sym, ◌∙◌, ap, append-nil, arith}
use Rattle.std.specs.Prelude.{Option, Some, None, Result, Ok, Err}
use Rattle.std.specs.List.{filter, flat_map}
use Rattle.std.specs.Option.{option_map, option_map_or}
use Rattle.orca_base.specs.declared.command.Command.TheVariants as command
use Rattle.orca_base.specs.Grids.{IsSheet, Sheet}
use Rattle.orca_clock.specs.Followers.{Followed, follow_part}
use Rattle.orca_clock.specs.Laws.{AreDone, FollowsBytes, HeedsClock, FollowerIsLed, TellsAtEnd, commands_of_beat, heard_in, midi_bytes_in}
use Rattle.orca_clock.specs.Leaders.{Led, lead_part}
use Rattle.orca_concert.specs.Concerts.{concert_with}
use Rattle.orca_course.specs.Acts.{Act, commands_in, polls_in}
use Rattle.orca_course.specs.Acts.Act.{Listen, Load}
use Rattle.orca_course.specs.Courses.{Course, mapped}
use Rattle.orca_course.specs.Following.{midi_sent}
use Rattle.orca_course.specs.Performers.{Hearing, Part, performance, polls_of}
use Rattle.orca_course.specs.Standings.{tally_at_start}
use Rattle.orca_course.specs.declared.ending.Ending.{Ending}
use Rattle.orca_course.specs.declared.ending.Ending.TheVariants.{Stopped}
use Rattle.orca_course.specs.declared.ending.Stop.TheVariants.{Left}
use Rattle.orca_edit.specs.Obeying.{piece_of}
use Rattle.orca_edit.specs.Prices.{kept_at_start}
use Rattle.orca_grid.specs.GridText.{grid_text}
use Rattle.orca_grid.specs.declared.refusal.GridRefusal.{GridRefusal}
use Rattle.orca_op.specs.Laws.{IsLawful}
use Rattle.orca_op.specs.Rules.{rule}
use Rattle.orca_reports.specs.Manners.{state_manner}
use Rattle.orca_sync.specs.Clocks.{beats_from, stopped}
use Rattle.orca_sync.specs.RealTime.{is_clock}
use Rattle.orca_words.specs.Requests.{Follow, Lead, Leading, Setup, Work}
use Rattle.orca_player.specs.Clocks.{AskFor, DoesAll, RunIsLed, KeepsTime, RunsAlike}
use Rattle.orca_player.specs.Outlines.{Brought, Heard, Outline, preceded, attach_acts, follow_outline, follow_start, grid_outline, is_too_long, lead_outline, lead_start, listening, loading, opening, outline, performed, performed_outline, request_outline, start_of, status_of_ending, stopped_run as stopped_outline, work_outline, waiting}
use Rattle.orca_player.specs.declared.live.TheConstants.{ALONE}
use Rattle.orca_player.specs.declared.status.Status.{Status}
use Rattle.orca_player.specs.declared.status.Status.TheVariants.{Done, FileFault, GridRefused, HistoryFull, InboxFault}
use Rattle.orca_player.proofs.CameLemmas.{AreCalls, attaches-calls, calls_bare}
use Rattle.orca_player.proofs.SheetLemmas.{sheet_read}

-- ---- what was played, if a session was opened

-- a performance by what was brought
abbrev brought_course : {S : Type 0} → Part S → S → Brought → Course S Ending
brought_course p s b = performance p s b.opening b.hearings

-- a performance on a grid that was read, from a moment: its commands, its MIDI bytes, its ending and
-- where it stands are those of the run
record Opens {S : Type 0} (p : Part S) (from : Sheet → ℕ → S) (h : Heard) (o : Outline) : Type 0
  where
    pub sheet : Sheet
    pub at : ℕ
    pub read : option_map grid_text h.grid ≡ Some (Ok sheet)
    pub commands : commands_in o.course.acts
        ≡ commands_in (brought_course p (from sheet at) h.brought).acts
    pub bytes : midi_bytes_in o.course.acts
        ≡ midi_bytes_in (brought_course p (from sheet at) h.brought).acts
    pub ending : o.course.ending
        ≡ option_map status_of_ending (brought_course p (from sheet at) h.brought).ending
    pub stands : o.course.state
        ≡ p.stance.standing (brought_course p (from sheet at) h.brought).state

-- no session was opened
record IsClosed (o : Outline) : Type 0 where
  pub commands : commands_in o.course.acts ≡ []
  pub polls : polls_in o.course.acts ≡ []
  pub fails : o.course.ending ≢ Some Done

abbrev Opened : {S : Type 0} → Part S → (Sheet → ℕ → S) → Heard → Outline → Type 0
Opened p from h o = Opens p from h o ⊎ IsClosed o

-- calls before it change nothing of that
opened_after : {S : Type 0} {p : Part S} {from : Sheet → ℕ → S} {h : Heard} (acts : List Act)
    (o : Outline) → AreCalls acts → Opened p from h o → Opened p from h (preceded acts o)
unfolding midi_sent
opened_after acts o calls (inl opens) =
    let bare = calls_bare acts calls in
    inl (record {
      sheet = opens.sheet;
      at = opens.at;
      read = opens.read;
      commands = bare.commands o.course.acts ∙ opens.commands;
      bytes = ap (λ sends. flat_map (λ message. message) (midi_sent sends)) (bare.sends o.course.acts)
          ∙ opens.bytes;
      ending = opens.ending;
      stands = opens.stands;
    })
opened_after acts o calls (inr closed) =
    let bare = calls_bare acts calls in
    inr (record {
      commands = bare.commands o.course.acts ∙ closed.commands;
      polls = bare.polls o.course.acts ∙ closed.polls;
      fails = closed.fails;
    })

closed_at : (status : Status) → status ≢ Done → IsClosed (stopped_outline status)
closed_at status some = record {
  commands = refl;
  polls = refl;
  fails = λ is. some (cc);
}

-- ---- a word whose work is one performance

module _ {S : Type 0} (p : Part S) (from : Sheet → ℕ → S) (setup : Setup) (work : Work)
    (address : List ℕ) (short : is_too_long work ≡ false)
    (works : (sheet : Sheet) (b : Brought) → work_outline setup work sheet b
    ≡ listening address ALONE b.start
    (λ at. performed_outline p (start_of setup sheet) (from sheet at) b)) where
  listened_by : (h : Heard) (sheet : Sheet) (start : Option ℕ)
      → option_map grid_text h.grid ≡ Some (Ok sheet)
      → Opened p from h (listening address ALONE start
      (λ at. performed_outline p (start_of setup sheet) (from sheet at) h.brought))
  unfolding waiting opening mapped midi_sent
  listened_by h sheet None read =
      opened_after (Listen address ALONE None ∷ []) (stopped_outline InboxFault) tt
      (inr (closed_at InboxFault (λ is. cc)))
  listened_by h sheet (Some at) read =
      opened_after (Listen address ALONE (Some at) ∷ [])
      (performed_outline p (start_of setup sheet) (from sheet at) h.brought) tt
      (inl (record {
        sheet = sheet;
        at = at;
        read = read;
        commands = refl;
        bytes = refl;
        ending = refl;
        stands = refl;
      }))

  grid_by : (h : Heard) (read : Result Sheet GridRefusal)
      → option_map grid_text h.grid ≡ Some read
      → Opened p from h (grid_outline setup work h.brought read)
  unfolding grid_outline
  grid_by h (Err refusal) read = inr (closed_at (GridRefused refusal) (λ is. cc))
  grid_by h (Ok sheet) read = rw (works sheet h.brought) (listened_by h sheet h.brought.start read)

  loaded_by : (h : Heard) (grid : Option (List ℕ)) → h.grid ≡ grid
      → Opened p from h (option_map_or (λ text. grid_outline setup work h.brought (grid_text text))
      grid (stopped_outline FileFault))
  loaded_by h None is = inr (closed_at FileFault (λ is. cc))
  loaded_by h (Some text) is = grid_by h (grid_text text) (ap (option_map grid_text) is)

  opened_by : (words : List (List ℕ)) (h : Heard) → AskFor words setup work
      → Opened p from h (outline words h)
  unfolding outline request_outline performed loading
  opened_by words h asks =
      rw (asks, short)
      (opened_after (attach_acts setup) (preceded (Load setup.grid h.grid ∷ []) _) (attaches-calls setup)
      (opened_after (Load setup.grid h.grid ∷ []) _ tt (loaded_by h h.grid refl)))

-- ---- followers and leaders

abbrev follow_from : Setup → Sheet → ℕ → Followed (Unit {0})
follow_from setup sheet at = follow_start (start_of setup sheet)

abbrev lead_from : Setup → Leading → Sheet → ℕ → Led (Unit {0})
lead_from setup lead sheet at = lead_start lead.bpm at (start_of setup sheet)

follow_opened : (words : List (List ℕ)) (setup : Setup) (address : List ℕ) (h : Heard)
    → AskFor words setup (Follow address)
    → Opened (follow_part state_manner) (follow_from setup) h (outline words h)
unfolding work_outline follow_outline
follow_opened words setup address h asks =
    opened_by (follow_part state_manner) (follow_from setup) setup (Follow address) address refl
    (λ sheet b. refl) words h asks

lead_opened : (words : List (List ℕ)) (setup : Setup) (lead : Leading) (h : Heard)
    → AskFor words setup (Lead lead)
    → Opened (lead_part state_manner) (lead_from setup lead) h (outline words h)
unfolding work_outline lead_outline
lead_opened words setup lead h asks =
    opened_by (lead_part state_manner) (lead_from setup lead) setup (Lead lead) lead.address refl
    (λ sheet b. refl) words h asks

-- one that does all has opened a session
opens_all : {S : Type 0} {p : Part S} {from : Sheet → ℕ → S} {h : Heard} {o : Outline}
    → Opened p from h o → DoesAll o → Opens p from h o
opens_all (inl opens) all = opens
opens_all (inr closed) all = absurd (closed.fails all)

-- its player left
left_by : (end : Option Ending) → option_map status_of_ending end ≡ Some Done
    → end ≡ Some (Stopped Left)
left_by end is = grind arith

tells : TellsAtEnd state_manner
unfolding midi_sent
tells = record {
  done = λ line answer messages r. refl;
  close = λ messages r. refl;
}

same_sheet : {a b : Option (Result Sheet GridRefusal)} {s t : Sheet} → a ≡ Some (Ok s)
    → b ≡ Some (Ok t) → a ≡ b → s ≡ t
same_sheet is_s is_t same = cc

-- a sheet that was read is a grid
grid_sheet : (grid : Option (List ℕ)) (sheet : Sheet)
    → option_map grid_text grid ≡ Some (Ok sheet) → IsSheet sheet
grid_sheet None sheet is = absurd cc
grid_sheet (Some text) sheet is = sheet_read text sheet (cc)

-- ---- the laws

-- where no poll was made there was no answer
no_hearings : (hearings : List Hearing) → polls_of hearings ≡ [] → hearings ≡ []
no_hearings [] is = refl
no_hearings (h ∷ hearings) is = absurd cc

beats_kept : FollowsBytes → (words : List (List ℕ)) (setup : Setup) (address : List ℕ) (h : Heard)
    → AskFor words setup (Follow address)
    → let o = outline words h in
    polls_in o.course.acts ≡ polls_of h.brought.hearings
    → AreDone HistoryFull o.course.ending (commands_in o.course.acts)
    (flat_map commands_of_beat (beats_from stopped (heard_in h.brought.hearings)))
unfolding beats_from
beats_kept law words setup address h asks hears =
    elim (follow_opened words setup address h asks) [
      | inl opens ↦
          let done = law state_manner (concert_with (start_of setup opens.sheet) tt)
          h.brought.opening h.brought.hearings tells in
          record {
            left = done.left;
            splits = ap (λ commands. commands ++ done.left) opens.commands ∙ done.splits;
            none = λ other. done.none (λ full.
                other (opens.ending ∙ ap (option_map status_of_ending) full));
          }
      | inr closed ↦
          let none = no_hearings h.brought.hearings (sym hears ∙ closed.polls) in
          record {
            left = [];
            splits = append-nil (commands_in (outline words h).course.acts)
                ∙ (closed.commands
                ∙ sym (ap (λ heard.
                flat_map commands_of_beat (beats_from stopped (heard_in heard))) none));
            none = λ other. refl;
          }
    ]

bytes_kept : HeedsClock → (words : List (List ℕ)) (setup : Setup) (address : List ℕ)
    (h k : Heard) → AskFor words setup (Follow address) → k.grid ≡ h.grid
    → DoesAll (outline words h) → DoesAll (outline words k)
    → filter is_clock (heard_in h.brought.hearings) ≡ filter is_clock (heard_in k.brought.hearings)
    → RunsAlike (outline words h) (outline words k)
bytes_kept law words setup address h k asks grid all others same =
    let one = opens_all (follow_opened words setup address h asks) all in
    let two = opens_all (follow_opened words setup address k asks) others in
    let sheet : one.sheet ≡ two.sheet =
    same_sheet one.read two.read (ap (option_map grid_text) (sym grid)) in
    let alike = law state_manner (concert_with (start_of setup two.sheet) tt) h.brought.opening
    k.brought.opening h.brought.hearings k.brought.hearings tells
    (rw sheet at (left_by _ (sym one.ending ∙ all))) (left_by _ (sym two.ending ∙ others)) same in
    record {
      commands = (rw sheet at one.commands) ∙ (alike.0 ∙ sym two.commands);
      machine = ap (option_map (λ s. s.machine)) (rw sheet at one.stands)
          ∙ (ap Some alike.1 ∙ sym (ap (option_map (λ s. s.machine)) two.stands));
    }

leads_kept : IsLawful rule → FollowerIsLed → (words others : List (List ℕ)) (setup other : Setup)
    (address : List ℕ) (lead : Leading) (h k : Heard) → AskFor words setup (Follow address)
    → AskFor others other (Lead lead)
    → option_map grid_text h.grid ≡ option_map grid_text k.grid → setup.seed ≡ other.seed
    → other.limit < setup.limit → DoesAll (outline words h) → DoesAll (outline others k)
    → heard_in h.brought.hearings ≡ midi_bytes_in (outline others k).course.acts
    → RunIsLed (outline others k) (outline words h)
leads_kept lawful law words others setup other address lead h k asks leads grid seed room all most
    hears =
    let one = opens_all (follow_opened words setup address h asks) all in
    let two = opens_all (lead_opened others other lead k leads) most in
    let sheet : one.sheet ≡ two.sheet = same_sheet one.read two.read grid in
    let is_sheet : IsSheet two.sheet = grid_sheet k.grid two.sheet two.read in
    let led = law lawful state_manner state_manner tells tells two.sheet other.seed other.limit
    setup.limit lead.bpm two.at kept_at_start kept_at_start tally_at_start tally_at_start
    k.brought.opening h.brought.opening k.brought.hearings h.brought.hearings is_sheet room (left_by _ (sym two.ending ∙ most))
    (rw (sheet, seed) at (left_by _ (sym one.ending ∙ all))) (hears ∙ two.bytes) in
    record {
      commands = (rw (sheet, seed) at one.commands)
          ∙ (led.commands ∙ ap (λ commands. command.Reset ∷ commands) (sym two.commands));
      frames = rw two.commands led.frames;
      grid = ap (λ at. option_map (λ p. p.sheet) (option_map (λ s. piece_of s.machine) at)) (rw (sheet, seed) at one.stands)
          ∙ (ap Some led.grid
          ∙ sym (ap (λ at. option_map (λ p. p.sheet) (option_map (λ s. piece_of s.machine) at)) two.stands));
      tick = ap (λ at. option_map (λ p. p.tick) (option_map (λ s. piece_of s.machine) at)) (rw (sheet, seed) at one.stands)
          ∙ (ap Some led.tick
          ∙ sym (ap (λ at. option_map (λ p. p.tick) (option_map (λ s. piece_of s.machine) at)) two.stands));
    }

pub keeps_time : IsLawful rule → FollowsBytes → HeedsClock → FollowerIsLed
    → (words : List (List ℕ)) → KeepsTime words
keeps_time lawful beats bytes leads words = record {
  beats = beats_kept beats words;
  bytes = bytes_kept bytes words;
  leads = λ others setup other address lead. leads_kept lawful leads words others setup other address lead;
}
