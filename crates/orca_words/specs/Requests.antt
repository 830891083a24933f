-- What the words of the command line ask for.
use Rattle.std.specs.Prelude.{ℕ, ◌-◌, ◌^◌, Bool, true, false, ◌&&◌, ◌||◌, nat_le, if◌then◌else◌, Option, Some, None, option_map, option_and_then, unwrap_or, List, [], ◌∷◌, codes}
use Rattle.std.specs.Option.{is_some, option_map_or}
use Rattle.std.specs.Str.{bytes_eq}
use Rattle.clap.specs.Walk.{is_empty}
use Rattle.clap.specs.Words.{Row, Text, fault_of, first_of, matches_of}
use Rattle.orca_base.specs.Numbers.{number_of}
use Rattle.orca_base.specs.declared.limits.TheConstants.{DEFAULT_SEED, MAX_HISTORY, DEFAULT_HISTORY, MAX_BPM, DEFAULT_BPM, MAX_HANDS, MIN_SCREEN_ROWS, MAX_SCREEN_ROWS, MIN_SCREEN_COLUMNS, MAX_SCREEN_COLUMNS, MAX_ROWS, MAX_COLUMNS}
use Rattle.orca_words.specs.declared.limits.TheConstants.{DEFAULT_SCREEN_ROWS, DEFAULT_SCREEN_COLUMNS, MAX_MADE_FRAMES, MIN_SONG_BPM}
use Rattle.orca_words.specs.declared.forms.Verb.{Verb}
use Rattle.orca_words.specs.declared.forms.Verb.TheVariants as verb
use Rattle.orca_words.specs.Forms.{Form, form_by, command_of}

-- the grid and the options of a run
pub record Setup : Type 0 where
  pub grid : Text
  pub seed : ℕ
  pub limit : ℕ
  pub midi : Option Text
  pub udp : Option Text
  pub osc : Option Text

-- where keys come from and which they are, how many hands share the session, or none where one
-- plays alone, whether each hand is shown a picture, where pictures go to, how fast frames are
-- played, and what is saved, at the end and while it plays, to a journal or, of another kind, to a
-- room
pub record Performance : Type 0 where
  pub address : Text
  pub bpm : ℕ
  pub rows : ℕ
  pub cols : ℕ
  pub full : Bool
  pub hands : Option ℕ
  pub views : Bool
  pub save : Option Text
  pub script : Option Text
  pub journal : Option Text
  pub room : Bool

-- how many frames are played, how fast, and what they are saved to
pub record Recording : Type 0 where
  pub frames : ℕ
  pub bpm : ℕ
  pub out : Text

-- where the keys of a player come from, and how fast a clock is given
pub record Leading : Type 0 where
  pub address : Text
  pub bpm : ℕ

-- a script that is saved in format 2
pub record Migration : Type 0 where
  pub script : Text
  pub out : Text
  pub seed : ℕ

-- a room, where its grid and its script go, the port whose notes are ended, and the most entries,
-- unless the room says them
pub record Recovery : Type 0 where
  pub room : Text
  pub out : Text
  pub script : Option Text
  pub midi : Option Text
  pub limit : Option ℕ

-- a grid and commands that are generated
pub record Workload : Type 0 where
  pub seed : ℕ
  pub height : ℕ
  pub width : ℕ
  pub frames : ℕ

-- what is done on a grid
pub data Work : Type 0 where
  Run : ℕ → Work
  Events : ℕ → Work
  Replay : Text → Work
  Play : Performance → Work
  Smf : Recording → Work
  Wav : Recording → Work
  Follow : Text → Work
  Lead : Leading → Work

-- what the words ask for
pub data Request : Type 0 where
  Perform : Setup → Work → Request
  Make : Workload → Request
  Migrate : Migration → Request
  Recover : Recovery → Request

-- ---- what clap found, by names

-- the text of an option, where the words set it
unfoldable pub option_text : List Row → Text → Option Text
option_text found name = first_of name found

-- the text of a positional; clap accepts no words without it
abbrev pub positional_text : List Row → Text → Text
positional_text found name = unwrap_or (option_text found name) []

-- ---- numbers

-- the greatest number of 32 bits
abbrev pub greatest : ℕ
greatest = 2 ^ 32 - 1

-- the value of 1 to 10 decimal digits, where it lies in this range
unfoldable pub number_in : ℕ → ℕ → Text → Option ℕ
number_in least most digits = option_and_then (λ number.
    if nat_le least number && nat_le number most then Some number else None) (number_of digits)

-- the number of a positional
abbrev pub positional_number : List Row → Text → ℕ → ℕ → Option ℕ
positional_number found name least most = number_in least most (positional_text found name)

-- the number that an option sets, or its default where the words don't set it
abbrev pub option_number : List Row → Text → ℕ → ℕ → ℕ → Option ℕ
option_number found name default least most =
    option_map_or (number_in least most) (option_text found name) (Some default)

-- the number that an option sets, if the words set it
unfoldable pub number_set : List Row → Text → ℕ → ℕ → Option (Option ℕ)
number_set found name least most =
    option_map_or (λ text. option_map Some (number_in least most text)) (option_text found name)
    (Some None)

-- ---- keys

-- whether these are the full keys or the plain ones, by their name
abbrev pub keys_named : Text → Option Bool
keys_named text =
    if bytes_eq text (codes "full") then Some true
    else (if bytes_eq text (codes "plain") then Some false else None)

-- whether the words ask for the full keys: plain ones where they don't say
unfoldable pub option_full : List Row → Option Bool
option_full found = option_map_or keys_named (option_text found (codes "keys")) (Some false)

-- ---- pictures

-- whether these are the pictures of all hands or that of one, by their name
abbrev pub views_named : Text → Option Bool
views_named text =
    if bytes_eq text (codes "all") then Some true
    else (if bytes_eq text (codes "one") then Some false else None)

-- whether the words ask for a picture for each hand: for the first one's alone where they don't say
unfoldable pub option_views : List Row → Option Bool
option_views found = option_map_or views_named (option_text found (codes "views")) (Some false)

-- ---- requests

-- what is made of a number, where there is one
abbrev pub with_number : {A : Type 0} → Option ℕ → (ℕ → Option A) → Option A
with_number number make = option_and_then make number

-- the grid, the seed and the limit of a run that attaches no port
unfoldable pub portless_setup_of : List Row → Option Setup
portless_setup_of found =
    with_number (option_number found (codes "seed") DEFAULT_SEED 0 greatest) (λ seed.
    with_number (option_number found (codes "limit") DEFAULT_HISTORY 1 MAX_HISTORY) (λ limit.
    Some (record {
      grid = positional_text found (codes "GRID");
      seed = seed;
      limit = limit;
      midi = None;
      udp = None;
      osc = None;
    })))

-- a run, with the ports that the words name
abbrev pub with_ports : List Row → Setup → Setup
with_ports found setup = record setup {
  midi = option_text found (codes "midi");
  udp = option_text found (codes "udp");
  osc = option_text found (codes "osc");
}

-- the grid and the options of a run
unfoldable pub setup_of : List Row → Option Setup
setup_of found = option_map (with_ports found) (portless_setup_of found)

-- the file that commands are added to, a journal or a room: both are one too many
abbrev pub kept_name : Option Text → Option Text → Option (Option Text)
kept_name None room = Some room
kept_name (Some journal) None = Some (Some journal)
kept_name (Some journal) (Some room) = None

-- the address, the tempo, the screen, the keys and the names of `play`
unfoldable pub performance_of : List Row → Option Performance
performance_of found =
    with_number (option_number found (codes "bpm") DEFAULT_BPM 1 MAX_BPM) (λ bpm.
    with_number (option_number found (codes "rows") DEFAULT_SCREEN_ROWS MIN_SCREEN_ROWS
    MAX_SCREEN_ROWS) (λ rows.
    with_number (option_number found (codes "cols") DEFAULT_SCREEN_COLUMNS MIN_SCREEN_COLUMNS
    MAX_SCREEN_COLUMNS) (λ cols.
    option_and_then (λ full.
    option_and_then (λ journal.
    Some (record {
      address = positional_text found (codes "ADDRESS");
      bpm = bpm;
      rows = rows;
      cols = cols;
      full = full;
      hands = None;
      views = false;
      save = option_text found (codes "save");
      script = option_text found (codes "script");
      journal = journal;
      room = is_some (option_text found (codes "room"));
    })) (kept_name (option_text found (codes "journal")) (option_text found (codes "room"))))
    (option_full found))))

-- so many hands share its session, and each of them is shown a picture, or the first one alone
abbrev pub shared_by : ℕ → Bool → Performance → Performance
shared_by hands views play = record play { hands = Some hands; views = views }

-- the same of `jam`, how many hands there are, and which of them are shown a picture
unfoldable pub jam_of : List Row → Option Performance
jam_of found =
    with_number (positional_number found (codes "HANDS") 1 MAX_HANDS) (λ hands.
    option_and_then (λ views. option_map (shared_by hands views) (performance_of found))
    (option_views found))

-- whether both names are there, and are the same text
abbrev pub is_same_name : Option Text → Option Text → Bool
is_same_name None other = false
is_same_name (Some one) None = false
is_same_name (Some one) (Some other) = bytes_eq one other

-- a performance, unless its journal has the name of its grid, of one that is saved at the end, of
-- its address, or of its MIDI port
unfoldable pub with_own_journal : List Row → Performance → Option Performance
with_own_journal found play =
    if is_same_name play.journal (Some (positional_text found (codes "GRID")))
    || is_same_name play.journal play.save || is_same_name play.journal play.script
    || is_same_name play.journal (Some play.address)
    || is_same_name play.journal (option_text found (codes "midi"))
    then None else Some play

-- whether a name is one of three others
abbrev pub is_one_of : Option Text → Option Text → Option Text → Option Text → Bool
is_one_of name a b c = is_same_name name a || is_same_name name b || is_same_name name c

-- whether two of three names are the same text
abbrev pub do_meet : Option Text → Option Text → Option Text → Bool
do_meet a b c = is_same_name a b || is_same_name a c || is_same_name b c

-- a performance with a room, unless two of its names meet: those of its grid, its address, what it
-- saves at the end, and its MIDI port. The grid alone may be saved under its own name
unfoldable pub with_names_apart : List Row → Performance → Option Performance
with_names_apart found play =
    let grid = Some (positional_text found (codes "GRID")) in
    let address = Some play.address in
    let midi = option_text found (codes "midi") in
    if play.room && (is_one_of grid address play.script midi
    || is_one_of play.save address play.script midi || do_meet address play.script midi)
    then None else Some play

-- a performance whose names may be used together
unfoldable pub with_fit_names : List Row → Performance → Option Performance
with_fit_names found play =
    option_and_then (with_names_apart found) (with_own_journal found play)

-- the four numbers of `make`
unfoldable pub workload_of : List Row → Option Workload
workload_of found =
    with_number (positional_number found (codes "SEED") 0 greatest) (λ seed.
    with_number (positional_number found (codes "HEIGHT") 1 MAX_ROWS) (λ height.
    with_number (positional_number found (codes "WIDTH") 1 MAX_COLUMNS) (λ width.
    with_number (positional_number found (codes "FRAMES") 0 MAX_MADE_FRAMES) (λ frames.
    Some (record { seed = seed; height = height; width = width; frames = frames })))))

-- how many frames are played
abbrev pub frames_given : List Row → Option ℕ
frames_given found = positional_number found (codes "FRAMES") 0 greatest

-- the frames, the tempo and the file of `smf` and `wav`, with the least tempo of the word
unfoldable pub recording_of : List Row → ℕ → Option Recording
recording_of found least =
    with_number (frames_given found) (λ frames.
    with_number (option_number found (codes "bpm") DEFAULT_BPM least MAX_BPM) (λ bpm.
    Some (record { frames = frames; bpm = bpm; out = positional_text found (codes "OUT") })))

-- the address and the tempo of `lead`
unfoldable pub leading_of : List Row → Option Leading
leading_of found =
    with_number (option_number found (codes "bpm") DEFAULT_BPM 1 MAX_BPM) (λ bpm.
    Some (record { address = positional_text found (codes "ADDRESS"); bpm = bpm }))

-- the names and the seed of `migrate`
unfoldable pub migration_of : List Row → Option Migration
migration_of found =
    with_number (option_number found (codes "seed") DEFAULT_SEED 0 greatest) (λ seed.
    Some (record {
      script = positional_text found (codes "SCRIPT");
      out = positional_text found (codes "OUT");
      seed = seed;
    }))

-- a recovery, unless two of its names meet
unfoldable pub with_own_room : Recovery → Option Recovery
with_own_room r =
    let room = Some r.room in
    let out = Some r.out in
    if is_one_of room out r.script r.midi || do_meet out r.script r.midi then None else Some r

-- the names and the limit of `recover`
unfoldable pub recovery_of : List Row → Option Recovery
recovery_of found =
    option_and_then (λ limit. with_own_room (record {
      room = positional_text found (codes "ROOM");
      out = positional_text found (codes "OUT");
      script = option_text found (codes "script");
      midi = option_text found (codes "midi");
      limit = limit;
    })) (number_set found (codes "limit") 1 MAX_HISTORY)

-- the work, on the grid and with the options that the words name
abbrev pub performing : Option Setup → Option Work → Option Request
performing setup work = option_and_then (λ w. option_map (λ s. Perform s w) setup) work

-- what a verb asks for, by what clap found
unfoldable pub request_by : Verb → List Row → Option Request
request_by verb.Run found = performing (setup_of found) (option_map Run (frames_given found))
request_by verb.Events found = performing (setup_of found) (option_map Events (frames_given found))
request_by verb.Replay found =
    performing (setup_of found) (Some (Replay (positional_text found (codes "SCRIPT"))))
request_by verb.Play found =
    performing (setup_of found)
    (option_map Play (option_and_then (with_fit_names found) (performance_of found)))
request_by verb.Make found = option_map Make (workload_of found)
request_by verb.Migrate found = option_map Migrate (migration_of found)
request_by verb.Smf found =
    performing (portless_setup_of found) (option_map Smf (recording_of found MIN_SONG_BPM))
request_by verb.Jam found =
    performing (setup_of found)
    (option_map Play (option_and_then (with_fit_names found) (jam_of found)))
request_by verb.Wav found =
    performing (portless_setup_of found) (option_map Wav (recording_of found 1))
request_by verb.Follow found =
    performing (setup_of found) (Some (Follow (positional_text found (codes "ADDRESS"))))
request_by verb.Lead found = performing (setup_of found) (option_map Lead (leading_of found))
request_by verb.Recover found = option_map Recover (recovery_of found)

-- what the words after the first ask for, by the form that it picked. They are accepted exactly
-- where the command of the form has no fault and the numbers are in their ranges
unfoldable pub request_in_form : Form → List Text → Option Request
request_in_form form words =
    if is_empty (fault_of (command_of form) words)
    then request_by form.verb (matches_of (command_of form) words) else None

-- what the words of the command line ask for
unfoldable pub request_of : List Text → Option Request
request_of [] = None
request_of (first ∷ words) = option_and_then (λ form. request_in_form form words) (form_by first)
