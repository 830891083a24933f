-- What holds of what is asked for, by what clap found: the tempo of a song is one that its file can
-- hold, no port is attached to a run that is saved as a song or as sound, and a journal is no other
-- file of its performance.
use Rattle.std.proofs.Common.{◌≡◌, ◌≢◌, false, List, [], ◌∷◌, Bool, true, ℕ, ◌≤◌, Option, None, Some, Result, arith, codes, refl, subst, sym, ◌∙◌}
use Rattle.std.specs.Prelude.{◌&&◌, ◌||◌, option_and_then, if◌then◌else◌, nat_le, ok_or, option_map, IfSome, IfOk}
use Rattle.std.specs.Option.{option_map_or}
use Rattle.std.proofs.lemmas.Bool.Decides.{nat_tests}
use Rattle.std.proofs.lemmas.Option.{option_and_then_some, IfSome_then}
use Rattle.std.proofs.lemmas.Slice.Eq.{bytes_eq-Decides}
use Rattle.clap.specs.Walk.{is_empty}
use Rattle.clap.specs.Words.{Row, Text, fault_of, matches_of}
use Rattle.orca_base.specs.Numbers.{number_of}
use Rattle.orca_base.specs.declared.limits.TheConstants.{DEFAULT_SEED, DEFAULT_HISTORY, MAX_HISTORY, DEFAULT_BPM, MAX_BPM}
use Rattle.orca_words.specs.Forms.{Form, command_of, form_by}
use Rattle.orca_words.specs.declared.forms.Verb.{Verb}
use Rattle.orca_words.specs.declared.forms.Verb.TheVariants as verb
use Rattle.orca_words.specs.declared.fault.WordsFault.{WordsFault}
use Rattle.orca_words.specs.declared.limits.TheConstants.{MIN_SONG_BPM}
use Rattle.orca_words.specs.declared.request.Request.{Request as Held}
use Rattle.orca_words.specs.Recordings.{HasOwnJournal, HasSongTempo, IfPerform, IsPortless, OwnsJournals, RecordsWithoutPorts}
use Rattle.orca_words.specs.RequestIn.{request_in}
use Rattle.orca_words.specs.Requests.{Events, Follow, Lead, Make, Migrate, Perform, Performance, Play, Recording, Recover, Replay, Request, Run, Setup, Smf, Wav, Work, frames_given, greatest, is_same_name, jam_of, leading_of, migration_of, number_in, option_number, option_text, performance_of, performing, portless_setup_of, positional_text, recording_of, recovery_of, request_by, request_in_form, request_of, setup_of, with_fit_names, with_names_apart, with_own_journal, with_ports, workload_of}

-- ---- numbers

tested : (least most number n : ℕ)
    → (if nat_le least number && nat_le number most then Some number else None) ≡ Some n
    → least ≤ n
tested least most number n is = grind (arith, nat_tests)

-- a number that is read is in its range
not_below : (least most : ℕ) (digits : Text) (n : ℕ) → number_in least most digits ≡ Some n
    → least ≤ n
unfolding number_in
not_below least most digits n is = option_and_then_some _ (number_of digits) n is
    (λ number read made. tested least most number n made)

-- and so is that of an option
set_not_below : (default least most : ℕ) (text : Option Text) (n : ℕ) → least ≤ default
    → option_map_or (number_in least most) text (Some default) ≡ Some n → least ≤ n
set_not_below default least most None n low is = grind arith
set_not_below default least most (Some text) n low is = not_below least most text n is

-- ---- what is saved as a song or as sound

tempo_not_below : (found : List Row) (least : ℕ) (recording : Recording) → least ≤ DEFAULT_BPM
    → recording_of found least ≡ Some recording → least ≤ recording.bpm
unfolding recording_of
tempo_not_below found least recording low is =
    option_and_then_some _ (frames_given found) recording is (λ frames played made.
    option_and_then_some _ (option_number found (codes "bpm") DEFAULT_BPM least MAX_BPM) recording
    made (λ bpm set same.
    let tempo : bpm ≡ recording.bpm = cc in
    subst (λ n. least ≤ n) tempo (set_not_below DEFAULT_BPM least MAX_BPM _ bpm low set)))

no_ports : (found : List Row) (setup : Setup) → portless_setup_of found ≡ Some setup
    → IsPortless setup
unfolding portless_setup_of
no_ports found setup is =
    option_and_then_some _ (option_number found (codes "seed") DEFAULT_SEED 0 greatest) setup is
    (λ seed set made.
    option_and_then_some _ (option_number found (codes "limit") DEFAULT_HISTORY 1 MAX_HISTORY)
    setup made (λ limit given same. (cc, cc, cc)))

-- ---- the journal of a performance

-- the grid of a run without ports is the one that the words name
portless_grid : (found : List Row) (setup : Setup) → portless_setup_of found ≡ Some setup
    → setup.grid ≡ positional_text found (codes "GRID")
unfolding portless_setup_of
portless_grid found setup is =
    option_and_then_some _ (option_number found (codes "seed") DEFAULT_SEED 0 greatest) setup is
    (λ seed set made.
    option_and_then_some _ (option_number found (codes "limit") DEFAULT_HISTORY 1 MAX_HISTORY)
    setup made (λ limit given same. cc))

-- and so is that of a run with ports
ported_grid : (found : List Row) (portless : Option Setup) (setup : Setup)
    → ((s : Setup) → portless ≡ Some s → s.grid ≡ positional_text found (codes "GRID"))
    → option_map (with_ports found) portless ≡ Some setup
    → setup.grid ≡ positional_text found (codes "GRID")
ported_grid found None setup named is = absurd cc
ported_grid found (Some s) setup named is =
    let same : setup.grid ≡ s.grid = cc in same ∙ named s refl

grid_named : (found : List Row) (setup : Setup) → setup_of found ≡ Some setup
    → setup.grid ≡ positional_text found (codes "GRID")
unfolding setup_of
grid_named found setup is =
    ported_grid found (portless_setup_of found) setup (portless_grid found) is

-- and its port of MIDI is the one that they name
ported_midi : (found : List Row) (portless : Option Setup) (setup : Setup)
    → option_map (with_ports found) portless ≡ Some setup
    → setup.midi ≡ option_text found (codes "midi")
ported_midi found None setup is = absurd cc
ported_midi found (Some s) setup is = cc

midi_named : (found : List Row) (setup : Setup) → setup_of found ≡ Some setup
    → setup.midi ≡ option_text found (codes "midi")
unfolding setup_of
midi_named found setup is = ported_midi found (portless_setup_of found) setup is

-- names that are not the same text
apart_by : (grid address : Text) (journal save script midi : Option Text)
    → (is_same_name journal (Some grid) || is_same_name journal save
    || is_same_name journal script || is_same_name journal (Some address)
    || is_same_name journal midi) ≡ false
    → IfSome journal (λ name. (name ≢ grid) × IfSome save (λ other. name ≢ other)
    × IfSome script (λ other. name ≢ other) × (name ≢ address)
    × IfSome midi (λ other. name ≢ other))
apart_by grid address journal save script midi is = grind (arith, bytes_eq-Decides)

own_journal : (found : List Row) (setup : Setup) (before play : Performance)
    → setup_of found ≡ Some setup → with_own_journal found before ≡ Some play
    → HasOwnJournal setup (Play play)
unfolding with_own_journal
own_journal found setup before play is made =
    let apart = apart_by (positional_text found (codes "GRID")) before.address before.journal
    before.save before.script (option_text found (codes "midi")) in
    rw (grid_named found setup is, midi_named found setup is) (grind (arith, apart, made))

kept_apart : (found : List Row) (before play : Performance)
    → with_names_apart found before ≡ Some play → before ≡ play
unfolding with_names_apart
kept_apart found before play made = grind (arith, made)

fit_journal : (found : List Row) (setup : Setup) (before play : Performance)
    → setup_of found ≡ Some setup → with_fit_names found before ≡ Some play
    → HasOwnJournal setup (Play play)
unfolding with_fit_names
fit_journal found setup before play is made =
    option_and_then_some (with_names_apart found) (with_own_journal found before) play made
    (λ owned own apart.
    subst (λ p. HasOwnJournal setup (Play p)) (kept_apart found owned play apart)
    (own_journal found setup before owned is own))

-- ---- what is asked for

-- the three facts of a setup and a work
abbrev pub IsRecordable : Setup → Work → Type 0
IsRecordable setup work =
    HasSongTempo work × RecordsWithoutPorts setup work × HasOwnJournal setup work

-- what holds of each setup and each work that are found holds of the request
performed_holds : {A : Type 0} (make : A → Work) (setup : Option Setup) (found : Option A)
    → ((s : Setup) → setup ≡ Some s → (a : A) → found ≡ Some a → IsRecordable s (make a))
    → IfSome (performing setup (option_map make found)) (λ request. IfPerform request IsRecordable)
performed_holds make None None each = tt
performed_holds make (Some s) None each = tt
performed_holds make None (Some a) each = tt
performed_holds make (Some s) (Some a) each = each s refl a refl

other_holds : {A : Type 0} (make : A → Request) (found : Option A)
    → ((a : A) → IfPerform (make a) IsRecordable)
    → IfSome (option_map make found) (λ request. IfPerform request IsRecordable)
other_holds make None each = tt
other_holds make (Some a) each = each a

recordable : (v : Verb) (found : List Row)
    → IfSome (request_by v found) (λ request. IfPerform request IsRecordable)
unfolding request_by
recordable verb.Run found =
    performed_holds Run (setup_of found) (frames_given found) (λ s _ frames _. (tt, tt, tt))
recordable verb.Events found =
    performed_holds Events (setup_of found) (frames_given found) (λ s _ frames _. (tt, tt, tt))
recordable verb.Replay found =
    performed_holds Replay (setup_of found) (Some (positional_text found (codes "SCRIPT")))
    (λ s _ script _. (tt, tt, tt))
recordable verb.Play found =
    performed_holds Play (setup_of found)
    (option_and_then (with_fit_names found) (performance_of found)) (λ s setup play read.
    option_and_then_some (with_fit_names found) (performance_of found) play read
    (λ before made same. (tt, tt, fit_journal found s before play setup same)))
recordable verb.Make found = other_holds Make (workload_of found) (λ load. tt)
recordable verb.Migrate found = other_holds Migrate (migration_of found) (λ migration. tt)
recordable verb.Smf found =
    performed_holds Smf (portless_setup_of found) (recording_of found MIN_SONG_BPM)
    (λ s setup song read.
    (tempo_not_below found MIN_SONG_BPM song (omega arith) read, no_ports found s setup, tt))
recordable verb.Jam found =
    performed_holds Play (setup_of found)
    (option_and_then (with_fit_names found) (jam_of found)) (λ s setup play read.
    option_and_then_some (with_fit_names found) (jam_of found) play read
    (λ before made same. (tt, tt, fit_journal found s before play setup same)))
recordable verb.Wav found =
    performed_holds Wav (portless_setup_of found) (recording_of found 1)
    (λ s setup wave read. (tt, no_ports found s setup, tt))
recordable verb.Follow found =
    performed_holds Follow (setup_of found) (Some (positional_text found (codes "ADDRESS")))
    (λ s _ address _. (tt, tt, tt))
recordable verb.Lead found =
    performed_holds Lead (setup_of found) (leading_of found) (λ s _ lead _. (tt, tt, tt))
recordable verb.Recover found = other_holds Recover (recovery_of found) (λ recovery. tt)

-- ---- what is answered

weaker : (P Q : Setup → Work → Type 0) (request : Request)
    → ((setup : Setup) (work : Work) → P setup work → Q setup work)
    → IfPerform request P → IfPerform request Q
weaker P Q (Perform setup work) implies holds = implies setup work holds
weaker P Q (Make load) implies holds = tt
weaker P Q (Migrate migration) implies holds = tt
weaker P Q (Recover recovery) implies holds = tt

-- what holds of all that is asked for holds of what is answered
answered_by : (P : Request → Type 0) (found : Option Held) (asked : Option Request)
    (fault : WordsFault) → option_map request_in found ≡ asked → IfSome asked P
    → IfOk (ok_or found fault) (λ request. P (request_in request))
answered_by P None asked fault is holds = tt
answered_by P (Some request) asked fault is holds = subst (λ o. IfSome o P) (sym is) holds

pub answered : (Q : Setup → Work → Type 0) (v : Verb) (rows : List Row) (found : Option Held)
    (fault : WordsFault) (result : Result Held WordsFault)
    → ((setup : Setup) (work : Work) → IsRecordable setup work → Q setup work)
    → option_map request_in found ≡ request_by v rows → result ≡ ok_or found fault
    → IfOk result (λ request. IfPerform (request_in request) Q)
answered Q v rows found fault result implies is made =
    rw made (answered_by (λ request. IfPerform request Q) found (request_by v rows) fault is
    (IfSome_then (request_by v rows) (recordable v rows)
    (λ request holds. weaker IsRecordable Q request implies holds)))

-- ---- what words ask for

asked_if : (fits : Bool) (v : Verb) (found : List Row)
    → IfSome (if fits then request_by v found else None) (λ request. IfPerform request IsRecordable)
asked_if false v found = tt
asked_if true v found = recordable v found

asked_form : (form : Option Form) (words : List Text)
    → IfSome (option_and_then (λ f. request_in_form f words) form)
    (λ request. IfPerform request IsRecordable)
unfolding request_in_form
asked_form None words = tt
asked_form (Some form) words =
    asked_if (is_empty (fault_of (command_of form) words)) form.verb
    (matches_of (command_of form) words)

asked_words : (words : List Text)
    → IfSome (request_of words) (λ request. IfPerform request IsRecordable)
unfolding request_of
asked_words [] = tt
asked_words (first ∷ words) = asked_form (form_by first) words

pub owns_journals : OwnsJournals
owns_journals words setup work is =
    (subst (λ (o : Option Request). IfSome o (λ request. IfPerform request IsRecordable)) is
    (asked_words words)).2
