-- What was done of a course: of the session alone, for keys, of what is saved, and of what is
-- shown.
use Rattle.std.proofs.Common.{◌≡◌, ◌≢◌, ℕ, zero, suc, ◌+◌, ◌<◌, ◌≤◌, get_or, map, set, List, [], ◌∷◌, ◌++◌, refl, sym, ◌∙◌, ap, ◌==◌, Bool, true, false, drop, length, arith}
use Rattle.std.specs.List.{range_with_len}
use Rattle.std.proofs.lemmas.Bool.{le-ltb, lt-ltb}
use Rattle.std.proofs.lemmas.List.{drop_all, drop_more, length-map, length-set}
use Rattle.std.proofs.lemmas.List.FromFn.{get_or-range_with_len, length-range_with_len}
use Rattle.std.specs.Prelude.{◌||◌, ◌&&◌, nat_lt, replicate, slice_index_or, slice_set, unwrap_or, Option, None, Result, Ok, Err, Some, All, OnErr, OnOk}
use Rattle.std.specs.Option.{option_map, option_map_or}
use Rattle.orca_base.specs.declared.command.Command.{Command}
use Rattle.orca_base.specs.declared.port.Port.TheVariants as port
use Rattle.orca_base.specs.Grids.{Sheet}
use Rattle.orca_base.specs.MarkSet.{MarkSet}
use Rattle.orca_concert.specs.Concerts.{Concert, concert_with, close_course as silence_course, command_course as obey_course, stance_of}
use Rattle.orca_course.specs.Courses.{Course, each, mapped, onward, still, course}
use Rattle.orca_concert.specs.Manners.{News, aside_course}
use Rattle.orca_course.specs.Doing.{Does, goes_of, nowhere}
use Rattle.orca_course.specs.Standings.{Standing}
use Rattle.orca_course.specs.Worlds.{World, Called, owing, Calls, Made, Sated}
use Rattle.orca_course.specs.declared.ending.Stop.{Stop}
use Rattle.orca_course.specs.declared.refused.NoMemory.{NoMemory}
use Rattle.orca_course.proofs.DoingLemmas.{does_from, does_mapped, does_still, does_then, does_owing, does_acts, does_begun, does_cut, does_joined, rests_mute, rests_none}
use Rattle.orca_course.specs.Acts.Act.{Append, Begin, Save, Screen, Give, Show, Strike, Tell}
use Rattle.orca_course.proofs.CallLemmas.{calls_one, does_calls}
use Rattle.orca_course.specs.Acts.{AreMute}
use Rattle.orca_course.proofs.WorldLemmas.{made_none, made_screen, made_show, made_strike}
use Rattle.orca_edit.specs.Machines.{preview_of}
use Rattle.orca_edit.specs.Prices.{preview_price}
use Rattle.orca_term.specs.Pacing.{Pace}
use Rattle.orca_jam.specs.Crews.{CrewState, answer_to, asked, denial_at, denied_by, is_away, player_at, struck_by, turned_by, turned_player}
use Rattle.orca_jam.specs.Denials.{rule_of_denial}
use Rattle.orca_jam.specs.declared.crew.TheConstants.{LEADER}
use Rattle.orca_term.specs.Came.{came_to}
use Rattle.orca_jam.specs.declared.denial.Denial.{Denial}
use Rattle.orca_term.specs.Keys.{Item, turn}
use Rattle.orca_term.specs.declared.came.Came.{Came}
use Rattle.orca_term.specs.declared.came.Came.TheVariants.{Denied, Kept}
use Rattle.orca_term.specs.declared.editor.Wish.{Wish}
use Rattle.orca_term.specs.declared.editor.Wish.TheVariants as wish
use Rattle.orca_term.specs.declared.overlay.Overlay.{Overlay}
use Rattle.orca_term.specs.declared.keys.Key.{Key}
use Rattle.orca_term.specs.Picture.{IsPrintable, picture, scene_of, screen_inside}
use Rattle.orca_term.specs.Viewing.{Seen, painting_bytes}
use Rattle.orca_term.specs.declared.status.StatusLine.{StatusLine}
use Rattle.orca_term.specs.declared.cell.Cell.{Cell}
use Rattle.orca_term.specs.declared.cell.ScreenSize.{ScreenSize}
use Rattle.orca_live.specs.Performing.{additions, hush_course, hand_course, denied_course, lull_course, lull_of, lines_course, noted, obeyed_by, of_session, owning, key_course, keys_course, overlay_at, press_course, read_course, save_course, struck_course, struck_well, telling, wish_course, words_at_key, paint_course, painted_course, picture_course, picture_for, preview_course, redrawn, show_course, view_acts, loosens}
use Rattle.orca_live.specs.Quiet.{quiet_manner, sent_by}
use Rattle.orca_term.specs.Traffic.{FrameSent}
use Rattle.orca_live.specs.States.{LiveState, Viewed, live_stance, around_at, fitted, hands_in, is_painted_for, is_viewer, key_name, piece_at, status_line_at, unpainted, view_at, viewed_in, with_view}
use Rattle.orca_live.specs.Marking.{marks_by}
use Rattle.orca_live.specs.declared.painting.Marking.{Marking}

-- a pace alone has changed
pub does_paced : (s : LiveState) (p q : Pace) (x : World) → q ≡ p
    → Does {E = Stop} live_stance (still (record s { pace = p })) s x (Ok None)
    (record s { pace = q }) x
does_paced s p q x same = rw same (does_still x refl)

-- ---- views by the hands, as the code holds them

pub viewed_at : (views : List Seen) (hand : ℕ) (other : Viewed) (none : Seen) → hand < length views
    → slice_index_or (map viewed_in views) hand other ≡ viewed_in (get_or views hand none)
viewed_at [] hand other none below = absurd (omega (arith, below))
viewed_at (v ∷ views) zero other none below = refl
viewed_at (v ∷ views) (suc hand) other none below =
    viewed_at views hand other none (omega (arith, below))

pub viewed_none : (views : List Seen) (hand : ℕ) (other : Viewed) → length views ≤ hand
    → slice_index_or (map viewed_in views) hand other ≡ other
viewed_none [] hand other past = refl
viewed_none (v ∷ views) zero other past = absurd (omega (arith, past))
viewed_none (v ∷ views) (suc hand) other past = viewed_none views hand other (omega (arith, past))

pub viewed_set : (views : List Seen) (hand : ℕ) (v : Seen)
    → map viewed_in (set views hand v) ≡ slice_set (map viewed_in views) hand (viewed_in v)
viewed_set [] hand v = refl
viewed_set (w ∷ views) zero v = refl
viewed_set (w ∷ views) (suc hand) v =
    ap (λ (rest : List Viewed). viewed_in w ∷ rest) (viewed_set views hand v)

pub viewed_kept : (views : List Viewed) (hand : ℕ) (v : Viewed) → length views ≤ hand
    → slice_set views hand v ≡ views
viewed_kept [] hand v past = refl
viewed_kept (w ∷ views) zero v past = absurd (omega (arith, past))
viewed_kept (w ∷ views) (suc hand) v past =
    ap (λ (rest : List Viewed). w ∷ rest) (viewed_kept views hand v (omega (arith, past)))

pub views_started : (n : ℕ) (d : ScreenSize)
    → map viewed_in (replicate n (record { size = d; last = None; bytes = [] }))
    ≡ replicate n (unpainted d)
views_started zero d = refl
views_started (suc n) d = ap (λ (rest : List Viewed). unpainted d ∷ rest) (views_started n d)

-- the terminal of a hand began anew
pub redrawn_at : (views : List Seen) (hand at : ℕ) (size : Option ScreenSize) (other : Viewed)
    (old new : Seen) → at ≡ hand → hand < length views → old ≡ get_or views at old
    → viewed_in new ≡ unpainted (screen_inside (unwrap_or size old.size))
    → map viewed_in (set views at new)
    ≡ slice_set (map viewed_in views) hand
    (unpainted (screen_inside (unwrap_or size
    (slice_index_or (map viewed_in views) hand other).screen)))
redrawn_at views hand at size other old new same below is anew =
    let here : (slice_index_or (map viewed_in views) hand other).screen ≡ old.size =
    ap (λ (v : Viewed). v.screen) (viewed_at views hand other old below)
    ∙ ap (λ (v : Seen). v.size) (sym (rw same at is)) in
    rw (same, here) (viewed_set views hand new
    ∙ ap (λ (v : Viewed). slice_set (map viewed_in views) hand v) anew)

-- ---- keys that begin a terminal anew

-- the terminal of a hand begins anew
pub redrawn_did : (hand : ℕ) (d : ScreenSize) (s : LiveState) (views : List Viewed) (x : World)
    → views ≡ slice_set s.views hand (unpainted d)
    → Does live_stance (redrawn hand d s) s x (Ok None) (record s { views = views }) x
redrawn_did hand d s views x anew =
    rw anew (does_acts (made_screen hand d (made_none x)) refl
    (rests_mute live_stance s (with_view hand (unpainted d) s) (Screen hand d ∷ []) tt refl))

-- ---- the session alone

-- a course of it that never ends
session_did : (c : Concert FrameSent → Course (Concert FrameSent) Stop) (s : LiveState)
    (t : Concert FrameSent) {x y : World} (result : Result (Option Stop) NoMemory)
    → (c (concert_with s.standing s.sent)).ending ≡ None
    → Does (stance_of quiet_manner) (c (concert_with s.standing s.sent)) (concert_with s.standing s.sent) x result t y
    → Does live_stance (of_session c s) s x (goes_of result)
    (record s { standing = t.standing; sent = t.kept }) y
session_did c s t (Ok end) goes did =
    rw (sym (sym did.did.ending ∙ goes))
    (does_mapped (λ (u : Concert FrameSent). record s { standing = u.standing; sent = u.kept })
    (λ end. end)
    (Ok end) refl (λ u. refl) did)
session_did c s t (Err e) goes did =
    does_mapped (λ (u : Concert FrameSent). record s { standing = u.standing; sent = u.kept })
    (λ end. end) (Err e)
    refl (λ u. refl) did

-- the report keeps what a frame sent
pub kept_news : (at : Option Standing) (hands : Bool) (news : News) (old new : FrameSent) (x : World)
    → new ≡ sent_by news old
    → Does (nowhere at hands) (aside_course (quiet_manner.tells news old)) old x (Ok None) new x
kept_news at hands news old new x is = rw is (does_still x refl)

-- a command was done and kept, and whose the entries are
pub command_did : (who : ℕ) (command : Command) (s : LiveState) (t : Concert FrameSent)
    (given : Option (List Command)) (lines : List ℕ) (crew : CrewState) (loose : Bool)
    (words : List Came) {x y : World} (end : Option Stop)
    → given ≡ option_map (λ commands. commands ++ command ∷ []) s.given
    → lines ≡ noted s.setting.journal command s.unwritten
    → crew ≡ owning who command t.standing.tally.refusal (length t.standing.machine.history) s.crew
    → loose ≡ (s.loose || loosens command t.standing.tally.refusal)
    → words ≡ slice_set s.words who (came_to t.standing.tally.refusal)
    → Does (stance_of quiet_manner)
    (obey_course quiet_manner 0 command (concert_with s.standing s.sent)) (concert_with s.standing s.sent) x
    (Ok end) t y
    → Does live_stance (hand_course who command s) s x (Ok None)
    (record s {
      standing = t.standing;
      crew = crew;
      given = given;
      unwritten = lines;
      loose = loose;
      words = words;
      sent = t.kept;
    }) y
unfolding hand_course obey_course onward mapped
command_did who command s t given lines crew loose words end kept waits owns looses tells did =
    let goes : end ≡ None = sym did.did.ending in
    let all = does_mapped {part = stance_of quiet_manner} {whole = live_stance}
    (λ (u : Concert FrameSent). obeyed_by who command s u.standing u.kept) (λ end. end) (Ok end) refl
    (λ u. refl) did in
    rw (kept, waits, owns, looses, tells) (does_from s refl (rw goes at all))

-- memory was refused to a command
pub command_cut : (who : ℕ) (command : Command) (s : LiveState) (t : Concert FrameSent)
    (given : Option (List Command)) (lines : List ℕ) {x y : World} (e : NoMemory)
    → Does (stance_of quiet_manner)
    (obey_course quiet_manner 0 command (concert_with s.standing s.sent)) (concert_with s.standing s.sent) x
    (Err e) t y
    → Does live_stance (hand_course who command s) s x (Err e)
    (record s { standing = t.standing; given = given; unwritten = lines; sent = t.kept }) y
unfolding hand_course obey_course onward mapped
command_cut who command s t given lines e did =
    let with : Concert FrameSent → LiveState = λ (u : Concert FrameSent).
    record s { standing = u.standing; given = given; unwritten = lines; sent = u.kept } in
    let cut = does_from s refl
    (does_mapped {part = stance_of quiet_manner} {whole = live_stance} with (λ end. end) (Err e)
    refl (λ u. refl) did) in
    does_begun cut.did.done cut.did.left cut.did.splits cut.did.made cut.did.rests cut.did.wants

-- every note was ended
pub close_did : (s : LiveState) (t : Concert FrameSent) {x y : World}
    (result : Result (Option Stop) NoMemory)
    → Does (stance_of quiet_manner) (silence_course quiet_manner (concert_with s.standing s.sent))
    (concert_with s.standing s.sent) x result t y
    → Does live_stance (hush_course s) s x (goes_of result)
    (record s { standing = t.standing; sent = t.kept }) y
unfolding hush_course silence_course onward mapped
close_did s t result did = session_did (silence_course quiet_manner) s t result refl did

-- ---- keys and items

-- a key is not denied, and asks for this
asked_by : (denial : Option Denial) (asks w : Wish) → Ok w ≡ option_map_or Err denial (Ok asks)
    → (denial ≡ None) × (w ≡ asks)
asked_by None asks w is = (refl, grind (arith, is))
asked_by (Some denial) asks w is = absurd cc

-- a key is denied
denied_as : (denial : Option Denial) (asks : Wish) (why : Denial)
    → Err why ≡ option_map_or Err denial (Ok asks) → denial ≡ Some why
denied_as None asks why is = absurd cc
denied_as (Some denial) asks why is = grind (arith, is)

-- the editor of the hand has changed, and then what the key asks for was done
pub struck_asked : (hand : ℕ) (key : Key) (s : LiveState) (answer : Result Wish Denial) (w : Wish)
    (crew : CrewState) {t : LiveState} {x y : World} {result : Result (Option Stop) NoMemory}
    → answer ≡ answer_to s.crew hand key (around_at hand key s) → answer ≡ Ok w
    → OnOk answer (crew ≡ struck_by hand key (around_at hand key s) s.crew)
    → Does live_stance (wish_course hand w (record s { crew = crew })) (record s { crew = crew }) x
    result t y
    → Does live_stance (struck_course hand key s) s x result t y
unfolding struck_course
struck_asked hand key s answer w crew told is changes did =
    let around = around_at hand key s in
    let by = asked_by (denial_at s.crew hand key around) (asked s.crew hand key around) w
    (sym is ∙ told) in
    rw by.0 (does_from s refl (rw (by.1, rw is at changes) at did))

-- the hand was told why the key is denied
pub struck_denied : (hand : ℕ) (key : Key) (s : LiveState) (answer : Result Wish Denial)
    (denial : Denial) (crew : CrewState) (words : List Came) {x y : World} (n : ℕ)
    (result : Result (Unit {0}) NoMemory)
    → answer ≡ answer_to s.crew hand key (around_at hand key s) → answer ≡ Err denial
    → OnErr answer (crew ≡ denied_by hand key s.crew)
    → words ≡ slice_set s.words hand (Denied (rule_of_denial denial)) → Called result (telling hand denial) x y
    → Does live_stance (struck_course hand key s) s (owing n x) (goes_of result)
    (record s { crew = crew; words = words }) (owing n y)
unfolding struck_course denied_course
struck_denied hand key s answer denial crew words n result told is same tells called =
    let around = around_at hand key s in
    rw (
      tells,
      denied_as (denial_at s.crew hand key around) (asked s.crew hand key around) denial
          (sym is ∙ told),
      rw is at same,
    )
    (does_owing n (goes_of result)
    (does_calls (telling hand denial ∷ []) result (refl, tt) refl (calls_one result called)))

-- the grid was saved by a key, which is told
pub kept_did : (hand : ℕ) (s : LiveState) (words : List Came) {t : LiveState} {x y : World}
    {result : Result (Option Stop) NoMemory} → words ≡ slice_set s.words hand Kept
    → Does live_stance (save_course (key_name s.setting) (record s { words = words }))
    (record s { words = words }) x result t y
    → Does live_stance (wish_course hand wish.Save s) s x result t y
unfolding wish_course
kept_did hand s words tells did = does_from s refl (rw tells at did)

-- a key was struck: the editors were fitted to the grid, and then the key was done
pub press_did : (hand : ℕ) (key : Key) (s u : LiveState) (words : List Came) {t : LiveState}
    {x y : World} {result : Result (Option Stop) NoMemory} → words ≡ words_at_key hand key s.words
    → u ≡ fitted (record s { words = words })
    → Does live_stance (struck_course hand key u) u x result t y
    → Does live_stance (press_course hand key s) s x result t y
unfolding press_course key_course
press_did hand key s u words {x = x} {result = result} tells fits did =
    let r = struck_well hand key s in
    does_joined {E = Stop} result
    (does_acts (made_strike hand key (made_none x)) refl
    (rests_mute live_stance s r (Strike hand key ∷ []) tt refl)).did
    (does_from r {s = fitted r} refl (rw (fits, tells) at did))

-- an item, whose keys were pressed
pub read_did : (hand : ℕ) (item : Item) (s : LiveState) (keys : List Key) (crew : CrewState)
    {t : LiveState} {x y : World} {result : Result (Option Stop) NoMemory}
    → keys ≡ (turn s.crew.full (player_at s.crew hand).keys item).keys
    → crew ≡ turned_by hand item s.crew
    → Does live_stance (keys_course hand keys (record s { crew = crew })) (record s { crew = crew })
    x result t y
    → Does live_stance (read_course hand item s) s x result t y
unfolding read_course
read_did hand item s keys crew ends leaves did = does_from s refl (rw (ends, leaves) at did)

-- ---- keys in their order

pub keys_left : (keys : List Key) (k : ℕ) (key : Key) → key ≡ get_or keys k key → k < length keys
    → drop k keys ≡ key ∷ drop (k + 1) keys
keys_left keys k key is below =
    drop_more keys k key below ∙ ap (λ (first : Key). first ∷ drop (k + 1) keys) (sym is)

-- ---- the hands in their order

pub hands_left : (n k : ℕ) → k < n
    → drop k (range_with_len 0 n) ≡ k ∷ drop (k + 1) (range_with_len 0 n)
hands_left n k below =
    drop_more (range_with_len 0 n) k 0 (rw length-range_with_len below)
    ∙ ap (λ (hand : ℕ). hand ∷ drop (k + 1) (range_with_len 0 n))
    (get_or-range_with_len 0 n k 0 below ∙ omega arith)

pub hands_over : (n k : ℕ) → n ≤ k → drop k (range_with_len 0 n) ≡ []
hands_over n k past = drop_all k (range_with_len 0 n) (rw length-range_with_len past)

-- nothing came of each hand
pub lull_did : (hands : ℕ) (s : LiveState) {t : LiveState} {x y : World}
    {result : Result (Option Stop) NoMemory} → hands ≡ length s.crew.players
    → Does live_stance (each lull_of (range_with_len 0 hands) s) s x result t y
    → Does live_stance (lull_course s) s x result t y
unfolding lull_course
lull_did hands s are did = rw are at did

-- a reader was given an item, and there are as many hands
pub hands_turned : (hand : ℕ) (item : Item) (old new : CrewState) (n : ℕ)
    → new ≡ turned_by hand item old → n ≡ length old.players → hand < n
    → hand < length new.players
hands_turned hand item old new n turned are below =
    rw (turned, length-set old.players hand (turned_player old.full item (player_at old hand)), ← are)
    below

-- ---- what is saved

-- a text was saved, after which this is loose
pub saved_did : (name bytes text : List ℕ) (s : LiveState) (loose : Bool) {x y : World} (n : ℕ)
    (result : Result (Unit {0}) NoMemory) → bytes ≡ text → Called result (Save name bytes) x y
    → Does {E = Stop} live_stance
    (course (Save name text ∷ []) 0 (record s { loose = loose })) s (owing n x) (goes_of result)
    (record s { loose = loose }) (owing n y)
saved_did name bytes text s loose n result is called =
    does_owing n (goes_of result)
    (does_calls (Save name text ∷ []) result tt refl (calls_one result (rw is at called)))

-- a text was saved
pub save_did : (name bytes text : List ℕ) (s : LiveState) {x y : World} (n : ℕ)
    (result : Result (Unit {0}) NoMemory) → bytes ≡ text → Called result (Save name bytes) x y
    → Does {E = Stop} live_stance (course (Save name text ∷ []) 0 s) s (owing n x) (goes_of result)
    s (owing n y)
save_did name bytes text s n result is called =
    saved_did name bytes text s s.loose n result is called

-- a file was begun with a text
pub begin_did : (name bytes text : List ℕ) (s : LiveState) {x y : World} (n : ℕ)
    (result : Result (Unit {0}) NoMemory) → bytes ≡ text → Called result (Begin name bytes) x y
    → Does {E = Stop} live_stance (course (Begin name text ∷ []) 0 s) s (owing n x)
    (goes_of result) s (owing n y)
begin_did name bytes text s n result is called =
    does_owing n (goes_of result)
    (does_calls (Begin name text ∷ []) result tt refl (calls_one result (rw is at called)))

-- ---- lines are added to the journal, unless there are none

pub added_none : (name bytes : List ℕ) (none : Bool) (x : World) → none ≡ (length bytes == 0)
    → none ≡ true → Calls {T = Unit {0}} (additions name bytes) (Ok tt) x x
added_none name [] none x is on = record { called = (made_none x, refl) }
added_none name (byte ∷ bytes) none x is on = absurd (grind arith)

pub added_some : (name bytes : List ℕ) (none : Bool) {x y : World}
    (result : Result (Unit {0}) NoMemory) → none ≡ (length bytes == 0) → none ≡ false
    → Called result (Append name bytes) x y → Calls (additions name bytes) result x y
added_some name [] none result is off called = absurd (grind arith)
added_some name (byte ∷ bytes) none result is off called = calls_one result called

added_mute : (name bytes : List ℕ) → AreMute (additions name bytes)
added_mute name [] = tt
added_mute name (byte ∷ bytes) = tt

-- the lines that waited were added, and none waits
pub lines_did : (name bytes none : List ℕ) (s : LiveState) {x y : World} (n : ℕ)
    (result : Result (Unit {0}) NoMemory) → bytes ≡ s.unwritten → none ≡ []
    → Calls (additions name bytes) result x y
    → Does {E = Stop} live_stance (lines_course name s) s (owing n x) (goes_of result)
    (record s { unwritten = none }) (owing n y)
unfolding lines_course
lines_did name bytes none s n result waited empty calls =
    rw empty (does_owing n (goes_of result)
    (does_calls (additions name s.unwritten) result (added_mute name s.unwritten) refl
    (rw waited at calls)))

-- ---- a painting goes to its hand, unless it is empty

pub view_none : (hand : ℕ) (bytes : List ℕ) (none : Bool) (x : World)
    → none ≡ (length bytes == 0) → none ≡ true
    → Calls {T = Unit {0}} (view_acts hand bytes) (Ok tt) x x
view_none hand [] none x is on = record { called = (made_none x, refl) }
view_none hand (byte ∷ bytes) none x is on = absurd (grind arith)

-- that of the first hand
pub view_sent : (hand : ℕ) (bytes : List ℕ) (none : Bool) {x y : World}
    (result : Result (Unit {0}) NoMemory) → none ≡ (length bytes == 0) → none ≡ false
    → hand ≡ LEADER → Called result (Give (record { port = port.View; bytes = bytes })) x y
    → Calls (view_acts hand bytes) result x y
view_sent hand [] none result is off first called = absurd (grind arith)
view_sent zero (byte ∷ bytes) none result is off first called = calls_one result called
view_sent (suc hand) (byte ∷ bytes) none result is off first called = absurd (omega (arith, first))

-- and that of another
pub view_told : (hand : ℕ) (bytes : List ℕ) (none : Bool) {x y : World}
    (result : Result (Unit {0}) NoMemory) → none ≡ (length bytes == 0) → none ≡ false
    → hand ≢ LEADER → Called result (Tell hand bytes) x y → Calls (view_acts hand bytes) result x y
view_told hand [] none result is off other called = absurd (grind arith)
view_told zero (byte ∷ bytes) none result is off other called = absurd (other refl)
view_told (suc hand) (byte ∷ bytes) none result is off other called = calls_one result called

view_mute : (hand : ℕ) (bytes : List ℕ) → AreMute (view_acts hand bytes)
view_mute hand [] = tt
view_mute zero (byte ∷ bytes) = (refl, tt)
view_mute (suc hand) (byte ∷ bytes) = tt

-- ---- a painting

-- the picture of a hand was painted, which is shown this
abbrev shown_course : ℕ → List Cell → List Viewed → LiveState → Course LiveState Stop
shown_course hand cells views s = course (Show hand cells ∷ []) 0 (record s { views = views })

painting_did : (hand : ℕ) (bytes : List ℕ) (cells : List Cell) (views : List Viewed) (s : LiveState)
    {x y : World} (result : Result (Unit {0}) NoMemory) → All IsPrintable cells
    → Calls (view_acts hand bytes) result x y
    → Does live_stance (onward (course (view_acts hand bytes) 0 s) (shown_course hand cells views))
    s x (goes_of result) (record s { views = views }) y
unfolding onward
painting_did hand bytes cells views s {y = y} (Ok done) printable calls =
    does_then (shown_course hand cells views)
    (does_calls (view_acts hand bytes) (Ok done) (view_mute hand bytes) refl calls)
    (does_acts (made_show hand cells printable (made_none y)) refl
    (rests_mute live_stance s (record s { views = views }) (Show hand cells ∷ []) tt refl))
painting_did hand bytes cells views s (Err e) printable calls =
    does_cut (shown_course hand cells views)
    (does_calls (view_acts hand bytes) (Err e) (view_mute hand bytes) refl calls)

-- the picture of a hand with these marks was painted, and its view keeps it
pub picture_did : (marks : List MarkSet) (hand : ℕ) (s : LiveState) (views : List Viewed)
    (v : Viewed) (sheet : Sheet) (over : Overlay) (line : StatusLine) {x y : World} (n : ℕ)
    (result : Result (Unit {0}) NoMemory) → v ≡ view_at hand s → sheet ≡ (piece_at s).sheet
    → over ≡ overlay_at hand s → line ≡ status_line_at hand s
    → let cells = picture v.screen (scene_of sheet marks over) s.sent line in
    Calls (view_acts hand (painting_bytes v.screen v.shown cells)) result x y
    → All IsPrintable cells → views ≡ slice_set s.views hand (record v { shown = Some cells })
    → Does live_stance (picture_course marks hand s) s (owing n x) (goes_of result)
    (record s { views = views }) (owing n y)
unfolding picture_course onward
picture_did marks hand s views v sheet over line n result at shows edits lines calls printable
    keeps =
    let old = view_at hand s in
    let cells = picture_for hand marks s in
    let called = rw (at, shows, edits, lines) at calls in
    let fine = rw (at, shows, edits, lines) at printable in
    let kept = rw (at, shows, edits, lines) at keeps in
    rw kept (does_owing n (goes_of result)
    (painting_did hand (painting_bytes old.screen old.shown cells) cells
    (slice_set s.views hand (record old { shown = Some cells })) s result fine called))

-- whether a hand is shown a picture

pub viewer_is : (views : List Seen) (hand from len : ℕ) → from ≡ hand → len ≡ length views
    → from < len → nat_lt hand (length (map viewed_in views)) ≡ true
viewer_is views hand from len same many below =
    lt-ltb hand (length (map viewed_in views))
    (rw (length-map views viewed_in, ← many, ← same) below)

pub viewer_not : (views : List Seen) (hand from len : ℕ) → from ≡ hand → len ≡ length views
    → len ≤ from → nat_lt hand (length (map viewed_in views)) ≡ false
viewer_not views hand from len same many past =
    le-ltb hand (length (map viewed_in views))
    (rw (length-map views viewed_in, ← many, ← same) past)

-- the picture was painted on the view of a hand
pub picture_on : (marks : List MarkSet) (hand : ℕ) (s : LiveState) (views : List Seen)
    (old seen : Seen) (sheet : Sheet) (over : Overlay) (line : StatusLine) {x y : World} (n : ℕ)
    (result : Result (Unit {0}) NoMemory) → map viewed_in views ≡ s.views
    → viewed_in old ≡ view_at hand s → sheet ≡ (piece_at s).sheet → over ≡ overlay_at hand s
    → line ≡ status_line_at hand s
    → let cells = picture old.size (scene_of sheet marks over) s.sent line in
    Calls (view_acts hand (painting_bytes old.size old.last cells)) result x y
    → All IsPrintable cells → viewed_in seen ≡ record { screen = old.size; shown = Some cells }
    → Does live_stance (picture_course marks hand s) s (owing n x) (goes_of result)
    (record s { views = map viewed_in (set views hand seen) }) (owing n y)
picture_on marks hand s views old seen sheet over line n result are at shows edits lines calls
    printable keeps =
    let cells = picture old.size (scene_of sheet marks over) s.sent line in
    picture_did marks hand s (map viewed_in (set views hand seen)) (viewed_in old) sheet over line
    n result at shows edits lines calls printable
    (viewed_set views hand seen
    ∙ (ap (λ (v : Viewed). slice_set (map viewed_in views) hand v) keeps
    ∙ ap (λ (vs : List Viewed).
    slice_set vs hand (record { screen = old.size; shown = Some cells })) are))

-- whether a hand is shown one, and is there
pub painted_for : (hand : ℕ) (s : LiveState) → is_viewer hand s ≡ true
    → is_away s.crew hand ≡ false → is_painted_for hand s ≡ true
painted_for hand s viewer here = rw (viewer, here) refl

pub not_viewer : (hand : ℕ) (s : LiveState) → is_viewer hand s ≡ false
    → is_painted_for hand s ≡ false
not_viewer hand s off = rw off refl

pub not_here : (hand : ℕ) (s : LiveState) → is_away s.crew hand ≡ true
    → is_painted_for hand s ≡ false
not_here hand s away = rw away (by (is_viewer hand s))
  where
    by : (b : Bool) → (b && false) ≡ false
    by true = refl
    by false = refl

-- it is painted then
pub painted_did : (marks : List MarkSet) (hand : ℕ) (s : LiveState) {t : LiveState} {x y : World}
    {result : Result (Option Stop) NoMemory} → is_painted_for hand s ≡ true
    → Does live_stance (picture_course marks hand s) s x result t y
    → Does live_stance (painted_course marks hand s) s x result t y
unfolding painted_course
painted_did marks hand s is did = rw is did

-- and another one is not
pub unpainted_did : (marks : List MarkSet) (hand : ℕ) (s : LiveState) (x : World)
    → is_painted_for hand s ≡ false
    → Does live_stance (painted_course marks hand s) s x (Ok None) s x
unfolding painted_course
unpainted_did marks hand s x off = rw off (does_still x refl)

-- the marks of a session that is the same
pub marked_did : (marking : Marking) (marks others : List MarkSet) (hand : ℕ) (s : LiveState)
    {t : LiveState} {x y : World} {result : Result (Option Stop) NoMemory} → others ≡ marks
    → Does live_stance (painted_course (marks_by marking others) hand s) s x result t y
    → Does live_stance (painted_course (marks_by marking marks) hand s) s x result t y
marked_did marking marks others hand s same did = rw same at did

-- the hands in their order
pub paints_did : (hands : ℕ) (marks : List MarkSet) (s : LiveState) {t : LiveState} {x y : World}
    {result : Result (Option Stop) NoMemory} → hands ≡ length s.crew.players
    → Does live_stance (each (painted_course marks) (range_with_len 0 hands) s) s x result t y
    → Does live_stance (each (painted_course marks) (hands_in s) s) s x result t y
paints_did hands marks s are did = rw are at did

-- the editors were fitted to the grid before, which moves nothing else
pub paint_did : (marks others : List MarkSet) (s u : LiveState) (n m : ℕ) (x : World)
    {t : LiveState} {y : World} {result : Result (Option Stop) NoMemory} → others ≡ marks → m ≡ n
    → u ≡ fitted s
    → Does live_stance (each (painted_course others) (hands_in u) u) u (owing m x) result t y
    → Does live_stance (paint_course marks s) s (owing n x) result t y
unfolding paint_course
paint_did marks others s u n m x same owes fits did =
    let all = rw (same, owes, fits) at did in
    let hands : hands_in (fitted s) ≡ hands_in s =
    ap (λ (n : ℕ). range_with_len 0 n) (length-map s.crew.players _) in
    does_from s {s = fitted s} refl (rw hands at all)

-- the picture with the marks of a scan
pub show_did : (marks : List MarkSet) (s : LiveState) {t : LiveState} {x y z : World}
    (result : Result (Option Stop) NoMemory) → Made [] (preview_price (piece_at s)) x y
    → Sated x y → marks ≡ preview_of (piece_at s)
    → Does live_stance (paint_course marks s) s y result t z
    → Does live_stance (show_course s) s x result t z
unfolding show_course preview_course
show_did marks s result made sated scanned did =
    does_joined {E = Stop} result (does_acts made sated (rests_none live_stance s s refl)).did
    (rw scanned at did)
