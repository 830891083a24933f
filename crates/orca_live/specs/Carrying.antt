-- What holds of each step of a performance, and of two in turn, holds of each item. It is proved
-- here, since that a player is deaf is said of it as a performer, and follows from this.
use Rattle.std.proofs.Common.{◌≡◌, ◌≢◌, ◌⊎◌, inl, inr, ℕ, arith, Bool, true, false, List, [], ◌∷◌, ◌++◌, length, refl, sym, ap}
use Rattle.std.specs.Prelude.{if◌then◌else◌, Option, Some, None, Ok, Err, unwrap_or}
use Rattle.std.specs.Option.{option_map_or}
use Rattle.std.proofs.lemmas.Bool.{and_parts}
use Rattle.std.proofs.lemmas.List.{length-map, length-set}
use Rattle.orca_base.specs.declared.command.Command.{Command}
use Rattle.orca_base.specs.declared.command.Command.TheVariants.{Frame, Redo}
use Rattle.orca_base.specs.MarkSet.{MarkSet}
use Rattle.orca_course.specs.Acts.{Act}
use Rattle.orca_course.specs.Acts.Act.{Append, Begin, Save, Screen, Strike}
use Rattle.orca_course.specs.Courses.{Course, each, onward, onward_by, still}
use Rattle.orca_course.specs.Performers.Turn.{Given}
use Rattle.orca_course.proofs.MidwayLemmas.{IsMidway}
use Rattle.orca_course.proofs.TurnLemmas.{IsInner}
use Rattle.orca_course.specs.declared.ending.Stop.{Stop}
use Rattle.orca_course.specs.declared.ending.Stop.TheVariants.{Full, Left}
use Rattle.orca_course.specs.declared.item.Losses.{Losses}
use Rattle.orca_course.specs.declared.item.Item.{Item}
use Rattle.orca_course.specs.declared.item.Item.TheVariants as item
use Rattle.orca_edit.specs.Machines.{preview_of}
use Rattle.orca_jam.specs.Crews.{CrewState, asked, denial_at, denied_by, fitted_player, offered, player_at, struck_by, turned_by}
use Rattle.orca_jam.specs.Denials.{rule_of_denial}
use Rattle.orca_jam.specs.declared.denial.Denial.{Denial}
use Rattle.orca_jam.specs.declared.owner.TheConstants.{NOBODY}
use Rattle.orca_jam.specs.declared.player.Player.{Player}
use Rattle.orca_jam.proofs.JamLemmas.{asks-no-redo}
use Rattle.orca_script.specs.Runs.{printed_header}
use Rattle.orca_term.specs.Codes.{letter_o}
use Rattle.orca_term.specs.Editing.{wish_of}
use Rattle.orca_term.specs.Keys.{Byte, Due, Item as KeyItem, turn}
use Rattle.orca_term.specs.Pacing.{Pace, faster, pace_from, retimed, slower}
use Rattle.orca_term.specs.Picture.{IsScreen, screen_inside}
use Rattle.orca_term.specs.declared.around.Around.{Around}
use Rattle.orca_term.specs.declared.came.Came.TheVariants.{Denied, Kept}
use Rattle.orca_term.specs.declared.cell.ScreenSize.{ScreenSize}
use Rattle.orca_term.specs.declared.editor.Editor.{Editor}
use Rattle.orca_term.specs.declared.editor.Wish.{Wish}
use Rattle.orca_term.specs.declared.editor.Wish.TheVariants as wish
use Rattle.orca_term.specs.declared.flow.Flow.{Flow}
use Rattle.orca_term.specs.declared.keys.Key.{Key}
use Rattle.orca_term.specs.declared.keys.Key.TheVariants as key
use Rattle.orca_term.specs.declared.keys.Pending.{Pending}
use Rattle.orca_term.specs.declared.keys.Pending.TheVariants.{Nothing, Lone, Sequence, Overlong, Single, Console}
use Rattle.orca_live.specs.Performing.{additions, answered_at, byte_course, denied_course, due_course, finish_course, fired, frame_course, hand_course, header_course, hush_course, if_named, item_course, journal_course, key_course, knowing, last_grid_course, last_script_course, lines_course, lull_course, lull_of, paced, paint_course, painted_course, picture_course, press_course, preview_course, read_course, save_course, saves_course, script_course, show_course, struck_course, struck_where, take_course, telling, toggled, wish_course, write_course, keys_course, struck_well}
use Rattle.orca_live.specs.States.{LiveState, Setting, around_at, begun_name, dims_at, editor_at, fitted, hands_in, is_full, is_hand, is_painted_for, is_viewer, key_name, leader_at, piece_at, reads_text, screen_at, unpainted, with_view, with_word}

-- two states are the same to the session, to the terminals, to the script and to the journal, and
-- have as many hands, whose last keys came to the same, and of which only the keys, the editors and
-- whether they are away may differ
pub record LooksAlike (s t : LiveState) : Type 0 where
  pub setting : t.setting ≡ s.setting
  pub standing : t.standing ≡ s.standing
  pub views : t.views ≡ s.views
  pub given : t.given ≡ s.given
  pub unwritten : t.unwritten ≡ s.unwritten
  pub words : t.words ≡ s.words
  pub sent : t.sent ≡ s.sent
  pub hands : length t.crew.players ≡ length s.crew.players
  pub crew : t.crew ≡ record s.crew { players = t.crew.players }

-- the keys and the editors of the hands, the pace, the moment and what calls came to are nothing to
-- these
looks_so : (s : LiveState) (players : List Player) (pace : Pace) (at : ℕ) (came : Losses)
    → length players ≡ length s.crew.players
    → LooksAlike s
    (record s { crew = record s.crew { players = players }; pace = pace; at = at; came = came })
looks_so s players pace at came hands = record {
  setting = refl;
  standing = refl;
  views = refl;
  given = refl;
  unwritten = refl;
  words = refl;
  sent = refl;
  hands = hands;
  crew = refl;
}

-- whether something is not saved is nothing to them either
looks_loose : (s : LiveState) (loose : Bool) → LooksAlike s (record s { loose = loose })
looks_loose s loose = record {
  setting = refl;
  standing = refl;
  views = refl;
  given = refl;
  unwritten = refl;
  words = refl;
  sent = refl;
  hands = refl;
  crew = refl;
}

pub looks_same : (s : LiveState) → LooksAlike s s
looks_same s = looks_so s s.crew.players s.pace s.at s.came refl

-- the editors are fitted
looks_fitted : (s : LiveState) → LooksAlike s (fitted s)
looks_fitted s =
    looks_so s (fitted s).crew.players s.pace s.at s.came
    (length-map s.crew.players (fitted_player (dims_at s)))

-- a name that the grid or the script is saved under: by the key, or at the end
abbrev pub IsSavedName : List ℕ → Setting → Type 0
IsSavedName name set = (name ≡ key_name set) ⊎ (set.save ≡ Some name) ⊎ (set.script ≡ Some name)

-- what may hold of acts from one state to another: by the hand whose bytes came, if any did, and
-- whether they end the performance
abbrev pub Holds : Type 1
Holds = Option ℕ → Option Stop → LiveState → List Act → LiveState → Type 0

-- it holds of a course
abbrev pub Along : Holds → Option ℕ → Course LiveState Stop → LiveState → Type 0
Along holds who c s = holds who c.ending s c.acts c.state

-- what holds of each step, and of two in turn
pub record Carries (holds : Holds) : Type 0 where
  pub none : (who : Option ℕ) (s t : LiveState) → LooksAlike s t → holds who None s [] t
  pub both : (who : Option ℕ) (end : Option Stop) (r s t : LiveState) (xs ys : List Act)
      → holds who None r xs s → holds who end s ys t → holds who end r (xs ++ ys) t
  -- the player leaves, or a frame is due where the history is full
  pub leaves : (who : Option ℕ) (s : LiveState) → holds who (Some Left) s [] s
  pub full : (s : LiveState) → is_full s ≡ true → holds None (Some Full) s [] s
  -- hands that share a session do nothing again that was taken back
  pub command : (hand : ℕ) (command : Command) (s : LiveState)
      → (s.crew.alone ≡ false → command ≢ Redo)
      → Along holds (Some hand) (hand_course hand command s) s
  pub frame : (s : LiveState) → Along holds None (hand_course NOBODY Frame s) s
  pub struck : (who : Option ℕ) (hand : ℕ) (key : Key) (s : LiveState)
      → holds who None s (Strike hand key ∷ []) (struck_well hand key s)
  -- the one key that gives a command where nothing came for a while
  pub single : (hand : ℕ) (s : LiveState)
      → let c = press_course hand (key.Glyph letter_o) s in
      Along holds (Some hand) c s → Along holds None c s
  pub denied : (who : Option ℕ) (hand : ℕ) (denial : Denial) (s : LiveState)
      → holds who None s (telling hand denial ∷ [])
      (with_word hand (Denied (rule_of_denial denial)) s)
  -- by a key
  pub kept : (who : Option ℕ) (hand : ℕ) (bytes : List ℕ) (s : LiveState)
      → holds who None s (Save (key_name s.setting) bytes ∷ []) (with_word hand Kept s)
  -- at the end
  pub save : (who : Option ℕ) (name bytes : List ℕ) (s : LiveState) → IsSavedName name s.setting
      → holds who None s (Save name bytes ∷ []) s
  pub append : (who : Option ℕ) (name : List ℕ) (byte : ℕ) (bytes : List ℕ) (s : LiveState)
      → s.setting.journal ≡ Some name → s.unwritten ≡ byte ∷ bytes
      → holds who None s (Append name (byte ∷ bytes) ∷ []) (record s { unwritten = [] })
  pub paint : (who : Option ℕ) (marks : List MarkSet) (hand : ℕ) (s : LiveState)
      → is_viewer hand s ≡ true → Along holds who (picture_course marks hand s) s
  pub screen : (who : Option ℕ) (hand : ℕ) (d : ScreenSize) (s : LiveState) → IsScreen d
      → holds who None s (Screen hand d ∷ []) (with_view hand (unpainted d) s)

-- the pause
toggled_by : (paused : Bool) (s t : LiveState) → LooksAlike s t
    → LooksAlike s (if paused then s else t)
toggled_by true s t alike = looks_same s
toggled_by false s t alike = alike

toggled_alike : (s : LiveState) → LooksAlike s (toggled s)
toggled_alike s =
    let pace = pace_from s.pace.bpm s.at in
    toggled_by (leader_at s).paused s (record s { pace = pace })
    (looks_so s s.crew.players pace s.at s.came refl)

paced_alike : (bpm : ℕ) (s : LiveState) → LooksAlike s (paced bpm s)
paced_alike bpm s = looks_so s s.crew.players (retimed bpm s.pace) s.at s.came refl

-- a size that is brought into those that a screen may have is one of them
inside_is_screen : (d : ScreenSize) → IsScreen (screen_inside d)
inside_is_screen d = record {
  rows = omega arith;
  few_rows = omega arith;
  columns = omega arith;
  few_columns = omega arith;
}

-- the key Escape asks for nothing, inside a text that is pasted and outside
escape_asks : (c : CrewState) (a : Around) (e : Editor) (flow : Option Flow) → e.flow ≡ flow
    → offered c (wish_of key.Escape a e) ≡ wish.Nothing
escape_asks c a e None is = rw is refl
escape_asks c a e (Some f) is = rw is refl

-- the hand whose byte an item is; where a frame is due it is none's
abbrev pub giver_of : Option ℕ → Item → Option ℕ
giver_of who (item.Byte hand at byte) = Some hand
giver_of who (item.Due at) = None
giver_of who _ = who

-- it holds of a close and of the start of a journal too
abbrev pub Silences : Holds → Type 0
Silences holds = (who : Option ℕ) (s : LiveState) → Along holds who (hush_course s) s

abbrev pub BeginsJournal : Holds → Type 0
BeginsJournal holds =
    (who : Option ℕ) (name : List ℕ) (s : LiveState)
    → holds who None s (Begin name (printed_header s.setting.seed) ∷ []) s

module _ {holds : Holds} (carry : Carries holds) where
  -- ---- courses

  -- from a state that looks alike
  from_alike : (who : Option ℕ) (r s : LiveState) (c : Course LiveState Stop) → LooksAlike r s
      → Along holds who c s → Along holds who c r
  from_alike who r s c alike more =
      carry.both who c.ending r s c.state [] c.acts (carry.none who r s alike) more

  pub onward_carried : (who : Option ℕ) (s : LiveState) (end : Option Stop) (c : Course LiveState Stop)
      (next : LiveState → Course LiveState Stop) → c.ending ≡ end → Along holds who c s
      → ((t : LiveState) → Along holds who (next t) t)
      → Along holds who (onward_by end c next) s
  onward_carried who s None c next is first more =
      let d = next c.state in
      carry.both who d.ending s c.state d.state c.acts d.acts (rw is at first) (more c.state)
  onward_carried who s (Some e) c next is first more = first

  -- the grid is saved
  saved_carried : (who : Option ℕ) (name : List ℕ) (s : LiveState) → IsSavedName name s.setting
      → Along holds who (save_course name s) s
  unfolding save_course
  saved_carried who name s saved =
      let t : LiveState = record s { loose = false } in
      carry.both who None s s t (Save name _ ∷ []) [] (carry.save who name _ s saved)
      (carry.none who s t (looks_loose s false))

  -- by a key
  kept_carried : (who : Option ℕ) (hand : ℕ) (s : LiveState)
      → Along holds who (save_course (key_name s.setting) (with_word hand Kept s)) s
  unfolding save_course
  kept_carried who hand s =
      let t = with_word hand Kept s in
      let u : LiveState = record t { loose = false } in
      carry.both who None s t u (Save _ _ ∷ []) [] (carry.kept who hand _ s)
      (carry.none who t u (looks_loose t false))

  -- ---- keys

  wish_carried : (hand : ℕ) (w : Wish) (s : LiveState)
      → (s.crew.alone ≡ false → w ≢ wish.Do Redo)
      → Along holds (Some hand) (wish_course hand w s) s
  unfolding wish_course
  wish_carried hand wish.Nothing s other = carry.none (Some hand) s s (looks_same s)
  wish_carried hand (wish.Do command) s other =
      carry.command hand command s (λ shared is. other shared (ap wish.Do is))
  wish_carried hand wish.Toggle s other =
      carry.none (Some hand) s (toggled s) (toggled_alike s)
  wish_carried hand wish.Save s other = kept_carried (Some hand) hand s
  wish_carried hand wish.Quit s other = carry.leaves (Some hand) s
  wish_carried hand (wish.Slower beats) s other =
      let bpm = slower beats s.pace.bpm in carry.none (Some hand) s (paced bpm s) (paced_alike bpm s)
  wish_carried hand (wish.Faster beats) s other =
      let bpm = faster beats s.pace.bpm in carry.none (Some hand) s (paced bpm s) (paced_alike bpm s)
  wish_carried hand (wish.Redraw size) s other =
      let d = unwrap_or size (screen_at hand s) in
      carry.screen (Some hand) hand (screen_inside d) s (inside_is_screen d)

  -- a key that is denied closes a page of help
  denied_carried : (who : Option ℕ) (hand : ℕ) (key : Key) (denial : Denial) (s : LiveState)
      → Along holds who (struck_where hand key s (Some denial)) s
  unfolding denied_course
  denied_carried who hand key denial s =
      let t : LiveState = record s { crew = denied_by hand key s.crew } in
      from_alike who s t (denied_course hand denial t)
      (looks_so s t.crew.players s.pace s.at s.came (length-set s.crew.players hand _))
      (carry.denied who hand denial t)

  where_carried : (hand : ℕ) (key : Key) (s : LiveState) (denial : Option Denial)
      → denial_at s.crew hand key (around_at hand key s) ≡ denial
      → Along holds (Some hand) (struck_where hand key s denial) s
  unfolding denied_course
  where_carried hand key s (Some denial) is = denied_carried (Some hand) hand key denial s
  where_carried hand key s None is =
      let around = around_at hand key s in
      let t : LiveState = record s { crew = struck_by hand key around s.crew } in
      let w = asked s.crew hand key around in
      from_alike (Some hand) s t (wish_course hand w t)
      (looks_so s t.crew.players s.pace s.at s.came (length-set s.crew.players hand _))
      (wish_carried hand w t
      (λ shared. asks-no-redo s.crew hand key around w shared
      (ap (λ (denial : Option Denial). option_map_or Err denial (Ok w)) (sym is))))

  -- a key that was ended is struck, where the editors are fitted
  key_carried : (who : Option ℕ) (hand : ℕ) (key : Key) (s : LiveState)
      → ((t : LiveState) → Along holds who (struck_course hand key t) t)
      → Along holds who (press_course hand key s) s
  unfolding press_course key_course
  key_carried who hand key s more =
      let t = struck_well hand key s in
      let c = struck_course hand key (fitted t) in
      carry.both who c.ending s t c.state (Strike hand key ∷ []) c.acts
      (carry.struck who hand key s)
      (from_alike who t (fitted t) c (looks_fitted t) (more (fitted t)))

  pub press_carried : (hand : ℕ) (key : Key) (s : LiveState)
      → Along holds (Some hand) (press_course hand key s) s
  unfolding struck_course
  press_carried hand key s =
      key_carried (Some hand) hand key s
      (λ t. where_carried hand key t (denial_at t.crew hand key (around_at hand key t)) refl)

  keys_carried : (hand : ℕ) (keys : List Key) (s : LiveState)
      → Along holds (Some hand) (keys_course hand keys s) s
  unfolding keys_course each onward
  keys_carried hand [] s = carry.none (Some hand) s s (looks_same s)
  keys_carried hand (key ∷ keys) s =
      let c = press_course hand key s in
      onward_carried (Some hand) s c.ending c (each (press_course hand) keys) refl
      (press_carried hand key s) (keys_carried hand keys)

  -- an ESC that stands alone is a key that asks for nothing
  escape_where : (hand : ℕ) (s : LiveState) (denial : Option Denial)
      → Along holds None (struck_where hand key.Escape s denial) s
  unfolding denied_course wish_course
  escape_where hand s (Some denial) = denied_carried None hand key.Escape denial s
  escape_where hand s None =
      let around = around_at hand key.Escape s in
      let t : LiveState = record s { crew = struck_by hand key.Escape around s.crew } in
      rw (escape_asks s.crew around (editor_at hand s) (editor_at hand s).flow refl)
      (carry.none None s t
      (looks_so s t.crew.players s.pace s.at s.came (length-set s.crew.players hand _)))

  escape_press : (hand : ℕ) (s : LiveState) → Along holds None (press_course hand key.Escape s) s
  unfolding struck_course
  escape_press hand s =
      key_carried None hand key.Escape s
      (λ t. escape_where hand t (denial_at t.crew hand key.Escape (around_at hand key.Escape t)))

  single_press : (hand : ℕ) (s : LiveState)
      → Along holds None (press_course hand (key.Glyph letter_o) s) s
  single_press hand s = carry.single hand s (press_carried hand (key.Glyph letter_o) s)

  -- what is pending of a hand where nothing came for a while
  due_keys : (hand : ℕ) (full : Bool) (p : Pending) (s : LiveState)
      → Along holds None (keys_course hand (turn full p Due).keys s) s
  unfolding turn keys_course each onward
  due_keys hand full Nothing s = carry.none None s s (looks_same s)
  due_keys hand full Lone s =
      let c = press_course hand key.Escape s in
      onward_carried None s c.ending c still refl (escape_press hand s)
      (λ t. carry.none None t t (looks_same t))
  due_keys hand full Single s =
      let c = press_course hand key.Escape s in
      onward_carried None s c.ending c (each (press_course hand) (key.Glyph letter_o ∷ [])) refl
      (escape_press hand s)
      (λ t. let d = press_course hand (key.Glyph letter_o) t in
      onward_carried None t d.ending d still refl (single_press hand t)
      (λ u. carry.none None u u (looks_same u)))
  due_keys hand full (Sequence bytes) s = carry.none None s s (looks_same s)
  due_keys hand full Overlong s = carry.none None s s (looks_same s)
  due_keys hand full Console s = carry.none None s s (looks_same s)

  -- a reader is given an item of the keys
  read_by : (is : Bool) (who : Option ℕ) (hand : ℕ) (item : KeyItem) (s : LiveState)
      → ((t : LiveState)
      → Along holds who
      (keys_course hand (turn s.crew.full (player_at s.crew hand).keys item).keys t) t)
      → Along holds who (if is then read_course hand item s else still s) s
  unfolding read_course
  read_by true who hand item s more =
      let t : LiveState = record s { crew = turned_by hand item s.crew } in
      let keys = (turn s.crew.full (player_at s.crew hand).keys item).keys in
      from_alike who s t (keys_course hand keys t)
      (looks_so s t.crew.players s.pace s.at s.came (length-set s.crew.players hand _)) (more t)
  read_by false who hand item s more = carry.none who s s (looks_same s)

  read_carried : (who : Option ℕ) (hand : ℕ) (item : KeyItem) (s : LiveState)
      → ((t : LiveState)
      → Along holds who
      (keys_course hand (turn s.crew.full (player_at s.crew hand).keys item).keys t) t)
      → Along holds who (item_course hand item s) s
  unfolding item_course
  read_carried who hand item s more = read_by (is_hand hand s) who hand item s more

  -- ---- the clock

  frame_by : (full : Bool) (s : LiveState) → is_full s ≡ full → Along holds None (frame_course s) s
  unfolding frame_course onward
  frame_by true s is = rw is (carry.full s is)
  frame_by false s is =
      let c = hand_course NOBODY Frame s in
      rw is (onward_carried None s c.ending c (λ t. still (fired t)) refl (carry.frame s)
      (λ t. carry.none None t (fired t)
      (looks_so t t.crew.players (fired t).pace t.at t.came refl)))

  lull_by : (text : Bool) (hand : ℕ) (s : LiveState)
      → Along holds None (if text then still s else item_course hand Due s) s
  lull_by true hand s = carry.none None s s (looks_same s)
  lull_by false hand s = read_carried None hand Due s (λ t. due_keys hand _ _ t)

  lull_carried : (hand : ℕ) (s : LiveState) → Along holds None (lull_of hand s) s
  unfolding lull_of
  lull_carried hand s = lull_by (reads_text hand s) hand s

  lulls_carried : (hands : List ℕ) (s : LiveState) → Along holds None (each lull_of hands s) s
  unfolding each onward
  lulls_carried [] s = carry.none None s s (looks_same s)
  lulls_carried (hand ∷ hands) s =
      let c = lull_of hand s in
      onward_carried None s c.ending c (each lull_of hands) refl (lull_carried hand s)
      (lulls_carried hands)

  due_carried : (s : LiveState) → Along holds None (due_course s) s
  unfolding due_course lull_course onward
  due_carried s =
      let c = lull_course s in
      onward_carried None s c.ending c frame_course refl (lulls_carried (hands_in s) s)
      (λ t. frame_by (is_full t) t refl)

  -- ---- what is shown and written

  painted_by : (is : Bool) (who : Option ℕ) (marks : List MarkSet) (hand : ℕ) (s : LiveState)
      → is_painted_for hand s ≡ is
      → Along holds who (if is then picture_course marks hand s else still s) s
  painted_by true who marks hand s is = carry.paint who marks hand s (and_parts _ _ is).0
  painted_by false who marks hand s is = carry.none who s s (looks_same s)

  painted_carried : (who : Option ℕ) (marks : List MarkSet) (hand : ℕ) (s : LiveState)
      → Along holds who (painted_course marks hand s) s
  unfolding painted_course
  painted_carried who marks hand s = painted_by (is_painted_for hand s) who marks hand s refl

  pub paints_carried : (who : Option ℕ) (marks : List MarkSet) (hands : List ℕ) (s : LiveState)
      → Along holds who (each (painted_course marks) hands s) s
  unfolding each onward
  paints_carried who marks [] s = carry.none who s s (looks_same s)
  paints_carried who marks (hand ∷ hands) s =
      let c = painted_course marks hand s in
      onward_carried who s c.ending c (each (painted_course marks) hands) refl
      (painted_carried who marks hand s) (paints_carried who marks hands)

  pub paint_carried : (who : Option ℕ) (marks : List MarkSet) (s : LiveState)
      → Along holds who (paint_course marks s) s
  unfolding paint_course
  paint_carried who marks s =
      from_alike who s (fitted s) (each (painted_course marks) (hands_in s) (fitted s))
      (looks_fitted s) (paints_carried who marks (hands_in s) (fitted s))

  show_carried : (who : Option ℕ) (s : LiveState) → Along holds who (show_course s) s
  unfolding show_course preview_course
  show_carried who s = paint_carried who (preview_of (piece_at s)) s

  added_carried : (who : Option ℕ) (name lines : List ℕ) (s : LiveState)
      → s.setting.journal ≡ Some name → s.unwritten ≡ lines
      → holds who None s (additions name lines) (record s { unwritten = [] })
  added_carried who name [] s named is =
      carry.none who s (record s { unwritten = [] }) (record {
        setting = refl;
        standing = refl;
        views = refl;
        given = refl;
        unwritten = sym is;
        words = refl;
        sent = refl;
        hands = refl;
        crew = refl;
      })
  added_carried who name (byte ∷ lines) s named is = carry.append who name byte lines s named is

  written_by : (who : Option ℕ) (name : Option (List ℕ)) (s : LiveState) → s.setting.journal ≡ name
      → Along holds who (if_named name lines_course s) s
  unfolding lines_course
  written_by who None s named = carry.none who s s (looks_same s)
  written_by who (Some name) s named = added_carried who name s.unwritten s named refl

  pub write_carried : (who : Option ℕ) (s : LiveState) → Along holds who (write_course s) s
  unfolding write_course
  write_carried who s = written_by who s.setting.journal s refl

  begun_by : BeginsJournal holds → (who : Option ℕ) (name : Option (List ℕ)) (s : LiveState)
      → Along holds who (if_named name header_course s) s
  unfolding header_course
  begun_by begins who None s = carry.none who s s (looks_same s)
  begun_by begins who (Some name) s = begins who name s

  journal_carried : BeginsJournal holds → (who : Option ℕ) (s : LiveState)
      → Along holds who (journal_course s) s
  unfolding journal_course
  journal_carried begins who s = begun_by begins who (begun_name s.setting) s

  -- ---- the end

  grid_carried : (who : Option ℕ) (name : Option (List ℕ)) (s : LiveState) → s.setting.save ≡ name
      → Along holds who (if_named name save_course s) s
  grid_carried who None s is = carry.none who s s (looks_same s)
  grid_carried who (Some name) s is = saved_carried who name s (inr (inl is))

  script_carried : (who : Option ℕ) (name : Option (List ℕ)) (s : LiveState) → s.setting.script ≡ name
      → Along holds who (if_named name script_course s) s
  unfolding script_course
  script_carried who None s is = carry.none who s s (looks_same s)
  script_carried who (Some name) s is = carry.save who name _ s (inr (inr is))

  saves_carried : (who : Option ℕ) (s : LiveState) → Along holds who (saves_course s) s
  unfolding saves_course last_grid_course last_script_course onward
  saves_carried who s =
      let c = last_grid_course s in
      onward_carried who s c.ending c last_script_course refl
      (grid_carried who s.setting.save s refl)
      (λ t. script_carried who t.setting.script t refl)

  pub finish_carried : Silences holds → (who : Option ℕ) (s : LiveState)
      → Along holds who (finish_course s) s
  unfolding finish_course onward
  finish_carried silences who s =
      let c = hush_course s in
      let next : LiveState → Course LiveState Stop =
      λ (t : LiveState). onward_by (write_course t).ending (write_course t) saves_course in
      onward_carried who s c.ending c next refl (silences who s)
      (λ t. onward_carried who t (write_course t).ending (write_course t) saves_course refl
      (write_carried who t) (saves_carried who))

  -- ---- items

  -- between the first one and the last
  pub later_carried : (who : Option ℕ) (i : Item) (s : LiveState) → IsInner (Given i)
      → Along holds (giver_of who i) (take_course i s) s
  unfolding take_course byte_course
  later_carried who item.Start s inner = absurd inner
  later_carried who (item.Open came) s inner = absurd inner
  later_carried who (item.Byte hand at byte) s inner =
      let t = answered_at at s in
      from_alike (Some hand) s t (byte_course hand byte t)
      (looks_so s s.crew.players s.pace at s.came refl)
      (read_carried (Some hand) hand (Byte byte) t (λ u. keys_carried hand _ u))
  later_carried who (item.Due at) s inner =
      let t = answered_at at s in
      from_alike None s t (due_course t) (looks_so s s.crew.players s.pace at s.came refl)
      (due_carried t)
  later_carried who item.Settle s inner = write_carried who s
  later_carried who (item.Over came) s inner =
      let t = knowing came s in
      from_alike who s t (show_course t) (looks_so s s.crew.players s.pace s.at came refl)
      (show_carried who t)
  later_carried who (item.Ended ending) s inner = absurd inner

  -- of all but the last
  pub midway_carried : BeginsJournal holds → (who : Option ℕ) (i : Item) (s : LiveState)
      → IsMidway (Given i) → Along holds (giver_of who i) (take_course i s) s
  unfolding take_course
  midway_carried begins who item.Start s midway = journal_carried begins who s
  midway_carried begins who (item.Open came) s midway =
      let t = knowing came s in
      from_alike who s t (paint_course [] t) (looks_so s s.crew.players s.pace s.at came refl)
      (paint_carried who [] t)
  midway_carried begins who (item.Ended ending) s midway = absurd midway
  midway_carried begins who i s midway = later_carried who i s tt

  -- and where it may be
  pub take_carried : BeginsJournal holds → Silences holds → (who : Option ℕ) (i : Item) (s : LiveState)
      → Along holds (giver_of who i) (take_course i s) s
  unfolding take_course
  take_carried begins silences who (item.Ended ending) s = finish_carried silences who s
  take_carried begins silences who i s = midway_carried begins who i s tt
