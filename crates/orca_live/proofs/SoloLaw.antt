-- One hand whose edits are its own plays as one that plays alone: what is done from its states is
-- done from those of one that plays alone too, and it stays such a hand.
use Rattle.std.proofs.Common.{◌≡◌, ◌≢◌, ℕ, zero, suc, arith, length, Bool, true, false, List, [], ◌∷◌, ◌++◌, refl, sym, ◌∙◌, ap, subst}
use Rattle.std.specs.List.{range_with_len}
use Rattle.std.specs.Prelude.{◌+◌, ◌-◌, ◌==◌, ◌&&◌, not, drop, filter, if◌then◌else◌, map, min, slice_get, take, nat_le, nat_lt, Option, Some, None}
use Rattle.std.specs.Option.{option_map, option_map_or}
use Rattle.std.proofs.lemmas.Bool.{le-ltb}
use Rattle.std.proofs.lemmas.List.{length-map, length-set}
use Rattle.std.proofs.lemmas.List.Elements.{All-head, All-tail}
use Rattle.orca_base.specs.declared.command.Command.{Command}
use Rattle.orca_base.specs.declared.command.Command.TheVariants.{Frame, Redo}
use Rattle.orca_base.specs.declared.command.Entry.{Entry}
use Rattle.orca_base.specs.declared.command.Rule.{Rule}
use Rattle.orca_base.specs.declared.limits.TheConstants.{RETRACTED_ENTRIES}
use Rattle.orca_base.specs.declared.place.Place.{Place}
use Rattle.orca_base.specs.MarkSet.{MarkSet}
use Rattle.orca_concert.specs.Concerts.{close_course as silence_course, command_course as obey_course}
use Rattle.orca_course.specs.Acts.Act.{Show, Strike}
use Rattle.orca_course.specs.Courses.{Course, course, each, ended, joined, lastly, lastly_by, mapped, onward, onward_by, still}
use Rattle.orca_course.specs.Performers.{Hearing, Turn, begun, finished, first_turns, given_course, heard_turns, performance, turn_course}
use Rattle.orca_course.specs.Performers.Turn.{Asked, Given, Learned, Over}
use Rattle.orca_course.specs.declared.ending.Ending.{Ending}
use Rattle.orca_course.specs.declared.ending.Ending.TheVariants.{Stopped}
use Rattle.orca_course.specs.declared.ending.Stop.{Stop}
use Rattle.orca_course.specs.declared.ending.Stop.TheVariants.{Full}
use Rattle.orca_course.specs.declared.item.Losses.{Losses}
use Rattle.orca_course.specs.declared.item.Item.{Item}
use Rattle.orca_course.specs.declared.item.Item.TheVariants as item
use Rattle.orca_course.proofs.CuttingLemmas.{Worth, counted, counting}
use Rattle.orca_course.proofs.CuttingLemmas.Worth.{Counts, Nothing}
use Rattle.orca_course.proofs.MidwayLemmas.{AreMidway, IsMidway, all_midway}
use Rattle.orca_edit.specs.Machines.{preview_of}
use Rattle.orca_jam.specs.Crews.{CrewState, asked, cursor_of, denial_of, fitted_player, is_here, last_own, left_player, offered, own_for, player_at, says_away, struck_by, struck_player, tells_nothing, took_by, turned_by, wish_at, with_player}
use Rattle.orca_jam.specs.Laws.{AreLeaders}
use Rattle.orca_jam.specs.Owners.{is_of_other, owned}
use Rattle.orca_jam.specs.declared.crew.TheConstants.{LEADER}
use Rattle.orca_jam.specs.declared.owner.Owner.{Owner}
use Rattle.orca_jam.specs.declared.owner.TheConstants.{NOBODY}
use Rattle.orca_jam.specs.declared.player.Player.{Player}
use Rattle.orca_jam.proofs.LeaderLaws.{leader_is_free, leader_stays_free}
use Rattle.orca_term.specs.Editing.{wish_of}
use Rattle.orca_term.specs.Keys.{Byte, Due, Item as KeyItem, turn}
use Rattle.orca_term.specs.Picture.{picture, scene_of}
use Rattle.orca_term.specs.Viewing.{painting_bytes}
use Rattle.orca_term.specs.declared.around.Around.{Around}
use Rattle.orca_term.specs.declared.cell.Cell.{Cell}
use Rattle.orca_term.specs.declared.editor.Editor.{Editor}
use Rattle.orca_term.specs.declared.editor.Wish.{Wish}
use Rattle.orca_term.specs.declared.editor.Wish.TheVariants as wish
use Rattle.orca_term.specs.declared.flow.Flow.{Flow}
use Rattle.orca_term.specs.declared.keys.Key.{Key}
use Rattle.orca_term.specs.declared.keys.Key.TheVariants as key
use Rattle.orca_live.specs.Items.{ByteOf, HeardItem, items_heard}
use Rattle.orca_live.specs.Performing.{answered_at, byte_course, due_course, finish_course, fired, frame_course, hand_course, header_course, hush_course, if_named, item_course, journal_course, key_course, knowing, last_grid_course, last_script_course, lines_course, live_part, lull_course, lull_of, owning, paint_course, painted_course, picture_course, press_course, preview_course, read_course, save_course, saves_course, script_course, show_course, struck_course, struck_where, take_course, wish_course, write_course, keys_course, painted_editor, struck_well, view_acts}
use Rattle.orca_live.specs.Solo.{HasNoRedo, IsSolo, PlaysAlone, as_alone, redo_byte}
use Rattle.orca_live.specs.States.{LiveState, around_at, begun_name, dims_at, fitted, hands_in, is_full, is_hand, is_painted_for, leader_at, piece_at, reads_text, screen_at, status_line_at, view_at, with_view}
use Rattle.orca_live.proofs.RedoKey.{AreOther, IsSpared, is_redo, turn_other}
use Rattle.orca_live.proofs.WorthLemmas.{all_counted, worth_of}

-- ---- courses

-- a course as it is where the hand plays alone
abbrev lone : {E : Type 0} → Course LiveState E → Course LiveState E
lone c = record c { state = as_alone c.state }

-- the second course is so of the first one, which leaves one hand whose edits are its own
record Agrees {E : Type 0} (c d : Course LiveState E) : Type 0 where
  pub same : d ≡ lone c
  pub solo : IsSolo c.state.crew

agreed : {E : Type 0} (c : Course LiveState E) → IsSolo c.state.crew → Agrees c (lone c)
agreed c solo = record { same = refl; solo = solo }

-- what one hand does, it does if it plays alone
abbrev Alike : {E : Type 0} → (LiveState → Course LiveState E) → Type 0
Alike f = (s : LiveState) → IsSolo s.crew → Agrees (f s) (f (as_alone s))

-- one course after another
joined_agrees : {E : Type 0} {d e : Course LiveState E} (c : Course LiveState E) → Agrees d e
    → Agrees (joined c d) (joined (lone c) e)
joined_agrees {E = E} c rest = record {
  same = ap (λ (e : Course LiveState E). joined (lone c) e) rest.same;
  solo = rest.solo;
}

by_agrees : {E : Type 0} (end : Option E) (c : Course LiveState E)
    (next : LiveState → Course LiveState E) → IsSolo c.state.crew
    → (end ≡ None → Agrees (next c.state) (next (as_alone c.state)))
    → Agrees (onward_by end c next) (onward_by end (lone c) next)
by_agrees None c next solo more = joined_agrees c (more refl)
by_agrees (Some e) c next solo more = agreed c solo

onward_agrees : {E : Type 0} {c d : Course LiveState E} (next : LiveState → Course LiveState E)
    → Agrees c d → (c.ending ≡ None → Alike next) → Agrees (onward c next) (onward d next)
unfolding onward
onward_agrees {E = E} {c = c} next first more =
    let all = by_agrees c.ending c next first.solo (λ on. more on c.state first.solo) in
    record {
      same = ap (λ (d : Course LiveState E). onward_by d.ending d next) first.same ∙ all.same;
      solo = all.solo;
    }

if_agrees : {E : Type 0} {c d e f : Course LiveState E} (b : Bool) → Agrees c d → Agrees e f
    → Agrees (if b then c else e) (if b then d else f)
if_agrees true first second = first
if_agrees false first second = second

mapped_agrees : {E F : Type 0} {c d : Course LiveState E} (g : Option E → Option F) → Agrees c d
    → Agrees (mapped (λ t. t) g c) (mapped (λ t. t) g d)
unfolding mapped
mapped_agrees {E = E} {F = F} g first = record {
  same = ap (λ (c : Course LiveState E). mapped {F = F} (λ (t : LiveState). t) g c) first.same;
  solo = first.solo;
}

named_agrees : (name : Option (List ℕ)) (next : List ℕ → LiveState → Course LiveState Stop)
    → ((name : List ℕ) → Alike (next name)) → Alike (if_named name next)
named_agrees None next agrees s solo = agreed _ solo
named_agrees (Some name) next agrees s solo = agrees name s solo

-- ---- crews

abbrev lone_crew : CrewState → CrewState
lone_crew c = record c { alone = true; views = false; owners = []; room = 0 }

-- a crew with as many players
players_solo : (c : CrewState) (players : List Player) → IsSolo c
    → length players ≡ length c.players → IsSolo (record c { players = players })
players_solo c players solo as_many = record { one = as_many ∙ solo.one; own = solo.own }

fitted_solo : (s : LiveState) → IsSolo s.crew → IsSolo (fitted s).crew
fitted_solo s solo =
    players_solo s.crew _ solo (length-map s.crew.players (fitted_player (dims_at s)))

player_solo : (c : CrewState) (p : Player) → IsSolo c → IsSolo (with_player LEADER p c)
player_solo c p solo = players_solo c _ solo (length-set c.players LEADER p)

-- ---- commands

-- a command of this hand, or of nobody, leaves the edits the first hand's
abbrev IsOwn : ℕ → Command → Type 0
IsOwn who command =
    (owners : List Owner) (n : ℕ) → AreLeaders owners → AreLeaders (owned who command n owners)

if_solo : (b : Bool) (c d : CrewState) → IsSolo c → IsSolo d → IsSolo (if b then c else d)
if_solo true c d first second = first
if_solo false c d first second = second

owning_solo : (who : ℕ) (command : Command) (refused : Option Rule) (n : ℕ) (c : CrewState)
    → IsOwn who command → IsSolo c → IsSolo (owning who command refused n c)
owning_solo who command (Some rule) n c own solo = solo
owning_solo who command None n c own solo =
    if_solo (nat_le n c.room) (took_by who command n c) c
    (if_solo c.alone c _ solo (record { one = solo.one; own = own c.owners n solo.own })) solo

-- of one that plays alone no owners are kept
owning_lone : (who : ℕ) (command : Command) (refused : Option Rule) (n : ℕ) (c : CrewState)
    → owning who command refused n (lone_crew c) ≡ lone_crew (owning who command refused n c)
owning_lone who command refused n c = grind arith

command_agrees : (who : ℕ) (command : Command) → IsOwn who command
    → Alike (hand_course who command)
unfolding hand_course obey_course onward mapped
command_agrees who command own s solo =
    let c = hand_course who command s in
    record {
      same =
          ap (λ (crew : CrewState). record c { state = record c.state { crew = crew } })
          (owning_lone who command _ _ s.crew);
      solo = owning_solo who command _ _ s.crew own solo;
    }

-- ---- keys

toggle_agrees : (paused : Bool) (s t : LiveState) → IsSolo s.crew → IsSolo t.crew
    → Agrees {E = Stop} (still (if paused then s else t))
    (still (if paused then as_alone s else as_alone t))
toggle_agrees true s t first second = agreed _ first
toggle_agrees false s t first second = agreed _ second

wish_agrees : (w : Wish) → Alike (wish_course LEADER w)
unfolding wish_course save_course
wish_agrees wish.Nothing s solo = agreed _ solo
wish_agrees (wish.Do command) s solo =
    command_agrees LEADER command (λ owners n all. (leader_stays_free owners command n all).0) s
    solo
wish_agrees wish.Toggle s solo = toggle_agrees (leader_at s).paused s _ solo solo
wish_agrees wish.Save s solo = agreed _ solo
wish_agrees wish.Quit s solo = agreed _ solo
wish_agrees (wish.Slower beats) s solo = agreed _ solo
wish_agrees (wish.Faster beats) s solo = agreed _ solo
wish_agrees (wish.Redraw size) s solo = agreed _ solo

-- nothing is denied to one that plays alone
lone_free : (c : CrewState) (hand : ℕ) (w : Wish) → denial_of (lone_crew c) hand w ≡ None
unfolding denial_of
lone_free c hand w = refl

-- every wish but that of a redo is offered
abbrev wants_redo : Wish → Bool
wants_redo (wish.Do Redo) = true
wants_redo _ = false

offered_alike : (c : CrewState) (w : Wish) → wants_redo w ≡ false
    → offered (lone_crew c) w ≡ offered c w
offered_alike c w other = grind (arith, other)

-- every key but that of Redo asks for another one
asks_other : (k : Key) (a : Around) (e : Editor) (flow : Option Flow) → e.flow ≡ flow
    → is_redo k ≡ false → wants_redo (wish_of k a e) ≡ false
asks_other k a e None is other = grind (arith, is, other)
asks_other k a e (Some f) is other = grind (arith, is, other)

-- the first hand never goes away
stays : (c : CrewState) (k : Key) → says_away c LEADER k ≡ false
stays c k = by (tells_nothing k) c.views
  where
    by : (nothing views : Bool) → (nothing && (views && not (LEADER == LEADER))) ≡ false
    by true true = refl
    by true false = refl
    by false views = refl

asked_alike : (c : CrewState) (k : Key) (a : Around) → is_redo k ≡ false
    → asked (lone_crew c) LEADER k a ≡ asked c LEADER k a
asked_alike c k a other =
    let e = (player_at c LEADER).editor in
    rw (stays (lone_crew c) k, stays c k)
    (offered_alike c (wish_of k a e) (asks_other k a e e.flow refl other))

-- no edit is another hand's
none_of_others : (owners : List Owner) (moment : ℕ) → AreLeaders owners
    → option_map_or (is_of_other LEADER) (slice_get owners moment) false ≡ false
none_of_others [] moment all = refl
none_of_others (o ∷ owners) zero all =
    by o.edit (All-head (λ (o : Owner). o.edit ≡ true → o.hand ≡ LEADER) o owners all)
  where
    by : (edit : Bool) → (edit ≡ true → o.hand ≡ LEADER) → (edit && not (o.hand == LEADER)) ≡ false
    by true own = rw (own refl) refl
    by false own = refl
none_of_others (o ∷ owners) (suc moment) all =
    none_of_others owners moment (All-tail (λ (o : Owner). o.edit ≡ true → o.hand ≡ LEADER) o owners all)

-- so it may take back the same ones
own_alike : (c : CrewState) (history : List Entry) (end n : ℕ) → AreLeaders c.owners
    → last_own (lone_crew c) LEADER history end n ≡ last_own c LEADER history end n
own_alike c history end zero all = refl
own_alike c history end (suc n) all =
    rw (none_of_others c.owners (end - 1) all, own_alike c history (end - 1) n all) refl

own_for_alike : (k : Key) (c : CrewState) (history : List Entry) → AreLeaders c.owners
    → own_for k (lone_crew c) LEADER history ≡ own_for k c LEADER history
own_for_alike key.Retract c history all =
    own_alike c history (length history) (min (length history) RETRACTED_ENTRIES) all
own_for_alike _ c history all = refl

around_alike : (k : Key) (s : LiveState) → IsSolo s.crew
    → around_at LEADER k (as_alone s) ≡ around_at LEADER k s
around_alike k s solo =
    ap (λ (own : Option ℕ). record (around_at LEADER k s) { own = own })
    (own_for_alike k s.crew s.standing.machine.history solo.own)

-- a key makes the same of it
player_alike : (c : CrewState) (k : Key) (a : Around) (p : Player)
    → (if says_away (lone_crew c) LEADER k then left_player p else struck_player k a p)
    ≡ (if says_away c LEADER k then left_player p else struck_player k a p)
player_alike c k a p = rw (stays (lone_crew c) k, stays c k) refl

where_alike : (k : Key) (s : LiveState) → is_redo k ≡ false → IsSolo s.crew
    → let a = around_at LEADER k s in
    struck_where LEADER k (as_alone s) None
    ≡ wish_course LEADER (asked s.crew LEADER k a)
    (as_alone (record s { crew = struck_by LEADER k a s.crew }))
where_alike k s other solo =
    let c = s.crew in
    let a = around_at LEADER k s in
    ap (λ (b : Around). wish_course LEADER (asked (lone_crew c) LEADER k b)
    (record (as_alone s) { crew = struck_by LEADER k b (lone_crew c) })) (around_alike k s solo)
    ∙ (ap (λ (w : Wish). wish_course LEADER w
    (record (as_alone s) { crew = struck_by LEADER k a (lone_crew c) })) (asked_alike c k a other)
    ∙ ap (λ (p : Player). wish_course LEADER (asked c LEADER k a)
    (record (as_alone s) { crew = with_player LEADER p (lone_crew c) }))
    (player_alike c k a (player_at c LEADER)))

free_agrees : (k : Key) → is_redo k ≡ false → Alike (λ s. struck_where LEADER k s None)
free_agrees k other s solo =
    let a = around_at LEADER k s in
    let t : LiveState = record s { crew = struck_by LEADER k a s.crew } in
    let all = wish_agrees (asked s.crew LEADER k a) t (player_solo s.crew _ solo) in
    record { same = where_alike k s other solo ∙ all.same; solo = all.solo }

struck_agrees : (k : Key) → is_redo k ≡ false → Alike (struck_course LEADER k)
unfolding struck_course
struck_agrees k other s solo =
    let w = wish_at s.crew LEADER k (around_at LEADER k s) in
    let v = wish_at (lone_crew s.crew) LEADER k (around_at LEADER k (as_alone s)) in
    rw (leader_is_free s.crew w solo.own, lone_free s.crew LEADER v) (free_agrees k other s solo)

press_agrees : (k : Key) → is_redo k ≡ false → Alike (press_course LEADER k)
unfolding press_course key_course
press_agrees k other s solo =
    let t = struck_well LEADER k s in
    joined_agrees (course {E = Stop} (Strike LEADER k ∷ []) 0 t)
    (struck_agrees k other (fitted t) (fitted_solo t solo))

keys_agree : (ks : List Key) → AreOther ks → Alike (keys_course LEADER ks)
unfolding keys_course each
keys_agree [] others s solo = agreed _ solo
keys_agree (k ∷ ks) others s solo =
    onward_agrees (each (press_course LEADER) ks) (press_agrees k others.0 s solo)
    (λ on. keys_agree ks others.1)

read_agrees : (item : KeyItem) → IsSpared item → Alike (read_course LEADER item)
unfolding read_course
read_agrees item spared s solo =
    let full = s.crew.full in
    let keys = (player_at s.crew LEADER).keys in
    keys_agree (turn full keys item).keys (turn_other full keys item spared)
    (record s { crew = turned_by LEADER item s.crew }) (player_solo s.crew _ solo)

-- another hand is none of the crew
no_other : (hand : ℕ) (c : CrewState) → IsSolo c → nat_lt (suc hand) (length c.players) ≡ false
no_other hand c solo = le-ltb (suc hand) (length c.players) (omega (arith, solo.one))

item_agrees : (hand : ℕ) (item : KeyItem) → (hand ≡ LEADER → IsSpared item)
    → Alike (item_course hand item)
unfolding item_course
item_agrees zero item spared s solo =
    if_agrees (is_hand LEADER s) (read_agrees item (spared refl) s solo) (agreed (still s) solo)
item_agrees (suc hand) item spared s solo = rw (no_other hand s.crew solo) (agreed (still s) solo)

-- ---- the clock

lull_agrees : (hand : ℕ) → Alike (lull_of hand)
unfolding lull_of
lull_agrees hand s solo =
    if_agrees (reads_text hand s) (agreed (still s) solo) (item_agrees hand Due (λ is. tt) s solo)

lulls_agree : (hands : List ℕ) → Alike (each lull_of hands)
unfolding each
lulls_agree [] s solo = agreed _ solo
lulls_agree (hand ∷ hands) s solo =
    onward_agrees (each lull_of hands) (lull_agrees hand s solo) (λ on. lulls_agree hands)

frame_agrees : Alike frame_course
unfolding frame_course
frame_agrees s solo =
    if_agrees (is_full s) (agreed (ended Full s) solo)
    (onward_agrees (λ (t : LiveState). still (fired t))
    (command_agrees NOBODY Frame (λ owners n all. (leader_stays_free owners Frame n all).1) s solo)
    (λ on t one. agreed (still (fired t)) one))

due_agrees : Alike due_course
unfolding due_course lull_course
due_agrees s solo =
    onward_agrees frame_course (lulls_agree (hands_in s) s solo) (λ on. frame_agrees)

-- ---- what is shown and written

-- one hand has no other one beside it
beside_none : (views : Bool) (players : List Player) → length players ≡ 1
    → (if views
    then map cursor_of (filter is_here (take LEADER players ++ drop (LEADER + 1) players)) else [])
    ≡ []
beside_none false players one = refl
beside_none true [] one = absurd (omega (arith, one))
beside_none true (p ∷ []) one = refl
beside_none true (p ∷ q ∷ players) one = absurd (omega (arith, one))

-- its picture, with these cursors of others
abbrev picture_beside : List MarkSet → LiveState → List Place → List Cell
picture_beside marks s others =
    picture (screen_at LEADER s)
    (scene_of (piece_at s).sheet marks
    (record { editor = painted_editor LEADER s; others = others }))
    s.sent (status_line_at LEADER s)

abbrev painting_beside : List MarkSet → LiveState → List Place → Course LiveState Stop
painting_beside marks s others =
    let v = view_at LEADER s in
    let cells = picture_beside marks s others in
    course (view_acts LEADER (painting_bytes v.screen v.shown cells) ++ Show LEADER cells ∷ []) 0
    (with_view LEADER (record v { shown = Some cells }) s)

picture_agrees : (marks : List MarkSet) → Alike (picture_course marks LEADER)
unfolding picture_course
picture_agrees marks s solo = record {
  same = ap (λ (others : List Place). lone (painting_beside marks s others))
      (sym (beside_none s.crew.views s.crew.players solo.one));
  solo = solo;
}

painted_agrees : (marks : List MarkSet) → Alike (painted_course marks LEADER)
unfolding painted_course
painted_agrees marks s solo =
    if_agrees (is_painted_for LEADER s) (picture_agrees marks s solo) (agreed (still s) solo)

paints_agree : (marks : List MarkSet) → Alike (each (painted_course marks) (LEADER ∷ []))
unfolding each
paints_agree marks s solo =
    onward_agrees {E = Stop} still (painted_agrees marks s solo) (λ on t one. agreed (still t) one)

paint_agrees : (marks : List MarkSet) → Alike (paint_course marks)
unfolding paint_course
paint_agrees marks s solo =
    subst (λ (n : ℕ). Agrees (each (painted_course marks) (range_with_len 0 n) (fitted s))
    (each (painted_course marks) (range_with_len 0 n) (fitted (as_alone s)))) (sym solo.one)
    (paints_agree marks (fitted s) (fitted_solo s solo))

show_agrees : Alike show_course
unfolding show_course preview_course
show_agrees s solo =
    joined_agrees (preview_course s) (paint_agrees (preview_of (piece_at s)) s solo)

write_agrees : Alike write_course
unfolding write_course lines_course
write_agrees s solo =
    named_agrees s.setting.journal lines_course (λ name t one. agreed _ one) s solo

-- ---- the start

journal_agrees : Alike journal_course
unfolding journal_course header_course
journal_agrees s solo =
    named_agrees (begun_name s.setting) header_course (λ name t one. agreed _ one) s solo

-- ---- turns

-- an item is not the byte of the key
abbrev IsNoRedo : HeardItem → Type 0
IsNoRedo item = (hand : ℕ) → item ≢ ByteOf hand redo_byte

-- nor is what an item comes to, which is not the end
take_agrees : (i : Item) (rest : List HeardItem) → IsMidway (Given i)
    → HasNoRedo (counting (worth_of 1 i) rest) → Alike (take_course i)
unfolding take_course byte_course
take_agrees item.Start rest midway none s solo = journal_agrees s solo
take_agrees (item.Open came) rest midway none s solo = paint_agrees [] (knowing came s) solo
take_agrees (item.Byte zero at byte) rest midway none s solo =
    let other = All-head IsNoRedo (ByteOf LEADER byte) rest none in
    item_agrees LEADER (Byte byte) (λ own is. other LEADER (ap (ByteOf LEADER) is))
    (answered_at at s) solo
take_agrees (item.Byte (suc hand) at byte) rest midway none s solo =
    item_agrees (suc hand) (Byte byte) (λ is. absurd cc) (answered_at at s) solo
take_agrees (item.Due at) rest midway none s solo = due_agrees (answered_at at s) solo
take_agrees item.Settle rest midway none s solo = write_agrees s solo
take_agrees (item.Over came) rest midway none s solo = show_agrees (knowing came s) solo
take_agrees (item.Ended ending) rest midway none s solo = absurd midway

-- nor are those after it
none_after : (w : Worth HeardItem) (rest : List HeardItem) → HasNoRedo (counting w rest)
    → HasNoRedo rest
none_after Nothing rest none = none
none_after (Counts item) rest none = All-tail IsNoRedo item rest none

given_agrees : (i : Item) (rest : List HeardItem) → IsMidway (Given i)
    → HasNoRedo (counting (worth_of 1 i) rest) → Alike (given_course live_part i)
unfolding given_course
given_agrees i rest midway none s solo =
    mapped_agrees (option_map Stopped) (take_agrees i rest midway none s solo)

turns_agree : (turns : List Turn) → AreMidway turns → HasNoRedo (counted (worth_of 1) turns)
    → Alike (each (turn_course live_part) turns)
unfolding each turn_course
turns_agree [] midway none s solo = agreed _ solo
turns_agree (Asked poll ∷ turns) midway none s solo =
    onward_agrees (each (turn_course live_part) turns) (agreed _ solo)
    (λ on. turns_agree turns midway.1 none)
turns_agree (Learned came ∷ turns) midway none s solo =
    onward_agrees (each (turn_course live_part) turns) (agreed _ solo)
    (λ on. turns_agree turns midway.1 none)
turns_agree (Given i ∷ turns) midway none s solo =
    let rest = counted (worth_of 1) turns in
    onward_agrees (each (turn_course live_part) turns) (given_agrees i rest midway.0 none s solo)
    (λ on. turns_agree turns midway.1 (none_after (worth_of 1 i) rest none))
turns_agree (Over ending ∷ turns) midway none s solo =
    onward_agrees (each (turn_course live_part) turns) (agreed (ended ending s) solo)
    (λ on. absurd cc)

begun_agrees : (opening : Losses) (heard : List Hearing) → HasNoRedo (items_heard 1 heard)
    → Alike (λ s. begun live_part s opening heard)
unfolding begun
begun_agrees opening heard none s solo =
    turns_agree (first_turns opening ++ heard_turns heard) (all_midway opening heard)
    (subst HasNoRedo (sym (all_counted 1 heard)) none) s solo

-- ---- the end

close_agrees : Alike hush_course
unfolding hush_course silence_course onward mapped
close_agrees s solo = agreed _ solo

grid_agrees : Alike last_grid_course
unfolding last_grid_course save_course
grid_agrees s solo =
    named_agrees s.setting.save save_course (λ name t one. agreed _ one) s solo

script_agrees : Alike last_script_course
unfolding last_script_course script_course
script_agrees s solo =
    named_agrees s.setting.script script_course (λ name t one. agreed _ one) s solo

last_agrees : Alike saves_course
unfolding saves_course
last_agrees s solo = onward_agrees last_script_course (grid_agrees s solo) (λ on. script_agrees)

finish_agrees : Alike finish_course
unfolding finish_course
finish_agrees s solo =
    onward_agrees (λ (t : LiveState). onward (write_course t) saves_course) (close_agrees s solo)
    (λ on t one. onward_agrees saves_course (write_agrees t one) (λ on. last_agrees))

finished_agrees : (end : Option Ending) (c : Course LiveState Ending) → IsSolo c.state.crew
    → Agrees (lastly_by end c (finished live_part)) (lastly_by end (lone c) (finished live_part))
unfolding finished take_course
finished_agrees None c solo = agreed _ solo
finished_agrees (Some e) c solo =
    joined_agrees c (mapped_agrees (λ end. Some e) (finish_agrees c.state solo))

pub plays_alone : PlaysAlone
unfolding performance lastly
plays_alone s came heard solo none =
    let c = begun live_part s came heard in
    let first =
    begun_agrees came heard (subst (λ (n : ℕ). HasNoRedo (items_heard n heard)) solo.one none) s solo
    in
    let same =
    ap (λ (d : Course LiveState Ending). lastly_by d.ending d (finished live_part)) first.same
    ∙ (finished_agrees c.ending c first.solo).same in
    record {
      acts = ap (λ (d : Course LiveState Ending). d.acts) same;
      bill = ap (λ (d : Course LiveState Ending). d.bill) same;
      ending = ap (λ (d : Course LiveState Ending). d.ending) same;
      state = ap (λ (d : Course LiveState Ending). d.state) same;
    }
