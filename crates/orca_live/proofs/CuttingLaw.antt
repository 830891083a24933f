-- How bytes are cut into answers changes no command: performances go by their items.
use Rattle.std.proofs.Common.{◌≡◌, ℕ, zero, suc, length, Bool, true, false, List, [], ◌∷◌, refl, sym, ◌∙◌, ap, subst, arith}
use Rattle.std.specs.Prelude.{if◌then◌else◌, map, nat_lt, slice_index_or, slice_set, Option, Some, None, is_some, unwrap_or}
use Rattle.std.specs.List.{range_with_len}
use Rattle.std.proofs.lemmas.List.{length-map}
use Rattle.std.specs.Option.{option_map_or}
use Rattle.orca_base.specs.declared.command.Command.{Command}
use Rattle.orca_base.specs.declared.command.Command.TheVariants.{Frame}
use Rattle.orca_base.specs.declared.command.Entry.{Entry}
use Rattle.orca_base.specs.declared.command.Entry.TheVariants as entry
use Rattle.orca_base.specs.declared.command.Rule.{Rule}
use Rattle.orca_base.specs.Grids.{Size}
use Rattle.orca_base.specs.MarkSet.{MarkSet}
use Rattle.orca_concert.specs.Concerts.{command_course as obey_course}
use Rattle.orca_course.specs.Acts.{Act, commands_in}
use Rattle.orca_course.specs.Courses.{Course, each, ended, mapped, onward, onward_by, still}
use Rattle.orca_course.specs.Performers.Turn.{Given}
use Rattle.orca_course.specs.Standings.{Standing, refusal_of, standing_closed}
use Rattle.orca_course.specs.declared.ending.Stop.{Stop}
use Rattle.orca_course.specs.declared.ending.Stop.TheVariants.{Full}
use Rattle.orca_course.specs.declared.item.Item.{Item}
use Rattle.orca_course.specs.declared.item.Item.TheVariants as item
use Rattle.orca_course.proofs.ActLemmas.{commands_in-append}
use Rattle.orca_course.proofs.CuttingLemmas.{Brings, ByItems, Told, before, items_alike, quiet, told}
use Rattle.orca_course.proofs.CuttingLemmas.Worth.{Counts, Nothing}
use Rattle.orca_course.proofs.MidwayLemmas.{IsMidway}
use Rattle.orca_edit.specs.Obeying.{MachineState, accept, entry_of, obey, piece_of, refuse, rule_against}
use Rattle.orca_edit.specs.Pieces.{Piece, apply, fold_entries, next_frame, opened_piece, piece_after}
use Rattle.orca_edit.proofs.FoldLemmas.{fold_entries-append, silence-piece_after}
use Rattle.orca_op.specs.Scan.{places, scan}
use Rattle.orca_op.proofs.VisitFacts.{dims_after_places}
use Rattle.orca_op.specs.Rules.{rule}
use Rattle.orca_jam.specs.Crews.{CrewState, asked, denial_at, denied_by, fitted_crew, fitted_player, new_player, player_at, struck_by, turned_by, turned_player}
use Rattle.orca_jam.specs.declared.denial.Denial.{Denial}
use Rattle.orca_jam.specs.declared.owner.TheConstants.{NOBODY}
use Rattle.orca_jam.specs.declared.player.Player.{Player}
use Rattle.orca_term.specs.Keys.{Byte, Due, Item as KeyItem, turn}
use Rattle.orca_term.specs.Picture.{screen_inside}
use Rattle.orca_term.specs.declared.around.Around.{Around}
use Rattle.orca_term.specs.declared.cell.ScreenSize.{ScreenSize}
use Rattle.orca_term.specs.declared.editor.Wish.{Wish}
use Rattle.orca_term.specs.declared.editor.Wish.TheVariants as wish
use Rattle.orca_term.specs.declared.flow.Flow.{Flow}
use Rattle.orca_term.specs.declared.keys.Key.{Key}
use Rattle.orca_term.specs.declared.keys.Pending.{Pending}
use Rattle.orca_live.specs.Carrying.{Carries, midway_carried, press_carried}
use Rattle.orca_live.specs.Items.{ByteOf, FrameDue, HeardItem}
use Rattle.orca_live.specs.Laws.{ItemsDecide, screens_of}
use Rattle.orca_live.specs.Performing.{answered_at, byte_course, denied_course, due_course, fired, frame_course, hand_course, finish_course, item_course, key_course, keys_course, knowing, live_part, lull_course, lull_of, owning, picture_course, press_course, read_course, redrawn, save_course, struck_course, struck_well, struck_where, take_course, wish_course}
use Rattle.orca_live.specs.States.{LiveState, Viewed, around_at, dims_at, fitted, hands_in, is_full, is_hand, leader_at, reads_text, screen_at, unpainted}
use Rattle.orca_live.proofs.GivenLemmas.{IsAside, blank, blank_twice, core, core_plain, core_twice, finish_closes, journal_aside, paint_aside, plain, players_twice, show_aside, write_aside}
use Rattle.orca_live.proofs.WorthLemmas.{all_counted, worth_of}

-- ---- the number of hands

-- it stays
abbrev KeepsHands : LiveState → List Act → LiveState → Type 0
KeepsHands s acts t = length t.crew.players ≡ length s.crew.players

pub owning_hands : (who : ℕ) (c : Command) (refused : Option Rule) (n : ℕ) (crew : CrewState)
    → (owning who c refused n crew).players ≡ crew.players
owning_hands who c refused n crew = grind arith

hands_command : (who : ℕ) (c : Command) (s : LiveState)
    → KeepsHands s (hand_course who c s).acts (hand_course who c s).state
unfolding hand_course obey_course onward mapped
hands_command who c s =
    ap (λ (players : List Player). length players) (owning_hands who c _ _ s.crew)

hands_paint : (marks : List MarkSet) (hand : ℕ) (s : LiveState)
    → KeepsHands s [] (picture_course marks hand s).state
unfolding picture_course
hands_paint marks hand s = refl

hands_carries : Carries (λ who end. KeepsHands)
hands_carries = record {
  none = λ who s t alike. alike.hands;
  both = λ who end r s t xs ys first second. second ∙ first;
  leaves = λ who s. refl;
  full = λ s is. refl;
  command = λ hand command s other. hands_command hand command s;
  frame = λ s. hands_command NOBODY Frame s;
  struck = λ who hand key s. refl;
  single = λ hand s keep. keep;
  denied = λ who hand denial s. refl;
  kept = λ who hand bytes s. refl;
  save = λ who name bytes s saved. refl;
  append = λ who name byte bytes s named is. refl;
  paint = λ who marks hand s is. hands_paint marks hand s;
  screen = λ who hand d s is. refl;
}

hands_keep : (i : Item) (s : LiveState) → IsMidway (Given i)
    → length (take_course i s).state.crew.players ≡ length s.crew.players
hands_keep i s midway = midway_carried hands_carries (λ who name s. refl) None i s midway

pub press_hands : (hand : ℕ) (key : Key) (s : LiveState)
    → length (press_course hand key s).state.crew.players ≡ length s.crew.players
press_hands hand key s = press_carried hands_carries hand key s

-- it reads of a state only what matters
abbrev Steady : (LiveState → Course LiveState Stop) → Type 0
Steady f = (s : LiveState) → told core (f s) ≡ told core (f (core s))

-- ---- keys

-- a pause changes the pace alone
either_core : (b : Bool) (s t : LiveState) → core s ≡ core t → core (if b then s else t) ≡ core s
either_core true s t same = refl
either_core false s t same = sym same

-- what is shown of a screen is nothing to its size
screen_blank : (views : List Viewed) (hand : ℕ) (other : Viewed)
    → (slice_index_or (blank views) hand other).screen ≡ (slice_index_or views hand other).screen
screen_blank [] hand other = refl
screen_blank (v ∷ views) zero other = refl
screen_blank (v ∷ views) (suc hand) other = screen_blank views hand other

screen_plain : (hand : ℕ) (s : LiveState) → screen_at hand (plain s) ≡ screen_at hand s
screen_plain hand s = screen_blank s.views hand (unpainted s.setting.screen)

around_plain : (hand : ℕ) (key : Key) (s : LiveState)
    → around_at hand key (plain s) ≡ around_at hand key s
around_plain hand key s =
    ap (λ (d : ScreenSize). record (around_at hand key s) { screen = d }) (screen_plain hand s)

blank_set : (views : List Viewed) (hand : ℕ) (v : Viewed)
    → blank (slice_set (blank views) hand v) ≡ blank (slice_set views hand v)
blank_set [] hand v = refl
blank_set (w ∷ views) zero v =
    ap (λ (rest : List Viewed). unpainted v.screen ∷ rest) (blank_twice views)
blank_set (w ∷ views) (suc hand) v =
    ap (λ (rest : List Viewed). unpainted w.screen ∷ rest) (blank_set views hand v)

redrawn_plain : (hand : ℕ) (d : ScreenSize) (s : LiveState)
    → told core (redrawn hand d s) ≡ told core (redrawn hand d (plain s))
redrawn_plain hand d s =
    ap (λ (views : List Viewed). quiet false (record (core s) { views = views }))
    (sym (blank_set s.views hand (unpainted d)))

-- the same, where this is shown
abbrev shown_as : Told LiveState → List Viewed → Told LiveState
shown_as x views = record x { state = record x.state { views = views } }

wish_plain : (hand : ℕ) (w : Wish) (s : LiveState)
    → told core (wish_course hand w s) ≡ told core (wish_course hand w (plain s))
unfolding wish_course save_course hand_course obey_course onward mapped
wish_plain hand wish.Toggle s =
    ap (quiet false)
    (either_core (leader_at s).paused s _ refl
    ∙ (sym (core_plain s) ∙ sym (either_core (leader_at s).paused (plain s) _ refl)))
wish_plain hand (wish.Redraw size) s =
    redrawn_plain hand (screen_inside (unwrap_or size (screen_at hand s))) s
    ∙ ap (λ (d : ScreenSize). told core (redrawn hand (screen_inside (unwrap_or size d)) (plain s)))
    (sym (screen_plain hand s))
wish_plain hand w s =
    ap (shown_as (told core (wish_course hand w s))) (sym (blank_twice s.views))

where_plain : (hand : ℕ) (key : Key) (s : LiveState) (denial : Option Denial)
    → told core (struck_where hand key s denial) ≡ told core (struck_where hand key (plain s) denial)
unfolding denied_course
where_plain hand key s (Some denial) =
    let t : LiveState = record s { crew = denied_by hand key s.crew } in
    ap (shown_as (told core (denied_course hand denial t))) (sym (blank_twice s.views))
where_plain hand key s None =
    let around = around_at hand key s in
    wish_plain hand (asked s.crew hand key around)
    (record s { crew = struck_by hand key around s.crew })
    ∙ ap (λ (a : Around).
    told core (wish_course hand (asked s.crew hand key a)
    (record (plain s) { crew = struck_by hand key a s.crew })))
    (sym (around_plain hand key s))

press_plain : (hand : ℕ) (key : Key) (s : LiveState)
    → told core (press_course hand key s) ≡ told core (struck_course hand key (core s))
unfolding press_course key_course struck_course
press_plain hand key s =
    let t = fitted (struck_well hand key s) in
    where_plain hand key t (denial_at t.crew hand key (around_at hand key t))
    ∙ ap (λ (a : Around).
    told core (struck_where hand key (plain t) (denial_at t.crew hand key a)))
    (sym (around_plain hand key t))

press_steady : (hand : ℕ) (key : Key) → Steady (press_course hand key)
press_steady hand key s =
    press_plain hand key s
    ∙ (ap (λ u. told core (struck_course hand key u)) (sym (core_twice s))
    ∙ sym (press_plain hand key (core s)))

-- one course after another, all of it told
abbrev follow : Told LiveState → (LiveState → Told LiveState) → Told LiveState
follow x g = if x.over then x else before x.commands (g x.state)

followed_by : (end : Option Stop) (c : Course LiveState Stop)
    (f : LiveState → Course LiveState Stop) (h : LiveState → Told LiveState)
    → c.ending ≡ end → told core (f c.state) ≡ h (core c.state)
    → told core (onward_by end c f) ≡ follow (told core c) h
followed_by None c f h is more =
    let d = f c.state in
    rw is (ap (λ xs. record (told core d) { commands = xs }) (commands_in-append c.acts d.acts)
    ∙ ap (before (commands_in c.acts)) more)
followed_by (Some e) c f h is more = rw is refl

onward_steady : (f g : LiveState → Course LiveState Stop) → Steady f → Steady g
    → Steady (λ s. onward (f s) g)
unfolding onward
onward_steady f g first second s =
    let h : LiveState → Told LiveState = λ t. told core (g t) in
    followed_by (f s).ending (f s) g h refl (second (f s).state)
    ∙ (ap (λ (x : Told LiveState). follow x h) (first s)
    ∙ sym (followed_by (f (core s)).ending (f (core s)) g h refl (second (f (core s)).state)))

keys_steady : (hand : ℕ) (keys : List Key) → Steady (keys_course hand keys)
unfolding keys_course each
keys_steady hand [] s = ap (quiet false) (sym (core_twice s))
keys_steady hand (key ∷ keys) s =
    onward_steady (press_course hand key) (each (press_course hand) keys) (press_steady hand key)
    (keys_steady hand keys) s

-- fitting a player moves nothing of its keys
pub keys_fitted : (d : Size) (players : List Player) (hand : ℕ)
    → (slice_index_or (map (fitted_player d) players) hand (new_player false)).keys
    ≡ (slice_index_or players hand (new_player false)).keys
keys_fitted d [] hand = refl
keys_fitted d (p ∷ players) zero = refl
keys_fitted d (p ∷ players) (suc hand) = keys_fitted d players hand

-- and reading a key moves nothing of its editor
turned_fitted : (d : Size) (full : Bool) (item : KeyItem) (players : List Player) (hand : ℕ)
    → let fit = map (fitted_player d) in
    fit (slice_set players hand
    (turned_player full item (slice_index_or players hand (new_player false))))
    ≡ slice_set (fit players) hand
    (turned_player full item (slice_index_or (fit players) hand (new_player false)))
turned_fitted d full item [] hand = refl
turned_fitted d full item (p ∷ players) zero = refl
turned_fitted d full item (p ∷ players) (suc hand) =
    ap (λ (rest : List Player). fitted_player d p ∷ rest) (turned_fitted d full item players hand)

read_steady : (hand : ℕ) (item : KeyItem) → Steady (read_course hand item)
unfolding read_course
read_steady hand item s =
    let full = s.crew.full in
    let d = dims_at s in
    let t = core s in
    keys_steady hand (turn full (player_at s.crew hand).keys item).keys
    (record s { crew = turned_by hand item s.crew })
    ∙ (ap (λ (players : List Player).
    told core (keys_course hand (turn full (player_at s.crew hand).keys item).keys
    (record t { crew = record t.crew { players = players } })))
    (turned_fitted d full item s.crew.players hand)
    ∙ ap (λ (keys : Pending). told core (keys_course hand (turn full keys item).keys
    (record t { crew = turned_by hand item t.crew })))
    (sym (keys_fitted d s.crew.players hand)))

-- there are as many hands, however their editors are fitted
same_hands : (s : LiveState) → length (core s).crew.players ≡ length s.crew.players
same_hands s = length-map s.crew.players (fitted_player (dims_at s))

item_by : (is : Bool) (hand : ℕ) (item : KeyItem)
    → Steady (λ s. if is then read_course hand item s else still s)
item_by true hand item s = read_steady hand item s
item_by false hand item s = ap (quiet false) (sym (core_twice s))

item_steady : (hand : ℕ) (item : KeyItem) → Steady (item_course hand item)
unfolding item_course
item_steady hand item s =
    item_by (is_hand hand s) hand item s
    ∙ ap (λ (hands : ℕ). told core (if nat_lt hand hands then read_course hand item (core s)
    else still (core s))) (sym (same_hands s))

-- nor of whether a text is read
text_fitted : (d : Size) (players : List Player) (hand : ℕ)
    → (slice_index_or (map (fitted_player d) players) hand (new_player false)).editor.flow
    ≡ (slice_index_or players hand (new_player false)).editor.flow
text_fitted d [] hand = refl
text_fitted d (p ∷ players) zero = refl
text_fitted d (p ∷ players) (suc hand) = text_fitted d players hand

lull_by : (text : Bool) (hand : ℕ) → Steady (λ s. if text then still s else item_course hand Due s)
lull_by true hand s = ap (quiet false) (sym (core_twice s))
lull_by false hand s = item_steady hand Due s

lull_steady : (hand : ℕ) → Steady (lull_of hand)
unfolding lull_of
lull_steady hand s =
    lull_by (reads_text hand s) hand s
    ∙ ap (λ (flow : Option Flow).
    told core (if is_some flow then still (core s) else item_course hand Due (core s)))
    (sym (text_fitted (dims_at s) s.crew.players hand))

-- nothing came of each of these hands
lulls_steady : (hands : List ℕ) → Steady (each lull_of hands)
unfolding each
lulls_steady [] s = ap (quiet false) (sym (core_twice s))
lulls_steady (hand ∷ hands) s =
    onward_steady (lull_of hand) (each lull_of hands) (lull_steady hand) (lulls_steady hands) s

all_steady : Steady lull_course
unfolding lull_course
all_steady s =
    lulls_steady (hands_in s) s
    ∙ ap (λ (hands : ℕ). told core (each lull_of (range_with_len 0 hands) (core s)))
    (sym (same_hands s))

-- ---- frames

-- a frame keeps the size of the grid
played_dims : (p : Piece) → (apply p entry.Frame).piece.sheet.dims ≡ p.sheet.dims
unfolding apply scan
played_dims p = dims_after_places rule (places p.sheet) p.sheet (next_frame p)

-- notes do not matter to it
folded_dims : (m : MachineState) (history : List Entry)
    → (piece_after m.opened m.seed history m.closed).sheet.dims
    ≡ (fold_entries (opened_piece m.opened m.seed) history).sheet.dims
folded_dims m history =
    ap (λ (p : Piece). p.sheet.dims) (silence-piece_after m.opened m.seed history m.closed)

obeyed_dims : (m : MachineState) (against : Option Rule)
    → (piece_of (option_map_or (refuse m) against (accept m Frame)).machine).sheet.dims
    ≡ (piece_of m).sheet.dims
unfolding accept entry_of
obeyed_dims m None = simp (folded_dims, fold_entries-append, played_dims)
obeyed_dims m (Some rule) = refl

frame_dims : (m : MachineState)
    → (piece_of (obey m Frame).machine).sheet.dims ≡ (piece_of m).sheet.dims
unfolding obey
frame_dims m = obeyed_dims m (rule_against m Frame)

-- whose the entries are is nothing to the editors
owned_fitted : (d : Size) (who : ℕ) (c : Command) (refused : Option Rule) (n : ℕ) (crew : CrewState)
    → fitted_crew d (owning who c refused n crew) ≡ owning who c refused n (fitted_crew d crew)
owned_fitted d who c refused n crew = grind arith

owned_twice : (d : Size) (who : ℕ) (c : Command) (refused : Option Rule) (n : ℕ) (crew : CrewState)
    → fitted_crew d (owning who c refused n (fitted_crew d crew))
    ≡ owning who c refused n (fitted_crew d crew)
owned_twice d who c refused n crew =
    owned_fitted d who c refused n (fitted_crew d crew)
    ∙ ap (λ (players : List Player). owning who c refused n (record crew { players = players }))
    (players_twice d crew.players)

-- what is told of a frame, after which the hands are these, and this is shown
abbrev frame_told : LiveState → List Viewed → CrewState → Told LiveState
frame_told s views crew =
    let c : Course LiveState Stop =
    onward (hand_course NOBODY Frame s) (λ (t : LiveState). still (fired t)) in
    record (told core c) { state = record (plain c.state) { crew = crew; views = views } }

-- so an editor that fits it goes on to do so
frame_by : (full : Bool)
    → Steady (λ s. if full then ended Full s
    else onward (hand_course NOBODY Frame s) (λ t. still (fired t)))
unfolding hand_course obey_course onward mapped
frame_by true s = ap (quiet true) (sym (core_twice s))
frame_by false s =
    let o = obey s.standing.machine Frame in
    let crew = owning NOBODY Frame (refusal_of o.answer) (length o.machine.history) in
    let c : Course LiveState Stop =
    onward (hand_course NOBODY Frame s) (λ (t : LiveState). still (fired t)) in
    ap (λ (views : List Viewed). frame_told s views (told core c).state.crew)
    (sym (blank_twice s.views))
    ∙ ap (frame_told s (blank (blank s.views)))
    (ap (λ (d : Size). fitted_crew d (crew s.crew)) (frame_dims s.standing.machine)
    ∙ (owned_fitted (dims_at s) NOBODY Frame (refusal_of o.answer) (length o.machine.history) s.crew
    ∙ sym (ap (λ (d : Size). fitted_crew d (crew (fitted s).crew)) (frame_dims s.standing.machine)
    ∙ owned_twice (dims_at s) NOBODY Frame (refusal_of o.answer) (length o.machine.history) s.crew)))

frame_steady : Steady frame_course
unfolding frame_course
frame_steady s = frame_by (is_full s) s

due_steady : Steady due_course
unfolding due_course
due_steady = onward_steady lull_course frame_course all_steady frame_steady

-- ---- items

-- what one does, as far as it is told
abbrev does : HeardItem → LiveState → Told LiveState
does (ByteOf hand byte) s = told core (byte_course hand byte s)
does FrameDue s = told core (due_course s)

-- what comes first, and what comes after an answer, change nothing that matters
aside_told : (s : LiveState) (c : Course LiveState Stop) → IsAside s c
    → told core c ≡ quiet false (core s)
aside_told s c aside = cc (aside.commands, aside.same, aside.goes)

-- what comes of a hand that there is not is dropped
dropped : (hand : ℕ) (item : KeyItem) (s : LiveState) → is_hand hand s ≡ false
    → item_course hand item s ≡ still s
unfolding item_course
dropped hand item s off = rw off refl

byte_brings : (is : Bool) (hand at byte : ℕ) (s : LiveState) → is_hand hand s ≡ is
    → Brings core does (if is then Counts (ByteOf hand byte) else Nothing)
    (told core (take_course (item.Byte hand at byte) s)) s
unfolding take_course byte_course
byte_brings true hand at byte s is = item_steady hand (Byte byte) (answered_at at s)
byte_brings false hand at byte s off =
    ap (told core) (dropped hand (Byte byte) (answered_at at s) off)

brings_by : (hands : ℕ) (i : Item) (s : LiveState) → IsMidway (Given i)
    → length s.crew.players ≡ hands
    → Brings core does (worth_of hands i) (told core (take_course i s)) s
unfolding take_course
brings_by hands item.Start s midway are = aside_told s _ (journal_aside s)
brings_by hands (item.Open came) s midway are =
    aside_told (knowing came s) _ (paint_aside [] (knowing came s))
brings_by hands (item.Byte hand at byte) s midway are =
    subst (λ (n : ℕ). Brings core does (worth_of n (item.Byte hand at byte))
    (told core (take_course (item.Byte hand at byte) s)) s)
    are (byte_brings (is_hand hand s) hand at byte s refl)
brings_by hands (item.Due at) s midway are = due_steady (answered_at at s)
brings_by hands item.Settle s midway are = aside_told s _ (write_aside s)
brings_by hands (item.Over came) s midway are =
    aside_told (knowing came s) _ (show_aside (knowing came s))
brings_by hands (item.Ended ending) s midway are = absurd midway

-- what is seen at last
abbrev seen : LiveState → Standing × Option (List Command)
seen s = (s.standing, s.given)

last_silent : (s : LiveState) → commands_in (finish_course s).acts ≡ []
last_silent s = (finish_closes s).commands []

last_seen : (s : LiveState)
    → seen (finish_course s).state ≡ (standing_closed s.standing, s.given)
last_seen s = let closes = finish_closes s in cc (closes.standing, closes.given)

live_items : (hands : ℕ)
    → ByItems (worth_of hands) live_part core (λ s. length s.crew.players ≡ hands) seen
unfolding take_course
live_items hands = record {
  does = does;
  last = λ s. (standing_closed s.standing, s.given);
  keeping = λ i s midway are. hands_keep i s midway ∙ are;
  brings = brings_by hands;
  silent = λ ending s. last_silent s;
  sees = λ ending s. last_seen s;
}

blank_screens : (views : List Viewed) → blank views ≡ map unpainted (screens_of views)
blank_screens [] = refl
blank_screens (v ∷ views) =
    ap (λ (rest : List Viewed). unpainted v.screen ∷ rest) (blank_screens views)

pub items_decide : ItemsDecide
items_decide opening other heard others s t items same ends others_end =
    let hands = length s.crew.players in
    let views : blank s.views ≡ blank t.views =
    blank_screens s.views ∙ (ap (λ (ds : List ScreenSize). map unpainted ds) same.screens
    ∙ sym (blank_screens t.views)) in
    let alike : core s ≡ core t = cc in
    let play = items_alike (worth_of hands) live_part core (λ u. length u.crew.players ≡ hands) seen
    (live_items hands) s t opening other heard others refl
    (ap (λ (crew : CrewState). length crew.players) (sym same.crew))
    (all_counted hands heard ∙ (items ∙ sym (all_counted hands others))) alike ends others_end in
    record {
      standing = ap (λ (x : Standing × Option (List Command)). x.0) play.seen;
      given = ap (λ (x : Standing × Option (List Command)). x.1) play.seen;
      commands = play.commands;
    }
