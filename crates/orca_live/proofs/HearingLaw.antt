-- The reader of each hand stands where its own bytes and the due frames have left it, and the keys
-- that these have ended are those that it struck, and moved its editor.
use Rattle.std.proofs.Common.{◌≡◌, ℕ, zero, suc, ◌+◌, ◌<◌, ◌≤◌, Bool, true, false, List, [], ◌∷◌, ◌++◌, length, refl, sym, ◌∙◌, ap, subst, arith, append_assoc, append-nil}
use Rattle.std.specs.Prelude.{if◌then◌else◌, ◌==◌, ◌&&◌, not, nat_lt, slice_index_or, slice_set, Option, Some, None}
use Rattle.std.specs.List.{flat_map, range_with_len}
use Rattle.std.specs.Option.{option_map}
use Rattle.std.proofs.lemmas.Bool.{eqb-true, eqb-false, ltb-true}
use Rattle.std.proofs.lemmas.Bool.Decides.{nat_tests}
use Rattle.std.proofs.lemmas.Option.{none-some}
use Rattle.std.proofs.lemmas.List.{get_or-set_other, get_or-set_same, length-map, length-set}
use Rattle.orca_base.specs.declared.command.Command.{Command}
use Rattle.orca_base.specs.declared.command.Command.TheVariants.{Frame}
use Rattle.orca_base.specs.declared.command.Rule.{Rule}
use Rattle.orca_concert.specs.Concerts.{command_course as obey_course}
use Rattle.orca_course.specs.Acts.{Act, keys_in}
use Rattle.orca_course.specs.Acts.Act.{Await, Learn}
use Rattle.orca_course.specs.Courses.{Course, course, each, ended, mapped, onward, still}
use Rattle.orca_course.specs.Performers.{Hearing, Turn, begun, first_turns, given_course, heard_turns, turn_course}
use Rattle.orca_course.specs.Performers.Turn.{Asked, Given, Learned, Over}
use Rattle.orca_course.specs.declared.ending.Ending.{Ending}
use Rattle.orca_course.specs.declared.ending.Ending.TheVariants.{Stopped}
use Rattle.orca_course.specs.declared.ending.Stop.{Stop}
use Rattle.orca_course.specs.declared.ending.Stop.TheVariants.{Full}
use Rattle.orca_course.specs.declared.item.Losses.{Losses}
use Rattle.orca_course.specs.declared.item.Item.{Item}
use Rattle.orca_course.specs.declared.item.Item.TheVariants as item
use Rattle.orca_course.proofs.CourseLemmas.{each-holds, goes_both, onward_goes}
use Rattle.orca_course.proofs.CuttingLemmas.{Worth, counted, counting}
use Rattle.orca_course.proofs.CuttingLemmas.Worth.{Counts, Nothing}
use Rattle.orca_course.proofs.MidwayLemmas.{AreMidway, IsMidway, all_midway}
use Rattle.orca_jam.specs.Crews.{CrewState, asked, denial_at, denied_by, left_player, may_leave, new_player, player_at, says_away, struck_by, struck_player, turned_by, turned_player}
use Rattle.orca_jam.specs.declared.crew.TheConstants.{LEADER}
use Rattle.orca_jam.specs.declared.denial.Denial.{Denial}
use Rattle.orca_jam.specs.declared.owner.TheConstants.{NOBODY}
use Rattle.orca_jam.specs.declared.player.Player.{Player}
use Rattle.orca_term.specs.Keys.{Byte, Due, Item as KeyItem, turn}
use Rattle.orca_term.specs.declared.around.Around.{Around}
use Rattle.orca_term.specs.declared.editor.Wish.{Wish}
use Rattle.orca_term.specs.declared.editor.Wish.TheVariants as wish
use Rattle.orca_term.specs.declared.keys.Key.{Key}
use Rattle.orca_term.specs.declared.keys.Pending.{Pending}
use Rattle.orca_live.specs.Hands.{EachIsHeard, IsMadeBy, Mode, Reader, ended_by, item_for, keys_by, mode_at, reader_after, reader_at, reader_by, text_by}
use Rattle.orca_live.specs.Items.{ByteOf, FrameDue, HeardItem, items_heard}
use Rattle.orca_live.specs.Laws.{so_far}
use Rattle.orca_live.specs.Performing.{answered_at, byte_course, denied_course, due_course, fired, frame_course, hand_course, item_course, key_course, keys_course, knowing, live_part, lull_course, lull_of, owning, press_course, read_course, save_course, struck_course, struck_well, struck_where, take_course, wish_course}
use Rattle.orca_live.specs.States.{LiveState, around_at, dims_at, editor_at, fitted, hands_in, is_full, is_hand, leader_at, reads_text}
use Rattle.orca_live.proofs.CuttingLaw.{keys_fitted, owning_hands}
use Rattle.orca_live.proofs.GivenLemmas.{IsAside, core, journal_aside, paint_aside, show_aside, write_aside}
use Rattle.orca_live.proofs.ScriptLaw.{obeys_commands}
use Rattle.orca_live.proofs.StrikingLemmas.{IsSilent, Strikes, owning_views, text_by-append, frame_strikes, journal_silent, paint_silent, read_other, read_own, show_silent, strikes_same, strikes_twice, write_silent}
use Rattle.orca_live.proofs.WorthLemmas.{all_counted, worth_of}

-- ---- what a reader makes of items

reader_by-append : (m : Mode) (hand : ℕ) (r : Reader) (xs ys : List HeardItem)
    → reader_by m hand r (xs ++ ys) ≡ reader_by m hand (reader_by m hand r xs) ys
reader_by-append m hand r [] ys = refl
reader_by-append m hand r (x ∷ xs) ys =
    reader_by-append m hand (reader_after m r (item_for hand r x)) xs ys

keys_by-append : (m : Mode) (hand : ℕ) (r : Reader) (xs ys : List HeardItem)
    → keys_by m hand r (xs ++ ys)
    ≡ keys_by m hand r xs ++ keys_by m hand (reader_by m hand r xs) ys
keys_by-append m hand r [] ys = refl
keys_by-append m hand r (x ∷ xs) ys =
    let i = item_for hand r x in
    let q = reader_after m r i in
    ap (λ (keys : List Key). ended_by m r i ++ keys) (keys_by-append m hand q xs ys)
    ∙ sym (append_assoc (ended_by m r i) (keys_by m hand q xs) _)

-- the keys that a reader ended say whether it reads a text
text_read : (m : Mode) (r : Reader) (i : Option KeyItem)
    → text_by m.leaves r.text (ended_by m r i) ≡ (reader_after m r i).text
text_read m r None = refl
text_read m r (Some item) = refl

text_heard : (m : Mode) (hand : ℕ) (r : Reader) (xs : List HeardItem)
    → text_by m.leaves r.text (keys_by m hand r xs) ≡ (reader_by m hand r xs).text
text_heard m hand r [] = refl
text_heard m hand r (x ∷ xs) =
    let i = item_for hand r x in
    let q = reader_after m r i in
    let more = keys_by m hand q xs in
    text_by-append m.leaves (ended_by m r i) more r.text
    ∙ (ap (λ (text : Bool). text_by m.leaves text more) (text_read m r i) ∙ text_heard m hand q xs)

-- from one state to another this came to be pending of a hand, and which keys are read and the
-- number of hands are as they were
record Reads (hand : ℕ) (pending : Pending) (s t : LiveState) : Type 0 where
  pub full : t.crew.full ≡ s.crew.full
  pub views : t.crew.views ≡ s.crew.views
  pub hands : length t.crew.players ≡ length s.crew.players
  pub keys : (player_at t.crew hand).keys ≡ pending

-- nothing came of it
abbrev ReadsOn : ℕ → LiveState → LiveState → Type 0
ReadsOn hand s t = Reads hand (player_at s.crew hand).keys s t

-- its reader went over these items, and among acts it struck the keys that they have ended
record Hears (hand : ℕ) (items : List HeardItem) (s : LiveState) (acts : List Act) (t : LiveState)
    : Type 0 where
  pub reads : Reads hand (reader_by (mode_at hand s) hand (reader_at hand s) items).pending s t
  pub strikes : Strikes hand (keys_by (mode_at hand s) hand (reader_at hand s) items) s acts t

reads_on : (hand : ℕ) (p : Pending) (r s t : LiveState) → Reads hand p r s → ReadsOn hand s t
    → Reads hand p r t
reads_on hand p r s t first second = record {
  full = second.full ∙ first.full;
  views = second.views ∙ first.views;
  hands = second.hands ∙ first.hands;
  keys = second.keys ∙ first.keys;
}

-- so its bytes are read in the same way
same_mode : (hand : ℕ) (p : Pending) (s t : LiveState) → Reads hand p s t
    → mode_at hand t ≡ mode_at hand s
same_mode hand p s t reads =
    ap (λ (full : Bool). record { full = full; leaves = may_leave t.crew hand }) reads.full
    ∙ ap (λ (views : Bool). let m : Mode = record {
      full = s.crew.full;
      leaves = views && not (hand == LEADER);
    } in m) reads.views

-- so the reader stands where they have left it
heard_reader : (hand : ℕ) (items : List HeardItem) (s : LiveState) (acts : List Act) (t : LiveState)
    → Hears hand items s acts t
    → reader_at hand t ≡ reader_by (mode_at hand s) hand (reader_at hand s) items
heard_reader hand items s acts t hears =
    let r = reader_at hand s in
    let q = reader_by (mode_at hand s) hand r items in
    let text = hears.strikes.moves.text ∙ text_heard (mode_at hand s) hand r items in
    ap (λ (p : Pending). record (reader_at hand t) { pending = p }) hears.reads.keys
    ∙ ap (λ (text : Bool). record q { text = text }) text

hears_twice : (hand : ℕ) (xs ys : List HeardItem) (r s t : LiveState) (begun more : List Act)
    → Hears hand xs r begun s → Hears hand ys s more t → Hears hand (xs ++ ys) r (begun ++ more) t
hears_twice hand xs ys r s t begun more first second =
    let m = mode_at hand r in
    let q = reader_at hand r in
    let before = keys_by m hand q xs in
    let there = heard_reader hand xs r begun s first in
    let mode = same_mode hand _ r s first.reads in
    let later : keys_by (mode_at hand s) hand (reader_at hand s) ys
    ≡ keys_by m hand (reader_by m hand q xs) ys =
    ap (λ (n : Mode). keys_by n hand (reader_at hand s) ys) mode
    ∙ ap (λ (p : Reader). keys_by m hand p ys) there in
    let moved : reader_by (mode_at hand s) hand (reader_at hand s) ys
    ≡ reader_by m hand q (xs ++ ys) =
    ap (λ (n : Mode). reader_by n hand (reader_at hand s) ys) mode
    ∙ (ap (λ (p : Reader). reader_by m hand p ys) there
    ∙ sym (reader_by-append m hand q xs ys)) in
    record {
      reads = record {
        full = second.reads.full ∙ first.reads.full;
        views = second.reads.views ∙ first.reads.views;
        hands = second.reads.hands ∙ first.reads.hands;
        keys = second.reads.keys ∙ ap (λ (p : Reader). p.pending) moved;
      };
      strikes =
          subst (λ (keys : List Key). Strikes hand keys r (begun ++ more) t)
          (ap (λ (keys : List Key). before ++ keys) later
          ∙ sym (keys_by-append m hand q xs ys))
          (strikes_twice hand before
          (keys_by (mode_at hand s) hand (reader_at hand s) ys) r s t begun more first.strikes
          second.strikes);
    }

reads_none : (hand : ℕ) (s : LiveState) → ReadsOn hand s s
reads_none hand s = record { full = refl; views = refl; hands = refl; keys = refl }

-- nothing of the players has changed
reads_same : (hand : ℕ) (s t : LiveState) → t.crew.full ≡ s.crew.full
    → t.crew.views ≡ s.crew.views → t.crew.players ≡ s.crew.players → ReadsOn hand s t
reads_same hand s t full views players = record {
  full = full;
  views = views;
  hands = ap (λ (ps : List Player). length ps) players;
  keys = ap (λ (ps : List Player). (slice_index_or ps hand (new_player false)).keys) players;
}

-- the editors were fitted
reads_fitted : (hand : ℕ) (s : LiveState) → ReadsOn hand s (fitted s)
reads_fitted hand s = record {
  full = refl;
  views = refl;
  hands = length-map s.crew.players _;
  keys = keys_fitted (dims_at s) s.crew.players hand;
}

hears_same : (hand : ℕ) (s t : LiveState) → t.crew.full ≡ s.crew.full
    → t.crew.views ≡ s.crew.views → t.crew.players ≡ s.crew.players → Hears hand [] s [] t
hears_same hand s t full views players = record {
  reads = reads_same hand s t full views players;
  strikes = strikes_same hand s [] t refl players views;
}

hears_none : (hand : ℕ) (s : LiveState) → Hears hand [] s [] s
hears_none hand s = hears_same hand s s refl refl refl

-- what matters to the session has not changed
reads_core : (hand : ℕ) (s t : LiveState) → core t ≡ core s → ReadsOn hand s t
reads_core hand s t same = record {
  full = ap (λ (u : LiveState). u.crew.full) same;
  views = ap (λ (u : LiveState). u.crew.views) same;
  hands = sym (reads_fitted hand t).hands
      ∙ (ap (λ (u : LiveState). length u.crew.players) same ∙ (reads_fitted hand s).hands);
  keys = sym (reads_fitted hand t).keys
      ∙ (ap (λ (u : LiveState). (player_at u.crew hand).keys) same ∙ (reads_fitted hand s).keys);
}

-- ---- keys

-- nor do commands change which keys are read
owning_full : (who : ℕ) (c : Command) (refused : Option Rule) (n : ℕ) (crew : CrewState)
    → (owning who c refused n crew).full ≡ crew.full
owning_full who c refused n crew = grind arith

-- an editor is no reader, and nor is whether a hand is away
keys_edited : (players : List Player) (other hand : ℕ) (q : Player)
    → q.keys ≡ (slice_index_or players other (new_player false)).keys
    → (slice_index_or (slice_set players other q) hand (new_player false)).keys
    ≡ (slice_index_or players hand (new_player false)).keys
keys_edited [] other hand q same = refl
keys_edited (p ∷ players) zero zero q same = same
keys_edited (p ∷ players) zero (suc hand) q same = refl
keys_edited (p ∷ players) (suc other) zero q same = refl
keys_edited (p ∷ players) (suc other) (suc hand) q same = keys_edited players other hand q same

struck_keys : (away : Bool) (key : Key) (a : Around) (p : Player)
    → (if away then left_player p else struck_player key a p).keys ≡ p.keys
struck_keys true key a p = refl
struck_keys false key a p = refl

reads_struck : (hand other : ℕ) (key : Key) (s : LiveState)
    → ReadsOn hand s
    (record s { crew = struck_by other key (around_at other key s) s.crew })
reads_struck hand other key s = record {
  full = refl;
  views = refl;
  hands = length-set s.crew.players other _;
  keys = keys_edited s.crew.players other hand _
      (struck_keys (says_away s.crew other key) key (around_at other key s) _);
}

reads_denied : (hand other : ℕ) (key : Key) (s : LiveState)
    → ReadsOn hand s (record s { crew = denied_by other key s.crew })
reads_denied hand other key s = record {
  full = refl;
  views = refl;
  hands = length-set s.crew.players other _;
  keys = keys_edited s.crew.players other hand _ refl;
}

either_reads : (hand : ℕ) (b : Bool) (r s t : LiveState) → ReadsOn hand r s → ReadsOn hand r t
    → ReadsOn hand r (if b then s else t)
either_reads hand true r s t first second = first
either_reads hand false r s t first second = second

wish_reads : (hand other : ℕ) (w : Wish) (s : LiveState)
    → ReadsOn hand s (wish_course other w s).state
unfolding wish_course save_course hand_course obey_course onward mapped
wish_reads hand other wish.Nothing s = reads_none hand s
wish_reads hand other (wish.Do command) s =
    reads_same hand s _ (owning_full other command _ _ s.crew)
    (owning_views other command _ _ s.crew) (owning_hands other command _ _ s.crew)
wish_reads hand other wish.Toggle s =
    either_reads hand (leader_at s).paused s s _ (reads_none hand s) (reads_same hand s _ refl refl refl)
wish_reads hand other wish.Save s = reads_same hand s _ refl refl refl
wish_reads hand other wish.Quit s = reads_none hand s
wish_reads hand other (wish.Slower beats) s = reads_same hand s _ refl refl refl
wish_reads hand other (wish.Faster beats) s = reads_same hand s _ refl refl refl
wish_reads hand other (wish.Redraw size) s = reads_same hand s _ refl refl refl

where_reads : (hand other : ℕ) (key : Key) (s : LiveState) (denial : Option Denial)
    → ReadsOn hand s (struck_where other key s denial).state
unfolding denied_course
where_reads hand other key s (Some denial) =
    let t : LiveState = record s { crew = denied_by other key s.crew } in
    reads_on hand _ s t _ (reads_denied hand other key s) (reads_same hand t _ refl refl refl)
where_reads hand other key s None =
    let around = around_at other key s in
    let t : LiveState = record s { crew = struck_by other key around s.crew } in
    let w = asked s.crew other key around in
    reads_on hand _ s t (wish_course other w t).state (reads_struck hand other key s)
    (wish_reads hand other w t)

press_reads : (hand other : ℕ) (key : Key) (s : LiveState)
    → ReadsOn hand s (press_course other key s).state
unfolding press_course key_course struck_course
press_reads hand other key s =
    let t = struck_well other key s in
    let u = fitted t in
    reads_on hand _ s u (struck_course other key u).state
    (reads_on hand _ s t u (reads_same hand s t refl refl refl) (reads_fitted hand t))
    (where_reads hand other key u (denial_at u.crew other key (around_at other key u)))

keys_read : (hand other : ℕ) (keys : List Key) (s : LiveState)
    → ReadsOn hand s (keys_course other keys s).state
unfolding keys_course
keys_read hand other keys s =
    each-holds (λ s acts t. ReadsOn hand s t) (press_course other) (reads_none hand)
    (λ r s t xs ys. reads_on hand _ r s t) (press_reads hand other) keys s

-- ---- items

-- its own item moves a reader
turned_own : (hand : ℕ) (item : KeyItem) (s : LiveState) → is_hand hand s ≡ true
    → Reads hand (turn s.crew.full (player_at s.crew hand).keys item).pending s
    (record s { crew = turned_by hand item s.crew })
turned_own hand item s is =
    let full = s.crew.full in
    let p : Player = turned_player full item (player_at s.crew hand) in
    record {
      full = refl;
      views = refl;
      hands = length-set s.crew.players hand p;
      keys = ap (λ (q : Player). q.keys)
          (get_or-set_same s.crew.players hand p (new_player false)
          (ltb-true hand (length s.crew.players) is));
    }

-- and that of another hand does not
turned_other : (hand other : ℕ) (item : KeyItem) (s : LiveState) → (other == hand) ≡ false
    → ReadsOn hand s (record s { crew = turned_by other item s.crew })
turned_other hand other item s differs =
    let full = s.crew.full in
    let p : Player = turned_player full item (player_at s.crew other) in
    record {
      full = refl;
      views = refl;
      hands = length-set s.crew.players other p;
      keys = ap (λ (q : Player). q.keys)
          (get_or-set_other s.crew.players other hand p (new_player false)
          (λ same. eqb-false other hand differs (sym same)));
    }

-- a byte of its own hand
same_hand : (hand byte : ℕ) (r : Reader) → item_for hand r (ByteOf hand byte) ≡ Some (Byte byte)
same_hand hand byte r =
    let same : (hand == hand) ≡ true = grind (arith, nat_tests) in rw same refl

reads_own : (hand : ℕ) (item : KeyItem) (s : LiveState) → is_hand hand s ≡ true
    → Reads hand (turn s.crew.full (player_at s.crew hand).keys item).pending s
    (read_course hand item s).state
unfolding read_course
reads_own hand item s is =
    let t : LiveState = record s { crew = turned_by hand item s.crew } in
    let keys = (turn s.crew.full (player_at s.crew hand).keys item).keys in
    reads_on hand _ s t (keys_course hand keys t).state (turned_own hand item s is)
    (keys_read hand hand keys t)

reads_other : (hand other : ℕ) (item : KeyItem) (s : LiveState) → (other == hand) ≡ false
    → ReadsOn hand s (read_course other item s).state
unfolding read_course
reads_other hand other item s differs =
    let t : LiveState = record s { crew = turned_by other item s.crew } in
    let keys = (turn s.crew.full (player_at s.crew other).keys item).keys in
    reads_on hand _ s t (keys_course other keys t).state (turned_other hand other item s differs)
    (keys_read hand other keys t)

-- an item that is read is heard as it is read
hears_own : (hand : ℕ) (x : HeardItem) (item : KeyItem) (s : LiveState) → is_hand hand s ≡ true
    → item_for hand (reader_at hand s) x ≡ Some item → (read_course hand item s).ending ≡ None
    → Hears hand (x ∷ []) s (read_course hand item s).acts (read_course hand item s).state
hears_own hand x item s is same goes = record {
  reads = rw same (reads_own hand item s is);
  strikes = rw (same, append-nil) (read_own hand item s is goes);
}

-- what another hand reads changes nothing of it
hears_other : (hand other : ℕ) (item : KeyItem) (s : LiveState) → (other == hand) ≡ false
    → Hears hand [] s (read_course other item s).acts (read_course other item s).state
hears_other hand other item s differs = record {
  reads = reads_other hand other item s differs;
  strikes = read_other hand other item s differs;
}

-- nor does an item that is nothing to its reader
hears_nothing : (hand : ℕ) (x : HeardItem) (s : LiveState) (acts : List Act) (t : LiveState)
    → item_for hand (reader_at hand s) x ≡ None → Hears hand [] s acts t
    → Hears hand (x ∷ []) s acts t
hears_nothing hand x s acts t same none =
    record { reads = rw same none.reads; strikes = rw same none.strikes }

-- a byte of a hand
byte_by : (hand other byte : ℕ) (s : LiveState) (own : Bool) → (other == hand) ≡ own
    → is_hand other s ≡ true → (read_course other (Byte byte) s).ending ≡ None
    → Hears hand (ByteOf other byte ∷ []) s (read_course other (Byte byte) s).acts
    (read_course other (Byte byte) s).state
byte_by hand other byte s true own is goes =
    let c = read_course other (Byte byte) s in
    subst (λ (h : ℕ). Hears h (ByteOf other byte ∷ []) s c.acts c.state) (eqb-true other hand own)
    (hears_own other (ByteOf other byte) (Byte byte) s is
    (same_hand other byte (reader_at other s)) goes)
byte_by hand other byte s false differs is goes =
    hears_nothing hand (ByteOf other byte) s _ _ (rw differs refl)
    (hears_other hand other (Byte byte) s differs)

byte_hears : (hand other byte : ℕ) (s : LiveState) (is : Bool) → is_hand other s ≡ is
    → (byte_course other byte s).ending ≡ None
    → Hears hand (if is then ByteOf other byte ∷ [] else []) s (byte_course other byte s).acts
    (byte_course other byte s).state
unfolding byte_course item_course
byte_hears hand other byte s true is goes =
    rw is (byte_by hand other byte s (other == hand) refl is (rw is at goes))
byte_hears hand other byte s false off goes = rw off (hears_none hand s)

-- that nothing came of a hand for a while is read once by this hand, unless it reads a text
abbrev given : ℕ → ℕ → List HeardItem
given hand other = if other == hand then FrameDue ∷ [] else []

-- ---- frames

frame_reads : (hand : ℕ) (full : Bool) (s : LiveState)
    → ReadsOn hand s
    (if full then ended Full s
    else onward (hand_course NOBODY Frame s) (λ (t : LiveState). still (fired t))).state
unfolding hand_course obey_course onward mapped
frame_reads hand true s = reads_none hand s
frame_reads hand false s =
    reads_same hand s _ (owning_full NOBODY Frame _ _ s.crew)
    (owning_views NOBODY Frame _ _ s.crew) (owning_hands NOBODY Frame _ _ s.crew)

-- that nothing came of a hand for a while is a due frame to its reader
lull_own : (hand : ℕ) (s : LiveState) (text : Bool) → reads_text hand s ≡ text
    → is_hand hand s ≡ true → (lull_of hand s).ending ≡ None
    → Hears hand (FrameDue ∷ []) s (lull_of hand s).acts (lull_of hand s).state
unfolding lull_of item_course
lull_own hand s true is there goes =
    rw is
    (hears_nothing hand FrameDue s [] s (rw is refl) (hears_none hand s))
lull_own hand s false is there goes =
    rw (is, there) (hears_own hand FrameDue Due s there (rw is refl) (rw (is, there) at goes))

-- and nothing to that of another hand
lull_other : (hand other : ℕ) (s : LiveState) (text is : Bool) → (other == hand) ≡ false
    → reads_text other s ≡ text → is_hand other s ≡ is
    → Hears hand [] s (lull_of other s).acts (lull_of other s).state
unfolding lull_of item_course
lull_other hand other s true is differs text there = rw text (hears_none hand s)
lull_other hand other s false true differs text there =
    rw (text, there) (hears_other hand other Due s differs)
lull_other hand other s false false differs text there = rw (text, there) (hears_none hand s)

lull_hears : (hand other : ℕ) (s : LiveState) (own : Bool) → (other == hand) ≡ own
    → is_hand hand s ≡ true → (lull_of other s).ending ≡ None
    → Hears hand (if own then FrameDue ∷ [] else []) s (lull_of other s).acts
    (lull_of other s).state
lull_hears hand other s true own there goes =
    let c = lull_of other s in
    let same = eqb-true other hand own in
    subst (λ (h : ℕ). Hears h (FrameDue ∷ []) s c.acts c.state) same
    (lull_own other s (reads_text other s) refl
    (ap (λ (h : ℕ). is_hand h s) same ∙ there) goes)
lull_hears hand other s false differs there goes =
    lull_other hand other s (reads_text other s) (is_hand other s) differs refl refl

-- so a due frame is one for each hand
dues_none : (hand a n : ℕ) → hand < a → flat_map (given hand) (range_with_len a n) ≡ []
dues_none hand a zero low = refl
dues_none hand a (suc n) low =
    let differs : (a == hand) ≡ false = grind (arith, nat_tests) in
    rw differs (dues_none hand (a + 1) n (omega arith))

dues_by : (own : Bool) (hand a n : ℕ) → (a == hand) ≡ own → a ≤ hand → hand < a + suc n
    → (hand < (a + 1) + n → a + 1 ≤ hand
    → flat_map (given hand) (range_with_len (a + 1) n) ≡ FrameDue ∷ [])
    → (if own then FrameDue ∷ [] else []) ++ flat_map (given hand) (range_with_len (a + 1) n)
    ≡ FrameDue ∷ []
dues_by true hand a n own low high more =
    let same = eqb-true a hand own in
    ap (λ (items : List HeardItem). FrameDue ∷ items) (dues_none hand (a + 1) n (omega arith))
dues_by false hand a n own low high more =
    let differs = eqb-false a hand own in more (omega arith) (grind (arith, nat_tests))

dues_once : (hand a n : ℕ) → a ≤ hand → hand < a + n
    → flat_map (given hand) (range_with_len a n) ≡ FrameDue ∷ []
dues_once hand a zero low high = absurd (omega arith)
dues_once hand a (suc n) low high =
    dues_by (a == hand) hand a n refl low high
    (λ high low. dues_once hand (a + 1) n low high)

-- ---- courses that go on

module _ (hand n : ℕ) (there : nat_lt hand n ≡ true) where
  -- where the course goes on, the hand was heard by these items
  abbrev Heeds : {E : Type 0} → List HeardItem → (LiveState → Course LiveState E) → Type 0
  Heeds items f =
      (s : LiveState) → length s.crew.players ≡ n → (f s).ending ≡ None
      → Hears hand items s (f s).acts (f s).state

  heeds_onward : {E : Type 0} (xs ys : List HeardItem)
      (f next : LiveState → Course LiveState E)
      → Heeds xs f → Heeds ys next → Heeds (xs ++ ys) (λ s. onward (f s) next)
  heeds_onward {E = E} xs ys f next first more s are goes =
      let both = goes_both (f s) next goes in
      let one = first s are both.0 in
      let d = next (f s).state in
      subst (λ (c : Course LiveState E). Hears hand (xs ++ ys) s c.acts c.state)
      (sym (onward_goes (f s) next both.0))
      (hears_twice hand xs ys s (f s).state d.state (f s).acts d.acts one
      (more (f s).state (one.reads.hands ∙ are) both.1))

  there_at : (s : LiveState) → length s.crew.players ≡ n → is_hand hand s ≡ true
  there_at s are = ap (λ (hands : ℕ). nat_lt hand hands) are ∙ there

  heeds_each : {X E : Type 0} (g : X → List HeardItem) (f : X → LiveState → Course LiveState E)
      → ((x : X) → Heeds (g x) (f x)) → (xs : List X) → Heeds (flat_map g xs) (each f xs)
  unfolding each
  heeds_each g f one [] s are goes = hears_none hand s
  heeds_each g f one (x ∷ xs) s are goes =
      heeds_onward (g x) (flat_map g xs) (f x) (each f xs) (one x) (heeds_each g f one xs) s are
      goes

  heeds_lull : Heeds (FrameDue ∷ []) lull_course
  unfolding lull_course
  heeds_lull s are goes =
      let some = heeds_each (given hand) lull_of
      (λ other t same on. lull_hears hand other t (other == hand) refl (there_at t same) on)
      (hands_in s) s are goes in
      let below = ltb-true hand (length s.crew.players) (there_at s are) in
      rw (dues_once hand 0 (length s.crew.players) (omega arith) (omega arith)) at some

  heeds_frame : Heeds [] frame_course
  unfolding frame_course
  heeds_frame s are goes = record {
    reads = frame_reads hand (is_full s) s;
    strikes = frame_strikes hand (is_full s) s;
  }

  heeds_due : Heeds (FrameDue ∷ []) due_course
  unfolding due_course
  heeds_due = heeds_onward (FrameDue ∷ []) [] lull_course frame_course heeds_lull heeds_frame

  -- a moment is nothing to a hand
  hears_at : (at : ℕ) (s : LiveState) → Hears hand [] s [] (answered_at at s)
  hears_at at s = hears_same hand s (answered_at at s) refl refl refl

  -- ---- turns

  -- what is heard of one
  abbrev heard_of : Item → List HeardItem
  heard_of i = counting (worth_of n i) []

  -- and then others
  counted_then : (w : Worth HeardItem) (items : List HeardItem)
      → counting w items ≡ counting w [] ++ items
  counted_then Nothing items = refl
  counted_then (Counts item) items = refl

  -- what is written and shown is nothing to a hand
  hears_aside : (came : Losses) (s : LiveState) (c : Course LiveState Stop)
      → IsSilent hand (knowing came s) c → IsAside (knowing came s) c
      → Hears hand [] s c.acts c.state
  hears_aside came s c silent aside = record {
    reads = reads_core hand s c.state aside.same;
    strikes = record {
      own = silent.strikes.own;
      views = silent.strikes.views;
      moves = silent.strikes.moves;
    };
  }

  byte_counted : (is : Bool) (other byte : ℕ)
      → counting (if is then Counts (ByteOf other byte) else Nothing) []
      ≡ (if is then ByteOf other byte ∷ [] else [])
  byte_counted true other byte = refl
  byte_counted false other byte = refl

  heeds_byte : (other byte : ℕ)
      → Heeds (counting (if nat_lt other n then Counts (ByteOf other byte) else Nothing) [])
      (byte_course other byte)
  heeds_byte other byte s are goes =
      rw (byte_counted (nat_lt other n) other byte)
      (byte_hears hand other byte s (nat_lt other n)
      (ap (λ (hands : ℕ). nat_lt other hands) are) goes)

  heeds_take : (i : Item) → IsMidway (Given i) → Heeds (heard_of i) (take_course i)
  unfolding take_course
  heeds_take (item.Byte other at byte) midway s are goes =
      let t = answered_at at s in
      hears_twice hand [] (heard_of (item.Byte other at byte)) s t _ [] _ (hears_at at s)
      (heeds_byte other byte t are goes)
  heeds_take (item.Due at) midway s are goes =
      let t = answered_at at s in
      hears_twice hand [] (FrameDue ∷ []) s t _ [] _ (hears_at at s) (heeds_due t are goes)
  heeds_take item.Start midway s are goes =
      hears_aside s.came s _ (journal_silent hand s) (journal_aside s)
  heeds_take (item.Open came) midway s are goes =
      let t = knowing came s in hears_aside came s _ (paint_silent hand [] t) (paint_aside [] t)
  heeds_take item.Settle midway s are goes =
      hears_aside s.came s _ (write_silent hand s) (write_aside s)
  heeds_take (item.Over came) midway s are goes =
      let t = knowing came s in hears_aside came s _ (show_silent hand t) (show_aside t)
  heeds_take (item.Ended ending) midway s are goes = absurd midway

  stops_not : (end : Option Stop) → option_map {U = Ending} Stopped end ≡ None → end ≡ None
  stops_not None goes = refl
  stops_not (Some stop) goes = absurd cc

  heeds_given : (i : Item) → IsMidway (Given i) → Heeds (heard_of i) (given_course live_part i)
  unfolding given_course mapped
  heeds_given i midway s are goes = heeds_take i midway s are (stops_not _ goes)

  -- an act of the loop
  heeds_act : (act : Act) → keys_in hand (act ∷ []) ≡ []
      → Heeds [] (λ s. course {E = Ending} (act ∷ []) 0 s)
  heeds_act act none s are goes = record {
    reads = reads_none hand s;
    strikes = strikes_same hand s (act ∷ []) s none refl refl;
  }

  -- turns, by what they come to
  abbrev brought_by : List Turn → List HeardItem
  brought_by turns = counted (worth_of n) turns

  heeds_turns : (turns : List Turn) → AreMidway turns
      → Heeds (brought_by turns) (each (turn_course live_part) turns)
  unfolding each turn_course
  heeds_turns [] midway s are goes = hears_none hand s
  heeds_turns (Asked poll ∷ turns) midway s are goes =
      heeds_onward [] (brought_by turns)
      (λ t. course (Await (record poll { until = live_part.until s }) ∷ []) 0 t)
      (each (turn_course live_part) turns) (heeds_act _ refl) (heeds_turns turns midway.1) s are
      goes
  heeds_turns (Learned came ∷ turns) midway s are goes =
      heeds_onward [] (brought_by turns) (λ t. course (Learn came ∷ []) 0 t)
      (each (turn_course live_part) turns) (heeds_act _ refl) (heeds_turns turns midway.1) s are
      goes
  heeds_turns (Given i ∷ turns) midway s are goes =
      rw (counted_then (worth_of n i) (brought_by turns))
      (heeds_onward (heard_of i) (brought_by turns) (given_course live_part i)
      (each (turn_course live_part) turns) (heeds_given i midway.0) (heeds_turns turns midway.1) s
      are goes)
  heeds_turns (Over ending ∷ turns) midway s are goes =
      let both = goes_both (ended ending s) (each (turn_course live_part) turns) goes in
      absurd (none-some ending (sym both.0))

  heeds_begun : (opening : Losses) (heard : List Hearing)
      → Heeds (items_heard n heard) (λ s. begun live_part s opening heard)
  unfolding begun
  heeds_begun opening heard s are goes =
      let turns = first_turns opening ++ heard_turns heard in
      let c = each (turn_course live_part) turns s in
      subst (λ (items : List HeardItem). Hears hand items s c.acts c.state)
      (all_counted n heard) (heeds_turns turns (all_midway opening heard) s are goes)

pub each_is_heard : EachIsHeard
each_is_heard s = record {
  obeys = obeys_commands s;
  reads = λ opening heard hand is goes.
      heard_reader hand (items_heard (length s.crew.players) heard) s _ _
      (heeds_begun hand (length s.crew.players) is opening heard s refl goes);
  keys = λ opening heard hand is goes.
      (heeds_begun hand (length s.crew.players) is opening heard s refl goes).strikes.own;
  moves = λ opening heard hand is goes.
      let all = (heeds_begun hand (length s.crew.players) is opening heard s refl goes).strikes in
      let last = editor_at hand (so_far s opening heard).state in
      subst (λ (keys : List Key). IsMadeBy keys (editor_at hand s) last) (sym all.own) all.moves.made;
}
