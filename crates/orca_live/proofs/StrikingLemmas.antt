-- The keys that a hand strikes among acts, and what they make of its editor.
use Rattle.std.proofs.Common.{◌≡◌, ℕ, zero, suc, ◌<◌, Bool, true, false, List, [], ◌∷◌, ◌++◌, length, refl, sym, ◌∙◌, ap, subst, arith}
use Rattle.std.specs.Prelude.{if◌then◌else◌, ◌==◌, ◌&&◌, not, map, slice_index_or, slice_set, Option, Some, None, is_some}
use Rattle.std.proofs.lemmas.Bool.{and_parts, eqb-false, eqb-true, ltb-true}
use Rattle.std.proofs.lemmas.Bool.Decides.{nat_tests}
use Rattle.std.proofs.lemmas.List.{get_or-set_other, get_or-set_same, length-map, length-set}
use Rattle.orca_base.specs.declared.command.Command.{Command}
use Rattle.orca_base.specs.declared.command.Command.TheVariants.{Frame}
use Rattle.orca_base.specs.declared.command.Rule.{Rule}
use Rattle.orca_base.specs.Grids.{Size}
use Rattle.orca_base.specs.MarkSet.{MarkSet}
use Rattle.orca_base.specs.Ports.{Sent}
use Rattle.orca_concert.specs.Concerts.{command_course as obey_course, handed_of}
use Rattle.orca_course.specs.Acts.{Act, gives, keys_in}
use Rattle.orca_course.specs.Acts.Act.{Show, Stand, Strike}
use Rattle.orca_course.specs.Courses.{Course, each, ended, mapped, onward, still}
use Rattle.orca_course.specs.Standings.{Standing, standing_after}
use Rattle.orca_course.specs.declared.ending.Stop.{Stop}
use Rattle.orca_course.specs.declared.ending.Stop.TheVariants.{Full}
use Rattle.orca_course.proofs.CourseLemmas.{each-holds, goes_both, onward_goes}
use Rattle.orca_edit.specs.Machines.{preview_of}
use Rattle.orca_edit.specs.Obeying.{obey}
use Rattle.orca_jam.specs.Crews.{CrewState, asked, denial_at, denial_of, denied_by, fitted_player, left_player, may_leave, new_player, player_at, says_away, struck_by, struck_player, tells_nothing, turned_by, turned_player}
use Rattle.orca_jam.specs.declared.crew.TheConstants.{LEADER}
use Rattle.orca_jam.specs.declared.denial.Denial.{Denial}
use Rattle.orca_jam.specs.declared.owner.TheConstants.{NOBODY}
use Rattle.orca_jam.specs.declared.player.Player.{Player}
use Rattle.orca_term.specs.Editing.{editor_after, turned_page}
use Rattle.orca_term.specs.Keys.{Item, turn}
use Rattle.orca_term.specs.declared.around.Around.{Around}
use Rattle.orca_term.specs.declared.cell.Cell.{Cell}
use Rattle.orca_term.specs.declared.editor.Editor.{Editor}
use Rattle.orca_term.specs.declared.editor.Wish.{Wish}
use Rattle.orca_term.specs.declared.editor.Wish.TheVariants as wish
use Rattle.orca_term.specs.declared.flow.Flow.{Flow}
use Rattle.orca_term.specs.declared.keys.Key.{Key}
use Rattle.orca_term.specs.declared.keys.Key.TheVariants as key
use Rattle.orca_live.specs.Hands.{Change, IsMadeBy, editor_by, keys_of, text_after, text_by}
use Rattle.orca_live.specs.Hands.Change.{Denied, Fitted, Left, Struck}
use Rattle.orca_live.specs.Performing.{additions, denied_course, fired, hand_course, header_course, if_named, owning, journal_course, key_course, lines_course, paint_course, painted_course, picture_course, press_course, preview_course, read_course, save_course, show_course, struck_course, struck_where, view_acts, wish_course, write_course, keys_course, struck_well}
use Rattle.orca_live.specs.States.{LiveState, around_at, begun_name, dims_at, editor_at, fitted, hands_in, is_hand, is_painted_for, leader_at, piece_at, reads_text}
use Rattle.orca_live.proofs.CuttingLaw.{owning_hands, press_hands}

-- ---- keys among acts

if_append : (own : Bool) (key : Key) (xs ys : List Key)
    → (if own then key ∷ (xs ++ ys) else xs ++ ys) ≡ (if own then key ∷ xs else xs) ++ ys
if_append true key xs ys = refl
if_append false key xs ys = refl

if_same : (own : Bool) (key : Key) (xs ys : List Key) → xs ≡ ys
    → (if own then key ∷ xs else xs) ≡ (if own then key ∷ ys else ys)
if_same own key xs ys same = ap (λ (zs : List Key). if own then key ∷ zs else zs) same

pub keys_in-append : (hand : ℕ) (xs ys : List Act)
    → keys_in hand (xs ++ ys) ≡ keys_in hand xs ++ keys_in hand ys
keys_in-append hand [] ys = refl
keys_in-append hand (Strike other key ∷ xs) ys =
    if_same (other == hand) key _ _ (keys_in-append hand xs ys)
    ∙ if_append (other == hand) key (keys_in hand xs) (keys_in hand ys)
keys_in-append hand (_ ∷ xs) ys = keys_in-append hand xs ys

-- a key of a hand, and then acts without one
key_own : (hand : ℕ) (key : Key) (acts : List Act) → keys_in hand acts ≡ []
    → keys_in hand (Strike hand key ∷ acts) ≡ key ∷ []
key_own hand key acts none =
    let same : (hand == hand) ≡ true = grind (arith, nat_tests) in rw (same, none) refl

key_other : (hand other : ℕ) (key : Key) (acts : List Act) → (other == hand) ≡ false
    → keys_in hand acts ≡ [] → keys_in hand (Strike other key ∷ acts) ≡ []
key_other hand other key acts differs none = rw differs none

-- ---- what is made of an editor

editor_by-append : (xs ys : List Change) (e : Editor)
    → editor_by (xs ++ ys) e ≡ editor_by ys (editor_by xs e)
editor_by-append [] ys e = refl
editor_by-append (Struck key a ∷ xs) ys e = editor_by-append xs ys (editor_after key a e)
editor_by-append (Left ∷ xs) ys e = editor_by-append xs ys _
editor_by-append (Denied key ∷ xs) ys e = editor_by-append xs ys _
editor_by-append (Fitted d ∷ xs) ys e = editor_by-append xs ys _

keys_of-append : (xs ys : List Change) → keys_of (xs ++ ys) ≡ keys_of xs ++ keys_of ys
keys_of-append [] ys = refl
keys_of-append (Struck key a ∷ xs) ys =
    ap (λ (keys : List Key). key ∷ keys) (keys_of-append xs ys)
keys_of-append (Left ∷ xs) ys =
    ap (λ (keys : List Key). key.Screen 0 0 ∷ keys) (keys_of-append xs ys)
keys_of-append (Denied key ∷ xs) ys =
    ap (λ (keys : List Key). key ∷ keys) (keys_of-append xs ys)
keys_of-append (Fitted d ∷ xs) ys = keys_of-append xs ys

pub text_by-append : (leaves : Bool) (xs ys : List Key) (text : Bool)
    → text_by leaves text (xs ++ ys) ≡ text_by leaves (text_by leaves text xs) ys
text_by-append leaves [] ys text = refl
text_by-append leaves (x ∷ xs) ys text = text_by-append leaves xs ys (text_after leaves text x)

-- these keys and the size of the grid have made one editor of another, and it reads a text where
-- they say so, of a hand that may go away or not
pub record Moves (leaves : Bool) (keys : List Key) (e f : Editor) : Type 0 where
  pub made : IsMadeBy keys e f
  pub text : is_some f.flow ≡ text_by leaves (is_some e.flow) keys

moves_none : (leaves : Bool) (e f : Editor) → f ≡ e → Moves leaves [] e f
moves_none leaves e f same = record {
  made = record { changes = []; own = refl; after = same };
  text = ap (λ (e : Editor). is_some e.flow) same;
}

moves_twice : (leaves : Bool) (xs ys : List Key) (e f g : Editor) → Moves leaves xs e f
    → Moves leaves ys f g → Moves leaves (xs ++ ys) e g
moves_twice leaves xs ys e f g first second =
    let one = first.made in
    let two = second.made in
    record {
      made = record {
        changes = one.changes ++ two.changes;
        own = keys_of-append one.changes two.changes
            ∙ (ap (λ (keys : List Key). keys ++ keys_of two.changes) one.own
            ∙ ap (λ (keys : List Key). xs ++ keys) two.own);
        after = two.after
            ∙ (ap (editor_by two.changes) one.after
            ∙ sym (editor_by-append one.changes two.changes e));
      };
      text = second.text
          ∙ (ap (λ (text : Bool). text_by leaves text ys) first.text
          ∙ sym (text_by-append leaves xs ys (is_some e.flow)));
    }

-- the editors were fitted
fitted_moves : (leaves : Bool) (d : Size) (players : List Player) (hand : ℕ)
    → Moves leaves [] (slice_index_or players hand (new_player false)).editor
    (slice_index_or (map (fitted_player d) players) hand (new_player false)).editor
fitted_moves leaves d [] hand = moves_none leaves _ _ refl
fitted_moves leaves d (p ∷ players) zero = record {
  made = record { changes = Fitted d ∷ []; own = refl; after = refl };
  text = refl;
}
fitted_moves leaves d (p ∷ players) (suc hand) = fitted_moves leaves d players hand

-- a reader is no editor
editor_turned : (full : Bool) (item : Item) (players : List Player) (other hand : ℕ)
    → (slice_index_or
    (slice_set players other
    (turned_player full item (slice_index_or players other (new_player false)))) hand
    (new_player false)).editor
    ≡ (slice_index_or players hand (new_player false)).editor
editor_turned full item [] other hand = refl
editor_turned full item (p ∷ players) zero zero = refl
editor_turned full item (p ∷ players) zero (suc hand) = refl
editor_turned full item (p ∷ players) (suc other) zero = refl
editor_turned full item (p ∷ players) (suc other) (suc hand) =
    editor_turned full item players other hand

-- ---- from one state to another

-- among acts a hand struck these keys, and they alone have moved its editor
pub record Strikes (hand : ℕ) (keys : List Key) (s : LiveState) (acts : List Act) (t : LiveState)
    : Type 0 where
  pub own : keys_in hand acts ≡ keys
  pub views : t.crew.views ≡ s.crew.views
  pub moves : Moves (may_leave s.crew hand) keys (editor_at hand s) (editor_at hand t)

pub strikes_twice : (hand : ℕ) (xs ys : List Key) (r s t : LiveState) (begun more : List Act)
    → Strikes hand xs r begun s → Strikes hand ys s more t
    → Strikes hand (xs ++ ys) r (begun ++ more) t
strikes_twice hand xs ys r s t begun more first second = record {
  own = keys_in-append hand begun more
      ∙ (ap (λ (keys : List Key). keys ++ keys_in hand more) first.own
      ∙ ap (λ (keys : List Key). xs ++ keys) second.own);
  views = second.views ∙ first.views;
  moves =
      let same : may_leave s.crew hand ≡ may_leave r.crew hand =
      ap (λ (views : Bool). views && not (hand == LEADER)) first.views in
      moves_twice (may_leave r.crew hand) xs ys _ _ _ first.moves
      (subst (λ (leaves : Bool). Moves leaves ys (editor_at hand s) (editor_at hand t)) same
      second.moves);
}

-- nothing of the players has changed
pub strikes_same : (hand : ℕ) (s : LiveState) (acts : List Act) (t : LiveState)
    → keys_in hand acts ≡ [] → t.crew.players ≡ s.crew.players → t.crew.views ≡ s.crew.views
    → Strikes hand [] s acts t
strikes_same hand s acts t none same views = record {
  own = none;
  views = views;
  moves = moves_none _ _ _
      (ap (λ (ps : List Player). (slice_index_or ps hand (new_player false)).editor) same);
}

-- a reader was given an item
strikes_turned : (hand other : ℕ) (item : Item) (s : LiveState)
    → Strikes hand [] s [] (record s { crew = turned_by other item s.crew })
strikes_turned hand other item s = record {
  own = refl;
  views = refl;
  moves = moves_none _ _ _ (editor_turned s.crew.full item s.crew.players other hand);
}

-- ---- commands

handed_keys : (hand : ℕ) (sends : List Sent) (at : Standing)
    → keys_in hand ((gives sends ++ Stand at ∷ []) ++ []) ≡ []
handed_keys hand [] at = refl
handed_keys hand (sent ∷ sends) at = handed_keys hand sends at

pub command_silent : (hand who : ℕ) (command : Command) (s : LiveState)
    → keys_in hand (hand_course who command s).acts ≡ []
unfolding hand_course obey_course onward mapped
command_silent hand who command s =
    let o = obey s.standing.machine command in
    handed_keys hand (handed_of true o.messages) (standing_after s.standing o)

-- commands do not change whether each hand has a picture
pub owning_views : (who : ℕ) (c : Command) (refused : Option Rule) (n : ℕ) (crew : CrewState)
    → (owning who c refused n crew).views ≡ crew.views
owning_views who c refused n crew = grind arith

pub frame_strikes : (hand : ℕ) (full : Bool) (s : LiveState)
    → let c : Course LiveState Stop = if full then ended Full s
    else onward (hand_course NOBODY Frame s) (λ (t : LiveState). still (fired t)) in
    Strikes hand [] s c.acts c.state
unfolding hand_course obey_course onward mapped
frame_strikes hand true s = strikes_same hand s [] s refl refl refl
frame_strikes hand false s =
    let c = hand_course NOBODY Frame s in
    strikes_same hand s (c.acts ++ []) _
    (keys_in-append hand c.acts []
    ∙ ap (λ (keys : List Key). keys ++ []) (command_silent hand NOBODY Frame s))
    (owning_hands NOBODY Frame _ _ s.crew) (owning_views NOBODY Frame _ _ s.crew)

-- ---- keys

either_players : (b : Bool) (r s t : LiveState) → s.crew.players ≡ r.crew.players
    → t.crew.players ≡ r.crew.players → (if b then s else t).crew.players ≡ r.crew.players
either_players true r s t first second = first
either_players false r s t first second = second

wish_players : (other : ℕ) (w : Wish) (s : LiveState)
    → (wish_course other w s).state.crew.players ≡ s.crew.players
unfolding wish_course save_course hand_course obey_course onward mapped
wish_players other wish.Nothing s = refl
wish_players other (wish.Do command) s = owning_hands other command _ _ s.crew
wish_players other wish.Toggle s = either_players (leader_at s).paused s s _ refl refl
wish_players other wish.Save s = refl
wish_players other wish.Quit s = refl
wish_players other (wish.Slower beats) s = refl
wish_players other (wish.Faster beats) s = refl
wish_players other (wish.Redraw size) s = refl

either_views : (b : Bool) (r s t : LiveState) → s.crew.views ≡ r.crew.views
    → t.crew.views ≡ r.crew.views → (if b then s else t).crew.views ≡ r.crew.views
either_views true r s t first second = first
either_views false r s t first second = second

wish_views : (other : ℕ) (w : Wish) (s : LiveState)
    → (wish_course other w s).state.crew.views ≡ s.crew.views
unfolding wish_course save_course hand_course obey_course onward mapped
wish_views other wish.Nothing s = refl
wish_views other (wish.Do command) s = owning_views other command _ _ s.crew
wish_views other wish.Toggle s = either_views (leader_at s).paused s s _ refl refl
wish_views other wish.Save s = refl
wish_views other wish.Quit s = refl
wish_views other (wish.Slower beats) s = refl
wish_views other (wish.Faster beats) s = refl
wish_views other (wish.Redraw size) s = refl

wish_silent : (hand other : ℕ) (w : Wish) (s : LiveState)
    → keys_in hand (wish_course other w s).acts ≡ []
unfolding wish_course save_course
wish_silent hand other wish.Nothing s = refl
wish_silent hand other (wish.Do command) s = command_silent hand other command s
wish_silent hand other wish.Toggle s = refl
wish_silent hand other wish.Save s = refl
wish_silent hand other wish.Quit s = refl
wish_silent hand other (wish.Slower beats) s = refl
wish_silent hand other (wish.Faster beats) s = refl
wish_silent hand other (wish.Redraw size) s = refl

where_silent : (hand other : ℕ) (key : Key) (s : LiveState) (denial : Option Denial)
    → keys_in hand (struck_where other key s denial).acts ≡ []
unfolding denied_course
where_silent hand other key s (Some denial) = refl
where_silent hand other key s None =
    let around = around_at other key s in
    wish_silent hand other (asked s.crew other key around)
    (record s { crew = struck_by other key around s.crew })

where_views : (other : ℕ) (key : Key) (s : LiveState) (denial : Option Denial)
    → (struck_where other key s denial).state.crew.views ≡ s.crew.views
unfolding denied_course
where_views other key s (Some denial) = refl
where_views other key s None =
    let around = around_at other key s in
    wish_views other (asked s.crew other key around)
    (record s { crew = struck_by other key around s.crew })

-- the editor of a hand, by its players
abbrev editor_in : ℕ → List Player → Editor
editor_in hand players = (slice_index_or players hand (new_player false)).editor

-- the size that says that a hand is away
leaving_is : (leaves : Bool) (k : Key) → (tells_nothing k && leaves) ≡ true
    → k ≡ key.Screen 0 0
leaving_is leaves (key.Screen rows columns) is =
    let sizes = and_parts _ _ (and_parts _ _ is).0 in
    rw (eqb-true rows 0 sizes.0, eqb-true columns 0 sizes.1) refl
leaving_is leaves _ is = cc

leaving_text : (leaves : Bool) (key : Key) (text : Bool) → (tells_nothing key && leaves) ≡ true
    → false ≡ text_after leaves text key
leaving_text leaves key text is =
    let size = leaving_is leaves key is in
    rw size (ends leaves (rw size at is) text)
  where
    ends : (leaves : Bool) → leaves ≡ true → (text : Bool) → false ≡ (text && not leaves)
    ends leaves is true = rw is refl
    ends leaves is false = refl

-- any other key outside of a text begins one, or none, and inside it ends it, or does not
text_by_key : (leaves : Bool) (key : Key) (a : Around) (e : Editor) (flow : Option Flow)
    → e.flow ≡ flow → (tells_nothing key && leaves) ≡ false
    → is_some (editor_after key a e).flow ≡ text_after leaves (is_some flow) key
text_by_key leaves key a e None is stays = grind (arith, is, stays)
text_by_key leaves key a e (Some f) is stays = grind (arith, is, stays)

-- nobody is denied a key that begins or ends a text
denied_stays : (c : CrewState) (hand : ℕ) (key : Key) (a : Around) (denial : Denial)
    → denial_at c hand key a ≡ Some denial → says_away c hand key ≡ false
unfolding denial_of
denied_stays c hand key a denial is = grind (arith, is)

denied_text : (c : CrewState) (hand : ℕ) (key : Key) (a : Around) (denial : Denial) (text : Bool)
    → denial_at c hand key a ≡ Some denial → text ≡ text_after (may_leave c hand) text key
unfolding denial_of
denied_text c hand key.PasteBegin a denial text is = absurd (grind (arith, is))
denied_text c hand key.PasteEnd a denial text is = absurd (grind (arith, is))
denied_text c hand key.Escape a denial text is = absurd (grind (arith, is))
denied_text c hand (key.Screen rows columns) a denial text is =
    rw (denied_stays c hand (key.Screen rows columns) a denial is) (stays text)
  where
    stays : (text : Bool) → text ≡ (text && true)
    stays true = refl
    stays false = refl
denied_text c hand _ a denial true is = refl
denied_text c hand _ a denial false is = refl

-- its own key moves an editor
struck_own : (hand : ℕ) (key : Key) (s : LiveState) (away : Bool) → hand < length s.crew.players
    → says_away s.crew hand key ≡ away
    → let around = around_at hand key s in
    Moves (may_leave s.crew hand) (key ∷ []) (editor_at hand s)
    (player_at (struck_by hand key around s.crew) hand).editor
struck_own hand key s true below is =
    let e = editor_at hand s in
    let p = player_at s.crew hand in
    let after : (player_at (struck_by hand key (around_at hand key s) s.crew) hand).editor
    ≡ record e { flow = None } =
    rw is (ap (λ (q : Player). q.editor)
    (get_or-set_same s.crew.players hand (left_player p) (new_player false) below)) in
    record {
      made = record {
        changes = Left ∷ [];
        own = ap (λ (k : Key). k ∷ []) (sym (leaving_is (may_leave s.crew hand) key is));
        after = after;
      };
      text = ap (λ (f : Editor). is_some f.flow) after
          ∙ leaving_text (may_leave s.crew hand) key (is_some e.flow) is;
    }
struck_own hand key s false below is =
    let around = around_at hand key s in
    let e = editor_at hand s in
    let p = player_at s.crew hand in
    let after : (player_at (struck_by hand key around s.crew) hand).editor
    ≡ editor_after key around e =
    rw is (ap (λ (q : Player). q.editor)
    (get_or-set_same s.crew.players hand (struck_player key around p) (new_player false) below)) in
    record {
      made = record { changes = Struck key around ∷ []; own = refl; after = after };
      text = ap (λ (f : Editor). is_some f.flow) after
          ∙ text_by_key (may_leave s.crew hand) key around e e.flow refl is;
    }

where_own : (hand : ℕ) (key : Key) (s : LiveState) (denial : Option Denial)
    → hand < length s.crew.players → denial_at s.crew hand key (around_at hand key s) ≡ denial
    → Moves (may_leave s.crew hand) (key ∷ []) (editor_at hand s)
    (editor_at hand (struck_where hand key s denial).state)
unfolding denied_course
where_own hand key s (Some denial) below is =
    let p = player_at s.crew hand in
    let e = turned_page key p.editor in
    let after : (player_at (denied_by hand key s.crew) hand).editor ≡ e =
    ap (λ (q : Player). q.editor)
    (get_or-set_same s.crew.players hand (record p { editor = e }) (new_player false) below) in
    record {
      made = record { changes = Denied key ∷ []; own = refl; after = after };
      text = ap (λ (f : Editor). is_some f.flow) after
          ∙ denied_text s.crew hand key (around_at hand key s) denial (reads_text hand s) is;
    }
where_own hand key s None below is =
    let around = around_at hand key s in
    let t : LiveState = record s { crew = struck_by hand key around s.crew } in
    let w = asked s.crew hand key around in
    subst (λ (f : Editor). Moves (may_leave s.crew hand) (key ∷ []) (editor_at hand s) f)
    (sym (ap (editor_in hand) (wish_players hand w t)))
    (struck_own hand key s (says_away s.crew hand key) below refl)

-- and that of another hand does not
where_other : (hand other : ℕ) (key : Key) (s : LiveState) (denial : Option Denial)
    → (other == hand) ≡ false
    → editor_at hand (struck_where other key s denial).state ≡ editor_at hand s
unfolding denied_course
where_other hand other key s (Some denial) differs =
    ap (λ (p : Player). p.editor)
    (get_or-set_other s.crew.players other hand _ (new_player false)
    (λ same. eqb-false other hand differs (sym same)))
where_other hand other key s None differs =
    let around = around_at other key s in
    let t : LiveState = record s { crew = struck_by other key around s.crew } in
    ap (editor_in hand) (wish_players other (asked s.crew other key around) t)
    ∙ ap (λ (p : Player). p.editor)
    (get_or-set_other s.crew.players other hand _ (new_player false)
    (λ same. eqb-false other hand differs (sym same)))

press_own : (hand : ℕ) (key : Key) (s : LiveState) → hand < length s.crew.players
    → Strikes hand (key ∷ []) s (press_course hand key s).acts (press_course hand key s).state
unfolding press_course key_course struck_course
press_own hand key s below =
    let t = fitted (struck_well hand key s) in
    let denial = denial_at t.crew hand key (around_at hand key t) in
    let there = subst (λ (n : ℕ). hand < n)
    (sym (length-map s.crew.players (fitted_player (dims_at s)))) below in
    record {
      own = key_own hand key (struck_where hand key t denial).acts
          (where_silent hand hand key t denial);
      views = where_views hand key t denial;
      moves = moves_twice _ [] (key ∷ []) _ _ _ (fitted_moves _ (dims_at s) s.crew.players hand)
          (where_own hand key t denial there refl);
    }

press_other : (hand other : ℕ) (key : Key) (s : LiveState) → (other == hand) ≡ false
    → Strikes hand [] s (press_course other key s).acts (press_course other key s).state
unfolding press_course key_course struck_course
press_other hand other key s differs =
    let t = fitted (struck_well other key s) in
    let denial = denial_at t.crew other key (around_at other key t) in
    record {
      own = key_other hand other key (struck_where other key t denial).acts differs
          (where_silent hand other key t denial);
      views = where_views other key t denial;
      moves = moves_twice _ [] [] _ _ _ (fitted_moves _ (dims_at s) s.crew.players hand)
          (moves_none _ _ _ (where_other hand other key t denial differs));
    }

-- where the course of keys goes on, all of them were struck
keys_own : (hand : ℕ) (keys : List Key) (s : LiveState) → hand < length s.crew.players
    → (keys_course hand keys s).ending ≡ None
    → Strikes hand keys s (keys_course hand keys s).acts (keys_course hand keys s).state
unfolding keys_course each
keys_own hand [] s below goes = strikes_same hand s [] s refl refl refl
keys_own hand (key ∷ keys) s below goes =
    let c = press_course hand key s in
    let next = each (press_course hand) keys in
    let both = goes_both c next goes in
    let d = next c.state in
    let there = subst (λ (n : ℕ). hand < n) (sym (press_hands hand key s)) below in
    subst (λ (e : Course LiveState Stop). Strikes hand (key ∷ keys) s e.acts e.state)
    (sym (onward_goes c next both.0))
    (strikes_twice hand (key ∷ []) keys s c.state d.state c.acts d.acts (press_own hand key s below)
    (keys_own hand keys c.state there both.1))

keys_other : (hand other : ℕ) (keys : List Key) (s : LiveState) → (other == hand) ≡ false
    → Strikes hand [] s (keys_course other keys s).acts (keys_course other keys s).state
unfolding keys_course
keys_other hand other keys s differs =
    each-holds (Strikes hand []) (press_course other) (λ t. strikes_same hand t [] t refl refl refl)
    (λ r s t xs ys. strikes_twice hand [] [] r s t xs ys)
    (λ key t. press_other hand other key t differs) keys s

-- an item of a hand ends its keys, and none of another one's
pub read_own : (hand : ℕ) (item : Item) (s : LiveState) → is_hand hand s ≡ true
    → (read_course hand item s).ending ≡ None
    → Strikes hand (turn s.crew.full (player_at s.crew hand).keys item).keys s
    (read_course hand item s).acts (read_course hand item s).state
unfolding read_course
read_own hand item s is goes =
    let full = s.crew.full in
    let keys = (turn full (player_at s.crew hand).keys item).keys in
    let p : Player = turned_player full item (player_at s.crew hand) in
    let t : LiveState = record s { crew = turned_by hand item s.crew } in
    let c = keys_course hand keys t in
    let below = subst (λ (n : ℕ). hand < n) (sym (length-set s.crew.players hand p))
    (ltb-true hand (length s.crew.players) is) in
    strikes_twice hand [] keys s t c.state [] c.acts (strikes_turned hand hand item s)
    (keys_own hand keys t below goes)

pub read_other : (hand other : ℕ) (item : Item) (s : LiveState) → (other == hand) ≡ false
    → Strikes hand [] s (read_course other item s).acts (read_course other item s).state
unfolding read_course
read_other hand other item s differs =
    let full = s.crew.full in
    let keys = (turn full (player_at s.crew other).keys item).keys in
    let t : LiveState = record s { crew = turned_by other item s.crew } in
    let c = keys_course other keys t in
    strikes_twice hand [] [] s t c.state [] c.acts (strikes_turned hand other item s)
    (keys_other hand other keys t differs)

-- ---- what is written and shown

-- a course in which a hand strikes no key, and after which it goes on
pub record IsSilent (hand : ℕ) (s : LiveState) (c : Course LiveState Stop) : Type 0 where
  pub strikes : Strikes hand [] s c.acts c.state
  pub goes : c.ending ≡ None

silent_then : (hand : ℕ) (s : LiveState) (c : Course LiveState Stop)
    (next : LiveState → Course LiveState Stop) → IsSilent hand s c
    → ((t : LiveState) → IsSilent hand t (next t)) → IsSilent hand s (onward c next)
silent_then hand s c next first more =
    let rest = more c.state in
    let d = next c.state in
    rw (onward_goes c next first.goes) (record {
      strikes =
          strikes_twice hand [] [] s c.state d.state c.acts d.acts first.strikes rest.strikes;
      goes = rest.goes;
    })

silent_named : (hand : ℕ) (name : Option (List ℕ))
    (next : List ℕ → LiveState → Course LiveState Stop) (s : LiveState)
    → ((name : List ℕ) → IsSilent hand s (next name s)) → IsSilent hand s (if_named name next s)
silent_named hand None next s silent =
    record { strikes = strikes_same hand s [] s refl refl refl; goes = refl }
silent_named hand (Some name) next s silent = silent name

added_keys : (hand : ℕ) (name bytes : List ℕ) → keys_in hand (additions name bytes) ≡ []
added_keys hand name [] = refl
added_keys hand name (byte ∷ bytes) = refl

pub write_silent : (hand : ℕ) (s : LiveState) → IsSilent hand s (write_course s)
unfolding write_course lines_course
write_silent hand s =
    silent_named hand s.setting.journal lines_course s (λ name. record {
      strikes = strikes_same hand s _ _ (added_keys hand name s.unwritten) refl refl;
      goes = refl;
    })

pub journal_silent : (hand : ℕ) (s : LiveState) → IsSilent hand s (journal_course s)
unfolding journal_course header_course
journal_silent hand s =
    silent_named hand (begun_name s.setting) header_course s
    (λ name. record { strikes = strikes_same hand s _ _ refl refl refl; goes = refl })

pub views_keys : (hand to : ℕ) (bytes : List ℕ) (cells : List Cell)
    → keys_in hand (view_acts to bytes ++ Show to cells ∷ []) ≡ []
views_keys hand to [] cells = refl
views_keys hand zero (byte ∷ bytes) cells = refl
views_keys hand (suc to) (byte ∷ bytes) cells = refl

painted_if : (is : Bool) (hand to : ℕ) (marks : List MarkSet) (s : LiveState)
    → IsSilent hand s (if is then picture_course marks to s else still s)
unfolding picture_course
painted_if true hand to marks s = record {
  strikes = strikes_same hand s _ _ (views_keys hand to _ _) refl refl;
  goes = refl;
}
painted_if false hand to marks s =
    record { strikes = strikes_same hand s [] s refl refl refl; goes = refl }

paints_silent : (hand : ℕ) (marks : List MarkSet) (hands : List ℕ) (s : LiveState)
    → IsSilent hand s (each (painted_course marks) hands s)
unfolding each painted_course
paints_silent hand marks [] s = record { strikes = strikes_same hand s [] s refl refl refl; goes = refl }
paints_silent hand marks (to ∷ hands) s =
    silent_then hand s (painted_course marks to s) (each (painted_course marks) hands)
    (painted_if (is_painted_for to s) hand to marks s) (paints_silent hand marks hands)

pub paint_silent : (hand : ℕ) (marks : List MarkSet) (s : LiveState)
    → IsSilent hand s (paint_course marks s)
unfolding paint_course
paint_silent hand marks s =
    let silent = paints_silent hand marks (hands_in s) (fitted s) in
    record {
      strikes = record {
        own = silent.strikes.own;
        views = silent.strikes.views;
        moves = moves_twice _ [] [] _ _ _ (fitted_moves _ (dims_at s) s.crew.players hand)
            silent.strikes.moves;
      };
      goes = silent.goes;
    }

pub show_silent : (hand : ℕ) (s : LiveState) → IsSilent hand s (show_course s)
unfolding show_course preview_course
show_silent hand s =
    let paint = paint_silent hand (preview_of (piece_at s)) s in
    record { strikes = paint.strikes; goes = paint.goes }
