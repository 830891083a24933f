-- Of hands that share a session each owns what came of its bytes, and nobody owns the frames of the
-- clock.
use Rattle.std.proofs.Common.{arith, ◌≡◌, ◌≢◌, ℕ, zero, suc, true, false, List, [], ◌∷◌, ◌++◌, length, refl, sym, ◌∙◌, ap, subst, append_assoc, append-nil}
use Rattle.std.specs.Prelude.{Bool, ◌&&◌, if◌then◌else◌, nat_lt, Option, Some, None}
use Rattle.std.specs.Option.{option_map_or}
use Rattle.orca_base.specs.declared.command.Command.{Command}
use Rattle.orca_base.specs.declared.command.Command.TheVariants as command
use Rattle.orca_base.specs.declared.command.Rule.{Rule}
use Rattle.orca_base.specs.declared.limits.TheConstants.{MAX_SCREEN_ROWS, MAX_SCREEN_COLUMNS}
use Rattle.orca_base.specs.MarkSet.{MarkSet}
use Rattle.orca_base.specs.Ports.{Sent}
use Rattle.orca_concert.specs.Concerts.{command_course as obey_course, handed_of}
use Rattle.orca_course.specs.Acts.{Act, gives}
use Rattle.orca_course.specs.Acts.Act.{Show, Stand}
use Rattle.orca_course.specs.Courses.{Course, each, mapped, onward, onward_by}
use Rattle.orca_course.specs.Performers.{Hearing, Turn, begun, first_turns, given_course, heard_turns, turn_course}
use Rattle.orca_course.specs.Performers.Turn.{Asked, Given, Learned, Over}
use Rattle.orca_course.specs.Standings.{Standing, refusal_of, standing_after}
use Rattle.orca_course.specs.declared.ending.Ending.{Ending}
use Rattle.orca_course.specs.declared.ending.Stop.{Stop}
use Rattle.orca_course.specs.declared.item.Losses.{Losses}
use Rattle.orca_course.specs.declared.item.Item.{Item}
use Rattle.orca_course.specs.declared.item.Item.TheVariants as item
use Rattle.orca_course.proofs.MidwayLemmas.{AreHeard, AreMidway, IsBrought, IsHeard, IsMidway, after_turn, all_heard, all_midway}
use Rattle.orca_edit.specs.Obeying.{MachineState, Obeyed, obey, refuse, rule_against}
use Rattle.orca_jam.specs.Crews.{CrewState, denial_at, denial_of, offered, player_at, struck_by}
use Rattle.orca_jam.specs.Owners.{owned}
use Rattle.orca_jam.specs.declared.owner.Owner.{Owner}
use Rattle.orca_jam.specs.declared.owner.TheConstants.{NOBODY}
use Rattle.orca_rig.specs.declared.inbox.Answer.{Answer}
use Rattle.orca_rig.specs.declared.inbox.Answer.TheVariants as answer
use Rattle.orca_term.specs.Codes.{letter_o}
use Rattle.orca_term.specs.Editing.{wish_of}
use Rattle.orca_term.specs.Viewing.{painting_bytes}
use Rattle.orca_term.specs.declared.around.Around.{Around}
use Rattle.orca_term.specs.declared.editor.Editor.{Editor}
use Rattle.orca_term.specs.declared.editor.Wish.{Wish}
use Rattle.orca_term.specs.declared.editor.Wish.TheVariants as wish
use Rattle.orca_term.specs.declared.flow.Flow.{Flow}
use Rattle.orca_term.specs.declared.keys.Key.TheVariants as key
use Rattle.orca_term.specs.declared.cell.Cell.{Cell}
use Rattle.orca_live.specs.Carrying.{Carries, giver_of, midway_carried}
use Rattle.orca_live.specs.Hands.{HandsShare, HasOwners, given_by, giver, owners_after, owners_given}
use Rattle.orca_live.specs.Laws.{so_far}
use Rattle.orca_live.specs.Performing.{hand_course, key_course, live_part, owning, picture_course, picture_for, press_course, struck_course, struck_well, view_acts, wish_course}
use Rattle.orca_live.specs.States.{LiveState, around_at, editor_at, fitted, view_at}
use Rattle.orca_live.proofs.OwningLaw.{led, owning_obeyed, owns_by, owns_same, owns_so_far, spares_allowed, spares_key}

-- ---- acts of a hand

-- acts that an answer brings lead from one state to another: what they make of the owners and of the
-- hand that struck a key last, then others go on from there
record Tells (who : Option ℕ) (s : LiveState) (xs : List Act) (t : LiveState) : Type 0 where
  pub has : HasOwners t
  pub last : ℕ → ℕ
  pub owners : (struck : ℕ) (ys : List Act)
      → owners_after who struck (xs ++ ys) s.standing.machine s.crew.owners
      ≡ owners_after who (last struck) ys t.standing.machine t.crew.owners

abbrev Names : Option ℕ → LiveState → List Act → LiveState → Type 0
Names who s xs t = HasOwners s → Tells who s xs t

names_none : (who : Option ℕ) (s : LiveState) → Names who s [] s
names_none who s has =
    record { has = has; last = λ struck. struck; owners = λ struck ys. refl }

names_twice : (who : Option ℕ) (r s t : LiveState) (xs ys : List Act) → Names who r xs s
    → Names who s ys t → Names who r (xs ++ ys) t
names_twice who r s t xs ys first second has =
    let one = first has in
    let two = second one.has in
    record {
      has = two.has;
      last = λ struck. two.last (one.last struck);
      owners = λ struck zs.
          ap (λ (acts : List Act). owners_after who struck acts r.standing.machine r.crew.owners)
          (append_assoc xs ys zs)
          ∙ (one.owners struck (ys ++ zs) ∙ two.owners (one.last struck) zs);
    }

-- nothing that is owned has changed
names_same : (who : Option ℕ) (s t : LiveState) → t.standing ≡ s.standing
    → t.crew ≡ record s.crew { players = t.crew.players } → Names who s [] t
names_same who s t standing crew has = record {
  has = owns_same s t standing crew has;
  last = λ struck. struck;
  owners = λ struck ys.
      sym (ap (λ (at : Standing). owners_after who struck ys at.machine t.crew.owners) standing
      ∙ ap (λ (c : CrewState). owners_after who struck ys s.standing.machine c.owners) crew);
}

-- ---- commands

refused_by : (m : MachineState) (c : Command) (rule : Rule) → rule_against m c ≡ Some rule
    → obey m c ≡ refuse m rule
unfolding obey
refused_by m c rule is = rw is refl

owned_by : (who : ℕ) (c : Command) (s : LiveState) (rule : Option Rule)
    → rule_against s.standing.machine c ≡ rule → c ≢ command.Redo → HasOwners s
    → (led who c s (obey s.standing.machine c)).crew.owners
    ≡ owners_given who c s.standing.machine s.crew.owners
owned_by who c s None is other has =
    let m = s.standing.machine in
    let own : List Owner = owned who c (length (obey m c).machine.history) s.crew.owners in
    ap (λ (crew : CrewState). crew.owners) (owning_obeyed who c s has is other)
    ∙ sym (ap (λ (against : Option Rule). option_map_or (λ rule. s.crew.owners) against own) is)
owned_by who c s (Some rule) is other has =
    let m = s.standing.machine in
    let own : List Owner = owned who c (length (obey m c).machine.history) s.crew.owners in
    ap (λ (o : Obeyed).
    (owning who c (refusal_of o.answer) (length o.machine.history) s.crew).owners)
    (refused_by m c rule is)
    ∙ sym (ap (λ (against : Option Rule). option_map_or (λ rule. s.crew.owners) against own) is)

-- messages that are handed out, and where the run stands then
handed_owners : (who : Option ℕ) (struck : ℕ) (sends : List Sent) (at : Standing) (ys : List Act)
    (m : MachineState) (owners : List Owner)
    → owners_after who struck (((gives sends ++ Stand at ∷ []) ++ []) ++ ys) m owners
    ≡ owners_after who struck ys m owners
handed_owners who struck [] at ys m owners = refl
handed_owners who struck (sent ∷ sends) at ys m owners =
    handed_owners who struck sends at ys m owners

-- a command of a hand, or of nobody, whoever is taken to have given it
command_owners : (who : Option ℕ) (struck hand : ℕ) (c : Command) (s : LiveState) (ys : List Act)
    → given_by who struck c ≡ hand → c ≢ command.Redo → HasOwners s
    → let d = hand_course hand c s in
    owners_after who struck (d.acts ++ ys) s.standing.machine s.crew.owners
    ≡ owners_after who struck ys d.state.standing.machine d.state.crew.owners
unfolding hand_course obey_course onward mapped
command_owners who struck hand c s ys gives other has =
    let m = s.standing.machine in
    let o = obey m c in
    handed_owners who struck (handed_of true o.messages) (standing_after s.standing o) ys o.machine
    (owners_given (given_by who struck c) c m s.crew.owners)
    ∙ (ap (λ (h : ℕ). owners_after who struck ys o.machine (owners_given h c m s.crew.owners)) gives
    ∙ ap (λ (owners : List Owner). owners_after who struck ys o.machine owners)
    (sym (owned_by hand c s (rule_against m c) refl other has)))

command_has : (hand : ℕ) (c : Command) (s : LiveState) → c ≢ command.Redo → HasOwners s
    → HasOwners (hand_course hand c s).state
unfolding hand_course obey_course onward mapped
command_has hand c s other has =
    owns_by hand c s (rule_against s.standing.machine c) refl other has

names_command : (who : Option ℕ) (hand : ℕ) (c : Command) (s : LiveState)
    → ((struck : ℕ) → given_by who struck c ≡ hand) → c ≢ command.Redo
    → Names who s (hand_course hand c s).acts (hand_course hand c s).state
names_command who hand c s gives other has = record {
  has = command_has hand c s other has;
  last = λ struck. struck;
  owners = λ struck ys. command_owners who struck hand c s ys (gives struck) other has;
}

-- ---- the key that gives a command where nothing came for a while

-- a glyph is written, or inside a text that is pasted it is a cell of the text, or nothing
glyph_asks : (P : Wish → Type 0) (glyph : ℕ) (a : Around) (e : Editor) (flow : Option Flow)
    → e.flow ≡ flow → P (wish.Do (command.Write e.y e.x glyph))
    → ((y x : ℕ) → P (wish.Do (command.Clip y x glyph))) → P wish.Nothing
    → P (wish_of (key.Glyph glyph) a e)
glyph_asks P glyph a e None is writes clips nothing = rw is writes
glyph_asks P glyph a e (Some f) is writes clips nothing =
    rw is (by (nat_lt f.y MAX_SCREEN_ROWS && nat_lt f.x MAX_SCREEN_COLUMNS))
  where
    by : (taken : Bool)
        → P (if taken then wish.Do (command.Clip f.y f.x glyph) else wish.Nothing)
    by true = clips f.y f.x
    by false = nothing

-- so it is nobody's alone
glyph_free : (c : CrewState) (hand glyph : ℕ) (a : Around)
    → denial_at c hand (key.Glyph glyph) a ≡ None
unfolding denial_of
glyph_free c hand glyph a =
    let e = (player_at c hand).editor in
    glyph_asks (λ w. denial_of c hand w ≡ None) glyph a e e.flow refl (grind arith)
    (λ y x. grind arith) (grind arith)

-- the hand that struck a key last gives the command
record IsGiven (hand : ℕ) (s : LiveState) (c : Course LiveState Stop) : Type 0 where
  pub has : HasOwners c.state
  pub owners : (ys : List Act)
      → owners_after None hand (c.acts ++ ys) s.standing.machine s.crew.owners
      ≡ owners_after None hand ys c.state.standing.machine c.state.crew.owners

command_given : (hand : ℕ) (c : Command) (s : LiveState) → given_by None hand c ≡ hand
    → c ≢ command.Redo → HasOwners s → IsGiven hand s (hand_course hand c s)
command_given hand c s gives other has = record {
  has = command_has hand c s other has;
  owners = λ ys. command_owners None hand hand c s ys gives other has;
}

-- what becomes of the glyph is of its hand
names_single : (hand : ℕ) (s : LiveState)
    → let c = press_course hand (key.Glyph letter_o) s in Names None s c.acts c.state
unfolding press_course key_course struck_course wish_course
names_single hand s has =
    let k = key.Glyph letter_o in
    let u = fitted (struck_well hand k s) in
    let a = around_at hand k u in
    let e = editor_at hand u in
    let t : LiveState = record u { crew = struck_by hand k a u.crew } in
    let here = owns_same s t refl refl has in
    let given = glyph_asks (λ w. IsGiven hand t (wish_course hand (offered u.crew w) t)) letter_o a
    e e.flow refl (command_given hand _ t refl (λ same. cc) here)
    (λ y x. command_given hand _ t refl (λ same. cc) here)
    (record { has = here; owners = λ ys. refl }) in
    rw (glyph_free u.crew hand letter_o a) (record {
      has = given.has;
      last = λ struck. hand;
      owners = λ struck ys. given.owners ys;
    })

-- what is shown is of nobody
views_owners : (who : Option ℕ) (struck hand : ℕ) (bytes : List ℕ) (cells : List Cell)
    (ys : List Act) (m : MachineState) (owners : List Owner)
    → owners_after who struck ((view_acts hand bytes ++ Show hand cells ∷ []) ++ ys) m owners
    ≡ owners_after who struck ys m owners
views_owners who struck hand [] cells ys m owners = refl
views_owners who struck zero (byte ∷ bytes) cells ys m owners = refl
views_owners who struck (suc hand) (byte ∷ bytes) cells ys m owners = refl

names_paint : (who : Option ℕ) (marks : List MarkSet) (hand : ℕ) (s : LiveState)
    → let c = picture_course marks hand s in Names who s c.acts c.state
unfolding picture_course
names_paint who marks hand s has =
    let cells = picture_for hand marks s in
    let v = view_at hand s in
    record {
      has = owns_same s _ refl refl has;
      last = λ struck. struck;
      owners = λ struck ys.
          views_owners who struck hand (painting_bytes v.screen v.shown cells) cells ys _ _;
    }

-- an act that is nothing to the owners
names_aside : (who : Option ℕ) (act : Act) (s : LiveState)
    → ((struck : ℕ) (ys : List Act) (m : MachineState) (owners : List Owner)
    → owners_after who struck (act ∷ ys) m owners ≡ owners_after who struck ys m owners)
    → Names who s (act ∷ []) s
names_aside who act s nothing has = record {
  has = has;
  last = λ struck. struck;
  owners = λ struck ys. nothing struck ys s.standing.machine s.crew.owners;
}

names_carries : Carries (λ who end. Names who)
names_carries = record {
  none = λ who s t alike. names_same who s t alike.standing alike.crew;
  both = λ who end. names_twice who;
  leaves = λ who. names_none who;
  full = λ s is. names_none None s;
  command = λ hand c s other has.
      names_command (Some hand) hand c s (λ struck. refl) (other has.shared) has;
  frame = λ s. names_command None NOBODY command.Frame s (λ struck. refl) (λ same. cc);
  struck = λ who hand key s has. record {
    has = owns_same s _ refl refl has;
    last = λ struck. hand;
    owners = λ struck ys. refl;
  };
  single = λ hand s names. names_single hand s;
  denied = λ who hand denial s has. record {
    has = owns_same s _ refl refl has;
    last = λ struck. struck;
    owners = λ struck ys. refl;
  };
  kept = λ who hand bytes s has. record {
    has = owns_same s _ refl refl has;
    last = λ struck. struck;
    owners = λ struck ys. refl;
  };
  save = λ who name bytes s saved. names_aside who _ s (λ struck ys m owners. refl);
  append = λ who name byte bytes s named is has. record {
    has = owns_same s _ refl refl has;
    last = λ struck. struck;
    owners = λ struck ys. refl;
  };
  paint = λ who marks hand s is. names_paint who marks hand s;
  screen = λ who hand d s is has. record {
    has = owns_same s _ refl refl has;
    last = λ struck. struck;
    owners = λ struck ys. refl;
  };
}

-- ---- turns

-- whoever answered last gives the commands, and does so after a turn
abbrev next_giver : Option ℕ → Turn → Option ℕ
next_giver who (Asked poll) = giver poll.answer
next_giver who (Learned came) = who
next_giver who (Given i) = who
next_giver who (Over ending) = who

-- who gives the commands is the one whose answer is given, if one is
abbrev Gives : Option Answer → Option ℕ → Type 0
Gives None who = Unit {0}
Gives (Some a) who = giver a ≡ who

gives_after : (turn : Turn) (a : Option Answer) (who : Option ℕ) → Gives a who
    → Gives (after_turn turn a) (next_giver who turn)
gives_after (Asked poll) a who gives = refl
gives_after (Given item.Settle) a who gives = tt
gives_after turn a who gives = gives

-- and gives those of an item of it
given_item : (i : Item) (a : Option Answer) (who : Option ℕ) → IsBrought i a → Gives a who
    → giver_of who i ≡ who
given_item (item.Byte other moment byte) (Some (answer.Bytes hand count at)) who brought gives =
    ap (λ (hand : ℕ). Some hand) brought ∙ gives
given_item (item.Byte other moment byte) a who brought gives = absurd brought
given_item (item.Due moment) (Some (answer.Due at)) who brought gives = gives
given_item (item.Due moment) a who brought gives = absurd brought
given_item i a who brought gives = refl

-- after a turn the commands are of whoever gives them then
record Answers (who other : Option ℕ) (s : LiveState) (xs : List Act) (t : LiveState) : Type 0 where
  pub has : HasOwners t
  pub last : ℕ → ℕ
  pub owners : (struck : ℕ) (ys : List Act)
      → owners_after who struck (xs ++ ys) s.standing.machine s.crew.owners
      ≡ owners_after other (last struck) ys t.standing.machine t.crew.owners

answers_turn : (turn : Turn) (a : Option Answer) (who : Option ℕ) (s : LiveState) → IsMidway turn
    → IsHeard turn a → Gives a who → HasOwners s
    → let c = turn_course live_part turn s in Answers who (next_giver who turn) s c.acts c.state
unfolding turn_course given_course mapped
answers_turn (Asked poll) a who s midway heard gives has =
    record { has = has; last = λ struck. struck; owners = λ struck ys. refl }
answers_turn (Learned came) a who s midway heard gives has =
    record { has = has; last = λ struck. struck; owners = λ struck ys. refl }
answers_turn (Over ending) a who s midway heard gives has =
    record { has = has; last = λ struck. struck; owners = λ struck ys. refl }
answers_turn (Given i) a who s midway heard gives has =
    let c = live_part.takes i s in
    let tells =
    subst (λ (giver : Option ℕ). Names giver s c.acts c.state) (given_item i a who heard gives)
    (midway_carried names_carries (λ who name s. names_aside who _ s (λ struck ys m owners. refl)) who i s
    midway) has in
    record { has = tells.has; last = tells.last; owners = tells.owners }

-- whatever was done, the owners are those after it
abbrev Owns : Option ℕ → ℕ → LiveState → List Act → LiveState → Type 0
Owns who struck s xs t =
    t.crew.owners ≡ owners_after who struck xs s.standing.machine s.crew.owners

-- acts, and then others, unless they ended
owns_onward : (who other : Option ℕ) (struck : ℕ) (s : LiveState) (end : Option Ending)
    (c : Course LiveState Ending) (next : LiveState → Course LiveState Ending)
    → Answers who other s c.acts c.state
    → ((last : ℕ) → HasOwners c.state
    → Owns other last c.state (next c.state).acts (next c.state).state)
    → Owns who struck s (onward_by end c next).acts (onward_by end c next).state
owns_onward who other struck s None c next first more =
    more (first.last struck) first.has ∙ sym (first.owners struck (next c.state).acts)
owns_onward who other struck s (Some e) c next first more =
    sym (ap (λ (acts : List Act). owners_after who struck acts s.standing.machine s.crew.owners)
    (sym (append-nil c.acts))
    ∙ first.owners struck [])

owns_turns : (turns : List Turn) (a : Option Answer) (who : Option ℕ) (struck : ℕ) (s : LiveState)
    → AreMidway turns → AreHeard turns a → Gives a who → HasOwners s
    → let c = each (turn_course live_part) turns s in Owns who struck s c.acts c.state
unfolding each onward turn_course
owns_turns [] a who struck s midway heard gives has = refl
owns_turns (Over ending ∷ turns) a who struck s midway heard gives has = refl
owns_turns (turn ∷ turns) a who struck s midway heard gives has =
    let c = turn_course live_part turn s in
    owns_onward who (next_giver who turn) struck s c.ending c (each (turn_course live_part) turns)
    (answers_turn turn a who s midway.0 heard.0 gives has)
    (λ last. owns_turns turns (after_turn turn a) (next_giver who turn) last c.state midway.1 heard.1
    (gives_after turn a who gives))

names_so_far : (s : LiveState) (opening : Losses) (heard : List Hearing) → HasOwners s
    → Owns None NOBODY s (so_far s opening heard).acts (so_far s opening heard).state
unfolding begun
names_so_far s opening heard has =
    owns_turns (first_turns opening ++ heard_turns heard) None None NOBODY s
    (all_midway opening heard)
    (tt, (tt, (tt, all_heard heard))) tt has

pub hands_share : HandsShare
hands_share s has = record {
  owners = λ opening heard. owns_so_far s opening heard has;
  names = λ opening heard. names_so_far s opening heard has;
  spares = λ opening heard hand granted allowed.
      let c = so_far s opening heard in
      spares_allowed hand c.state (owns_so_far s opening heard has) granted allowed;
  undoes = λ opening heard hand.
      spares_key hand (so_far s opening heard).state (owns_so_far s opening heard has);
}
