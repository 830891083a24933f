-- What was done for items, and for polls.
use Rattle.std.proofs.Common.{◌≡◌, ℕ, ◌+◌, ◌<◌, ◌≤◌, length, List, [], ◌∷◌, ◌++◌, map, refl, sym, ap, subst, ◌∙◌, arith, length-append, append-nil}
use Rattle.std.specs.Prelude.{Bool, true, false, ◌||◌, if◌then◌else◌, nat_le, Option, Some, None, Result, Ok, Err}
use Rattle.std.specs.List.{flat_map}
use Rattle.std.specs.Option.{option_map}
use Rattle.std.proofs.lemmas.Bool.{le-leb}
use Rattle.std.proofs.lemmas.Grind.{flat_map-append}
use Rattle.orca_base.specs.declared.limits.TheConstants.{MAX_POLLS}
use Rattle.orca_rig.specs.Arrived.{is_ending}
use Rattle.orca_rig.specs.declared.inbox.Answer.{Answer}
use Rattle.orca_rig.specs.declared.inbox.Answer.TheVariants as answer
use Rattle.orca_course.specs.Acts.{AreDeaf, polls_in}
use Rattle.orca_course.specs.Answered.{losses_of, is_failure}
use Rattle.orca_course.specs.Courses.{Course, each, ended, lastly, mapped, onward}
use Rattle.orca_course.specs.Doing.{Does}
use Rattle.orca_course.specs.Performers.{DoesPolls, Hearing, IsDeaf, IsLostBy, Part, Turn, answer_turns, attended, begun, finished, first_turns, given_course, heard_turns, items_of, last_turns, over_turns, performance, polls_of, spent, turn_course, turns_of}
use Rattle.orca_course.specs.Performers.Turn.{Asked, Given, Learned, Over}
use Rattle.orca_course.specs.Worlds.{Polled, World, has_ended, inbox_failed, owing}
use Rattle.orca_course.specs.declared.ending.Ending.{Ending}
use Rattle.orca_course.specs.declared.ending.Ending.TheVariants.{Lost, Spent, Stopped}
use Rattle.orca_course.specs.declared.ending.Stop.{Stop}
use Rattle.orca_course.specs.declared.item.Losses.{Losses}
use Rattle.orca_course.specs.declared.item.Item.{Item}
use Rattle.orca_course.specs.declared.item.Item.TheVariants as item
use Rattle.orca_course.specs.declared.refused.NoMemory.{NoMemory}
use Rattle.orca_course.proofs.ActLemmas.{AreDeaf-append, ended-deaf, lost-deaf, polls-deaf, polls_in-append}
use Rattle.orca_course.proofs.CourseLemmas.{each-append, each-one, lastly_longer, onward_goes}
use Rattle.orca_course.proofs.DoingLemmas.{Ends, answered, does_acts, does_end, does_lastly, does_left, does_longer, does_mapped, does_still, does_then, rests_mute}
use Rattle.orca_course.proofs.TurnLemmas.{Are, turns_hold}
use Rattle.orca_course.proofs.WorldLemmas.{ended_made, lost_made, made_learn, made_owing}

-- ---- turns

-- one course for each of a list, by another
pub each-map : {X Y S E : Type 0} (f : Y → S → Course S E) (g : X → Y) (xs : List X) (s : S)
    → each f (map g xs) s ≡ each (λ x. f (g x)) xs s
unfolding each
each-map f g [] s = refl
each-map f g (x ∷ xs) s = simp (each-map f g xs)

pub given_turns : {S : Type 0} (p : Part S) (items : List Item) (s : S)
    → each (turn_course p) (map Given items) s ≡ each (given_course p) items s
unfolding turn_course
given_turns p items s = each-map (turn_course p) Given items s

pub over_turn : {S : Type 0} (p : Part S) (e : Ending) (s : S)
    → each (turn_course p) (Over e ∷ []) s ≡ ended e s
unfolding turn_course
over_turn p e s = each-one (turn_course p) (Over e) s

-- what an answer brings, and that it was all
pub answer_each : {S : Type 0} (p : Part S) (a : Answer) (bytes : List ℕ) (came : Losses) (s : S)
    → each (turn_course p) (answer_turns a bytes came) s
    ≡ onward (each (given_course p) (items_of a bytes) s) (each (turn_course p) (last_turns a came))
answer_each p a bytes came s =
    rw (each-append (turn_course p) (map Given (items_of a bytes)) (last_turns a came) s, given_turns)
    refl

-- the turns of one answer more
pub heard_more : {S : Type 0} (p : Part S) (heard : List Hearing) (h : Hearing) (s : S)
    → each (turn_course p) (flat_map turns_of (heard ++ h ∷ [])) s
    ≡ onward (each (turn_course p) (flat_map turns_of heard) s) (each (turn_course p) (turns_of h))
heard_more p heard h s =
    rw (flat_map-append turns_of heard (h ∷ []), append-nil (turns_of h))
    (each-append (turn_course p) (flat_map turns_of heard) (turns_of h) s)

-- ---- what turns do not do

-- the inbox is not asked, and has not failed
abbrev IsPlain : Turn → Type 0
IsPlain (Asked poll) = ⊥
IsPlain (Over Lost) = ⊥
IsPlain other = Unit {0}

-- a course does not ask the inbox, and does not lose it
abbrev IsQuiet : {S : Type 0} → Course S Ending → Type 0
IsQuiet c = AreDeaf c.acts × ((was : Bool) → IsLostBy (Ok c.ending) was was)

module _ {S : Type 0} (p : Part S) (deaf : IsDeaf p) where
  turn_quiet : (turn : Turn) → IsPlain turn → (s : S) → IsQuiet (turn_course p turn s)
  unfolding turn_course given_course mapped IsDeaf
  turn_quiet (Asked poll) plain s = absurd plain
  turn_quiet (Learned came) plain s = (tt, λ was. refl)
  turn_quiet (Given i) plain s = (deaf i s, λ was. grind arith)
  turn_quiet (Over (Stopped stop)) plain s = (tt, λ was. refl)
  turn_quiet (Over Lost) plain s = absurd plain
  turn_quiet (Over Spent) plain s = (tt, λ was. refl)

  turns_quiet : (turns : List Turn) → Are IsPlain turns → (s : S)
      → IsQuiet (each (turn_course p) turns s)
  turns_quiet turns plain s =
      turns_hold (λ end s acts t. AreDeaf acts × ((was : Bool) → IsLostBy (Ok end) was was))
      (λ end r s t xs ys first second. (AreDeaf-append xs ys first.0 second.0, second.1)) IsPlain
      (turn_course p) (λ s. (tt, λ was. refl)) turn_quiet turns plain s

  -- what comes first
  first_quiet : (came : Losses) (s : S) → IsQuiet (each (turn_course p) (first_turns came) s)
  first_quiet came s = turns_quiet (first_turns came) (tt, (tt, (tt, tt))) s

  -- no poll comes after the last
  spent_deaf : (heard : List Hearing) (s : S) → AreDeaf (each (turn_course p) (spent heard) s).acts
  spent_deaf heard s =
      elim (nat_le MAX_POLLS (length heard)) as
      (λ over. AreDeaf (each (turn_course p) (if over then Over Spent ∷ [] else []) s).acts) [
        | true ↦ (turns_quiet (Over Spent ∷ []) (tt, tt) s).0
        | false ↦ (turns_quiet [] tt s).0
      ]

-- ---- an answer

-- only an answer that is no last one goes on
pub answer_goes : {S : Type 0} (p : Part S) (a : Answer) (bytes : List ℕ) (came : Losses) (s : S)
    → (each (turn_course p) (answer_turns a bytes came) s).ending ≡ None → is_ending a ≡ false
answer_goes p (answer.Bytes hand count at) bytes came s goes = refl
answer_goes p (answer.Due at) bytes came s goes = refl
answer_goes p answer.End bytes came s goes = let goes = rw over_turn at goes in absurd cc
answer_goes p answer.Failed bytes came s goes = let goes = rw over_turn at goes in absurd cc

plain_bytes : (hand at : ℕ) (bytes : List ℕ) (came : Losses)
    → Are IsPlain (map Given (map (item.Byte hand at) bytes) ++ over_turns came)
plain_bytes hand at [] came = (tt, (tt, (tt, tt)))
plain_bytes hand at (byte ∷ bytes) came = (tt, plain_bytes hand at bytes came)

lost_same : (end : Option Ending) → ((was : Bool) → IsLostBy (Ok end) was was) → (was : Bool)
    → IsLostBy (Ok end) was (was || false)
lost_same end not true = not true
lost_same end not false = not false

-- an answer does not ask the inbox, which has failed exactly if that is how it ended
answer_quiet : {S : Type 0} (p : Part S) → IsDeaf p → (a : Answer) (bytes : List ℕ) (came : Losses)
    (s : S)
    → let c = each (turn_course p) (answer_turns a bytes came) s in
    AreDeaf c.acts × ((was : Bool) → IsLostBy (Ok c.ending) was (was || is_failure a))
answer_quiet p deaf (answer.Bytes hand count at) bytes came s =
    let quiet = turns_quiet p deaf _ (plain_bytes hand at bytes came) s in
    (quiet.0, lost_same _ quiet.1)
answer_quiet p deaf (answer.Due at) bytes came s =
    let turns = Given (item.Due at) ∷ over_turns came in
    let quiet = turns_quiet p deaf turns (tt, (tt, (tt, (tt, tt)))) s in
    (quiet.0, lost_same _ quiet.1)
answer_quiet p deaf answer.End bytes came s = rw over_turn (tt, λ was. grind arith)
answer_quiet p deaf answer.Failed bytes came s = rw over_turn (tt, λ was. grind arith)

-- ---- what was done of items

-- an item was taken
pub took : {S : Type 0} (p : Part S) (i : Item) {s t : S} {x y : World}
    (result : Result (Option Stop) NoMemory) → Does p.stance (p.takes i s) s x result t y
    → Does p.stance (given_course p i s) s x (answered (option_map Stopped) result) t y
unfolding given_course
took p i result did = does_mapped (λ u. u) (option_map Stopped) result refl (λ u. refl) did

given_only : {S : Type 0} (p : Part S) (i : Item) {s t : S} {x y : World}
    {result : Result (Option Ending) NoMemory} → Does p.stance (given_course p i s) s x result t y
    → Does p.stance (each (turn_course p) (Given i ∷ []) s) s x result t y
unfolding turn_course
given_only p i did = rw each-one did

pub over_took : {S : Type 0} (p : Part S) (e : Ending) (s : S) (x : World)
    → Does p.stance (each (turn_course p) (Over e ∷ []) s) s x (Ok (Some e)) s x
over_took p e s x = rw over_turn (does_end e x refl)

module _ {S : Type 0} (p : Part S) {s t : S} {x y : World} where
  -- an item was given, and then other turns
  pub given_then : (i : Item) (turns : List Turn) {u : S} {z : World}
      {result : Result (Option Ending) NoMemory}
      → Does p.stance (given_course p i s) s x (Ok None) t y
      → Does p.stance (each (turn_course p) turns t) t y result u z
      → Does p.stance (each (turn_course p) (Given i ∷ turns) s) s x result u z
  unfolding each turn_course
  given_then i turns first more = does_then (each (turn_course p) turns) first more

  pub given_left : (i : Item) (turns : List Turn) (result : Result (Option Ending) NoMemory)
      → Ends result → Does p.stance (given_course p i s) s x result t y
      → Does p.stance (each (turn_course p) (Given i ∷ turns) s) s x result t y
  unfolding each turn_course
  given_left i turns result ends first = does_left (each (turn_course p) turns) result ends first

  -- what calls came to was told with an item
  pub told_took : (i : Losses → Item) (came : Losses) {result : Result (Option Ending) NoMemory}
      → came ≡ losses_of x.calls → Does p.stance (given_course p (i came) s) s x result t y
      → Does p.stance (each (turn_course p) (Learned came ∷ Given (i came) ∷ []) s) s x result t y
  unfolding each turn_course
  told_took i came is did =
      does_then (each (turn_course p) (Given (i came) ∷ []))
      (does_acts (rw is (made_learn x)) refl (rests_mute p.stance s s _ tt refl))
      (given_only p (i came) did)

  -- an answer: its items, and that it was all
  pub answer_then : (a : Answer) (bytes : List ℕ) (came : Losses) {u : S} {z : World}
      {result : Result (Option Ending) NoMemory}
      → Does p.stance (each (given_course p) (items_of a bytes) s) s x (Ok None) t y
      → Does p.stance (each (turn_course p) (last_turns a came) t) t y result u z
      → Does p.stance (each (turn_course p) (answer_turns a bytes came) s) s x result u z
  answer_then a bytes came first second =
      rw answer_each (does_then (each (turn_course p) (last_turns a came)) first second)

  pub answer_left : (a : Answer) (bytes : List ℕ) (came : Losses)
      (result : Result (Option Ending) NoMemory) → Ends result
      → Does p.stance (each (given_course p) (items_of a bytes) s) s x result t y
      → Does p.stance (each (turn_course p) (answer_turns a bytes came) s) s x result t y
  answer_left a bytes came result ends first =
      rw answer_each (does_left (each (turn_course p) (last_turns a came)) result ends first)

-- ---- one poll

-- an answer that was heard
abbrev pub heard_of : {until : Option ℕ} {a : Answer} {bytes : List ℕ} {x y : World}
    → Polled until a bytes x y → Losses → Hearing
heard_of {until = until} {a = a} {bytes = bytes} polled came =
    record { poll = record { until = until; answer = a; bytes = bytes }; came = came }

-- what is done for a poll
abbrev pub heard_course : {S : Type 0} → Part S → Hearing → S → Course S Ending
heard_course p h s = each (turn_course p) (turns_of h) s

-- a poll, and what its answer brings
pub poll_done : {S : Type 0} (p : Part S) {until : Option ℕ} {a : Answer} {filled bytes : List ℕ}
    {s t : S} {x y z : World} {result : Result (Option Ending) NoMemory} (n : ℕ) (came : Losses)
    (poll : Polled until a bytes x y) → until ≡ p.until s → filled ≡ bytes
    → Does p.stance (each (turn_course p) (answer_turns a filled came) s) s (owing n y) result t z
    → Does p.stance (heard_course p (heard_of poll came) s) s (owing n x) result t z
unfolding each turn_course
poll_done p {a = a} {bytes = bytes} {s = s} n came poll waits filled did =
    rw (← waits)
    (does_then (each (turn_course p) (answer_turns a bytes came))
    (does_acts (made_owing n poll.made) poll.sated (rests_mute p.stance s s _ tt refl))
    (rw filled at did))

polled_polls : {S : Type 0} (p : Part S) → IsDeaf p → (h : Hearing) (s : S)
    → h.poll.until ≡ p.until s → polls_in (heard_course p h s).acts ≡ h.poll ∷ []
unfolding each turn_course onward
polled_polls p deaf h s waits =
    let rest = polls-deaf (each (turn_course p) (answer_turns h.poll.answer h.poll.bytes h.came) s).acts
    (answer_quiet p deaf h.poll.answer h.poll.bytes h.came s).0 in
    rw (← waits) (ap (λ more. h.poll ∷ more) rest)

polled_hears : {S : Type 0} (p : Part S) → IsDeaf p → (h : Hearing) {s t : S} {x y : World}
    → has_ended x ≡ false → Does p.stance (heard_course p h s) s x (Ok None) t y
    → has_ended y ≡ false
unfolding each turn_course onward
polled_hears p deaf h {s = s} {x = x} hearing did =
    let acts = (each (turn_course p) (answer_turns h.poll.answer h.poll.bytes h.came) s).acts in
    let deaf = (answer_quiet p deaf h.poll.answer h.poll.bytes h.came s).0 in
    let off = answer_goes p h.poll.answer h.poll.bytes h.came s did.did.ending in
    ended_made did.did.made
    ∙ (ended-deaf acts (has_ended x || is_ending h.poll.answer) deaf ∙ rw (hearing, off) refl)

polled_lost : {S : Type 0} (p : Part S) → IsDeaf p → (h : Hearing) {s t : S} {x y : World}
    → (result : Result (Option Ending) NoMemory)
    → Does p.stance (heard_course p h s) s x result t y → IsLostBy result (inbox_failed x) (inbox_failed y)
unfolding each turn_course onward
polled_lost p deaf h {s = s} {x = x} {y = y} (Ok end) did =
    let acts = (each (turn_course p) (answer_turns h.poll.answer h.poll.bytes h.came) s).acts in
    let lost = lost_made did.did.made
    ∙ lost-deaf acts (inbox_failed x || is_failure h.poll.answer)
    (answer_quiet p deaf h.poll.answer h.poll.bytes h.came s).0 in
    subst (λ last. IsLostBy (Ok last) (inbox_failed x) (inbox_failed y)) did.did.ending
    (rw lost ((answer_quiet p deaf h.poll.answer h.poll.bytes h.came s).1 (inbox_failed x)))
polled_lost p deaf h (Err e) did = tt

-- ---- polls, one after another

-- so many polls were answered, and it goes on
pub record Answered {S : Type 0} (p : Part S) (n : ℕ) (s : S) (x : World) (t : S) (y : World)
    : Type 0 where
  pub heard : List Hearing
  pub many : length heard ≡ n
  pub all : polls_in (each (turn_course p) (flat_map turns_of heard) s).acts ≡ polls_of heard
  pub hearing : has_ended y ≡ false
  pub steady : inbox_failed y ≡ inbox_failed x
  pub did : Does p.stance (each (turn_course p) (flat_map turns_of heard) s) s x (Ok None) t y

pub answered_none : {S : Type 0} (p : Part S) (s : S) (x : World) → has_ended x ≡ false
    → Answered p 0 s x s x
unfolding each
answered_none p s x hearing = record {
  heard = [];
  many = refl;
  all = refl;
  hearing = hearing;
  steady = refl;
  did = does_still x refl;
}

-- the answers, and then that the polls are spent
attended_each : {S : Type 0} (p : Part S) (heard : List Hearing) (s : S)
    → attended p s heard
    ≡ onward (each (turn_course p) (flat_map turns_of heard) s) (each (turn_course p) (spent heard))
unfolding attended
attended_each p heard s = each-append (turn_course p) (flat_map turns_of heard) (spent heard) s

polls_onward : {S E : Type 0} (c : Course S E) (next : S → Course S E)
    → ((s : S) → AreDeaf (next s).acts) → polls_in (onward c next).acts ≡ polls_in c.acts
unfolding onward
polls_onward c next deaf = grind (arith, polls_in-append, polls-deaf, append-nil)

polls_lastly : {S E F : Type 0} (c : Course S E) (next : E → S → Course S F)
    → ((e : E) (s : S) → AreDeaf (next e s).acts) → polls_in (lastly c next).acts ≡ polls_in c.acts
unfolding lastly
polls_lastly c next deaf = grind (arith, polls_in-append, polls-deaf, append-nil)

polls_of-append : (xs ys : List Hearing) → polls_of (xs ++ ys) ≡ polls_of xs ++ polls_of ys
polls_of-append [] ys = refl
polls_of-append (x ∷ xs) ys = grind (arith, polls_of-append xs ys)

-- what was done for the polls of a performance
abbrev pub Attends : {S : Type 0} → Part S → S → World → Result (Option Ending) NoMemory → S
    → World → Type 0
Attends p s x result t y = DoesPolls p.stance (attended p s) s x result t y

module _ {S : Type 0} {p : Part S} {n : ℕ} {s t : S} {x y : World} (deaf : IsDeaf p)
    (so_far : Answered p n s x t y) where
  all_more : (h : Hearing) → h.poll.until ≡ p.until t
      → polls_in (each (turn_course p) (flat_map turns_of (so_far.heard ++ h ∷ [])) s).acts
      ≡ polls_of (so_far.heard ++ h ∷ [])
  all_more h waits =
      let c = each (turn_course p) (flat_map turns_of so_far.heard) s in
      rw (
        heard_more,
        onward_goes c (heard_course p h) so_far.did.did.ending,
        polls_in-append,
        so_far.did.did.state,
        polled_polls p deaf h t waits,
        so_far.all,
        polls_of-append,
      ) refl

  did_more : (h : Hearing) {u : S} {z : World} {result : Result (Option Ending) NoMemory}
      → Does p.stance (heard_course p h t) t y result u z
      → Does p.stance (each (turn_course p) (flat_map turns_of (so_far.heard ++ h ∷ [])) s) s x
      result u z
  did_more h did = rw heard_more (does_then (heard_course p h) so_far.did did)

  pub answered_more : (h : Hearing) {u : S} {z : World} → h.poll.until ≡ p.until t
      → Does p.stance (heard_course p h t) t y (Ok None) u z → Answered p (n + 1) s x u z
  answered_more h waits did = record {
    heard = so_far.heard ++ h ∷ [];
    many = grind (arith, length-append, so_far.many);
    all = all_more h waits;
    hearing = polled_hears p deaf h so_far.hearing did;
    steady = grind (arith, polled_lost p deaf h (Ok None) did, so_far.steady);
    did = did_more h did;
  }

  pub answered_left : (h : Hearing) {u : S} {z : World} (result : Result (Option Ending) NoMemory)
      → Ends result → h.poll.until ≡ p.until t → n < MAX_POLLS
      → Does p.stance (heard_course p h t) t y result u z → Attends p s x result u z
  answered_left h result ends waits below did =
      let heard = so_far.heard ++ h ∷ [] in
      let last = each (turn_course p) (spent heard) in
      record {
        heard = heard;
        few = grind (arith, length-append, so_far.many);
        all = rw (attended_each p heard s, polls_onward _ last (spent_deaf p deaf heard))
            (all_more h waits);
        lost = rw (← so_far.steady) (polled_lost p deaf h result did);
        did = rw (attended_each p heard s) (does_left last result ends (did_more h did));
      }

  -- as many as may be
  pub answered_over : n ≤ MAX_POLLS → MAX_POLLS ≤ n → Attends p s x (Ok (Some Spent)) t y
  answered_over most all =
      let heard = so_far.heard in
      let full : MAX_POLLS ≤ length heard = omega (arith, all, so_far.many) in
      let last = each (turn_course p) (spent heard) in
      record {
        heard = heard;
        few = omega (arith, most, so_far.many);
        all = rw (attended_each p heard s, polls_onward _ last (spent_deaf p deaf heard))
            so_far.all;
        lost = so_far.steady;
        did = rw (attended_each p heard s) (does_then last so_far.did
            (rw (le-leb MAX_POLLS (length heard) full, over_turn) (does_end Spent y refl)));
      }

-- ---- what comes first

begun_each : {S : Type 0} (p : Part S) (came : Losses) (heard : List Hearing) (s : S)
    → begun p s came heard
    ≡ onward (each (turn_course p) (first_turns came) s) (λ t. attended p t heard)
unfolding begun attended
begun_each p came heard s = each-append (turn_course p) (first_turns came) (heard_turns heard) s

module _ {S : Type 0} (p : Part S) (deaf : IsDeaf p) (came : Losses) {s t : S} {x y : World} where
  -- the inbox has not ended before the first poll
  pub opened_hears : Does p.stance (each (turn_course p) (first_turns came) s) s x (Ok None) t y
      → has_ended x ≡ false → has_ended y ≡ false
  opened_hears first hearing =
      ended_made first.did.made ∙ (ended-deaf (each (turn_course p) (first_turns came) s).acts
      (has_ended x) (first_quiet p deaf came s).0 ∙ hearing)

  opened_lost : (result : Result (Option Ending) NoMemory)
      → Does p.stance (each (turn_course p) (first_turns came) s) s x result t y
      → IsLostBy result (inbox_failed x) (inbox_failed y)
  opened_lost (Ok end) first =
      let quiet = first_quiet p deaf came s in
      let lost = lost_made first.did.made
      ∙ lost-deaf (each (turn_course p) (first_turns came) s).acts (inbox_failed x) quiet.0 in
      let not = quiet.1 (inbox_failed x) in
      subst (λ last. IsLostBy (Ok last) (inbox_failed x) (inbox_failed y)) first.did.ending (rw lost not)
  opened_lost (Err e) first = tt

  pub begun_then : {u : S} {z : World} {result : Result (Option Ending) NoMemory}
      → Does p.stance (each (turn_course p) (first_turns came) s) s x (Ok None) t y
      → Attends p t y result u z → DoesPolls p.stance (begun p s came) s x result u z
  begun_then first more = record {
    heard = more.heard;
    few = more.few;
    all = rw (
      begun_each p came more.heard s,
      onward_goes (each (turn_course p) (first_turns came) s) _ first.did.ending,
      polls_in-append,
      polls-deaf (each (turn_course p) (first_turns came) s).acts (first_quiet p deaf came s).0,
      first.did.state,
    ) more.all;
    lost = rw (opened_lost (Ok None) first) at more.lost;
    did = rw (begun_each p came more.heard s) (does_then (λ t. attended p t more.heard) first more.did);
  }

  pub begun_left : (result : Result (Option Ending) NoMemory) → Ends result
      → Does p.stance (each (turn_course p) (first_turns came) s) s x result t y
      → DoesPolls p.stance (begun p s came) s x result t y
  unfolding attended
  begun_left result ends first = record {
    heard = [];
    few = omega arith;
    all = rw (begun_each p came [] s)
        (polls_onward (each (turn_course p) (first_turns came) s) _ (λ u. spent_deaf p deaf [] u)
        ∙ polls-deaf (each (turn_course p) (first_turns came) s).acts
        (first_quiet p deaf came s).0);
    lost = opened_lost result first;
    did = rw (begun_each p came [] s) (does_left (λ t. attended p t []) result ends first);
  }

-- ---- the end

finished_deaf : {S : Type 0} (p : Part S) → IsDeaf p → (e : Ending) (s : S)
    → AreDeaf (finished p e s).acts
unfolding finished mapped IsDeaf
finished_deaf p deaf e s = deaf (item.Ended e) s

last_lost : {S : Type 0} (p : Part S) (deaf : IsDeaf p) (e : Ending) (t u : S) (x y z : World)
    (result : Result (Option Stop) NoMemory) → IsLostBy (Ok (Some e)) (inbox_failed x) (inbox_failed y)
    → Does p.stance (p.takes (item.Ended e) t) t y result u z
    → IsLostBy (answered (λ end. Some e) result) (inbox_failed x) (inbox_failed z)
unfolding IsDeaf
last_lost p deaf e t u x y z (Ok end) lost more =
    let same = lost_made more.did.made
    ∙ lost-deaf (p.takes (item.Ended e) t).acts (inbox_failed y) (deaf (item.Ended e) t) in
    subst (IsLostBy (Ok (Some e)) (inbox_failed x)) (sym same) lost
last_lost p deaf e t u x y z (Err refused) lost more = tt

module _ {S : Type 0} (p : Part S) (deaf : IsDeaf p) (came : Losses) {s t : S} {x y : World} where
  -- how it ended stays
  pub performance_last : {u : S} {z : World} {e : Ending} (result : Result (Option Stop) NoMemory)
      → DoesPolls p.stance (begun p s came) s x (Ok (Some e)) t y
      → Does p.stance (p.takes (item.Ended e) t) t y result u z
      → DoesPolls p.stance (performance p s came) s x (answered (λ end. Some e) result) u z
  unfolding performance finished mapped
  performance_last {z = z} {e = e} result first more = record {
    heard = first.heard;
    few = first.few;
    all = rw (polls_lastly (begun p s came first.heard) (finished p) (finished_deaf p deaf)) first.all;
    lost = last_lost p deaf e _ _ x y z result first.lost more;
    did = does_lastly (finished p) first.did
        (does_mapped (λ u. u) (λ end. Some e) result refl (λ u. refl) more);
  }

  pub performance_err : {e : NoMemory} → DoesPolls p.stance (begun p s came) s x (Err e) t y
      → DoesPolls p.stance (performance p s came) s x (Err e) t y
  unfolding performance
  performance_err cut = record {
    heard = cut.heard;
    few = cut.few;
    all = rw (polls_lastly (begun p s came cut.heard) (finished p) (finished_deaf p deaf)) cut.all;
    lost = tt;
    did = does_longer (lastly_longer _ _) cut.did;
  }

-- a performance without answers polls nothing
pub polls_none : {S : Type 0} (p : Part S) → IsDeaf p → (came : Losses) (s : S)
    → polls_in (performance p s came []).acts ≡ []
unfolding performance attended
polls_none p deaf came s =
    polls_lastly (begun p s came []) (finished p) (finished_deaf p deaf)
    ∙ rw (begun_each p came [] s)
    (polls_onward (each (turn_course p) (first_turns came) s) _ (λ u. spent_deaf p deaf [] u)
    ∙ polls-deaf (each (turn_course p) (first_turns came) s).acts (first_quiet p deaf came s).0)
