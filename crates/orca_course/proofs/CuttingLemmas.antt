-- Performances that go by what is heard, and not by its moments or how it was cut into answers: one
-- induction over turns, for every performer and any number of hands.
use Rattle.std.proofs.Common.{◌≡◌, ◌≢◌, Bool, true, false, List, [], ◌∷◌, ◌++◌, refl, sym, ◌∙◌, ap, append_assoc, append-nil}
use Rattle.std.specs.Prelude.{if◌then◌else◌, Option, Some, None}
use Rattle.std.specs.Option.{is_some, option_map}
use Rattle.orca_base.specs.declared.command.Command.{Command}
use Rattle.orca_course.specs.Acts.{commands_in}
use Rattle.orca_course.specs.Courses.{Course, each, lastly, lastly_by, mapped, onward, onward_by}
use Rattle.orca_course.specs.Performers.{Hearing, Part, Turn, begun, finished, first_turns, given_course, heard_turns, performance, turn_course}
use Rattle.orca_course.specs.Performers.Turn.{Asked, Given, Learned, Over}
use Rattle.orca_course.specs.declared.ending.Ending.{Ending}
use Rattle.orca_course.specs.declared.ending.Ending.TheVariants.{Stopped}
use Rattle.orca_course.specs.declared.ending.Stop.{Stop}
use Rattle.orca_course.specs.declared.item.Losses.{Losses}
use Rattle.orca_course.specs.declared.item.Item.{Item}
use Rattle.orca_course.specs.declared.item.Item.TheVariants as item
use Rattle.orca_course.proofs.ActLemmas.{commands_in-append}
use Rattle.orca_course.proofs.MidwayLemmas.{AreMidway, IsMidway, all_midway}

-- ---- what matters of a course

-- where a course leads, its commands, and whether it ended
pub record Told (S : Type 0) : Type 0 where
  pub state : S
  pub commands : List Command
  pub over : Bool

-- without commands
abbrev pub quiet : {S : Type 0} → Bool → S → Told S
quiet over s = record { state = s; commands = []; over = over }

-- by what matters of a state
abbrev pub told : {S E : Type 0} → (S → S) → Course S E → Told S
told core c =
    record { state = core c.state; commands = commands_in c.acts; over = is_some c.ending }

-- commands come first
abbrev pub before : {S : Type 0} → List Command → Told S → Told S
before xs x = record x { commands = xs ++ x.commands }

-- and then what comes next, unless it ended; that it did is forgotten
abbrev pub next : {S : Type 0} → Told S → (S → Told S) → Told S
next x g = if x.over then record x { over = false } else before x.commands (g x.state)

next_nothing : {S : Type 0} (over : Bool) (x : Told S)
    → record x { over = false } ≡ next (record x { over = over }) (quiet false)
next_nothing true x = refl
next_nothing false x = simp append-nil

next_before : {S : Type 0} (over : Bool) (xs : List Command) (x : Told S) (g : S → Told S)
    → next (before xs (record x { over = over })) g ≡ before xs (next (record x { over = over }) g)
next_before true xs x g = refl
next_before false xs x g = simp append_assoc

next_by : {S E : Type 0} (core : S → S) (end : Option E) (c : Course S E) (f : S → Course S E)
    (g h : S → Told S) → c.ending ≡ end → next (told core (f c.state)) g ≡ h (core c.state)
    → next (told core (onward_by end c f)) g ≡ next (told core c) h
next_by core None c f g h is more =
    let d = f c.state in
    rw is (ap (λ xs. next (record (told core d) { commands = xs }) g)
    (commands_in-append c.acts d.acts)
    ∙ (next_before (is_some d.ending) (commands_in c.acts) (told core d) g
    ∙ ap (before (commands_in c.acts)) more))
next_by core (Some e) c f g h is more = rw is refl

-- one course after another
next_onward : {S E : Type 0} (core : S → S) (c : Course S E) (f : S → Course S E)
    (g h : S → Told S) → next (told core (f c.state)) g ≡ h (core c.state)
    → next (told core (onward c f)) g ≡ next (told core c) h
unfolding onward
next_onward core c f g h more = next_by core c.ending c f g h refl more

-- ---- a performer that goes by items

-- what an item comes to: to nothing that matters, or to this, whenever it came
pub data Worth (X : Type 0) : Type 0 where
  Nothing : Worth X
  Counts : X → Worth X

-- and so a course tells
abbrev pub Brings : {S X : Type 0} → (S → S) → (X → S → Told S) → Worth X → Told S → S → Type 0
Brings core does Nothing x s = x ≡ quiet false (core s)
Brings core does (Counts one) x s = x ≡ does one (core s)

-- an item and then the rest
abbrev pub counting : {X : Type 0} → Worth X → List X → List X
counting Nothing xs = xs
counting (Counts x) xs = x ∷ xs

-- what turns come to, up to the first one that ends the performance
abbrev pub counted : {X : Type 0} → (Item → Worth X) → List Turn → List X
counted worth [] = []
counted worth (Asked poll ∷ turns) = counted worth turns
counted worth (Learned came ∷ turns) = counted worth turns
counted worth (Given i ∷ turns) = counting (worth i) (counted worth turns)
counted worth (Over ending ∷ turns) = []

-- that of a performance
abbrev pub counted_in : {X : Type 0} → (Item → Worth X) → Losses → List Hearing → List X
counted_in worth opening heard = counted worth (first_turns opening ++ heard_turns heard)

-- while this is kept, an item brings what it comes to, by what matters of a state; at the end no
-- command is given, and what is seen then is what mattered
pub record ByItems {S X V : Type 0} (worth : Item → Worth X) (p : Part S) (core : S → S)
    (keeps : S → Type 0) (view : S → V) : Type 0 where
  pub does : X → S → Told S
  pub last : S → V
  pub keeping : (i : Item) (s : S) → IsMidway (Given i) → keeps s → keeps (p.takes i s).state
  pub brings : (i : Item) (s : S) → IsMidway (Given i) → keeps s
      → Brings core does (worth i) (told core (p.takes i s)) s
  pub silent : (ending : Ending) (s : S) → commands_in (p.takes (item.Ended ending) s).acts ≡ []
  pub sees : (ending : Ending) (s : S)
      → view (p.takes (item.Ended ending) s).state ≡ last (core s)

module _ {S X V : Type 0} (worth : Item → Worth X) (p : Part S) (core : S → S)
    (keeps : S → Type 0) (view : S → V) (by : ByItems worth p core keeps view) where
  -- what items lead to, and their commands
  abbrev items_told : List X → S → Told S
  items_told [] s = quiet false s
  items_told (x ∷ xs) s = next (by.does x s) (items_told xs)

  -- what ends a performer ends the performance
  stop_ends : (end : Option Stop) → is_some (option_map {U = Ending} Stopped end) ≡ is_some end
  stop_ends None = refl
  stop_ends (Some stop) = refl

  told_given : (i : Item) (s : S) → told core (given_course p i s) ≡ told core (p.takes i s)
  unfolding given_course mapped
  told_given i s =
      let c = p.takes i s in
      ap (λ over. record (told core c) { over = over }) (stop_ends c.ending)

  item_told : (w : Worth X) (x : Told S) (rest : List X) (s : S) → Brings core by.does w x s
      → next x (items_told rest) ≡ items_told (counting w rest) (core s)
  item_told Nothing x rest s is = ap (λ (x : Told S). next x (items_told rest)) is
  item_told (Counts one) x rest s is = ap (λ (x : Told S). next x (items_told rest)) is

  turn_told : (turn : Turn) (rest : List Turn) (s : S) → IsMidway turn → keeps s
      → next (told core (turn_course p turn s)) (items_told (counted worth rest))
      ≡ items_told (counted worth (turn ∷ rest)) (core s)
  unfolding turn_course
  turn_told (Asked poll) rest s midway kept = refl
  turn_told (Learned came) rest s midway kept = refl
  turn_told (Over ending) rest s midway kept = refl
  turn_told (Given i) rest s midway kept =
      ap (λ (x : Told S). next x (items_told (counted worth rest))) (told_given i s)
      ∙ item_told (worth i) (told core (p.takes i s)) (counted worth rest) s
      (by.brings i s midway kept)

  turn_keeps : (turn : Turn) (s : S) → IsMidway turn → keeps s
      → keeps (turn_course p turn s).state
  unfolding turn_course given_course mapped
  turn_keeps (Asked poll) s midway kept = kept
  turn_keeps (Learned came) s midway kept = kept
  turn_keeps (Over ending) s midway kept = kept
  turn_keeps (Given i) s midway kept = by.keeping i s midway kept

  turns_told : (turns : List Turn) (s : S) → AreMidway turns → keeps s
      → next (told core (each (turn_course p) turns s)) (quiet false)
      ≡ items_told (counted worth turns) (core s)
  unfolding each
  turns_told [] s all kept = refl
  turns_told (turn ∷ turns) s all kept =
      next_onward core (turn_course p turn s) (each (turn_course p) turns) (quiet false)
      (items_told (counted worth turns))
      (turns_told turns (turn_course p turn s).state all.1 (turn_keeps turn s all.0 kept))
      ∙ turn_told turn turns s all.0 kept

  -- all but whether it ended
  abbrev ran : Course S Ending → Told S
  ran c = record (told core c) { over = false }

  begun_told : (s : S) (opening : Losses) (heard : List Hearing) → keeps s
      → ran (begun p s opening heard) ≡ items_told (counted_in worth opening heard) (core s)
  unfolding begun
  begun_told s opening heard kept =
      let c = begun p s opening heard in
      next_nothing (is_some c.ending) (told core c)
      ∙ turns_told (first_turns opening ++ heard_turns heard) s (all_midway opening heard) kept

  -- ---- the end

  -- the same commands, and the same is seen at last
  pub record PlayAlike (c d : Course S Ending) : Type 0 where
    pub commands : commands_in c.acts ≡ commands_in d.acts
    pub seen : view c.state ≡ view d.state

  -- no command comes with the end
  closed_commands : (ending : Ending) (c : Course S Ending)
      → commands_in (c.acts ++ (p.takes (item.Ended ending) c.state).acts) ≡ commands_in c.acts
  closed_commands ending c =
      commands_in-append c.acts (p.takes (item.Ended ending) c.state).acts
      ∙ rw (by.silent ending c.state) (append-nil (commands_in c.acts))

  -- a performance that ended, and then its end
  last_by : (a b : Option Ending) (c d : Course S Ending) → ran c ≡ ran d
      → (lastly_by a c (finished p)).ending ≢ None → (lastly_by b d (finished p)).ending ≢ None
      → PlayAlike (lastly_by a c (finished p)) (lastly_by b d (finished p))
  unfolding finished mapped
  last_by None b c d same ends others = absurd (ends refl)
  last_by (Some a) None c d same ends others = absurd (others refl)
  last_by (Some a) (Some b) c d same ends others = record {
    commands = closed_commands a c
        ∙ (ap (λ (x : Told S). x.commands) same ∙ sym (closed_commands b d));
    seen = by.sees a c.state
        ∙ (ap (λ (x : Told S). by.last x.state) same ∙ sym (by.sees b d.state));
  }

  -- two performances of items that come to the same, from states that are alike in what matters
  pub items_alike : (s t : S) (opening other : Losses) (heard others : List Hearing) → keeps s → keeps t
      → counted_in worth opening heard ≡ counted_in worth other others → core s ≡ core t
      → (performance p s opening heard).ending ≢ None
      → (performance p t other others).ending ≢ None
      → PlayAlike (performance p s opening heard) (performance p t other others)
  unfolding performance lastly
  items_alike s t opening other heard others kept keeping items same ends others_end =
      let c = begun p s opening heard in
      let d = begun p t other others in
      last_by c.ending d.ending c d
      (begun_told s opening heard kept
      ∙ (ap (items_told (counted_in worth opening heard)) same
      ∙ (ap (λ list. items_told list (core t)) items
      ∙ sym (begun_told t other others keeping))))
      ends others_end
