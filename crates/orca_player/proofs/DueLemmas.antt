-- Where a moment is due among the turns of a performance: an answer brought it.
use Rattle.std.proofs.Common.{◌≡◌, ℕ, ◌<◌, length, List, [], ◌∷◌, ◌++◌, refl, sym, ◌∙◌, ap, subst, append_assoc, arith}
use Rattle.std.specs.Prelude.{None}
use Rattle.std.specs.List.{flat_map}
use Rattle.std.proofs.lemmas.List.Sums.{sum_by-append}
use Rattle.orca_base.specs.declared.limits.TheConstants.{MAX_POLLS}
use Rattle.orca_course.specs.Courses.{Course, each, onward}
use Rattle.orca_course.specs.Performers.{Hearing, Part, Turn, answer_turns, begun, first_turns, over_turns, turn_course, turns_of}
use Rattle.orca_course.specs.Performers.Turn.{Asked, Given}
use Rattle.orca_course.specs.declared.ending.Ending.{Ending}
use Rattle.orca_course.specs.declared.item.Losses.{Losses}
use Rattle.orca_course.specs.declared.item.Item.TheVariants as item
use Rattle.orca_course.proofs.CourseLemmas.{each-append, goes_both, onward_goes}
use Rattle.orca_course.proofs.MidwayLemmas.{begun_few}
use Rattle.orca_course.proofs.PerformanceLemmas.{all_turns, turn_at, turns, turns_before}
use Rattle.orca_rig.specs.declared.inbox.Answer.{Answer}
use Rattle.orca_rig.specs.declared.inbox.Answer.TheVariants as answer

-- no moment is due by these turns
abbrev IsUndue : Turn → Type 0
IsUndue (Given (item.Due at)) = ⊥
IsUndue turn = Unit {0}

abbrev AreUndue : List Turn → Type 0
AreUndue [] = Unit {0}
AreUndue (turn ∷ turns) = IsUndue turn × AreUndue turns

-- a moment is due after these turns, and more
abbrev IsAfter : List Turn → ℕ → List Turn → List Turn → Type 0
IsAfter before at more turns = turns ≡ before ++ Given (item.Due at) ∷ more

-- one that is due stands behind those by which none is
passed : (xs ys before more : List Turn) (at : ℕ) → AreUndue xs
    → IsAfter before at more (xs ++ ys)
    → (rest : List Turn) × (before ≡ xs ++ rest) × IsAfter rest at more ys
passed [] ys before more at undue is = (before, refl, is)
passed (x ∷ xs) ys [] more at undue is =
    let same : x ≡ Given (item.Due at) = cc in absurd (subst IsUndue same undue.0)
passed (x ∷ xs) ys (b ∷ before) more at undue is =
    let same : b ≡ x = cc in
    let tail : xs ++ ys ≡ before ++ Given (item.Due at) ∷ more = cc in
    let rest = passed xs ys before more at undue.1 tail in
    let behind : before ≡ xs ++ rest.0 = rest.1 in
    (rest.0, cc, rest.2)

-- the answer of these that brought it
record IsDueIn (heard : List Hearing) (before : List Turn) (at : ℕ) : Type 0 where
  pub front : List Hearing
  pub h : Hearing
  pub others : List Hearing
  pub splits : heard ≡ front ++ h ∷ others
  pub is : h.poll.answer ≡ answer.Due at
  pub stands : before ≡ flat_map turns_of front ++ Asked h.poll ∷ []

due_later : (h : Hearing) (heard : List Hearing) (before rest : List Turn) (at : ℕ)
    → before ≡ turns_of h ++ rest → IsDueIn heard rest at → IsDueIn (h ∷ heard) before at
due_later h heard before rest at is due = record {
  front = h ∷ due.front;
  h = due.h;
  others = due.others;
  splits = ap (λ heard. h ∷ heard) due.splits;
  is = due.is;
  stands = is
      ∙ (ap (λ turns. turns_of h ++ turns) due.stands
      ∙ sym (append_assoc (turns_of h) (flat_map turns_of due.front) (Asked due.h.poll ∷ [])));
}

undue_bytes : (hand count at : ℕ) (bytes : List ℕ) (came : Losses)
    → AreUndue (answer_turns (answer.Bytes hand count at) bytes came)
undue_bytes hand count at [] came = (tt, (tt, (tt, tt)))
undue_bytes hand count at (byte ∷ bytes) came = (tt, undue_bytes hand count at bytes came)

-- what comes after the first answer
abbrev Later : List Hearing → ℕ → List Turn → Type 0
Later heard at more =
    (rest : List Turn) → IsAfter rest at more (flat_map turns_of heard) → IsDueIn heard rest at

due_passed : (h : Hearing) (heard : List Hearing) (before more : List Turn) (at : ℕ)
    → AreUndue (turns_of h) → IsAfter before at more (turns_of h ++ flat_map turns_of heard)
    → Later heard at more → IsDueIn (h ∷ heard) before at
due_passed h heard before more at undue is later =
    let rest = passed (turns_of h) (flat_map turns_of heard) before more at undue is in
    due_later h heard before rest.0 at rest.1 (later rest.0 rest.2)

due_here : (h : Hearing) (heard : List Hearing) (before more : List Turn) (moment at : ℕ)
    → h.poll.answer ≡ answer.Due moment
    → IsAfter before at more ((Asked h.poll ∷ answer_turns (answer.Due moment) h.poll.bytes h.came)
    ++ flat_map turns_of heard)
    → Later heard at more → IsDueIn (h ∷ heard) before at
due_here h heard [] more moment at due is later = absurd cc
due_here h heard (b ∷ []) more moment at due is later =
    let same : moment ≡ at = cc in
    let asked : b ≡ Asked h.poll = cc in
    record {
      front = [];
      h = h;
      others = heard;
      splits = refl;
      is = due ∙ ap answer.Due same;
      stands = ap (λ turn. turn ∷ []) asked;
    }
due_here h heard (b ∷ c ∷ before) more moment at due is later =
    let asked : b ≡ Asked h.poll = cc in
    let given : c ≡ Given (item.Due moment) = cc in
    let tail : over_turns h.came ++ flat_map turns_of heard ≡ before ++ Given (item.Due at) ∷ more = cc in
    let rest = passed (over_turns h.came) (flat_map turns_of heard) before more at (tt, (tt, (tt, tt))) tail in
    let behind : before ≡ over_turns h.came ++ rest.0 = rest.1 in
    let all : b ∷ c ∷ before
    ≡ (Asked h.poll ∷ answer_turns (answer.Due moment) h.poll.bytes h.came) ++ rest.0 = cc in
    due_later h heard (b ∷ c ∷ before) rest.0 at
    (all ∙ sym (ap (λ (a : Answer).
    (Asked h.poll ∷ answer_turns a h.poll.bytes h.came) ++ rest.0) due))
    (later rest.0 rest.2)

due_by : (h : Hearing) (heard : List Hearing) (a : Answer) → h.poll.answer ≡ a
    → (before more : List Turn) (at : ℕ)
    → IsAfter before at more (turns_of h ++ flat_map turns_of heard) → Later heard at more
    → IsDueIn (h ∷ heard) before at
due_by h heard (answer.Bytes hand count moment) a before more at is later =
    due_passed h heard before more at
    (tt, rw a (undue_bytes hand count moment h.poll.bytes h.came)) is later
due_by h heard (answer.Due moment) a before more at is later =
    due_here h heard before more moment at a
    (subst (λ (b : Answer). IsAfter before at more
    ((Asked h.poll ∷ answer_turns b h.poll.bytes h.came) ++ flat_map turns_of heard)) a is) later
due_by h heard answer.End a before more at is later =
    due_passed h heard before more at (tt, rw a (tt, tt)) is later
due_by h heard answer.Failed a before more at is later =
    due_passed h heard before more at (tt, rw a (tt, tt)) is later

due_in : (heard : List Hearing) (before more : List Turn) (at : ℕ)
    → IsAfter before at more (flat_map turns_of heard) → IsDueIn heard before at
due_in [] [] more at is = absurd cc
due_in [] (b ∷ before) more at is = absurd cc
due_in (h ∷ heard) before more at is =
    due_by h heard h.poll.answer refl before more at is
    (λ rest later. due_in heard rest more at later)

-- ---- a performance up to there

-- what was heard before, where it goes on, as it stands there
pub record IsDueAt {S : Type 0} (p : Part S) (s : S) (opening : Losses) (heard : List Hearing)
    (before : List Turn) (at : ℕ) : Type 0 where
  pub front : List Hearing
  pub h : Hearing
  pub others : List Hearing
  pub splits : heard ≡ front ++ h ∷ others
  pub is : h.poll.answer ≡ answer.Due at
  pub goes : (begun p s opening front).ending ≡ None
  pub state : (each (turn_course p) before s).state ≡ (begun p s opening front).state

-- fewer answers than may be came before
few_before : {S : Type 0} (p : Part S) (front more : List Hearing) (s : S)
    → (each (turn_course p) (flat_map turns_of front) s).ending ≡ None
    → turns (front ++ more) < MAX_POLLS → length front < MAX_POLLS
few_before p front more s goes few =
    omega (arith, all_turns p front s goes, sum_by-append turn_at front more, few)

-- the inbox was asked once more
asked_once : {S : Type 0} (p : Part S) (turns : List Turn) (h : Hearing) (s : S)
    → (each (turn_course p) (turns ++ Asked h.poll ∷ []) s).ending ≡ None
    → ((each (turn_course p) turns s).ending ≡ None)
    × ((each (turn_course p) (turns ++ Asked h.poll ∷ []) s).state
    ≡ (each (turn_course p) turns s).state)
unfolding each turn_course onward
asked_once p turns h s goes =
    let c = each (turn_course p) turns s in
    let next = each (turn_course p) (Asked h.poll ∷ []) in
    let is = each-append (turn_course p) turns (Asked h.poll ∷ []) s in
    let both = goes_both c next (rw is at goes) in
    (both.0, rw is (rw (onward_goes c next both.0) refl))

pub due_at : {S : Type 0} (p : Part S) (s : S) (opening : Losses) (heard : List Hearing)
    (before more : List Turn) (at : ℕ) → turns heard < MAX_POLLS
    → IsAfter before at more (turns_before opening heard)
    → (each (turn_course p) before s).ending ≡ None → IsDueAt p s opening heard before at
due_at {S = S} p s opening heard before more at few is goes =
    let f = turn_course p in
    let rest = passed (first_turns opening) (flat_map turns_of heard) before more at
    (tt, (tt, (tt, tt))) is in
    let due = due_in heard rest.0 more at rest.2 in
    let first = turns_before opening due.front in
    let all : before ≡ first ++ Asked due.h.poll ∷ [] =
    rest.1
    ∙ (ap (λ turns. first_turns opening ++ turns) due.stands
    ∙ sym (append_assoc (first_turns opening) (flat_map turns_of due.front) (Asked due.h.poll ∷ [])))
    in
    let once = asked_once p first due.h s
    (subst (λ (turns : List Turn). (each f turns s).ending ≡ None) all goes) in
    let split = each-append f (first_turns opening) (flat_map turns_of due.front) s in
    let both = goes_both (each f (first_turns opening) s) (each f (flat_map turns_of due.front))
    (subst (λ (c : Course S Ending). c.ending ≡ None) split once.0) in
    let below = few_before p due.front (due.h ∷ due.others) (each f (first_turns opening) s).state
    both.1 (subst (λ (list : List Hearing). turns list < MAX_POLLS) due.splits few) in
    let so_far = begun_few p s opening due.front below in
    record {
      front = due.front;
      h = due.h;
      others = due.others;
      splits = due.splits;
      is = due.is;
      goes = ap (λ (c : Course S Ending). c.ending) so_far ∙ once.0;
      state = ap (λ (turns : List Turn). (each f turns s).state) all
          ∙ (once.1 ∙ sym (ap (λ (c : Course S Ending). c.state) so_far));
    }
