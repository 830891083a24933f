-- A hand is told that the grid was saved only where it was, and never that all is well where the
-- last save has failed.
use Rattle.std.proofs.Common.{◌≡◌, ◌≢◌, ◌⊎◌, inl, inr, ℕ, zero, suc, Bool, true, false, List, [], ◌∷◌, ◌++◌, refl, sym, ◌∙◌, ap, subst, arith, append_assoc}
use Rattle.std.specs.Prelude.{◌&&◌, ◌==◌, if◌then◌else◌, slice_index_or, slice_set, Option, Some, None, codes}
use Rattle.std.proofs.lemmas.Bool.{eqb-true}
use Rattle.std.proofs.lemmas.Bool.Decides.{nat_tests}
use Rattle.orca_base.specs.declared.command.Command.{Command}
use Rattle.orca_base.specs.declared.command.Command.TheVariants.{Frame}
use Rattle.orca_base.specs.declared.command.Rule.{Rule}
use Rattle.orca_base.specs.declared.command.Rule.TheVariants as rule
use Rattle.orca_base.specs.MarkSet.{MarkSet}
use Rattle.orca_concert.specs.Concerts.{command_course as obey_course}
use Rattle.orca_course.specs.Acts.{Act, keys_in}
use Rattle.orca_course.specs.Acts.Act.{Append, Save, Screen}
use Rattle.orca_course.specs.Courses.{mapped, onward}
use Rattle.orca_jam.specs.Denials.{rule_of_denial}
use Rattle.orca_jam.specs.declared.crew.TheConstants.{LEADER}
use Rattle.orca_jam.specs.declared.owner.TheConstants.{NOBODY}
use Rattle.orca_term.specs.Came.{came_to, came_word}
use Rattle.orca_term.specs.declared.came.Came.{Came}
use Rattle.orca_term.specs.declared.came.Came.TheVariants.{Well, Refused, Denied, Kept}
use Rattle.orca_term.specs.declared.came.HandRule.TheVariants as hand_rule
use Rattle.orca_term.specs.declared.keys.Key.{Key}
use Rattle.orca_term.specs.declared.keys.Key.TheVariants as key
use Rattle.orca_live.specs.Carrying.{Carries}
use Rattle.orca_live.specs.Performing.{hand_course, picture_course, telling, words_at_key}
use Rattle.orca_live.specs.Laws.{so_far}
use Rattle.orca_live.specs.States.{LiveState, Setting, key_name, unpainted, with_view, with_word, word_at}
use Rattle.orca_live.specs.Telling.{AreSizes, WasSaved, TellsFailures, TellsSaves, tells_size, told_word}
use Rattle.orca_live.proofs.Carried.{Anyhow, begun_carried}
use Rattle.orca_live.proofs.StrikingLemmas.{command_silent, keys_in-append, views_keys}

-- one way or the other
either_way : {A B C : Type 0} → A ⊎ B → (A → C) → (B → C) → C
either_way (inl a) first second = first a
either_way (inr b) first second = second b

-- ---- words of hands

-- the word of a hand, by all words
abbrev word_in : ℕ → List Came → Came
word_in hand words = slice_index_or words hand Well

-- a hand that has this word had it before, or one was given it
given_word : (words : List Came) (who hand : ℕ) (came : Came)
    → word_in hand (slice_set words who came) ≡ Kept → (came ≡ Kept) ⊎ (word_in hand words ≡ Kept)
given_word [] who hand came is = inr is
given_word (word ∷ words) zero zero came is = inl is
given_word (word ∷ words) zero (suc hand) came is = inr is
given_word (word ∷ words) (suc who) zero came is = inr is
given_word (word ∷ words) (suc who) (suc hand) came is = given_word words who hand came is

own_word : (words : List Came) (hand : ℕ) → word_in hand (slice_set words hand Well) ≡ Well
own_word [] hand = refl
own_word (word ∷ words) zero = refl
own_word (word ∷ words) (suc hand) = own_word words hand

-- another word leaves it
left_word : (words : List Came) (who hand : ℕ) (came : Came) → came ≢ Kept
    → word_in hand (slice_set words who came) ≡ Kept → word_in hand words ≡ Kept
left_word words who hand came other is =
    either_way (given_word words who hand came is) (λ same. absurd (other same)) (λ before. before)

well_other : Well ≢ Kept
well_other is = cc

refused_other : (refusal : Option Rule) → came_to refusal ≢ Kept
refused_other None is = cc
refused_other (Some rule) is = cc

-- ---- keys of a size

sizes_append : (xs ys : List Key) → AreSizes xs → AreSizes ys → AreSizes (xs ++ ys)
sizes_append [] ys first second = second
sizes_append (x ∷ xs) ys first second = (first.0, sizes_append xs ys first.1 second)

-- ---- acts

-- a hand that has the word after acts had it before, and struck no key of its own since, or the grid
-- was saved among them
abbrev Since : ℕ → LiveState → List Act → LiveState → Type 0
Since hand s acts t =
    word_at hand t ≡ Kept
    → ((word_at hand s ≡ Kept) × AreSizes (keys_in hand acts))
    ⊎ WasSaved hand (key_name s.setting) acts

abbrev Tells : ℕ → LiveState → List Act → LiveState → Type 0
Tells hand s acts t = (t.setting ≡ s.setting) × Since hand s acts t

quiet_tells : (hand : ℕ) (s : LiveState) (acts : List Act) (t : LiveState) → t.setting ≡ s.setting
    → keys_in hand acts ≡ [] → (word_at hand t ≡ Kept → word_at hand s ≡ Kept)
    → Tells hand s acts t
quiet_tells hand s acts t setting none before =
    (setting, λ is. inl (before is, subst AreSizes (sym none) tt))

-- what was saved, and then quiet acts
kept_then : (hand : ℕ) (name : List ℕ) (xs ys : List Act) → WasSaved hand name xs
    → AreSizes (keys_in hand ys) → WasSaved hand name (xs ++ ys)
kept_then hand name xs ys kept sizes = record {
  begun = kept.begun;
  bytes = kept.bytes;
  since = kept.since ++ ys;
  splits = ap (λ (acts : List Act). acts ++ ys) kept.splits
      ∙ append_assoc kept.begun (Save name kept.bytes ∷ kept.since) ys;
  sizes = subst AreSizes (sym (keys_in-append hand kept.since ys))
      (sizes_append (keys_in hand kept.since) (keys_in hand ys) kept.sizes sizes);
}

kept_after : (hand : ℕ) (name : List ℕ) (xs ys : List Act) → WasSaved hand name ys
    → WasSaved hand name (xs ++ ys)
kept_after hand name xs ys kept = record {
  begun = xs ++ kept.begun;
  bytes = kept.bytes;
  since = kept.since;
  splits = ap (λ (acts : List Act). xs ++ acts) kept.splits
      ∙ sym (append_assoc xs kept.begun (Save name kept.bytes ∷ kept.since));
  sizes = kept.sizes;
}

since_twice : (hand : ℕ) (r s t : LiveState) (xs ys : List Act) → s.setting ≡ r.setting
    → Since hand r xs s → Since hand s ys t → Since hand r (xs ++ ys) t
since_twice hand r s t xs ys same first second is =
    either_way (second is)
    (λ later. either_way (first later.0)
    (λ before. inl (
      before.0,
      subst AreSizes (sym (keys_in-append hand xs ys))
          (sizes_append (keys_in hand xs) (keys_in hand ys) before.1 later.1),
    ))
    (λ kept. inr (kept_then hand (key_name r.setting) xs ys kept later.1)))
    (λ kept. inr (kept_after hand (key_name r.setting) xs ys
    (subst (λ (set : Setting). WasSaved hand (key_name set) ys) same kept)))

tells_twice : (hand : ℕ) (r s t : LiveState) (xs ys : List Act) → Tells hand r xs s
    → Tells hand s ys t → Tells hand r (xs ++ ys) t
tells_twice hand r s t xs ys first second =
    (second.0 ∙ first.0, since_twice hand r s t xs ys first.0 first.1 second.1)

command_setting : (who : ℕ) (command : Command) (s : LiveState)
    → (hand_course who command s).state.setting ≡ s.setting
unfolding hand_course obey_course onward mapped
command_setting who command s = refl

command_word : (hand who : ℕ) (command : Command) (s : LiveState)
    → word_at hand (hand_course who command s).state ≡ Kept → word_at hand s ≡ Kept
unfolding hand_course obey_course onward mapped
command_word hand who command s is = left_word s.words who hand _ (refused_other _) is

tells_command : (hand who : ℕ) (command : Command) (s : LiveState)
    → Tells hand s (hand_course who command s).acts (hand_course who command s).state
tells_command hand who command s =
    quiet_tells hand s (hand_course who command s).acts (hand_course who command s).state
    (command_setting who command s) (command_silent hand who command s)
    (command_word hand who command s)

tells_paint : (hand : ℕ) (marks : List MarkSet) (other : ℕ) (s : LiveState)
    → let c = picture_course marks other s in Tells hand s c.acts c.state
unfolding picture_course
tells_paint hand marks other s =
    let c = picture_course marks other s in
    quiet_tells hand s c.acts c.state refl (views_keys hand other _ _) (λ is. is)

-- a key of another hand, or its own
struck_other : (hand who : ℕ) (k : Key) (words : List Came)
    → word_in hand (words_at_key who k words) ≡ Kept → word_in hand words ≡ Kept
struck_other hand who (key.Screen rows columns) words is = is
struck_other hand who k words is = left_word words who hand Well (λ is. cc) is

struck_own : (hand : ℕ) (k : Key) (words : List Came) → word_in hand (words_at_key hand k words) ≡ Kept
    → (word_in hand words ≡ Kept) × (tells_size k ≡ true)
struck_own hand (key.Screen rows columns) words is = (is, refl)
struck_own hand k words is = absurd (well_other (sym (own_word words hand) ∙ is))

struck_since : (own : Bool) (hand who : ℕ) (k : Key) (words : List Came) → (who == hand) ≡ own
    → word_in hand (words_at_key who k words) ≡ Kept
    → (word_in hand words ≡ Kept) × AreSizes (if own then k ∷ [] else [])
struck_since true hand who k words same is =
    let mine = eqb-true who hand same in
    let own = struck_own hand k words
    (subst (λ (h : ℕ). word_in hand (words_at_key h k words) ≡ Kept) mine is) in
    (own.0, (own.1, tt))
struck_since false hand who k words differs is = (struck_other hand who k words is, tt)

tells_carries : (hand : ℕ) → Carries (Anyhow (Tells hand))
tells_carries hand = record {
  none = λ who s t alike.
      quiet_tells hand s [] t alike.setting refl
      (λ is. ap (word_in hand) (sym alike.words) ∙ is);
  both = λ who end. tells_twice hand;
  leaves = λ who s. quiet_tells hand s [] s refl refl (λ is. is);
  full = λ s is. quiet_tells hand s [] s refl refl (λ is. is);
  command = λ other command s may. tells_command hand other command s;
  frame = λ s. tells_command hand NOBODY Frame s;
  struck = λ who other k s.
      (refl, λ is. inl (struck_since (other == hand) hand other k s.words refl is));
  single = λ other s tells. tells;
  denied = λ who other denial s.
      let t = with_word other (Denied (rule_of_denial denial)) s in
      quiet_tells hand s (telling other denial ∷ []) t refl refl
      (left_word s.words other hand (Denied (rule_of_denial denial)) (λ is. cc));
  kept = λ who other bytes s. (
    refl,
    λ is. inr (record {
      begun = [];
      bytes = bytes;
      since = [];
      splits = refl;
      sizes = tt;
    }),
  );
  save = λ who name bytes s saved.
      quiet_tells hand s (Save name bytes ∷ []) s refl refl (λ is. is);
  append = λ who name byte bytes s named is.
      quiet_tells hand s (Append name (byte ∷ bytes) ∷ []) (record s { unwritten = [] }) refl refl
      (λ is. is);
  paint = λ who marks other s is. tells_paint hand marks other s;
  screen = λ who other d s is.
      quiet_tells hand s (Screen other d ∷ []) (with_view other (unpainted d) s) refl refl
      (λ is. is);
}

-- ---- what is told

word_saved : (unsaved : Bool) (came : Came) → came_word unsaved came ≡ codes "saved"
    → (unsaved ≡ false) × (came ≡ Kept)
word_saved false Kept is = (refl, refl)
word_saved true Kept is = cc
word_saved false Well is = cc
word_saved true Well is = cc
word_saved unsaved (Refused rule.OutOfGrid) is = cc
word_saved unsaved (Refused rule.EmptyBlock) is = cc
word_saved unsaved (Refused rule.BadSize) is = cc
word_saved unsaved (Refused rule.EmptyClip) is = cc
word_saved unsaved (Refused rule.NothingToUndo) is = cc
word_saved unsaved (Refused (rule.NoSuchMoment kept)) is = cc
word_saved unsaved (Refused rule.SizeInUse) is = cc
word_saved unsaved (Refused rule.HistoryFull) is = cc
word_saved unsaved (Refused rule.NothingToRedo) is = cc
word_saved unsaved (Denied hand_rule.LeaderOnly) is = cc
word_saved unsaved (Denied hand_rule.NotYours) is = cc

word_failed : (came : Came) → came_word true came ≢ codes "ok"
word_failed Well is = cc
word_failed Kept is = cc
word_failed (Refused rule.OutOfGrid) is = cc
word_failed (Refused rule.EmptyBlock) is = cc
word_failed (Refused rule.BadSize) is = cc
word_failed (Refused rule.EmptyClip) is = cc
word_failed (Refused rule.NothingToUndo) is = cc
word_failed (Refused (rule.NoSuchMoment kept)) is = cc
word_failed (Refused rule.SizeInUse) is = cc
word_failed (Refused rule.HistoryFull) is = cc
word_failed (Refused rule.NothingToRedo) is = cc
word_failed (Denied hand_rule.LeaderOnly) is = cc
word_failed (Denied hand_rule.NotYours) is = cc

-- with full keys or with plain ones, to the first hand or to another
told_by : (full first unsaved : Bool) (word other : Came) → other ≢ Kept
    → came_word (full && first && unsaved) (if full then word else other) ≡ codes "saved"
    → (word ≡ Kept) × (first ≡ true → unsaved ≡ false)
told_by true true unsaved word other never is =
    let both = word_saved unsaved word is in (both.1, λ mine. both.0)
told_by true false unsaved word other never is =
    let both = word_saved false word is in (both.1, λ mine. cc)
told_by false first unsaved word other never is = absurd (never (word_saved false other is).1)

failed_by : (full unsaved : Bool) (word other : Came) → full ≡ true → unsaved ≡ true
    → came_word (full && true && unsaved) (if full then word else other) ≢ codes "ok"
failed_by true true word other reads failed = word_failed word
failed_by true false word other reads failed = cc
failed_by false unsaved word other reads failed = cc

is_first : (hand : ℕ) → hand ≡ LEADER → (hand == LEADER) ≡ true
is_first hand first = grind (arith, nat_tests)

told_saved : (hand : ℕ) (s : LiveState) → told_word hand s ≡ codes "saved"
    → (word_at hand s ≡ Kept) × (hand ≡ LEADER → s.came.unsaved ≡ false)
told_saved hand s is =
    let by =
    told_by s.crew.full (hand == LEADER) s.came.unsaved (word_at hand s)
    (came_to s.standing.tally.refusal) (refused_other s.standing.tally.refusal) is in
    (by.0, λ first. by.1 (is_first hand first))

pub tells_saves : TellsSaves
tells_saves s opening heard hand never is =
    let told = told_saved hand (so_far s opening heard).state is in
    let tells =
    begun_carried (tells_carries hand)
    (record {
      asks = λ poll t. quiet_tells hand t _ t refl refl (λ is. is);
      learns = λ came t. quiet_tells hand t _ t refl refl (λ is. is);
    })
    (λ who name t. quiet_tells hand t _ t refl refl (λ is. is)) s opening heard in
    record {
      kept = either_way (tells.1 told.0) (λ before. absurd (never before.0)) (λ kept. kept);
      whole = told.1;
    }

pub tells_failures : TellsFailures
tells_failures s full failed =
    failed_by s.crew.full s.came.unsaved (word_at LEADER s) (came_to s.standing.tally.refusal) full
    failed
