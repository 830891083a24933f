-- The turns between what comes first and what comes last, and what holds of them.
use Rattle.std.proofs.Common.{◌≡◌, List, [], ◌∷◌, ◌++◌, length, map, refl}
use Rattle.std.specs.Prelude.{ℕ, true, false, nat_le, if◌then◌else◌, Option, Some, None}
use Rattle.std.specs.List.{flat_map}
use Rattle.orca_base.specs.declared.limits.TheConstants.{MAX_POLLS}
use Rattle.orca_rig.specs.declared.inbox.Answer.{Answer}
use Rattle.orca_rig.specs.declared.inbox.Answer.TheVariants as answer
use Rattle.orca_course.specs.Acts.{Act}
use Rattle.orca_course.specs.Courses.{Course, each, onward, onward_by}
use Rattle.orca_course.specs.Performers.{Hearing, Turn, heard_turns, items_of, last_turns, spent, turns_of}
use Rattle.orca_course.specs.Performers.Turn.{Given, Over}
use Rattle.orca_course.specs.declared.ending.Ending.TheVariants.{Spent}
use Rattle.orca_course.specs.declared.item.Losses.{Losses}
use Rattle.orca_course.specs.declared.item.Item.TheVariants as item

-- ---- what holds of each turn

-- each turn is of a kind
abbrev pub Are : (Turn → Type 0) → List Turn → Type 0
Are kind [] = Unit {0}
Are kind (turn ∷ turns) = kind turn × Are kind turns

-- this holds of a course, by how it ended
abbrev pub Along : {S E : Type 0} → (Option E → S → List Act → S → Type 0) → S → Course S E
    → Type 0
Along holds s c = holds c.ending s c.acts c.state

module _ {S E : Type 0} (holds : Option E → S → List Act → S → Type 0)
    (both : (end : Option E) (r s t : S) (xs ys : List Act) → holds None r xs s
    → holds end s ys t → holds end r (xs ++ ys) t)
  where
    onward_holds : (end : Option E) (s : S) (c : Course S E) (next : S → Course S E)
        → c.ending ≡ end → Along holds s c → Along holds c.state (next c.state)
        → Along holds s (onward_by end c next)
    onward_holds None s c next is first second = both _ _ _ _ _ _ (rw is at first) second
    onward_holds (Some e) s c next is first second = first

    -- what holds of nothing, of two in turn, and of each turn of a kind, holds of turns of it
    pub turns_hold : (kind : Turn → Type 0) (f : Turn → S → Course S E)
        → ((s : S) → holds None s [] s)
        → ((turn : Turn) → kind turn → (s : S) → Along holds s (f turn s)) → (turns : List Turn)
        → Are kind turns → (s : S) → Along holds s (each f turns s)
    unfolding each onward
    turns_hold kind f none one [] all s = none s
    turns_hold kind f none one (turn ∷ turns) all s =
        onward_holds (f turn s).ending s (f turn s) (each f turns) refl (one turn all.0 s)
        (turns_hold kind f none one turns all.1 (f turn s).state)

-- ---- the turns of answers

-- neither what comes first nor what comes last is given
abbrev pub IsInner : Turn → Type 0
IsInner (Given item.Start) = ⊥
IsInner (Given (item.Open came)) = ⊥
IsInner (Given (item.Ended ending)) = ⊥
IsInner other = Unit {0}

abbrev pub AreInner : List Turn → Type 0
AreInner = Are IsInner

inner_append : (xs ys : List Turn) → AreInner xs → AreInner ys → AreInner (xs ++ ys)
inner_append [] ys first second = second
inner_append (x ∷ xs) ys first second = (first.0, inner_append xs ys first.1 second)

inner_bytes : (hand at : ℕ) (bytes : List ℕ) → AreInner (map Given (map (item.Byte hand at) bytes))
inner_bytes hand at [] = tt
inner_bytes hand at (byte ∷ bytes) = (tt, inner_bytes hand at bytes)

inner_items : (a : Answer) (bytes : List ℕ) → AreInner (map Given (items_of a bytes))
inner_items (answer.Bytes hand count at) bytes = inner_bytes hand at bytes
inner_items (answer.Due at) bytes = (tt, tt)
inner_items answer.End bytes = tt
inner_items answer.Failed bytes = tt

inner_last : (a : Answer) (came : Losses) → AreInner (last_turns a came)
inner_last (answer.Bytes hand count at) came = (tt, (tt, (tt, tt)))
inner_last (answer.Due at) came = (tt, (tt, (tt, tt)))
inner_last answer.End came = (tt, tt)
inner_last answer.Failed came = (tt, tt)

inner_answers : (heard : List Hearing) → AreInner (flat_map turns_of heard)
inner_answers [] = tt
inner_answers (h ∷ heard) =
    let items = map Given (items_of h.poll.answer h.poll.bytes) in
    let last = last_turns h.poll.answer h.came in (
      tt,
      inner_append (items ++ last) (flat_map turns_of heard)
          (inner_append items last (inner_items h.poll.answer h.poll.bytes) (inner_last h.poll.answer h.came))
          (inner_answers heard),
    )

inner_spent : (heard : List Hearing) → AreInner (spent heard)
inner_spent heard =
    elim (nat_le MAX_POLLS (length heard)) as
    (λ over. AreInner (if over then Over Spent ∷ [] else [])) [
      | true ↦ (tt, tt)
      | false ↦ tt
    ]

pub inner_heard : (heard : List Hearing) → AreInner (heard_turns heard)
inner_heard heard =
    inner_append (flat_map turns_of heard) (spent heard) (inner_answers heard) (inner_spent heard)
