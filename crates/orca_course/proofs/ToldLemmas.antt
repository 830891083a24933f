-- What objects tell of one act more, and what a desk keeps to after one call more.
use Rattle.std.proofs.Common.{◌≡◌, ℕ, ◌+◌, List, [], ◌∷◌, ◌++◌, append-nil, length, refl, arith}
use Rattle.std.proofs.lemmas.List.Folds.{list_any-append}
use Rattle.std.proofs.lemmas.List.Sums.{sum_by-append}
use Rattle.std.specs.List.{count_by}
use Rattle.std.specs.Prelude.{Bool}
use Rattle.orca_course.specs.Acts.{Act, given}
use Rattle.orca_trace.specs.Calls.{Call}
use Rattle.orca_course.specs.Told.{Listened, asked_in, attached_in, counts_in, listened_after, told_in}
use Rattle.orca_course.specs.Worlds.{AreCounted, Stores, World}
use Rattle.orca_course.proofs.ActLemmas.{given-append, polls_in-append}
use Rattle.orca_course.proofs.AnsweredLemmas.{done_in-append, seats_listened, seats_more}
use Rattle.orca_course.proofs.WorldLemmas.{IsNext, claim_is, moment_is, next_done, next_given, next_polled, next_refused, next_sent, next_settled}

pub attached_in-append : (xs ys : List Act)
    → attached_in (xs ++ ys) ≡ attached_in xs ++ attached_in ys
attached_in-append [] ys = refl
attached_in-append (x ∷ xs) ys = grind (arith, attached_in-append xs ys)

pub asked_in-append : (xs ys : List Act) → asked_in (xs ++ ys) ≡ asked_in xs ++ asked_in ys
asked_in-append [] ys = refl
asked_in-append (x ∷ xs) ys = grind (arith, asked_in-append xs ys)

pub listened_after-append : (xs ys : List Act) (before : Listened)
    → listened_after (xs ++ ys) before ≡ listened_after ys (listened_after xs before)
listened_after-append [] ys before = refl
listened_after-append (x ∷ xs) ys before = grind (arith, listened_after-append xs ys)

pub told_in-append : (xs ys : List Act) → told_in (xs ++ ys) ≡ told_in xs ++ told_in ys
told_in-append [] ys = refl
told_in-append (x ∷ xs) ys = grind (arith, told_in-append xs ys)

pub counts_in-append : (n : ℕ) (xs ys : List Act)
    → counts_in n (xs ++ ys) ≡ counts_in n xs ++ counts_in (n + length (given xs)) ys
counts_in-append n [] ys = grind arith
counts_in-append n (x ∷ xs) ys = grind (arith, λ (m : ℕ). counts_in-append m xs ys)

pub count_by-append : (p : Call → Bool) (xs ys : List Call)
    → count_by p (xs ++ ys) ≡ count_by p xs + count_by p ys
count_by-append p xs ys = sum_by-append _ xs ys

-- ---- one call more

pub is_next : {call : Call} {x y : World} → y.calls ≡ x.calls ++ call ∷ []
    → Stores call x.contents y.contents → AreCounted (call ∷ []) x.faults y.faults
    → y.paid ≡ x.paid → IsNext call x y
is_next calls stored counted paid =
    record { calls = calls; stored = stored; counted = counted; paid = paid }

pub ruleset one_more = (
  list_any-append,
  done_in-append,
  given-append,
  attached_in-append,
  asked_in-append,
  polls_in-append,
  listened_after-append,
  counts_in-append,
  count_by-append,
  told_in-append,
  seats_more,
  append-nil,
)

-- what proves the calls of a desk
pub ruleset call_laws = (
  one_more,
  is_next,
  next_settled,
  next_given,
  next_sent,
  claim_is,
  moment_is,
  next_done,
  next_refused,
  next_polled,
  seats_listened,
)
