-- What an inbox in memory is still to answer stays in order.
use Rattle.std.proofs.Common.{◌≡◌, ℕ, ◌≤◌, Bool, true, false, ◌&&◌, List, [], ◌∷◌, length, refl, sym, ◌∙◌, ap, subst, arith, Some}
use Rattle.std.specs.Prelude.{Option, None, nat_le, IsSomeAnd}
use Rattle.std.proofs.lemmas.Bool.Decides.{nat_tests}
use Rattle.std.proofs.lemmas.Bool.{and_parts}
use Rattle.orca_base.specs.declared.limits.TheConstants.{ARRIVAL_BYTES}
use Rattle.orca_rig.specs.declared.inbox.Answer.{Answer}
use Rattle.orca_rig.specs.declared.inbox.Answer.TheVariants as answer
use Rattle.orca_rig.specs.declared.mem_answer.MemAnswer.{MemAnswer}
use Rattle.orca_rig.specs.declared.mem_answer.MemAnswer.TheVariants.{Bytes, Due}
use Rattle.orca_rig.specs.Arrived.{MayAnswer, moment_after}
use Rattle.orca_rig.specs.Schedule.{answer_moment, is_in_order, is_arrival, are_arrivals, is_passed_over, awaited, first_turn, IsAnsweredInOrder}

both : (a b : Bool) → a ≡ true → b ≡ true → (a && b) ≡ true
both a b first second = rw first second

at_least : (a b : ℕ) → nat_le a b ≡ true → a ≤ b
at_least a b test = grind (arith, nat_tests)

at_least_back : (a b : ℕ) → a ≤ b → nat_le a b ≡ true
at_least_back a b less = grind (arith, nat_tests)

-- the first of answers in order may come now, and the others after it
pub in_order_head : (first : ℕ) (a : MemAnswer) (answers : List MemAnswer)
    → is_in_order first (a ∷ answers) ≡ true → first ≤ answer_moment a
in_order_head first a answers ordered =
    let at = answer_moment a in
    at_least first at (and_parts (nat_le first at) (is_in_order at answers) ordered).0

pub in_order_tail : (first : ℕ) (a : MemAnswer) (answers : List MemAnswer)
    → is_in_order first (a ∷ answers) ≡ true → is_in_order (answer_moment a) answers ≡ true
in_order_tail first a answers ordered =
    let at = answer_moment a in (and_parts (nat_le first at) (is_in_order at answers) ordered).1

-- they are in order after an earlier moment, too
in_order_earlier : (first later : ℕ) (answers : List MemAnswer) → first ≤ later
    → is_in_order later answers ≡ true → is_in_order first answers ≡ true
in_order_earlier first later [] less ordered = refl
in_order_earlier first later (a ∷ answers) less ordered =
    let at = answer_moment a in
    let head : later ≤ at = in_order_head later a answers ordered in
    both (nat_le first at) (is_in_order at answers) (at_least_back first at (omega arith))
    (in_order_tail later a answers ordered)

-- the first of arrivals is one, and so are the others
head_arrival : (a : MemAnswer) (answers : List MemAnswer)
    → are_arrivals (a ∷ answers) ≡ true → is_arrival a ≡ true
head_arrival a answers arrivals = (and_parts (is_arrival a) (are_arrivals answers) arrivals).0

tail_arrivals : (a : MemAnswer) (answers : List MemAnswer)
    → are_arrivals (a ∷ answers) ≡ true → are_arrivals answers ≡ true
tail_arrivals a answers arrivals = (and_parts (is_arrival a) (are_arrivals answers) arrivals).1

-- those that are awaited are in order, are arrivals, and are no more
pub record IsKeptOf (first : ℕ) (before after : List MemAnswer) : Type 0 where
  pub in_order : is_in_order first after ≡ true
  pub arrivals : are_arrivals after ≡ true
  pub fewer : length after ≤ length before

awaited_step : (passed : Bool) (until : Option ℕ) (first : ℕ) (a : MemAnswer)
    (answers : List MemAnswer)
    → is_passed_over until a ≡ passed → is_in_order first (a ∷ answers) ≡ true
    → are_arrivals (a ∷ answers) ≡ true → IsKeptOf first answers (awaited until answers)
    → IsKeptOf first (a ∷ answers) (awaited until (a ∷ answers))
awaited_step true until first a answers is ordered arrivals rest =
    let fewer : length (awaited until answers) ≤ length (a ∷ answers) = omega (arith, rest.fewer) in
    rw is (record { in_order = rest.in_order; arrivals = rest.arrivals; fewer = fewer })
awaited_step false until first a answers is ordered arrivals rest =
    rw is (record { in_order = ordered; arrivals = arrivals; fewer = omega arith })

pub awaited_kept : (until : Option ℕ) (first : ℕ) (answers : List MemAnswer)
    → is_in_order first answers ≡ true → are_arrivals answers ≡ true
    → IsKeptOf first answers (awaited until answers)
awaited_kept until first [] ordered arrivals =
    record { in_order = refl; arrivals = refl; fewer = omega arith }
awaited_kept until first (a ∷ answers) ordered arrivals =
    let head = in_order_head first a answers ordered in
    let tail = in_order_tail first a answers ordered in
    let rest = in_order_earlier first (answer_moment a) answers head tail in
    awaited_step (is_passed_over until a) until first a answers refl ordered arrivals
    (awaited_kept until first answers rest (tail_arrivals a answers arrivals))

-- the first of those that are awaited isn't passed over
first_step : (passed : Bool) (until : Option ℕ) (a b : MemAnswer) (answers others : List MemAnswer)
    → is_passed_over until a ≡ passed → awaited until (a ∷ answers) ≡ b ∷ others
    → (awaited until answers ≡ b ∷ others → is_passed_over until b ≡ false)
    → is_passed_over until b ≡ false
first_step true until a b answers others is same rest = rest (rw is at same)
first_step false until a b answers others is same rest =
    let head : a ≡ b = cc (rw is at same) in
    ap (is_passed_over until) (sym head) ∙ is

pub first_awaited : (until : Option ℕ) (answers : List MemAnswer) (b : MemAnswer)
    (others : List MemAnswer)
    → awaited until answers ≡ b ∷ others → is_passed_over until b ≡ false
first_awaited until [] b others same = cc
first_awaited until (a ∷ answers) b others same =
    first_step (is_passed_over until a) until a b answers others refl same
    (first_awaited until answers b others)

-- a Due that isn't passed over was waited for
due_waited : (until : Option ℕ) (at : ℕ) → is_passed_over until (Due at) ≡ false
    → IsSomeAnd until (λ moment. moment ≤ at)
due_waited None at none = cc
due_waited (Some moment) at none = grind (arith, nat_tests)

arrival_some : (count : ℕ) → (nat_le 1 count && nat_le count ARRIVAL_BYTES) ≡ true
    → (1 ≤ count) × (count ≤ ARRIVAL_BYTES)
arrival_some count some =
    let few = nat_le count ARRIVAL_BYTES in (
      at_least 1 count (and_parts (nat_le 1 count) few some).0,
      at_least count ARRIVAL_BYTES (and_parts (nat_le 1 count) few some).1,
    )

-- what the first of these answers gives
pub may_first : (until : Option ℕ) (last : ℕ) (a : MemAnswer) (rest : List MemAnswer)
    (buffer : List ℕ)
    → is_in_order last (a ∷ rest) ≡ true → is_arrival a ≡ true → is_passed_over until a ≡ false
    → MayAnswer until last (first_turn (a ∷ rest) buffer).answer
may_first until last (Bytes hand bytes at) rest buffer ordered arrival awaits =
    let some = arrival_some (length bytes) arrival in
    (in_order_head last (Bytes hand bytes at) rest ordered, some.0, some.1)
may_first until last (Due at) rest buffer ordered arrival awaits =
    (in_order_head last (Due at) rest ordered, due_waited until at awaits)

moment_first : (last : ℕ) (a : MemAnswer) (rest : List MemAnswer) (buffer : List ℕ)
    → moment_after (first_turn (a ∷ rest) buffer).answer last ≡ answer_moment a
moment_first last (Bytes hand bytes at) rest buffer = refl
moment_first last (Due at) rest buffer = refl

-- an answer that is taken is answered in order
pub answered_first : (until : Option ℕ) (last : ℕ) (answers : List MemAnswer) (a : MemAnswer)
    (rest : List MemAnswer) (buffer : List ℕ)
    → are_arrivals answers ≡ true → awaited until answers ≡ a ∷ rest
    → is_in_order last answers ≡ true
    → IsAnsweredInOrder until last answers (first_turn (a ∷ rest) buffer).answer rest
answered_first until last answers a rest buffer arrivals same ordered =
    let kept : IsKeptOf last answers (a ∷ rest) =
    subst (IsKeptOf last answers) same (awaited_kept until last answers ordered arrivals) in
    let waited = first_awaited until answers a rest same in
    let arrival = head_arrival a rest kept.arrivals in
    record {
      may = may_first until last a rest buffer kept.in_order arrival waited;
      in_order = rw moment_first (in_order_tail last a rest kept.in_order);
      arrivals = tail_arrivals a rest kept.arrivals;
      fewer = λ _. omega (arith, kept.fewer);
    }

first_alone : (a : MemAnswer) (rest : List MemAnswer) (buffer : List ℕ)
    → (first_turn (a ∷ rest) buffer).answer ≡ (first_turn (a ∷ []) buffer).answer
first_alone (Bytes hand bytes at) rest buffer = refl
first_alone (Due at) rest buffer = refl

-- and what is answered doesn't depend on those that are left
pub answered_taken : (until : Option ℕ) (last : ℕ) (answers : List MemAnswer) (a : MemAnswer)
    (rest : List MemAnswer) (buffer : List ℕ) (given : Answer)
    → are_arrivals answers ≡ true → awaited until answers ≡ a ∷ rest
    → is_in_order last answers ≡ true → given ≡ (first_turn (a ∷ []) buffer).answer
    → IsAnsweredInOrder until last answers given rest
answered_taken until last answers a rest buffer given arrivals same ordered gives =
    subst (λ (g : Answer). IsAnsweredInOrder until last answers g rest)
    (first_alone a rest buffer ∙ sym gives)
    (answered_first until last answers a rest buffer arrivals same ordered)

-- no answer is left
pub answered_none : (until : Option ℕ) (last : ℕ) (answers rest : List MemAnswer) → rest ≡ []
    → IsAnsweredInOrder until last answers answer.End rest
answered_none until last answers rest none =
    subst (IsAnsweredInOrder until last answers answer.End) (sym none)
    (record { may = tt; in_order = refl; arrivals = refl; fewer = λ more. cc more })

-- an arrival that is awaited
awaited_arrivals : (until : Option ℕ) (answers : List MemAnswer)
    → are_arrivals answers ≡ true → are_arrivals (awaited until answers) ≡ true
awaited_arrivals until [] arrivals = refl
awaited_arrivals until (a ∷ answers) arrivals =
    elim (is_passed_over until a) as (λ passed.
    is_passed_over until a ≡ passed → are_arrivals (awaited until (a ∷ answers)) ≡ true) [
      | true ↦ λ is. rw is (awaited_arrivals until answers (tail_arrivals a answers arrivals))
      | false ↦ λ is. rw is arrivals
    ] refl

pub arrival_taken : (until : Option ℕ) (answers : List MemAnswer) (a : MemAnswer)
    (rest : List MemAnswer)
    → are_arrivals answers ≡ true → awaited until answers ≡ a ∷ rest → is_arrival a ≡ true
arrival_taken until answers a rest arrivals same =
    head_arrival a rest
    (subst (λ (left : List MemAnswer). are_arrivals left ≡ true) same
    (awaited_arrivals until answers arrivals))
