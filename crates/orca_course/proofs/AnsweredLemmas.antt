-- What was done by calls, and then by others.
use Rattle.std.proofs.Common.{◌≡◌, List, [], ◌∷◌, ◌++◌, refl, append_assoc, arith}
use Rattle.std.specs.Prelude.{ℕ, Bool, None, ◌||◌, fold, IfSome, OnOk, Option, Result, Ok, Err}
use Rattle.std.specs.List.{list_any}
use Rattle.std.proofs.lemmas.List.Sums.{fold-append}
use Rattle.orca_rig.specs.declared.fault.OutsideFault.{OutsideFault}
use Rattle.orca_trace.specs.Calls.{Call}
use Rattle.orca_trace.specs.Calls.Call.{Listen}
use Rattle.orca_course.specs.Answered.{done_in, is_file_fault, is_inbox_fault, is_last_poll, is_port_fault, no_outcomes, outcomes_by, outcomes_of, refused_in, seats_by, seats_of}
use Rattle.orca_course.specs.declared.notes.Outcomes.{Outcomes}
use Rattle.orca_course.proofs.ActLemmas.{ended_after, lost_after, seats_after}

pub done_in-append : (xs ys : List Call) → done_in (xs ++ ys) ≡ done_in xs ++ done_in ys
done_in-append [] ys = refl
done_in-append (x ∷ xs) ys = grind (arith, append_assoc, done_in-append xs ys)

pub refused_in-append : (xs ys : List Call)
    → refused_in (xs ++ ys) ≡ refused_in xs ++ refused_in ys
refused_in-append [] ys = refl
refused_in-append (x ∷ xs) ys = grind (arith, append_assoc, refused_in-append xs ys)

pub outcomes_more : (calls : List Call) (call : Call)
    → outcomes_of (calls ++ call ∷ []) ≡ outcomes_by (outcomes_of calls) call
unfolding outcomes_of
outcomes_more calls call = fold-append outcomes_by no_outcomes calls (call ∷ [])

pub seats_more : (calls : List Call) (call : Call)
    → seats_of (calls ++ call ∷ []) ≡ seats_by (seats_of calls) call
unfolding seats_of
seats_more calls call = fold-append seats_by None calls (call ∷ [])

-- where the inbox listens
pub seats_listened : (calls : List Call) (name : List ℕ) (hands count : ℕ)
    (answer : Result ℕ OutsideFault) → OnOk answer (count ≡ hands)
    → IfSome (seats_of (calls ++ Listen name hands answer ∷ [])) (λ seats. count ≡ seats)
seats_listened calls name hands count (Ok at) same = rw seats_more same
seats_listened calls name hands count (Err fault) same = rw seats_more tt

-- how many hands there are after calls of which none was refused memory
pub seats_after-done : (calls : List Call) (seats : Option ℕ) → refused_in calls ≡ []
    → fold seats_by seats calls ≡ seats_after (done_in calls) seats
seats_after-done [] seats none = refl
seats_after-done (call ∷ calls) seats none =
    grind (arith, λ (s : Option ℕ). seats_after-done calls s)

-- the inbox has failed at a call exactly if it has by what the calls did
pub lost_after-done : (calls : List Call) (b : Bool)
    → lost_after (done_in calls) b ≡ b || list_any is_inbox_fault calls
lost_after-done [] b = grind arith
lost_after-done (call ∷ calls) b = grind (arith, λ (c : Bool). lost_after-done calls c)

-- and so it has ended
pub ended_after-done : (calls : List Call) (b : Bool)
    → ended_after (done_in calls) b ≡ b || list_any is_last_poll calls
ended_after-done [] b = grind arith
ended_after-done (call ∷ calls) b = grind (arith, λ (c : Bool). ended_after-done calls c)

-- an outcome once more: a port has failed at a call, or the files have
port_faults_from : (calls : List Call) (o : Outcomes)
    → (fold outcomes_by o calls).failed ≡ o.failed || list_any is_port_fault calls
unfolding outcomes_by
port_faults_from [] o = grind arith
port_faults_from (call ∷ calls) o = grind (arith, λ (q : Outcomes). port_faults_from calls q)

pub port_faults : (calls : List Call)
    → (outcomes_of calls).failed ≡ list_any is_port_fault calls
unfolding outcomes_of
port_faults calls = port_faults_from calls no_outcomes

file_faults_from : (calls : List Call) (o : Outcomes)
    → (fold outcomes_by o calls).unstored ≡ o.unstored || list_any is_file_fault calls
unfolding outcomes_by
file_faults_from [] o = grind arith
file_faults_from (call ∷ calls) o = grind (arith, λ (q : Outcomes). file_faults_from calls q)

pub file_faults : (calls : List Call)
    → (outcomes_of calls).unstored ≡ list_any is_file_fault calls
unfolding outcomes_of
file_faults calls = file_faults_from calls no_outcomes
