-- What acts make of the world, one list of them after another.
use Rattle.std.proofs.Common.{◌≡◌, inl, inr, ℕ, ◌+◌, ◌≤◌, List, [], ◌∷◌, ◌++◌, refl, sym, ap, ◌∙◌, append_assoc, append-nil, arith}
use Rattle.std.proofs.lemmas.List.Folds.{list_any-append}
use Rattle.std.specs.List.{list_any}
use Rattle.std.specs.Result.{result_err, result_ok}
use Rattle.std.specs.Prelude.{Bool, true, false, ◌||◌, ◌⊎◌, All, Option, None, Result, Ok, Err}
use Rattle.orca_base.specs.declared.command.Command.{Command}
use Rattle.orca_term.specs.Picture.{IsPrintable}
use Rattle.orca_term.specs.declared.cell.Cell.{Cell}
use Rattle.orca_term.specs.declared.cell.ScreenSize.{ScreenSize}
use Rattle.orca_term.specs.declared.keys.Key.{Key}
use Rattle.orca_rig.specs.Outside.{Contents}
use Rattle.orca_base.specs.Ports.{Sent}
use Rattle.orca_rig.specs.declared.fault.OutsideFault.{OutsideFault}
use Rattle.orca_rig.specs.declared.files.Claim.{Claim as Claimed}
use Rattle.orca_rig.specs.declared.inbox.Answer.{Answer}
use Rattle.orca_rig.specs.declared.fault.OutsideFault.TheVariants.{Failed, Memory}
use Rattle.orca_trace.specs.Calls.{Call, fault_of}
use Rattle.orca_trace.specs.Calls.Call.{Await as CallAwait, Give as CallGive}
use Rattle.orca_course.specs.Acts.{Act, ArePrintable, AreUntold, calls_in, given}
use Rattle.orca_course.specs.Acts.Act.{Append, Await, Begin, Claim, Give, Learn, Load, Obey, Remove, Save, Screen, Show, Stand, Strike}
use Rattle.orca_course.specs.Answered.{act_of, losses_of, done_in, is_file_fault, refused_in}
use Rattle.orca_course.specs.Standings.{Standing}
use Rattle.orca_course.specs.Worlds.{AreCalled, AreCounted, AreStored, Called, Counts, IsCounted, Learns, Made, Polled, Sated, Stores, Unsent, Wants, World, claim_answer, file_failed, has_ended, has_failed, inbox_failed, listen_moment, owing, settled, settled_with}
use Rattle.orca_course.specs.declared.item.Losses.{Losses}
use Rattle.orca_course.specs.declared.refused.NoMemory.{NoMemory}
use Rattle.orca_course.specs.declared.refused.NoMemory.TheVariants.{InSend, Elsewhere}
use Rattle.orca_course.proofs.ActLemmas.{ArePrintable-append, calls_in-append, ended_after, ended_after-calls, given-append, lost_after, lost_after-calls}
use Rattle.orca_course.proofs.AnsweredLemmas.{done_in-append, ended_after-done, lost_after-done, refused_in-append}

-- the files

stored_twice : (xs ys : List Call) (a b c : Option Contents) → AreStored xs a b → AreStored ys b c
    → AreStored (xs ++ ys) a c
stored_twice [] ys a b c first second = grind arith
stored_twice (x ∷ xs) ys a b c first second =
    (first.0, first.1, stored_twice xs ys first.0 b c first.2 second)

-- the counts

counted_once : (f g : Bool) (a b c : ℕ) → IsCounted f a b → IsCounted g b c → IsCounted (f || g) a c
counted_once true true a b c first second = grind arith
counted_once true false a b c first second = grind arith
counted_once false g a b c first second = rw first at second

counted_twice : (xs ys : List Call) (a b c : Counts) → AreCounted xs a b → AreCounted ys b c
    → AreCounted (xs ++ ys) a c
counted_twice xs ys a b c first second = record {
  ports = rw list_any-append (counted_once _ _ _ _ _ first.ports second.ports);
  files = rw list_any-append (counted_once _ _ _ _ _ first.files second.files);
  inbox = rw list_any-append (counted_once _ _ _ _ _ first.inbox second.inbox);
}

-- what is told of calls

-- where something stands in a list and another one, it stands in the first or in the second
abbrev StandsIn : {X : Type 0} → List X → List X → List X → X → List X → Type 0
StandsIn {X} xs ys before a after =
    ((rest : List X) × (xs ≡ before ++ a ∷ rest))
    ⊎ ((front : List X) × (before ≡ xs ++ front) × (ys ≡ front ++ a ∷ after))

stands_in : {X : Type 0} (xs ys before : List X) (a : X) (after : List X)
    → xs ++ ys ≡ before ++ a ∷ after → StandsIn xs ys before a after
stands_in [] ys before a after is = inr (before, refl, is)
stands_in (x ∷ xs) ys [] a after is = inl (xs, cc is)
stands_in (x ∷ xs) ys (b ∷ before) a after is =
    elim (stands_in xs ys before a after (cc is)) [
      | inl at ↦ inl (at.0, cc (is, at.1))
      | inr at ↦ inr (at.0, cc (is, at.1), at.2)
    ]

untold_none : (before : List Act) (came : Losses) (after : List Act)
    → AreUntold (before ++ Learn came ∷ after) → ⊥
untold_none [] came after none = none
untold_none (x ∷ before) came after none = grind (arith, untold_none before came after)

learns_untold : (acts : List Act) (old new : List Call) → AreUntold acts → Learns acts old new
unfolding Learns
learns_untold acts old new none before came after is =
    absurd (untold_none before came after (rw is at none))

learns_now : (calls : List Call) → Learns (Learn (losses_of calls) ∷ []) calls calls
unfolding Learns
learns_now calls [] came after is = record {
  since = [];
  later = [];
  calls = sym (append-nil calls);
  done = refl;
  is = grind (arith, append-nil, is);
}
learns_now calls (x ∷ []) came after is = absurd cc
learns_now calls (x ∷ y ∷ before) came after is = absurd cc

learns_twice : (xs ys : List Act) (a b c first second : List Call) → b ≡ a ++ first
    → c ≡ b ++ second → done_in first ≡ calls_in xs → Learns xs a b → Learns ys b c
    → Learns (xs ++ ys) a c
unfolding Learns
learns_twice xs ys a b c first second calls more done one two before came after is =
    elim (stands_in xs ys before (Learn came) after is) [
      | inl at ↦
          let so = one before came at.0 at.1 in
          record {
            since = so.since;
            later = so.later ++ second;
            calls = grind (arith, append_assoc, more, so.calls);
            done = so.done;
            is = so.is;
          }
      | inr at ↦
          let so = two at.0 came after at.2 in
          record {
            since = first ++ so.since;
            later = so.later;
            calls = grind (arith, append_assoc, calls, so.calls);
            done = grind (arith, done_in-append, calls_in-append, at.1, done, so.done);
            is = grind (arith, append_assoc, calls, so.is);
          }
    ]

-- acts that were done

-- no call was made
called_none : (acts : List Act) (x y : World) → y.calls ≡ x.calls → y.contents ≡ x.contents
    → y.faults ≡ x.faults → calls_in acts ≡ [] → Learns acts x.calls y.calls → AreCalled acts x y
unfolding AreCalled
called_none acts x y calls contents faults none learns = (
  [],
  calls ∙ sym (append-nil x.calls),
  sym none,
  contents,
  rw faults (record { ports = refl; files = refl; inbox = refl }),
  learns,
)

-- nor is anything told of calls
called_mute : (acts : List Act) (x y : World) → y.calls ≡ x.calls → y.contents ≡ x.contents
    → y.faults ≡ x.faults → calls_in acts ≡ [] → AreUntold acts → AreCalled acts x y
called_mute acts x y calls contents faults none untold =
    called_none acts x y calls contents faults none (learns_untold acts x.calls y.calls untold)

pub called_still : (acts : List Act) (x : World) → acts ≡ [] → AreCalled acts x x
called_still acts x none = rw none (called_mute [] x x refl refl refl refl tt)

called_twice : (xs ys : List Act) (x y z : World) → AreCalled xs x y → AreCalled ys y z
    → AreCalled (xs ++ ys) x z
unfolding AreCalled
called_twice xs ys x y z first second = (
  first.0 ++ second.0,
  grind (arith, append_assoc, first.1, second.1),
  grind (arith, done_in-append, calls_in-append, first.2, second.2),
  stored_twice first.0 second.0 _ _ _ first.3 second.3,
  counted_twice first.0 second.0 _ _ _ first.4 second.4,
  learns_twice xs ys x.calls y.calls z.calls first.0 second.0 first.1 second.1 first.2 first.5
      second.5,
)

pub made_none : (x : World) → Made [] 0 x x
made_none x = record {
  called = called_mute [] x x refl refl refl refl tt;
  shows = tt;
  paid = omega arith;
}

-- steps alone were taken
pub made_paid : (bill : ℕ) (x y : World) → y.calls ≡ x.calls → y.contents ≡ x.contents
    → y.faults ≡ x.faults → y.paid ≤ x.paid + bill → Made [] bill x y
made_paid bill x y calls contents faults paid =
    record { called = called_mute [] x y calls contents faults refl tt; shows = tt; paid = paid }

pub made_twice : {xs ys : List Act} {m n : ℕ} {x y z : World} → Made xs m x y → Made ys n y z
    → Made (xs ++ ys) (m + n) x z
made_twice {xs = xs} {ys = ys} {x = x} {y = y} {z = z} first second = record {
  called = called_twice xs ys x y z first.called second.called;
  shows = ArePrintable-append xs ys first.shows second.shows;
  paid = omega (arith, first.paid, second.paid);
}

-- a greater bill serves as well
pub made_within : {xs : List Act} {m : ℕ} {x y : World} (n : ℕ) → m ≤ n → Made xs m x y
    → Made xs n x y
made_within n more made = search arith

-- what is owed before and after alike
pub made_owing : {xs : List Act} {m : ℕ} {x y : World} (n : ℕ) → Made xs m x y
    → Made xs m (owing n x) (owing n y)
unfolding AreCalled
made_owing n made = record {
  called = made.called;
  shows = made.shows;
  paid = omega (arith, made.paid);
}

-- nothing is owed on either side
pub made_clear : {xs : List Act} {bill : ℕ} {x y : World} (n : ℕ)
    → Made xs bill (owing 0 x) (owing n y) → Made xs bill x y
unfolding AreCalled
made_clear n made = record {
  called = made.called;
  shows = made.shows;
  paid = omega (arith, made.paid);
}

-- where the run stands, a command, a key, a picture, a size and what calls came to are no calls

made_mark : (act : Act) (x : World) → calls_in (act ∷ []) ≡ [] → AreUntold (act ∷ [])
    → ArePrintable (act ∷ []) → Made (act ∷ []) 0 x x
made_mark act x none untold shows = record {
  called = called_mute (act ∷ []) x x refl refl refl none untold;
  shows = shows;
  paid = omega arith;
}

made_after : {acts : List Act} {bill : ℕ} {x y : World} (act : Act) → calls_in (act ∷ []) ≡ []
    → AreUntold (act ∷ []) → ArePrintable (act ∷ []) → Made acts bill x y
    → Made (act ∷ acts) bill x y
made_after {bill = bill} {x = x} act none untold shows made =
    made_within bill (omega arith) (made_twice (made_mark act x none untold shows) made)

pub made_stand : {acts : List Act} {bill : ℕ} {x y : World} (s : Standing) → Made acts bill x y
    → Made (Stand s ∷ acts) bill x y
made_stand s made = made_after (Stand s) refl tt tt made

pub made_obey : {acts : List Act} {bill : ℕ} {x y : World} (command : Command) → Made acts bill x y
    → Made (Obey command ∷ acts) bill x y
made_obey command made = made_after (Obey command) refl tt tt made

pub made_strike : {acts : List Act} {bill : ℕ} {x y : World} (hand : ℕ) (key : Key)
    → Made acts bill x y → Made (Strike hand key ∷ acts) bill x y
made_strike hand key made = made_after (Strike hand key) refl tt tt made

pub made_show : {acts : List Act} {bill : ℕ} {x y : World} (hand : ℕ) (cells : List Cell)
    → All IsPrintable cells → Made acts bill x y → Made (Show hand cells ∷ acts) bill x y
made_show hand cells printable made = made_after (Show hand cells) refl tt (printable, tt) made

pub made_screen : {acts : List Act} {bill : ℕ} {x y : World} (hand : ℕ) (d : ScreenSize)
    → Made acts bill x y → Made (Screen hand d ∷ acts) bill x y
made_screen hand d made = made_after (Screen hand d) refl tt tt made

-- what all calls so far came to
pub made_learn : (x : World) → Made (Learn (losses_of x.calls) ∷ []) 0 x x
made_learn x = record {
  called = called_none (Learn (losses_of x.calls) ∷ []) x x refl refl refl refl (learns_now x.calls);
  shows = tt;
  paid = omega arith;
}

-- the inbox has failed exactly if it had, or failed at one of the acts
pub lost_made : {acts : List Act} {bill : ℕ} {x y : World} → Made acts bill x y
    → inbox_failed y ≡ lost_after acts (inbox_failed x)
unfolding AreCalled
lost_made {acts = acts} {x = x} made =
    let called = made.called in
    rw (called.1, list_any-append, ← lost_after-done, called.2)
    (lost_after-calls acts (inbox_failed x))

-- and so it has ended
pub ended_made : {acts : List Act} {bill : ℕ} {x y : World} → Made acts bill x y
    → has_ended y ≡ ended_after acts (has_ended x)
unfolding AreCalled
ended_made {acts = acts} {x = x} made =
    let called = made.called in
    rw (called.1, list_any-append, ← ended_after-done, called.2)
    (ended_after-calls acts (has_ended x))

-- no load or claim among acts has failed, and nothing is saved, begun, added or taken away
abbrev pub AreSafe : List Act → Type 0
AreSafe [] = Unit {0}
AreSafe (Load name None ∷ acts) = ⊥
AreSafe (Save name bytes ∷ acts) = ⊥
AreSafe (Begin name bytes ∷ acts) = ⊥
AreSafe (Append name bytes ∷ acts) = ⊥
AreSafe (Claim name bytes None ∷ acts) = ⊥
AreSafe (Remove name ∷ acts) = ⊥
AreSafe (_ ∷ acts) = AreSafe acts

safe_calls : (calls : List Call) → AreSafe (done_in calls) → list_any is_file_fault calls ≡ false
safe_calls [] safe = refl
safe_calls (call ∷ calls) safe = grind (arith, safe_calls calls)

safe_acts : (acts : List Act) → AreSafe acts → AreSafe (calls_in acts)
safe_acts [] safe = tt
safe_acts (act ∷ acts) safe = grind (arith, safe_acts acts)

-- then the files have not failed
pub stored_made : {acts : List Act} {bill : ℕ} {x y : World} → AreSafe acts → Made acts bill x y
    → file_failed y ≡ file_failed x
unfolding AreCalled
stored_made {acts = acts} safe made =
    let called = made.called in
    let none = safe_calls called.0 (rw called.2 (safe_acts acts safe)) in
    rw (called.1, list_any-append, none) (grind arith)

unloaded_calls : (calls : List Call) (name : List ℕ) → done_in calls ≡ Load name None ∷ []
    → list_any is_file_fault calls ≡ true
unloaded_calls [] name is = absurd cc
unloaded_calls (call ∷ calls) name is = grind (arith, unloaded_calls calls name)

-- a load has failed
pub unstored_made : {name : List ℕ} {bill : ℕ} {x y : World} → Made (Load name None ∷ []) bill x y
    → file_failed y ≡ true
unfolding AreCalled
unstored_made {name = name} made =
    let called = made.called in
    rw (called.1, list_any-append, unloaded_calls called.0 name called.2) (grind arith)

-- what has failed has failed for good
pub failed_made : {acts : List Act} {bill : ℕ} {x y : World} → Made acts bill x y
    → has_failed x ≡ true → has_failed y ≡ true
unfolding AreCalled
failed_made made failed = rw (made.called.1, list_any-append, failed) refl

-- no call was refused memory
pub sated_twice : (x y z : World) → Sated x y → Sated y z → Sated x z
sated_twice x y z first second = second ∙ first

-- memory was refused to a send, and before to no other
pub unsent_after : (left : List Act) (x y z : World)
    → given (refused_in y.calls) ≡ given (refused_in x.calls) → Unsent left y.calls z.calls
    → Unsent left x.calls z.calls
unsent_after left x y z none unsent = record {
  sent = unsent.sent;
  later = unsent.later;
  next = unsent.next;
  before = unsent.before;
  last = unsent.last;
  alone = unsent.alone ∙ none;
}

-- memory was refused, after others were done
pub wants_later : (e : NoMemory) (left : List Act) (x y z : World) → Sated x y
    → Wants e left y z → Wants e left x z
wants_later InSend left x y z sated wants = unsent_after left x y z (ap given sated) wants
wants_later Elsewhere left x y z sated wants = wants ∙ ap given sated

-- whatever is owed
pub wants_owing : (e : NoMemory) (left : List Act) (x y : World) (n : ℕ) → Wants e left x y
    → Wants e left (owing n x) (owing n y)
wants_owing InSend left x y n wants = wants
wants_owing Elsewhere left x y n wants = wants

-- and more was left
pub wants_longer : (e : NoMemory) (left more : List Act) (x y : World) → Wants e left x y
    → Wants e (left ++ more) x y
wants_longer InSend left more x y wants = record {
  sent = wants.sent;
  later = wants.later ++ calls_in more;
  next = grind (arith, calls_in-append, wants.next);
  before = wants.before;
  last = wants.last;
  alone = wants.alone;
}
wants_longer Elsewhere left more x y wants = wants

-- ---- one call more

pub record IsNext (call : Call) (x y : World) : Type 0 where
  pub calls : y.calls ≡ x.calls ++ call ∷ []
  pub stored : Stores call x.contents y.contents
  pub counted : AreCounted (call ∷ []) x.faults y.faults
  pub paid : y.paid ≡ x.paid

next_made : (call : Call) (acts : List Act) {x y : World} → done_in (call ∷ []) ≡ calls_in acts
    → ArePrintable acts → AreUntold acts → IsNext call x y → Made acts 0 x y
unfolding AreCalled
next_made call acts {x = x} {y = y} done shows untold next = record {
  called = (
    call ∷ [],
    next.calls,
    done,
    (_, next.stored, refl),
    next.counted,
    learns_untold acts x.calls y.calls untold,
  );
  shows = shows;
  paid = omega (arith, next.paid);
}

next_sated : (call : Call) (x y : World) → refused_in (call ∷ []) ≡ [] → IsNext call x y
    → Sated x y
next_sated call x y none next = rw (next.calls, refused_in-append, none) (append-nil (refused_in x.calls))

-- it was done
pub next_done : {T : Type 0} {done : T} (call : Call) (act : Act) {x y : World}
    → done_in (call ∷ []) ≡ calls_in (act ∷ []) → refused_in (call ∷ []) ≡ []
    → ArePrintable (act ∷ []) → AreUntold (act ∷ []) → IsNext call x y
    → Called (Ok done) act x y
next_done call act done none shows untold next = record {
  called = (next_made call (act ∷ []) done shows untold next, next_sated call _ _ none next);
}

-- it was refused memory, and is no send
pub next_refused : {T : Type 0} (call : Call) (act : Act) {x y : World} → done_in (call ∷ []) ≡ []
    → given (refused_in (call ∷ [])) ≡ [] → IsNext call x y → Called {T = T} (Err Elsewhere) act x y
next_refused call act {x = x} none other next = record {
  called = (
    next_made call [] none tt tt next,
    rw (next.calls, refused_in-append, given-append, other) (append-nil (given (refused_in x.calls))),
  );
}

-- it is a send, and was refused memory
pub next_unsent : {T : Type 0} (sent : Sent) (answer : Result (Unit {0}) OutsideFault) {x y : World}
    → answer ≡ Err Memory → IsNext (CallGive sent answer) x y
    → Called {T = T} (Err InSend) (Give sent) x y
next_unsent sent answer {x = x} memory next =
    let refused = rw memory at next in
    record {
      called = (
        next_made (CallGive sent (Err Memory)) [] refl tt tt refused,
        record {
          sent = sent;
          later = [];
          next = refl;
          before = x.calls;
          last = refused.calls;
          alone = refl;
        },
      );
    }

-- a poll is done, also if it failed
polled_done : (answer : Answer) (until : Option ℕ) (bytes : List ℕ)
    → (done_in (CallAwait (record { until = until; answer = answer; bytes = bytes }) ∷ [])
    ≡ Await (record { until = until; answer = answer; bytes = bytes }) ∷ [])
    × (refused_in (CallAwait (record { until = until; answer = answer; bytes = bytes }) ∷ []) ≡ [])
polled_done answer until bytes = grind arith

pub next_polled : (answer : Answer) {until : Option ℕ} {bytes : List ℕ} {x y : World}
    → IsNext (CallAwait (record { until = until; answer = answer; bytes = bytes })) x y
    → Polled until answer bytes x y
next_polled answer next = record {
  made = next_made _ _ (polled_done answer _ _).0 tt tt next;
  sated = next_sated _ _ _ (polled_done answer _ _).1 next;
}

-- a call of an act that is no send and tells nothing, and its answer came to what it comes to
pub next_settled : {call : Call} {act : Act} (answer : Result (Unit {0}) OutsideFault) {x y : World}
    → fault_of call ≡ result_err answer → act_of call ≡ act → calls_in (act ∷ []) ≡ act ∷ []
    → given (act ∷ []) ≡ [] → ArePrintable (act ∷ []) → AreUntold (act ∷ []) → IsNext call x y
    → Called (settled Elsewhere answer) act x y
next_settled {call = call} {act = act} (Ok done) fault is one other shows untold next =
    next_done call act (grind (arith, fault, is, one)) (grind (arith, fault)) shows untold next
next_settled {call = call} {act = act} (Err Failed) fault is one other shows untold next =
    next_done call act (grind (arith, fault, is, one)) (grind (arith, fault)) shows untold next
next_settled {call = call} {act = act} (Err Memory) fault is one other shows untold next =
    next_refused call act (grind (arith, fault)) (grind (arith, fault, is, other)) next

-- and it gives something
pub next_given : {T : Type 0} {call : Call} {act : Act} (answer : Result T OutsideFault) {x y : World}
    → fault_of call ≡ result_err answer → act_of call ≡ act → calls_in (act ∷ []) ≡ act ∷ []
    → given (act ∷ []) ≡ [] → ArePrintable (act ∷ []) → AreUntold (act ∷ []) → IsNext call x y
    → Called (settled_with answer) act x y
next_given {call = call} {act = act} (Ok done) fault is one other shows untold next =
    next_done call act (grind (arith, fault, is, one)) (grind (arith, fault)) shows untold next
next_given {call = call} {act = act} (Err Failed) fault is one other shows untold next =
    next_done call act (grind (arith, fault, is, one)) (grind (arith, fault)) shows untold next
next_given {call = call} {act = act} (Err Memory) fault is one other shows untold next =
    next_refused call act (grind (arith, fault)) (grind (arith, fault, is, other)) next

-- what a claim and a listening give, by their answers
pub claim_is : (answer : Result Claimed OutsideFault) → claim_answer (settled_with answer) ≡ result_ok answer
claim_is (Ok claimed) = refl
claim_is (Err Failed) = refl
claim_is (Err Memory) = refl

pub moment_is : (answer : Result ℕ OutsideFault) → listen_moment (settled_with answer) ≡ result_ok answer
moment_is (Ok at) = refl
moment_is (Err Failed) = refl
moment_is (Err Memory) = refl

-- a send was made
pub next_sent : (sent : Sent) (answer : Result (Unit {0}) OutsideFault) {x y : World}
    → IsNext (CallGive sent answer) x y → Called (settled InSend answer) (Give sent) x y
next_sent sent (Ok done) next = next_done (CallGive sent (Ok done)) (Give sent) refl refl tt tt next
next_sent sent (Err Failed) next = next_done (CallGive sent (Err Failed)) (Give sent) refl refl tt tt next
next_sent sent (Err Memory) next = next_unsent sent (Err Memory) refl next
