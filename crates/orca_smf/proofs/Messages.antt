-- Messages are read back, and what is read as messages is spelled so.
use Rattle.std.proofs.Common.{◌≡◌, ℕ, zero, suc, ◌+◌, ◌-◌, ◌^◌, ◌<◌, ◌≤◌, ◌&&◌, cond, ltb, true, List, [], ◌∷◌, ◌++◌, length, Option, Some, None, refl, sym, ap, subst, ◌∙◌, append_assoc, append-nil, arith}
use Rattle.std.proofs.lemmas.Bool.{lt-ltb, ltb-true}
use Rattle.std.proofs.lemmas.Bool.Decides.{nat_tests}
use Rattle.std.proofs.lemmas.List.{length-append}
use Rattle.std.proofs.lemmas.Option.{cond_some, option_and_then_some}
use Rattle.orca_smf.specs.declared.limits.TheConstants.{MAX_DELTA}
use Rattle.orca_smf.specs.declared.timed.Timed.{Timed}
use Rattle.orca_smf.specs.Songs.{AreMessages, MayFollow, IsSongMessage, delta, end_event, last_tick, messages}
use Rattle.orca_smf.specs.Spelling.{and_more, delta_at, is_status, message_at, messages_at, tick_at, voice_at}
use Rattle.orca_smf.proofs.Deltas.{IsBytes, IsBytes-behind, delta_again, delta_spelled}

-- ---- ticks

pub tick_again : (before tick : ℕ) (rest : List ℕ) → MayFollow before tick →
    tick_at before (delta (tick - before) ++ rest) ≡ Some (tick, rest)
unfolding tick_at
tick_again before tick rest f =
    let near : tick - before ≤ MAX_DELTA = omega (arith, f.later, f.near) in
    let is : before + (tick - before) ≡ tick = omega (arith, f.later) in
    rw (delta_again (tick - before) rest near, is, lt-ltb tick (2 ^ 32) f.fits) refl

-- bytes that begin with the delta time of a tick after another
pub record TickSpelled (before tick : ℕ) (bytes rest : List ℕ) : Type 0 where
  pub follows : MayFollow before tick
  pub spelled : bytes ≡ delta (tick - before) ++ rest

pub tick_spelled : (before tick : ℕ) (bytes rest : List ℕ) → IsBytes bytes →
    tick_at before bytes ≡ Some (tick, rest) → TickSpelled before tick bytes rest
unfolding tick_at
tick_spelled before tick bytes rest f e =
    option_and_then_some (λ (d : ℕ × List ℕ). cond (ltb (before + d.0) (2 ^ 32))
    (Some (before + d.0, d.1)) None) (delta_at bytes) (tick, rest) e (λ d is found.
    let p = cond_some (ltb (before + d.0) (2 ^ 32)) (before + d.0, d.1) (tick, rest) found in
    let below = ltb-true (before + d.0) (2 ^ 32) p.0 in
    let tick-is : before + d.0 ≡ tick = ap (λ (x : ℕ × List ℕ). x.0) p.1 in
    let rest-is : d.1 ≡ rest = ap (λ (x : ℕ × List ℕ). x.1) p.1 in
    let s = delta_spelled bytes d.0 d.1 f is in
    let gap : d.0 ≡ tick - before = omega arith in
    record {
      follows = record { later = omega arith; near = omega (arith, s.near); fits = omega arith };
      spelled = s.spelled ∙ ap (λ (n : ℕ). delta n ++ d.1) gap
          ∙ ap (λ (r : List ℕ). delta (tick - before) ++ r) rest-is;
    })

-- ---- messages

voice_again : (tick : ℕ) (bytes rest : List ℕ) → IsSongMessage bytes →
    voice_at tick (bytes ++ rest) ≡ Some (record { tick = tick; bytes = bytes }, rest)
unfolding voice_at
voice_again tick [] rest v = absurd (omega (arith, v.three))
voice_again tick (a ∷ []) rest v = absurd (omega (arith, v.three))
voice_again tick (a ∷ b ∷ []) rest v = absurd (omega (arith, v.three))
voice_again tick (a ∷ b ∷ c ∷ []) rest v =
    let test : is_status a && ltb b 128 && ltb c 128 ≡ true =
    grind (arith, nat_tests, v.status, v.no_system, v.no_pair, v.second, v.third) in
    rw test refl
voice_again tick (a ∷ b ∷ c ∷ d ∷ bytes) rest v = absurd (omega (arith, v.three))

-- bytes that begin with a message of a tick
pub record VoiceSpelled (m : Timed) (at : ℕ) (bytes rest : List ℕ) : Type 0 where
  pub tick : m.tick ≡ at
  pub voice : IsSongMessage m.bytes
  pub spelled : bytes ≡ m.bytes ++ rest

voice_spelled : (tick : ℕ) (m : Timed) (bytes rest : List ℕ) →
    voice_at tick bytes ≡ Some (m, rest) → VoiceSpelled m tick bytes rest
unfolding voice_at
voice_spelled tick m [] rest e = absurd cc
voice_spelled tick m (a ∷ []) rest e = absurd cc
voice_spelled tick m (a ∷ b ∷ []) rest e = absurd cc
voice_spelled tick m (a ∷ b ∷ c ∷ bytes) rest e =
    let n : Timed = record { tick = tick; bytes = a ∷ b ∷ c ∷ [] } in
    let p = cond_some (is_status a && ltb b 128 && ltb c 128) (n, bytes) (m, rest) e in
    let tests = p.0 in
    let voice : IsSongMessage (a ∷ b ∷ c ∷ []) = record {
      three = refl;
      status = grind (arith, nat_tests, tests);
      no_system = grind (arith, nat_tests, tests);
      no_pair = λ h. grind (arith, nat_tests, tests, h);
      second = grind (arith, nat_tests, tests);
      third = grind (arith, nat_tests, tests);
    } in
    let so : VoiceSpelled n tick (a ∷ b ∷ c ∷ bytes) bytes =
    record { tick = refl; voice = voice; spelled = refl } in
    subst (λ (x : Timed × List ℕ). VoiceSpelled x.0 tick (a ∷ b ∷ c ∷ bytes) x.1) p.1 so

pub message_again : (before : ℕ) (m : Timed) (rest : List ℕ) → MayFollow before m.tick →
    IsSongMessage m.bytes →
    message_at before (delta (m.tick - before) ++ m.bytes ++ rest) ≡ Some (m, rest)
unfolding message_at
message_again before m rest f v =
    rw (
      append_assoc (delta (m.tick - before)) m.bytes rest,
      tick_again before m.tick (m.bytes ++ rest) f,
      voice_again m.tick m.bytes rest v,
    ) refl

-- bytes that begin with a message that may come after a tick
pub record MessageSpelled (before : ℕ) (m : Timed) (bytes rest : List ℕ) : Type 0 where
  pub follows : MayFollow before m.tick
  pub voice : IsSongMessage m.bytes
  pub spelled : bytes ≡ delta (m.tick - before) ++ m.bytes ++ rest

pub message_spelled : (before : ℕ) (m : Timed) (bytes rest : List ℕ) → IsBytes bytes →
    message_at before bytes ≡ Some (m, rest) → MessageSpelled before m bytes rest
unfolding message_at
message_spelled before m bytes rest f e =
    option_and_then_some (λ (t : ℕ × List ℕ). voice_at t.0 t.1) (tick_at before bytes) (m, rest) e
    (λ t is found.
    let first = tick_spelled before t.0 bytes t.1 f is in
    let second = voice_spelled t.0 m t.1 rest found in
    let parts : bytes ≡ delta (m.tick - before) ++ (m.bytes ++ rest) =
    rw second.tick (first.spelled ∙ ap (λ (r : List ℕ). delta (t.0 - before) ++ r)
    second.spelled) in
    record {
      follows = rw second.tick first.follows;
      voice = second.voice;
      spelled = parts ∙ sym (append_assoc (delta (m.tick - before)) m.bytes rest);
    })

-- no message is where nothing is
pub none_at_nothing : (before : ℕ) → message_at before [] ≡ None
unfolding message_at tick_at delta_at
none_at_nothing before = refl

-- nor where the track ends
pub none_at_end : (before end : ℕ) → MayFollow before end →
    message_at before (end_event before end) ≡ None
unfolding message_at voice_at
none_at_end before end f = rw (tick_again before end (255 ∷ 47 ∷ 0 ∷ []) f) refl

-- ---- lists of messages

-- the messages are found again, whatever follows that is no message
pub messages_again : (n before : ℕ) (list : List Timed) (rest : List ℕ) → AreMessages before list →
    message_at (last_tick before list) rest ≡ None → length list ≤ n →
    messages_at n before (messages before list ++ rest) ≡ (list, rest)
unfolding messages_at
messages_again zero before [] rest are none few = refl
messages_again (suc n) before [] rest are none few = ap (and_more (messages_at n) rest) none
messages_again zero before (m ∷ list) rest are none few = absurd (omega arith)
messages_again (suc n) before (m ∷ list) rest are none few =
    let whole : messages before (m ∷ list) ++ rest
    ≡ delta (m.tick - before) ++ m.bytes ++ (messages m.tick list ++ rest) =
    append_assoc (delta (m.tick - before) ++ m.bytes) (messages m.tick list) rest in
    let first = ap (message_at before) whole ∙ message_again before m (messages m.tick list ++ rest)
    are.0 are.1 in
    let more = messages_again n m.tick list rest are.2 none (omega arith) in
    ap (and_more (messages_at n) (messages before (m ∷ list) ++ rest)) first
    ∙ ap (λ (x : List Timed × List ℕ). (m ∷ x.0, x.1)) more

-- each message has bytes
length_messages : (before : ℕ) (list : List Timed) → AreMessages before list →
    length list ≤ length (messages before list)
length_messages before [] are = omega arith
length_messages before (m ∷ list) are =
    let more = length_messages m.tick list are.2 in
    let three = are.1.three in
    omega (
      arith,
      length-append (delta (m.tick - before) ++ m.bytes) (messages m.tick list),
      length-append (delta (m.tick - before)) m.bytes,
    )

-- so the list of all of them is known by their bytes
pub list_again : (n : ℕ) (list : List Timed) → AreMessages 0 list → length (messages 0 list) ≤ n →
    (messages_at n 0 (messages 0 list)).0 ≡ list
list_again n list are few =
    let short = length_messages 0 list are in
    let found = messages_again n 0 list [] are (none_at_nothing (last_tick 0 list)) (omega arith) in
    ap (λ (bytes : List ℕ). (messages_at n 0 bytes).0) (sym (append-nil (messages 0 list)))
    ∙ ap (λ (x : List Timed × List ℕ). x.0) found

-- one more message at the end
pub messages_push : (before : ℕ) (list : List Timed) (m : Timed) →
    messages before (list ++ m ∷ []) ≡ messages before
    list ++ (delta (m.tick - last_tick before list) ++ m.bytes)
messages_push before [] m = append-nil (delta (m.tick - before) ++ m.bytes)
messages_push before (x ∷ list) m =
    ap (λ (r : List ℕ). delta (x.tick - before) ++ x.bytes ++ r) (messages_push x.tick list m)
    ∙ sym (append_assoc (delta (x.tick - before) ++ x.bytes) (messages x.tick list)
    (delta (m.tick - last_tick x.tick list) ++ m.bytes))

pub last_push : (before : ℕ) (list : List Timed) (m : Timed) →
    last_tick before (list ++ m ∷ []) ≡ m.tick
last_push before [] m = refl
last_push before (x ∷ list) m = last_push x.tick list m

pub are_push : (before : ℕ) (list : List Timed) (m : Timed) → AreMessages before list →
    MayFollow (last_tick before list) m.tick → IsSongMessage m.bytes → AreMessages before (list ++ m ∷ [])
are_push before [] m are f v = (f, v, tt)
are_push before (x ∷ list) m are f v = (are.0, are.1, are_push x.tick list m are.2 f v)

-- bytes that begin with messages, and those after them
pub record Taken (bytes : List ℕ) (list : List Timed) (tick : ℕ) (rest : List ℕ) : Type 0 where
  pub spelled : bytes ≡ messages 0 list ++ rest
  pub messages : AreMessages 0 list
  pub last : tick ≡ last_tick 0 list

-- one more message is taken
pub taken_more : (bytes : List ℕ) (list more : List Timed) (tick : ℕ) (rest : List ℕ) (m : Timed)
    (behind : List ℕ) → IsBytes bytes → Taken bytes list tick rest →
    ◌≡◌ {A = Option (Timed × List ℕ)} (Some (m, behind)) (message_at tick rest) →
    more ≡ list ++ m ∷ [] → Taken bytes more m.tick behind × (length behind < length rest)
taken_more bytes list more tick rest m behind f t e added =
    let s = message_spelled tick m rest behind (IsBytes-behind (messages 0 list) rest bytes
    t.spelled f) (sym e) in
    let event = delta (m.tick - last_tick 0 list) ++ m.bytes in
    let at : rest ≡ event ++ behind = s.spelled
    ∙ ap (λ (n : ℕ). delta (m.tick - n) ++ m.bytes ++ behind) t.last in
    let follows : MayFollow (last_tick 0 list) m.tick = subst (λ (n : ℕ). MayFollow n m.tick) t.last
    s.follows in
    let whole : bytes ≡ messages 0 (list ++ m ∷ []) ++ behind =
    t.spelled ∙ ap (λ (r : List ℕ). messages 0 list ++ r) at
    ∙ sym (append_assoc (messages 0 list) event behind)
    ∙ ap (λ (r : List ℕ). r ++ behind) (sym (messages_push 0 list m)) in
    let long = s.voice.three in (
      record {
        spelled = rw added whole;
        messages = rw added (are_push 0 list m t.messages follows s.voice);
        last = rw added (sym (last_push 0 list m));
      },
      omega (
        arith,
        ap length s.spelled,
        length-append (delta (m.tick - tick) ++ m.bytes) behind,
        length-append (delta (m.tick - tick)) m.bytes,
      ),
    )
