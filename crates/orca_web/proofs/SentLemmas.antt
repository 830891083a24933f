-- What was written is no more to be sent.
use Rattle.std.proofs.Common.{◌≡◌, ◌≤◌, ℕ, ◌-◌, ◌+◌, List, [], ◌++◌, length, take, drop, replicate, Option, None, Some, arith, sym, refl, append_assoc, append-nil, ap, ◌∙◌, subst, take-append-drop}
use Rattle.std.proofs.lemmas.List.{take_rest, append_cancel_right}
use Rattle.std.proofs.Math.Seq.{take-append_seam}
use Rattle.std.proofs.Math.Nat.{add-sub_cancel_left}
use Rattle.std.specs.Prelude.{Result, Ok, Err, OnOk, OnErr}
use Rattle.std.proofs.Common.{length-append}
use Rattle.std.specs.Io.KnownBytes.{Appends, Keeps, append_known}
use Rattle.std.proofs.KnownBytes.{Appends-trans}
use Rattle.orca_web.specs.Wire.{filling}

-- the first of the bytes that go first were written
pub front_sent : (was mid now : Option (List ℕ)) (front left tail : List ℕ) (count : ℕ)
    → Keeps was (append_known mid (front ++ tail)) → Appends mid now (take count front)
    → left ≡ drop count front → Keeps was (append_known now (left ++ tail))
front_sent None mid now front left tail count still sent is = tt
front_sent (Some w) None now front left tail count still sent is = absurd still
front_sent (Some w) (Some m) None front left tail count still sent is = absurd sent
front_sent (Some w) (Some m) (Some n) front left tail count still sent is =
    ap (λ l. n ++ (l ++ tail)) is ∙ ap (λ l. l ++ (drop count front ++ tail)) sent
    ∙ append_assoc m (take count front) (drop count front ++ tail)
    ∙ ap (λ l. m ++ l) (sym (append_assoc (take count front) (drop count front) tail)
    ∙ ap (λ l. l ++ tail) (take-append-drop count front)) ∙ still

-- the first n of the rest join what is done
pub moves_front : (all done rest : List ℕ) (n : ℕ) → all ≡ done ++ rest
    → all ≡ (done ++ take n rest) ++ take (length rest - n) (drop n rest)
moves_front all done rest n e =
    e ∙ ap (λ l. done ++ l) (sym (take-append-drop n rest))
    ∙ sym (append_assoc done (take n rest) (drop n rest))
    ∙ ap (λ l. (done ++ take n rest) ++ l) (sym (take_rest rest n))

pub rest_length : (all done rest : List ℕ) → all ≡ done ++ rest
    → length all - length done ≡ length rest
rest_length all done rest e =
    ap (λ l. length l - length done) e ∙ ap (λ n. n - length done) (length-append done rest)
    ∙ add-sub_cancel_left (length done) (length rest)

-- what is left of the bytes is filled
pub filled : (all done rest : List ℕ) → all ≡ done ++ rest
    → filling (length done) all ≡ done ++ replicate (length rest) 24
filled all done rest e =
    let front : take (length done) all ≡ done = ap (take (length done)) e ∙ take-append_seam done rest in
    let count = rest_length all done rest e in
    ap (λ l. l ++ replicate (length all - length done) 24) front
    ∙ ap (λ n. done ++ replicate n 24) count

-- a picture was given up
pub given_up : (was mid now : Option (List ℕ)) (all done rest header reply : List ℕ) (owed : ℕ)
    → all ≡ done ++ rest → Appends was mid done → Keeps mid now → header ≡ [] → reply ≡ []
    → owed ≡ length rest
    → Appends was (append_known now (header ++ (replicate owed 24 ++ reply)))
    (filling (length done) all)
given_up None mid now all done rest header reply owed e sent still no_header no_reply is = tt
given_up (Some w) None now all done rest header reply owed e sent still no_header no_reply is = absurd sent
given_up (Some w) (Some m) None all done rest header reply owed e sent still no_header no_reply is = absurd still
given_up (Some w) (Some m) (Some n) all done rest header reply owed e sent still no_header no_reply is =
    ap (λ l. n ++ (l ++ (replicate owed 24 ++ reply))) no_header
    ∙ ap (λ l. n ++ (replicate owed 24 ++ l)) no_reply
    ∙ ap (λ l. n ++ l) (append-nil (replicate owed 24))
    ∙ ap (λ k. n ++ replicate k 24) is
    ∙ ap (λ l. l ++ replicate (length rest) 24) (still ∙ sent)
    ∙ append_assoc w done (replicate (length rest) 24)
    ∙ ap (λ l. w ++ l) (sym (filled all done rest e))

-- a header was written, and nothing of what follows
pub header_sent : (was mid : Option (List ℕ)) (header left tail : List ℕ)
    → Keeps (append_known was (header ++ tail)) (append_known mid (left ++ tail)) → left ≡ []
    → Appends was mid header
header_sent None mid header left tail still none = tt
header_sent (Some w) None header left tail still none = absurd still
header_sent (Some w) (Some m) header left tail still none =
    append_cancel_right m (w ++ header) tail
    (sym (ap (λ l. m ++ (l ++ tail)) none) ∙ still ∙ sym (append_assoc w header tail))

-- where nothing waits, a peer has what it is held to have
pub idle_holds : (has : Option (List ℕ)) (header reply : List ℕ) (owed : ℕ)
    → header ≡ [] → owed ≡ 0 → reply ≡ []
    → append_known has (header ++ (replicate owed 24 ++ reply)) ≡ has
idle_holds None header reply owed no_header none no_reply = refl
idle_holds (Some h) header reply owed no_header none no_reply =
    ap Some (ap (λ l. h ++ (l ++ (replicate owed 24 ++ reply))) no_header
    ∙ ap (λ n. h ++ (replicate n 24 ++ reply)) none
    ∙ ap (λ l. h ++ l) no_reply ∙ append-nil h)

pub le_add : (n m : ℕ) → n ≤ n + m
le_add n m = grind arith

pub done_within : (all done rest : List ℕ) → all ≡ done ++ rest → length done ≤ length all
done_within all done rest e =
    subst (λ n. length done ≤ n) (sym (ap length e ∙ length-append done rest)) (le_add (length done) (length rest))

-- what holds anyhow holds after an error
pub on_error : {T E : Type 0} (result : Result T E) (P : Type 0) → P → OnErr result P
on_error (Ok value) P holds = tt
on_error (Err error) P holds = holds

-- what holds anyhow holds after a success
pub on_success : {T E : Type 0} (result : Result T E) (P : Type 0) → P → OnOk result P
on_success (Ok value) P holds = holds
on_success (Err error) P holds = tt

-- a picture was given up, so it is filled
pub fails_filled : {T E : Type 0} (result : Result T E) (was mid now : Option (List ℕ))
    (all done rest header reply : List ℕ) (owed : ℕ)
    → all ≡ done ++ rest → Appends was mid done → Keeps mid now → header ≡ [] → reply ≡ []
    → owed ≡ length rest
    → OnErr result ((count : ℕ) × (count ≤ length all)
    × Appends was (append_known now (header ++ (replicate owed 24 ++ reply))) (filling count all))
fails_filled (Ok value) was mid now all done rest header reply owed e sent still no_header no_reply is = tt
fails_filled (Err error) was mid now all done rest header reply owed e sent still no_header no_reply is = (
  length done,
  done_within all done rest e,
  given_up was mid now all done rest header reply owed e sent still no_header no_reply is,
)

-- a header was written, and what follows it is still to be sent
pub sent_header : (was mid : Option (List ℕ)) (header left reply left_reply : List ℕ)
    (owed left_owed : ℕ)
    → Keeps (append_known was (header ++ (replicate owed 24 ++ reply)))
    (append_known mid (left ++ (replicate left_owed 24 ++ left_reply)))
    → left ≡ [] → left_owed ≡ owed → left_reply ≡ reply → Appends was mid header
sent_header was mid header left reply left_reply owed left_owed still none same_owed same_reply =
    header_sent was mid header left (replicate owed 24 ++ reply)
    (subst (λ n. Keeps (append_known was (header ++ (replicate owed 24 ++ reply)))
    (append_known mid (left ++ (replicate n 24 ++ reply)))) same_owed
    (subst (λ l. Keeps (append_known was (header ++ (replicate owed 24 ++ reply)))
    (append_known mid (left ++ (replicate left_owed 24 ++ l)))) same_reply still)) none

-- a header and all that follows it were written
pub begun_whole : {T E : Type 0} (result : Result T E) (was mid now : Option (List ℕ))
    (header payload : List ℕ) (h r nh nr : List ℕ) (o new_owed : ℕ)
    → h ≡ [] → o ≡ 0 → r ≡ [] → Appends was mid header → OnOk result (Appends mid now payload)
    → OnOk result ((nh ≡ []) × (new_owed ≡ 0) × (nr ≡ []))
    → OnOk result (Appends (append_known was (h ++ (replicate o 24 ++ r)))
    (append_known now (nh ++ (replicate new_owed 24 ++ nr))) (header ++ payload))
begun_whole (Err error) was mid now header payload h r nh nr o new_owed no_h zero no_r first second idle = tt
begun_whole (Ok value) was mid now header payload h r nh nr o new_owed no_h zero no_r first second idle =
    subst (λ k. Appends k (append_known now (nh ++ (replicate new_owed 24 ++ nr))) (header ++ payload))
    (sym (idle_holds was h r o no_h zero no_r))
    (subst (λ k. Appends was k (header ++ payload))
    (sym (idle_holds now nh nr new_owed idle.0 idle.1 idle.2))
    (Appends-trans was mid now header payload first second))

-- a header was written, and what follows it was given up
pub begun_filled : {T E : Type 0} (result : Result T E) (was mid held_now : Option (List ℕ))
    (header payload h r : List ℕ) (o : ℕ) → h ≡ [] → o ≡ 0 → r ≡ [] → Appends was mid header
    → OnErr result ((count : ℕ) × (count ≤ length payload)
    × Appends mid held_now (filling count payload))
    → OnErr result ((count : ℕ) × (count ≤ length payload)
    × Appends (append_known was (h ++ (replicate o 24 ++ r))) held_now
    (header ++ filling count payload))
begun_filled (Ok value) was mid held_now header payload h r o no_h zero no_r first rest = tt
begun_filled (Err error) was mid held_now header payload h r o no_h zero no_r first (count, few, sent) = (
  count,
  few,
  subst (λ k. Appends k held_now (header ++ filling count payload))
      (sym (idle_holds was h r o no_h zero no_r))
      (Appends-trans was mid held_now header (filling count payload) first sent),
)
