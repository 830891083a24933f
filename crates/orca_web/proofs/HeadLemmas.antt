-- What is answered to the bytes of a head.
use Rattle.std.proofs.Common.{◌≡◌, ◌≢◌, ℕ, ◌-◌, ◌<◌, ◌≤◌, List, [], ◌∷◌, length, drop, Bool, true, false, if◌then◌else◌, Option, None, Some, Result, Ok, Err, nat_lt, codes, arith, sym, refl, ap, subst, ◌∙◌, append-nil, inl, inr, drop_of_length-le}
use Rattle.std.proofs.lemmas.Bool.Decides.{nat_tests}
use Rattle.std.proofs.lemmas.List.{length-drop}
use Rattle.httparse.specs.Grammar.{RequestHead, ReadsRequest, HasNoRequest, MayBecomeRequest}
use Rattle.httparse.specs.Spans.{IsRequestAt, RequestOverflows}
use Rattle.httparse.specs.declared.spans.HeaderSpan.{HeaderSpan}
use Rattle.httparse.specs.declared.spans.RequestSpans.{RequestSpans}
use Rattle.httparse.proofs.GrammarLemmas.{request_unique}
use Rattle.websocket.specs.declared.handshake.failure.HandshakeError.{HandshakeError}
use Rattle.websocket.specs.Handshake.{requested_key, Answers}
use Rattle.orca_web.specs.declared.limits.TheConstants.{MAX_HEAD_BYTES, MAX_FIELDS}
use Rattle.orca_web.specs.declared.judge.Rules.{Rules}
use Rattle.orca_web.specs.declared.judge.Verdict.{Verdict}
use Rattle.orca_web.specs.declared.judge.Verdict.TheVariants.{More, Refused}
use Rattle.orca_web.specs.declared.judge.Refusal.TheVariants.{BadRequest, Forbidden, TooLong}
use Rattle.orca_web.specs.Hosts.{is_own_host}
use Rattle.orca_web.specs.Heads.{Request, request_of, request_at, Due, answer, upgrade, Gives, is_gift, shows_key, is_origin_of, is_own_origin, seat_due, path_due, host_due, due_to, only, values, waiting_verdict, IsHeadVerdict}

-- a value, or none, as a list
abbrev pub as_list : Option (List ℕ) → List (List ℕ)
as_list None = []
as_list (Some value) = value ∷ []

-- ---- a request that is whole is not waited for

upgrade_never : (key : Result (List ℕ) HandshakeError) → Gives (upgrade key) More → ⊥
upgrade_never (Err error) gives = cc gives
upgrade_never (Ok key) (inl seat) = cc (seat.1)
upgrade_never (Ok key) (inr refused) = cc (refused.1)

if_never : (choice : Bool) (one other : Due) → (Gives one More → ⊥) → (Gives other More → ⊥)
    → Gives (if choice then one else other) More → ⊥
if_never true one other never_one never_other gives = never_one gives
if_never false one other never_one never_other gives = never_other gives

seat_never : (request : Request) (host : List ℕ) → Gives (seat_due request host) More → ⊥
seat_never request host =
    if_never (is_own_origin host (only (values request.fields _))) _ _ (upgrade_never _) (λ gives. cc gives)

path_never : (rules : Rules) (request : Request) (host : List ℕ) (page seat : Option (List ℕ))
    → Gives (path_due rules request host page seat) More → ⊥
path_never rules request host (Some query) seat =
    if_never (shows_key rules.key query) _ _ (λ gives. cc gives) (λ gives. cc gives)
path_never rules request host None (Some query) =
    if_never (shows_key rules.key query) _ _ (seat_never request host) (λ gives. cc gives)
path_never rules request host None None = λ gives. cc gives

host_never : (rules : Rules) (request : Request) (host : Option (List ℕ))
    → Gives (host_due rules request host) More → ⊥
host_never rules request None = λ gives. cc gives
host_never rules request (Some host) =
    if_never (is_own_host rules host) _ _ (path_never rules request host _ _) (λ gives. cc gives)

pub never_more : (rules : Rules) (request : Request) (verdict : Verdict)
    → Gives (due_to rules request) verdict → verdict ≡ More → ⊥
never_more rules request verdict gives is =
    host_never rules request (only (values request.fields _))
    (subst (λ v. Gives (due_to rules request) v) is gives)

-- ---- the four outcomes of a parse

same_request : (request other : Request) → request.method ≡ other.method
    → request.target ≡ other.target → request.minor ≡ other.minor
    → request.fields ≡ other.fields → request ≡ other
same_request request other method target minor fields =
    λ i. record { method = method i; target = target i; minor = minor i; fields = fields i }

-- what the spans of a head cover is what the head says
pub request_at_head : (bytes : List ℕ) (spans : List HeaderSpan) (head : RequestSpans)
    (h : RequestHead) → IsRequestAt bytes spans head h → request_at bytes spans head ≡ request_of h
request_at_head bytes spans head h at =
    same_request (request_at bytes spans head) (request_of h) at.method at.path at.version at.fields

drop_all : (n : ℕ) (bytes : List ℕ) → n ≡ length bytes → drop n bytes ≡ []
drop_all n bytes is = drop_of_length-le bytes (omega arith)

drop_some : (n : ℕ) (bytes : List ℕ) → n ≤ length bytes → n ≢ length bytes → drop n bytes ≡ [] → ⊥
drop_some n bytes within short is =
    let none : length bytes - n ≡ 0 = sym (length-drop n bytes) ∙ ap length is in
    short (omega arith)

-- a whole head is given what it is due
pub judged_whole : (rules : Rules) (bytes : List ℕ) (spans : List HeaderSpan) (head : RequestSpans)
    (verdict : Verdict) → (h : RequestHead) × IsRequestAt bytes spans head h
    → head.len ≡ length bytes → Gives (due_to rules (request_at bytes spans head)) verdict
    → IsHeadVerdict rules bytes verdict
judged_whole rules bytes spans head verdict (h, at) all gives =
    let reads : ReadsRequest bytes h [] =
    subst (λ rest. ReadsRequest bytes h rest) (drop_all head.len bytes all) at.reads in
    let given : Gives (due_to rules (request_of h)) verdict =
    subst (λ r. Gives (due_to rules r) verdict) (request_at_head bytes spans head h at) gives in
    record {
      whole = λ k k_reads few. subst (λ r. Gives (due_to rules (request_of r)) verdict)
          ((request_unique bytes h k [] [] reads k_reads).0) given;
      given = λ _. (h, reads, given);
      unfinished = λ more k k_reads few none. absurd (none h [] reads);
      waits = λ is. absurd (never_more rules (request_of h) verdict given is);
    }

-- nothing is given for a head with more after it
pub judged_more : (rules : Rules) (bytes : List ℕ) (spans : List HeaderSpan) (head : RequestSpans)
    → (h : RequestHead) × IsRequestAt bytes spans head h → head.len ≤ length bytes
    → head.len ≢ length bytes → IsHeadVerdict rules bytes (Refused BadRequest)
judged_more rules bytes spans head (h, at) within short = record {
  whole = λ k k_reads few. absurd (drop_some head.len bytes within short
      ((request_unique bytes h k _ [] at.reads k_reads).1));
  given = λ gift. absurd (cc gift);
  unfinished = λ more k k_reads few none. absurd (none h _ at.reads);
  waits = λ is. absurd (cc is);
}

waiting_no_gift : (bytes : List ℕ) → is_gift (waiting_verdict bytes) ≡ true → ⊥
waiting_no_gift bytes = if_gift (nat_lt (length bytes) MAX_HEAD_BYTES) where
  if_gift : (short : Bool) → is_gift (if short then More else Refused TooLong) ≡ true → ⊥
  if_gift true gift = cc gift
  if_gift false gift = cc gift

waiting_short : (bytes : List ℕ) → waiting_verdict bytes ≡ More → length bytes < MAX_HEAD_BYTES
waiting_short bytes is = grind (arith, nat_tests, is)

-- a head that has not ended is waited for
pub judged_partial : (rules : Rules) (bytes : List ℕ) (verdict : Verdict) → HasNoRequest bytes
    → MayBecomeRequest bytes → verdict ≡ waiting_verdict bytes → IsHeadVerdict rules bytes verdict
judged_partial rules bytes verdict none may is = record {
  whole = λ k k_reads few. absurd (none k [] k_reads);
  given = λ gift. absurd (waiting_no_gift bytes (sym (ap is_gift is) ∙ gift));
  unfinished = λ more k k_reads few _. is;
  waits = λ more. (waiting_short bytes (sym is ∙ more), may);
}

-- nothing is given for bytes that no head begins with, but one of too many fields
pub judged_wrong : (rules : Rules) (bytes : List ℕ) (room : ℕ) → room ≡ MAX_FIELDS
    → RequestOverflows room bytes → IsHeadVerdict rules bytes (Refused BadRequest)
judged_wrong rules bytes room is over = record {
  whole = λ k k_reads few. absurd (too_many k few
      (over [] k [] (subst (λ b. ReadsRequest b k []) (sym (append-nil bytes)) k_reads)));
  given = λ gift. absurd (cc gift);
  unfinished = λ more k k_reads few none. absurd (too_many k few (over more k [] k_reads));
  waits = λ waits. absurd (cc waits);
} where
  too_many : (k : RequestHead) → length k.fields ≤ MAX_FIELDS → room < length k.fields → ⊥
  too_many k few many = grind (arith, is)

-- ---- an upgrade

-- a page of this host is due what its upgrade is
pub seat_is_due : (request : Request) (host origin : List ℕ) (verdict : Verdict)
    → only (values request.fields (codes "origin")) ≡ Some origin
    → is_origin_of host origin ≡ true
    → Gives (upgrade (requested_key request.method request.minor request.fields)) verdict
    → Gives (seat_due request host) verdict
seat_is_due request host origin verdict is own gives =
    let key = requested_key request.method request.minor request.fields in
    subst (λ (o : Option (List ℕ)). Gives (if is_own_origin host o then upgrade key
    else answer (Refused Forbidden)) verdict) (sym is)
    (subst (λ (b : Bool). Gives (if b then upgrade key else answer (Refused Forbidden)) verdict)
    (sym own) gives)

-- a key that is refused is answered by a refusal
pub refused_upgrade : (result : Result (List ℕ) HandshakeError) (error : HandshakeError)
    (key : Result (List ℕ) HandshakeError) → result ≡ Err error → Answers result key
    → Gives (upgrade key) (Refused BadRequest)
refused_upgrade (Ok accept) error key is answers = absurd (cc is)
refused_upgrade (Err other) error (Err why) is answers = refl
refused_upgrade (Err other) error (Ok key) is answers = inr (answers.0, refl)
