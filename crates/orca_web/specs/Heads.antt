-- What a head asks for, and what it is answered.
use Rattle.std.specs.Prelude.{◌≡◌, ◌⊎◌, ℕ, ◌<◌, ◌≤◌, List, [], ◌∷◌, ◌++◌, length, take, drop, map, min, codes, bytes_eq, Bool, true, false, if◌then◌else◌, ◌&&◌, ◌==◌, nat_lt, Option, None, Some, Result, Ok, Err}
use Rattle.std.specs.Char.{is_ascii_uppercase}
use denote.Ref.{Bor}
use Rattle.httparse.specs.Grammar.{RequestHead, ReadsRequest, HasNoRequest, MayBecomeRequest}
use Rattle.httparse.specs.Spans.{span_bytes, name_and_value}
use Rattle.httparse.specs.declared.spans.HeaderSpan.{HeaderSpan}
use Rattle.httparse.specs.declared.spans.RequestSpans.{RequestSpans}
use Rattle.websocket.specs.Headers.{Fields, eq_ignore_case, fields_of}
use Rattle.websocket.specs.Handshake.{requested_key, IsValidKey, accept_key_of}
use Rattle.websocket.specs.declared.handshake.failure.HandshakeError.{HandshakeError}
use Rattle.orca_web.specs.declared.limits.TheConstants.{MAX_HEAD_BYTES, MAX_FIELDS}
use Rattle.orca_web.specs.declared.judge.Rules.{Rules}
use Rattle.orca_web.specs.declared.judge.Verdict.{Verdict}
use Rattle.orca_web.specs.declared.judge.Verdict.TheVariants.{More, Terminal, Page, Seat, Refused}
use Rattle.orca_web.specs.declared.judge.Refusal.{Refusal}
use Rattle.orca_web.specs.declared.judge.Refusal.TheVariants as refusal
use Rattle.orca_web.specs.Greetings.{escape, terminal_verdict}
use Rattle.orca_web.specs.Hosts.{is_own_host}

-- what a head says
pub record Request : Type 0 where
  pub method : List ℕ
  pub target : List ℕ
  pub minor : ℕ
  pub fields : Fields

-- what a head of the grammar says
abbrev pub request_of : RequestHead → Request
request_of head = record {
  method = head.method;
  target = head.target;
  minor = head.minor;
  fields = map name_and_value head.fields;
}

-- what the spans cover
abbrev pub request_at : List ℕ → List HeaderSpan → RequestSpans → Request
request_at bytes spans head = record {
  method = span_bytes bytes head.method;
  target = span_bytes bytes head.path;
  minor = head.version;
  fields = fields_of bytes (take head.headers spans);
}

-- the values of the fields of a name
abbrev pub values : Fields → List ℕ → List (List ℕ)
values [] name = []
values (field ∷ fields) name =
    if eq_ignore_case field.0 name then field.1 ∷ values fields name else values fields name

-- the only one of them
abbrev pub only : List (List ℕ) → Option (List ℕ)
only [] = None
only (value ∷ []) = Some value
only (value ∷ other ∷ values) = None

-- the query of what follows a path: nothing, or what follows a `?`
abbrev pub query_in : List ℕ → Option (List ℕ)
query_in [] = Some []
query_in (byte ∷ bytes) = if byte == 63 then Some bytes else None

-- the query of a target that has this path
abbrev pub query_after : List ℕ → List ℕ → Option (List ℕ)
query_after path target =
    if bytes_eq (take (length path) target) path then query_in (drop (length path) target) else None

-- the query shows the key, where one is wanted
abbrev pub shows_key : Option (Bor (List ℕ)) → List ℕ → Bool
shows_key None query = true
shows_key (Some key) query =
    bytes_eq (take 4 query) (codes "key=") && bytes_eq (drop 4 query) key.now

-- what a request is due: an answer, or a seat for the key of its upgrade (RFC 6455, section 4.2.1)
pub data Due : Type 0 where
  answer : Verdict → Due
  upgrade : Result (List ℕ) HandshakeError → Due

abbrev pub refused : Refusal → Due
refused why = answer (Refused why)

-- the origin of a page that this host gave, without encryption (RFC 6454, section 6.2)
abbrev pub is_origin_of : List ℕ → List ℕ → Bool
is_origin_of host origin =
    bytes_eq (take 7 origin) (codes "http://") && bytes_eq (drop 7 origin) host

-- the same of an origin that there may be none of
abbrev pub is_own_origin : List ℕ → Option (List ℕ) → Bool
is_own_origin host None = false
is_own_origin host (Some origin) = is_origin_of host origin

-- a seat is due to a page of this host alone
abbrev pub seat_due : Request → List ℕ → Due
seat_due request host =
    if is_own_origin host (only (values request.fields (codes "origin")))
    then upgrade (requested_key request.method request.minor request.fields)
    else refused refusal.Forbidden

-- by the queries of the two paths
abbrev pub path_due : Rules → Request → List ℕ → Option (List ℕ) → Option (List ℕ) → Due
path_due rules request host (Some query) seat =
    if shows_key rules.key query then answer Page else refused refusal.Forbidden
path_due rules request host None (Some query) =
    if shows_key rules.key query then seat_due request host else refused refusal.Forbidden
path_due rules request host None None = refused refusal.NotFound

-- by the host
abbrev pub host_due : Rules → Request → Option (List ℕ) → Due
host_due rules request None = refused refusal.BadRequest
host_due rules request (Some host) =
    if is_own_host rules host
    then path_due rules request host (query_after (codes "/") request.target)
    (query_after (codes "/seat") request.target)
    else refused refusal.Forbidden

-- what a request is due: it names one host, which is this machine, a path, and the key
abbrev pub due_to : Rules → Request → Due
due_to rules request = host_due rules request (only (values request.fields (codes "host")))

-- a verdict gives what is due
abbrev pub Gives : Due → Verdict → Type 0
Gives (answer due) verdict = verdict ≡ due
Gives (upgrade (Err error)) verdict = verdict ≡ Refused refusal.BadRequest
Gives (upgrade (Ok key)) verdict =
    (IsValidKey key × (verdict ≡ Seat (accept_key_of key)))
    ⊎ ((¬ IsValidKey key) × (verdict ≡ Refused refusal.BadRequest))

-- a verdict gives something: the page or a seat
abbrev pub is_gift : Verdict → Bool
is_gift More = false
is_gift (Terminal count) = false
is_gift Page = true
is_gift (Seat accept) = true
is_gift (Refused why) = false

-- a head that has not ended yet is waited for, up to a length
abbrev pub waiting_verdict : List ℕ → Verdict
waiting_verdict bytes =
    if nat_lt (length bytes) MAX_HEAD_BYTES then More else Refused refusal.TooLong

-- the verdict on bytes that begin as a GET does: a whole head with nothing after it is given what
-- it is due, and no other bytes are given anything; one that may still end is waited for
pub record IsHeadVerdict (rules : Rules) (bytes : List ℕ) (verdict : Verdict) : Type 0 where
  pub whole : (head : RequestHead) → ReadsRequest bytes head [] → length head.fields ≤ MAX_FIELDS
      → Gives (due_to rules (request_of head)) verdict
  pub given : is_gift verdict ≡ true → (head : RequestHead) × ReadsRequest bytes head []
      × Gives (due_to rules (request_of head)) verdict
  pub unfinished : (more : List ℕ) (head : RequestHead) → ReadsRequest (bytes ++ more) head []
      → length head.fields ≤ MAX_FIELDS → HasNoRequest bytes → verdict ≡ waiting_verdict bytes
  pub waits : verdict ≡ More
      → (length bytes < MAX_HEAD_BYTES) × MayBecomeRequest bytes

-- the bytes begin as those of a GET do, as far as they go
abbrev pub is_get_so_far : List ℕ → Bool
is_get_so_far bytes =
    let count = min (length bytes) 4 in bytes_eq (take count bytes) (take count (codes "GET "))

-- the verdict on bytes that begin as a request does: another method is refused at once
abbrev pub IsWebVerdict : Rules → List ℕ → Bool → Verdict → Type 0
IsWebVerdict rules bytes false verdict = verdict ≡ Refused refusal.MethodNotAllowed
IsWebVerdict rules bytes true verdict = IsHeadVerdict rules bytes verdict

-- what a connection is
pub data Kind : Type 0 where
  terminal web stranger : Kind

-- what it is by its first byte
abbrev pub kind_of : ℕ → Kind
kind_of byte =
    if byte == escape then terminal else (if is_ascii_uppercase byte then web else stranger)

abbrev pub IsKindVerdict : Rules → List ℕ → Kind → Verdict → Type 0
IsKindVerdict rules bytes terminal verdict = verdict ≡ terminal_verdict rules.key bytes
IsKindVerdict rules bytes web verdict = IsWebVerdict rules bytes (is_get_so_far bytes) verdict
IsKindVerdict rules bytes stranger verdict = verdict ≡ Refused refusal.Silent

-- the verdict on the first bytes of a connection
abbrev pub IsVerdict : Rules → List ℕ → Verdict → Type 0
IsVerdict rules [] verdict = verdict ≡ More
IsVerdict rules (byte ∷ bytes) verdict = IsKindVerdict rules (byte ∷ bytes) (kind_of byte) verdict
