-- Worked rows: what connections get, by their first bytes and by their heads.
use Rattle.std.proofs.Common.{◌≡◌, ℕ, List, [], ◌∷◌, ◌++◌, codes, true, false, None, Some, Ok, refl}
use Rattle.std.specs.Fmt.{digits}
use Rattle.websocket.specs.Headers.{Fields, eq_ignore_case, has_token}
use Rattle.orca_web.specs.declared.judge.Rules.{Rules}
use Rattle.orca_web.specs.declared.judge.Verdict.TheVariants.{More, Terminal, Page, Refused}
use Rattle.orca_web.specs.declared.judge.Refusal.TheVariants.{Silent, BadRequest, Forbidden, NotFound}
use Rattle.orca_web.specs.Greetings.{terminal_verdict, greeting_bytes, greeting_verdict, is_key}
use Rattle.orca_web.specs.Hosts.{is_own_host}
use Rattle.orca_web.specs.Heads.{Request, answer, upgrade, due_to, query_after, kind_of, terminal, web, stranger}

abbrev key : List ℕ
key = codes "abcDEF012-_z"

-- a key has 12 letters at least, and no others than these
pub keys : (is_key key ≡ true) × (is_key (codes "abcDEF012-_") ≡ false) × (is_key (codes "abcDEF012+/z") ≡ false)
keys = (refl, refl, refl)

-- ESC, the G of GET, the 0x16 that TLS begins with, the S of SSH
pub kinds : (kind_of 0x1b ≡ terminal) × (kind_of 71 ≡ web) × (kind_of 0x16 ≡ stranger) × (kind_of 83 ≡ web)
kinds = (refl, refl, refl, refl)

-- without a key, its ESC is the first key
pub without_key : terminal_verdict None (27 ∷ codes "[8;24;80t") ≡ Terminal 0
without_key = refl

-- with a key, its keys come after the greeting
pub greeted : greeting_verdict (greeting_bytes key) (27 ∷ codes "_abcDEF012-_z" ++ 27 ∷ codes "\\x") ≡ Terminal 16
greeted = refl

pub half_greeted : greeting_verdict (greeting_bytes key) (27 ∷ codes "_abc") ≡ More
half_greeted = refl

pub wrong_greeting : greeting_verdict (greeting_bytes key) (27 ∷ codes "[8;24;80t") ≡ Refused Silent
wrong_greeting = refl

abbrev rules : Rules
rules = record { port = 7420; name = None; key = None }

-- addresses and localhost, with the port, and nothing else
pub record AreHosts : Type 0 where
  pub address : is_own_host rules (codes "127.0.0.1:7420") ≡ true
  pub other_address : is_own_host rules (codes "10.0.0.7:7420") ≡ true
  pub brackets : is_own_host rules (codes "[::1]:7420") ≡ true
  pub name : is_own_host rules (codes "LocalHost:7420") ≡ true
  pub other_port : is_own_host rules (codes "127.0.0.1:7421") ≡ false
  pub no_port : is_own_host rules (codes "127.0.0.1") ≡ false
  pub other_name : is_own_host rules (codes "evil.example:7420") ≡ false
  pub longer_name : is_own_host rules (codes "localhost.evil.example:7420") ≡ false
  pub no_name : is_own_host rules (codes ":7420") ≡ false

pub hosts : AreHosts
unfolding eq_ignore_case digits
hosts = record {
  address = refl;
  other_address = refl;
  brackets = refl;
  name = refl;
  other_port = refl;
  no_port = refl;
  other_name = refl;
  longer_name = refl;
  no_name = refl;
}

-- the paths and their queries
pub paths : (query_after (codes "/") (codes "/") ≡ Some [])
    × (query_after (codes "/") (codes "/?key=a") ≡ Some (codes "key=a"))
    × (query_after (codes "/") (codes "/seat") ≡ None)
    × (query_after (codes "/seat") (codes "/seat?key=a") ≡ Some (codes "key=a"))
    × (query_after (codes "/seat") (codes "/seats") ≡ None)
paths = (refl, refl, refl, refl, refl)

abbrev host : List ℕ × List ℕ
host = (codes "Host", codes "127.0.0.1:7420")

-- the request of RFC 6455, section 1.3, but for its host, its path and its origin
abbrev upgrading : List ℕ → Fields → Request
upgrading target fields = record {
  method = codes "GET";
  target = target;
  minor = 1;
  fields = fields ++ (codes "Upgrade", codes "websocket") ∷ (codes "Connection", codes "Upgrade")
      ∷ (codes "Sec-WebSocket-Key", codes "dGhlIHNhbXBsZSBub25jZQ==")
      ∷ (codes "Sec-WebSocket-Version", codes "13") ∷ [];
}

abbrev origin : List ℕ → List ℕ × List ℕ
origin value = (codes "Origin", value)

pub record AreDue : Type 0 where
  pub page : due_to rules (upgrading (codes "/") (host ∷ [])) ≡ answer Page
  pub other : due_to rules (upgrading (codes "/favicon.ico") (host ∷ [])) ≡ answer (Refused NotFound)
  pub no_host : due_to rules (upgrading (codes "/") []) ≡ answer (Refused BadRequest)
  pub two_hosts : due_to rules (upgrading (codes "/") (host ∷ host ∷ [])) ≡ answer (Refused BadRequest)
  pub seat : due_to rules (upgrading (codes "/seat") (host ∷ origin (codes "http://127.0.0.1:7420") ∷ []))
      ≡ upgrade (Ok (codes "dGhlIHNhbXBsZSBub25jZQ=="))
  pub no_origin : due_to rules (upgrading (codes "/seat") (host ∷ [])) ≡ answer (Refused Forbidden)
  pub other_origin : due_to rules (upgrading (codes "/seat") (host ∷ origin (codes "http://evil.example") ∷ []))
      ≡ answer (Refused Forbidden)
  pub two_origins : due_to rules (upgrading (codes "/seat") (host ∷ origin (codes "http://evil.example")
      ∷ origin (codes "http://127.0.0.1:7420") ∷ [])) ≡ answer (Refused Forbidden)

pub dues : AreDue
unfolding eq_ignore_case has_token digits
dues = record {
  page = refl;
  other = refl;
  no_host = refl;
  two_hosts = refl;
  seat = refl;
  no_origin = refl;
  other_origin = refl;
  two_origins = refl;
}
