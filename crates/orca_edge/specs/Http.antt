-- How a request of HTTP begins, which no player sends.
use Rattle.std.specs.Prelude.{ℕ, ◌≡◌, ◌==◌, ◌&&◌, ◌||◌, Bool, true, false, codes, List, Option, drop, length}
use Rattle.std.specs.List.{starts_with}
use Rattle.std.specs.Io.KnownBytes.{Consumes}

-- a target is a path, a star, or an address of the web
abbrev pub begins_with_target : List ℕ → Bool
begins_with_target bytes =
    starts_with ◌==◌ bytes (codes "/") || (starts_with ◌==◌ bytes (codes "*")
    || starts_with ◌==◌ bytes (codes "http"))

-- bytes begin with this method and its blank, and then with a target
abbrev pub is_sent_by : List ℕ → List ℕ → Bool
is_sent_by bytes method =
    starts_with ◌==◌ bytes method && begins_with_target (drop (length method) bytes)

-- bytes begin as a request does: with one of the methods, a blank, and a target
abbrev pub begins_as_http : List ℕ → Bool
begins_as_http bytes =
    is_sent_by bytes (codes "GET ") || (is_sent_by bytes (codes "HEAD ")
    || (is_sent_by bytes (codes "POST ") || (is_sent_by bytes (codes "PUT ")
    || (is_sent_by bytes (codes "DELETE ") || (is_sent_by bytes (codes "CONNECT ")
    || (is_sent_by bytes (codes "OPTIONS ") || (is_sent_by bytes (codes "TRACE ")
    || is_sent_by bytes (codes "PATCH "))))))))

-- the first bytes that a stream gave, which was not heard before, begin as a request does
abbrev pub IsRequest : Bool → Option (List ℕ) → Option (List ℕ) → Type 0
IsRequest heard before left =
    (heard ≡ false) × ((head : List ℕ) × (begins_as_http head ≡ true) × Consumes before left head)
