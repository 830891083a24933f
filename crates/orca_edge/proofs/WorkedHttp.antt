-- What begins as a request of HTTP, and what a player may send first.
use Rattle.std.specs.Prelude.{◌≡◌, [], ◌∷◌, true, false, codes, refl}
use Rattle.orca_edge.specs.Http.{begins_as_http}

page : begins_as_http (codes "GET / HTTP/1.1") ≡ true
page = refl

form : begins_as_http (codes "POST /x HTTP/1.1") ≡ true
form = refl

asked_before : begins_as_http (codes "OPTIONS * HTTP/1.1") ≡ true
asked_before = refl

by_a_proxy : begins_as_http (codes "PUT http://localhost:7420/ HTTP/1.1") ≡ true
by_a_proxy = refl

shortest : begins_as_http (codes "HEAD /") ≡ true
shortest = refl

-- a player who types the letters of a method, or a line of a piece
letters : begins_as_http (codes "GET") ≡ false
letters = refl

letter : begins_as_http (codes "P") ≡ false
letter = refl

no_target : begins_as_http (codes "POST ") ≡ false
no_target = refl

small_letters : begins_as_http (codes "get / HTTP/1.1") ≡ false
small_letters = refl

no_blank : begins_as_http (codes "GET/") ≡ false
no_blank = refl

-- the size of a window, and a clock
size : begins_as_http (27 ∷ codes "[8;24;80t") ≡ false
size = refl

clock : begins_as_http (248 ∷ []) ≡ false
clock = refl
