-- The bytes of an OSC message (OSC 1.0 Specification, "OSC Messages"): an address pattern, a type
-- tag string and the arguments.
use Rattle.std.specs.Prelude.{ℕ, ◌+◌, ◌%◌, ◌==◌, List, [], ◌∷◌, ◌++◌, length, find, replicate, unwrap_or}
use Rattle.std.specs.Int.{w32, to_be_bytes}
use Rattle.std.specs.List.{flat_map}

-- the zero bytes at the end of a string of n bytes ("Atomic Data Types", OSC-string): one, and up
-- to three more, until the whole is a multiple of 4
unfoldable pub zeros_after : ℕ → ℕ
zeros_after n = unwrap_or (find (λ zeros. (n + zeros) % 4 == 0) (1 ∷ 2 ∷ 3 ∷ 4 ∷ [])) 0

-- an OSC-string: its bytes, and then its zero bytes
unfoldable pub osc_string : List ℕ → List ℕ
osc_string text = text ++ replicate (zeros_after (length text)) 0

-- the address pattern: `/` and the path
abbrev pub address : ℕ → List ℕ
address path = osc_string (47 ∷ path ∷ [])

-- the type tag string of `count` int32 arguments: `,` and an `i` for each
abbrev pub type_tags : ℕ → List ℕ
type_tags count = osc_string (44 ∷ replicate count 105)

-- the arguments ("OSC Arguments"): each an int32 of four bytes, the most significant first
abbrev pub arguments : List ℕ → List ℕ
arguments values = flat_map (to_be_bytes w32) values

-- a message of int32 arguments
unfoldable pub message_bytes : ℕ → List ℕ → List ℕ
message_bytes path values = address path ++ type_tags (length values) ++ arguments values
