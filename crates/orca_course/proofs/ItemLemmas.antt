-- The items that an answer brings, one after another.
use Rattle.std.proofs.Common.{◌≡◌, drop, get_or, ℕ, ◌+◌, ◌<◌, length, List, ◌∷◌, map, refl, ap, ◌∙◌}
use Rattle.std.proofs.lemmas.List.{drop-map, drop_more, length-map}
use Rattle.orca_course.specs.Performers.{items_of}
use Rattle.orca_course.specs.declared.item.Item.TheVariants as item
use Rattle.orca_rig.specs.declared.inbox.Answer.TheVariants as answer

pub bytes_length : (hand count at : ℕ) (bytes : List ℕ)
    → length (items_of (answer.Bytes hand count at) bytes) ≡ length bytes
bytes_length hand count at bytes = length-map bytes (item.Byte hand at)

pub byte_at : (hand count at : ℕ) (bytes : List ℕ) (i : ℕ) (byte : ℕ) → i < length bytes
    → byte ≡ get_or bytes i 0
    → drop i (items_of (answer.Bytes hand count at) bytes)
    ≡ item.Byte hand at byte ∷ drop (i + 1) (items_of (answer.Bytes hand count at) bytes)
byte_at hand count at bytes i byte below is =
    drop-map (item.Byte hand at) i bytes
    ∙ (ap (map (item.Byte hand at)) (drop_more bytes i 0 below)
    ∙ rw (is, drop-map (item.Byte hand at) (i + 1) bytes) refl)
