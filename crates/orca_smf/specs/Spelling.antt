-- How messages are found again in the bytes of a track.
use Rattle.std.specs.Prelude.{◌≡◌, ◌++◌, ℕ, zero, suc, ◌+◌, ◌-◌, ◌*◌, ◌^◌, ◌==◌, Bool, ◌&&◌, ◌||◌, nat_lt, if◌then◌else◌, List, [], ◌∷◌, Option, Some, None, option_and_then}
use Rattle.orca_smf.specs.declared.timed.Timed.{Timed}
use Rattle.orca_smf.specs.Songs.{AreMessages, last_tick, messages}

-- the number that bytes at the front stand for, at most so many, after those that stand for `high`,
-- and what comes after them
abbrev pub number_at : ℕ → ℕ → List ℕ → Option (ℕ × List ℕ)
number_at zero high bytes = None
number_at (suc places) high [] = None
number_at (suc places) high (b ∷ bytes) =
    if nat_lt b 128 then Some (high * 128 + b, bytes)
    else number_at places (high * 128 + (b - 128)) bytes

-- the delta time at the front, and what comes after it
unfoldable pub delta_at : List ℕ → Option (ℕ × List ℕ)
delta_at [] = None
delta_at (b ∷ bytes) = if b == 128 then None else number_at 4 0 (b ∷ bytes)

-- the tick after `before` by the delta time at the front
unfoldable pub tick_at : ℕ → List ℕ → Option (ℕ × List ℕ)
tick_at before bytes = option_and_then (λ (d : ℕ × List ℕ).
    if nat_lt (before + d.0) (2 ^ 32) then Some (before + d.0, d.1) else None) (delta_at bytes)

-- bytes that begin a message of three bytes
abbrev pub is_status : ℕ → Bool
is_status b = nat_lt 127 b && nat_lt b 240 && (nat_lt b 192 || nat_lt 223 b)

-- the message of a tick
unfoldable pub voice_at : ℕ → List ℕ → Option (Timed × List ℕ)
voice_at tick (a ∷ b ∷ c ∷ bytes) =
    if is_status a && nat_lt b 128 && nat_lt c 128
    then Some (record { tick = tick; bytes = a ∷ b ∷ c ∷ [] }, bytes)
    else None
voice_at tick bytes = None

-- the message at the front, and what comes after it
unfoldable pub message_at : ℕ → List ℕ → Option (Timed × List ℕ)
message_at before bytes =
    option_and_then (λ (t : ℕ × List ℕ). voice_at t.0 t.1) (tick_at before bytes)

-- the message that was found, and those after it by `more`
abbrev pub and_more : (ℕ → List ℕ → List Timed × List ℕ) → List ℕ →
    Option (Timed × List ℕ) → List Timed × List ℕ
and_more more bytes None = ([], bytes)
and_more more bytes (Some found) =
    let others = more found.0.tick found.1 in (found.0 ∷ others.0, others.1)

-- the messages at the front, at most so many, and what comes after them
unfoldable pub messages_at : ℕ → ℕ → List ℕ → List Timed × List ℕ
messages_at zero before bytes = ([], bytes)
messages_at (suc n) before bytes = and_more (messages_at n) bytes (message_at before bytes)

-- bytes that begin with these messages after the tick `before`, and no message comes after them
pub record HasRead (before : ℕ) (bytes : List ℕ) (list : List Timed) (tick : ℕ) (rest : List ℕ) :
    Type 0 where
  pub spelled : bytes ≡ messages before list ++ rest
  pub messages : AreMessages before list
  pub last : tick ≡ last_tick before list
  pub whole : message_at tick rest ≡ None
