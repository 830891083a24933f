-- What the peer of a hand has and is owed.
use Rattle.std.specs.Prelude.{◌≡◌, [], ℕ, ◌-◌, List, ◌++◌, length, take, replicate, Option}
use Rattle.std.specs.Io.KnownBytes.{append_known}
use Rattle.orca_web.specs.declared.outgoing.Outgoing.{Outgoing}

-- the bytes that are still to be sent: what a picture still has is CAN (24)
abbrev pub waiting : Outgoing → List ℕ
waiting out = out.header ++ (replicate out.owed 24 ++ out.reply)

-- nothing is still to be sent
abbrev pub IsIdle : Outgoing → Type 0
IsIdle out = (out.header ≡ []) × (out.owed ≡ 0) × (out.reply ≡ [])

-- the bytes that a peer has, where they are known, and then those that it is owed
abbrev pub held : {W : Type 0} → (W → Option (List ℕ)) → W → Outgoing → Option (List ℕ)
held contents to out = append_known (contents to) (waiting out)

-- so many of the bytes, and CAN in place of the others
abbrev pub filling : ℕ → List ℕ → List ℕ
filling count bytes = take count bytes ++ replicate (length bytes - count) 24
