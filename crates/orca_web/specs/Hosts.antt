-- Which hosts are this machine.
use Rattle.std.specs.Prelude.{ℕ, ◌-◌, List, [], ◌∷◌, length, take, drop, codes, decimal, bytes_eq, Bool, false, if◌then◌else◌, ◌||◌, ◌==◌, Option, None, Some}
use Rattle.std.specs.List.{list_all}
use Rattle.std.specs.Char.{is_ascii_digit}
use denote.Ref.{Bor}
use Rattle.websocket.specs.Headers.{eq_ignore_case}
use Rattle.orca_web.specs.declared.judge.Rules.{Rules}

-- what stands before this end
abbrev pub before_end : List ℕ → List ℕ → Option (List ℕ)
before_end end bytes =
    if bytes_eq (drop (length bytes - length end) bytes) end
    then Some (take (length bytes - length end) bytes) else None

-- the same of bytes that there may be none of
abbrev pub before_colon : Option (List ℕ) → Option (List ℕ)
before_colon None = None
before_colon (Some bytes) = before_end (codes ":") bytes

-- the name or the address in a host with this port
abbrev pub name_at : ℕ → List ℕ → Option (List ℕ)
name_at port host = before_colon (before_end (decimal port) host)

-- a digit or a dot
abbrev pub is_address_byte : ℕ → Bool
is_address_byte byte = is_ascii_digit byte || byte == 46

-- an address of digits and dots, or one in brackets
abbrev pub is_address : List ℕ → Bool
is_address [] = false
is_address (byte ∷ bytes) = byte == 91 || list_all is_address_byte (byte ∷ bytes)

-- the name that was given
abbrev pub is_given_name : Option (Bor (List ℕ)) → List ℕ → Bool
is_given_name None name = false
is_given_name (Some given) name = eq_ignore_case name given.now

-- an address or a name of this machine
abbrev pub is_own_name : Rules → List ℕ → Bool
is_own_name rules name =
    is_address name || eq_ignore_case name (codes "localhost") || is_given_name rules.name name

abbrev pub is_own : Rules → Option (List ℕ) → Bool
is_own rules None = false
is_own rules (Some name) = is_own_name rules name

-- an address or a name of this machine, with the port that is listened at
abbrev pub is_own_host : Rules → List ℕ → Bool
is_own_host rules host = is_own rules (name_at rules.port host)
