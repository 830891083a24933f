-- The ports, and what is handed to them.
use Rattle.std.specs.Prelude.{ℕ, ◌==◌, Bool, List, codes}
use Rattle.orca_base.specs.declared.port.Port.{Port}
use Rattle.orca_base.specs.declared.port.Port.TheVariants.{Midi, Udp, Osc, Text, Fault, View}

-- the name of a port
abbrev pub port_name : Port → List ℕ
port_name Midi = codes "midi"
port_name Udp = codes "udp"
port_name Osc = codes "osc"
port_name Text = codes "text"
port_name Fault = codes "fault"
port_name View = codes "view"

-- bytes that are handed to a port
pub record Sent : Type 0 where
  pub port : Port
  pub bytes : List ℕ

-- the place of a port in the list of ports
abbrev pub port_index : Port → ℕ
port_index Midi = 0
port_index Udp = 1
port_index Osc = 2
port_index Text = 3
port_index Fault = 4
port_index View = 5

-- whether two ports are the same
abbrev pub is_same_port : Port → Port → Bool
is_same_port a b = port_index a == port_index b
