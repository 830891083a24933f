-- The operator table: one rule for each kind.
use Rattle.std.specs.Prelude.{ℕ, List, [], Option, Some, None}
use Rattle.orca_base.specs.declared.now.Now.{Now}
use Rattle.orca_base.specs.declared.place.Place.{Place}
use Rattle.orca_op.specs.declared.kind.Kind.{Kind}
use Rattle.orca_op.specs.declared.kind.Kind.TheVariants.{Add, Subtract, Clock, Delay, East, IfEqual, Generator, Halt, Increment, Jumper, Konkat, Lesser, Multiply, North, ReadAt, Push, Query, Random, South, Track, Uclid, Variable, West, WriteAt, Jymper, Lerp, Bang, Comment, Midi, Mono, ControlChange, PitchBend, UdpText, OscMessage}
use Rattle.orca_op.specs.Kinds.{kind_of}
use Rattle.orca_op.specs.State.{State}
use Rattle.orca_op.specs.Deeds.{Deed}
use Rattle.orca_op.specs.ValueRules as value
use Rattle.orca_op.specs.MotionRules as motion
use Rattle.orca_op.specs.GridRules as grid
use Rattle.orca_op.specs.EventRules as event

abbrev pub rule_of : Kind → ℕ → State → Place → Now → List Deed
rule_of Add = value.add
rule_of Subtract = value.subtract
rule_of Clock = value.clock
rule_of Delay = value.delay
rule_of East = motion.east
rule_of IfEqual = value.if_equal
rule_of Generator = grid.generator
rule_of Halt = motion.halt
rule_of Increment = value.increment
rule_of Jumper = motion.jumper
rule_of Konkat = grid.konkat
rule_of Lesser = value.lesser
rule_of Multiply = value.multiply
rule_of North = motion.north
rule_of ReadAt = grid.read_at
rule_of Push = grid.push
rule_of Query = grid.query
rule_of Random = value.random
rule_of South = motion.south
rule_of Track = grid.track
rule_of Uclid = value.uclid
rule_of Variable = grid.variable
rule_of West = motion.west
rule_of WriteAt = grid.write_at
rule_of Jymper = motion.jymper
rule_of Lerp = value.lerp
rule_of Bang = motion.bang_rule
rule_of Comment = motion.comment
rule_of Midi = event.midi
rule_of Mono = event.mono
rule_of ControlChange = event.control_change
rule_of PitchBend = event.pitch_bend
rule_of UdpText = event.udp_text
rule_of OscMessage = event.osc_message

abbrev pub rule_if : Option Kind → ℕ → State → Place → Now → List Deed
rule_if None g s at now = []
rule_if (Some kind) g s at now = rule_of kind g s at now

-- the deeds of a glyph: those of its row, and none where it is no operator
unfoldable pub rule : ℕ → State → Place → Now → List Deed
rule g s at now = rule_if (kind_of g) g s at now
