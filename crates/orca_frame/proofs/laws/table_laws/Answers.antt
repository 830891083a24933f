use Rattle.orca_op.specs.declared.kind.Kind.{Kind}
use Rattle.orca_op.specs.declared.kind.Kind.TheVariants.{Add, Subtract, Clock, Delay, East, IfEqual, Generator, Halt, Increment, Jumper, Konkat, Lesser, Multiply, North, ReadAt, Push, Query, Random, South, Track, Uclid, Variable, West, WriteAt, Jymper, Lerp, Bang, Comment, Midi, Mono, ControlChange, PitchBend, UdpText, OscMessage}
use Rattle.orca_op.specs.Laws.{IsLawful}
use Rattle.orca_op.specs.Rules.{rule_of}
use Rattle.orca_frame.proofs.TableLemmas.{lawful_table}
use Rattle.orca_frame.proofs.laws.table_laws.Goals as goal

-- each row of the table is the rule of an operator, whose law the call of that name gives
pub returns : goal.returns
returns c = lawful_table (λ (kind : Kind). elim kind as (λ (k : Kind). IsLawful (rule_of k)) [
  | Add ↦ c.lawful-add.ensures
  | Subtract ↦ c.lawful-subtract.ensures
  | Clock ↦ c.lawful-clock.ensures
  | Delay ↦ c.lawful-delay.ensures
  | East ↦ c.lawful-east.ensures
  | IfEqual ↦ c.lawful-if_equal.ensures
  | Generator ↦ c.lawful-generator.ensures
  | Halt ↦ c.lawful-halt.ensures
  | Increment ↦ c.lawful-increment.ensures
  | Jumper ↦ c.lawful-jumper.ensures
  | Konkat ↦ c.lawful-konkat.ensures
  | Lesser ↦ c.lawful-lesser.ensures
  | Multiply ↦ c.lawful-multiply.ensures
  | North ↦ c.lawful-north.ensures
  | ReadAt ↦ c.lawful-read_at.ensures
  | Push ↦ c.lawful-push.ensures
  | Query ↦ c.lawful-query.ensures
  | Random ↦ c.lawful-random.ensures
  | South ↦ c.lawful-south.ensures
  | Track ↦ c.lawful-track.ensures
  | Uclid ↦ c.lawful-uclid.ensures
  | Variable ↦ c.lawful-variable.ensures
  | West ↦ c.lawful-west.ensures
  | WriteAt ↦ c.lawful-write_at.ensures
  | Jymper ↦ c.lawful-jymper.ensures
  | Lerp ↦ c.lawful-lerp.ensures
  | Bang ↦ c.lawful-bang.ensures
  | Comment ↦ c.lawful-comment.ensures
  | Midi ↦ c.lawful-midi.ensures
  | Mono ↦ c.lawful-mono.ensures
  | ControlChange ↦ c.lawful-control_change.ensures
  | PitchBend ↦ c.lawful-pitch_bend.ensures
  | UdpText ↦ c.lawful-udp_text.ensures
  | OscMessage ↦ c.lawful-osc_message.ensures
])
