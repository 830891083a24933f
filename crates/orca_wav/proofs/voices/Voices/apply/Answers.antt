use Rattle.std.proofs.Common.{inl, inr, ◌≡◌, refl}
use Rattle.orca_wav.specs.Rendering.{rendering_after}
use Rattle.orca_wav.proofs.Runs.{Renders-message}
use Rattle.orca_wav.proofs.voices.Voices.apply.Goals as goal
use Rattle.orca_wav.proofs.voices.Voices.apply.Goals.{In-Control}

pub returns-in-On-clause-run : goal.returns-in-On-clause-run
returns-in-On-clause-run c = λ messages bytes.
    Renders-message messages c.args.self.now c.begin.new.self c.args.message.now bytes
    (rw c.in-On.is c.begin.ensures) (rw c.begin.ensures refl)

pub returns-in-Off-clause-run : goal.returns-in-Off-clause-run
returns-in-Off-clause-run c = λ messages bytes.
    Renders-message messages c.args.self.now c.end.new.self c.args.message.now bytes
    (rw c.in-Off.is c.end.ensures) (rw c.end.ensures refl)

-- any other message changes nothing
same : (c : In-Control) → c.args.self.now ≡ rendering_after c.args.self.now c.args.message.now
same c = elim c.in-Control.is [
  | inl control ↦ rw control.3 refl
  | inr rest ↦ elim rest [
    | inl bend ↦ rw bend.3 refl
    | inr others ↦ elim others [ inl udp ↦ rw udp.1 refl | inr osc ↦ rw osc.2 refl ]
  ]
]

pub returns-in-Control : goal.returns-in-Control
returns-in-Control c = record {
  after = same c;
  run = λ messages bytes.
      Renders-message messages c.args.self.now c.args.self.now c.args.message.now bytes (same c)
      refl;
}
