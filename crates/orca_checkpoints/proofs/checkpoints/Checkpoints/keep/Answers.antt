use Rattle.std.proofs.Common.{◌≡◌, ℕ, ◌/◌, ◌+◌, ◌*◌, List, [], ◌∷◌, ◌++◌, length, take, arith, ap, sym, ◌∙◌, subst}
use Rattle.std.proofs.lemmas.List.{take_all}
use Rattle.orca_base.specs.declared.limits.TheConstants.{MAX_CHECKPOINTS}
use Rattle.orca_checkpoints.specs.Checkpoints.{points_of}
use Rattle.orca_checkpoints.specs.Points.{ArePoints, Point, Points, every_second, points_kept}
use Rattle.orca_checkpoints.proofs.PointLemmas.{kept-full, kept-points, slots-second}
use Rattle.orca_checkpoints.proofs.checkpoints.Checkpoints.keep.Given.{Over}
use Rattle.orca_checkpoints.proofs.checkpoints.Checkpoints.keep.Goals as goal

-- the grid and the tick of now
abbrev point : (g : Over) (c : goal.After-self-else-self-lt-MAX_CHECKPOINTS-2-1 g) → Point
point g c = record { sheet = g.T.Look.sheet c.args.look.now; tick = c.args.tick }

-- every second slot is in front
moved : (g : Over) (c : goal.After-self-else-self-lt-MAX_CHECKPOINTS-2-1 g)
    → points_of (record {
      slots = c.keep_every_second.new.slots;
      count = MAX_CHECKPOINTS / 2 + 1;
      spacing = c.self.inside.spacing * 2;
    })
    ≡ points_kept (points_of c.self.inside) (point g c)
moved g c =
    let before : List Point = c.self.inside.slots.items in
    let all : take c.self.inside.count before ≡ before =
    take_all c.self.inside.count before
    (omega (arith, c.self.invariant.room, c.if-self-lt-MAX_CHECKPOINTS.false)) in
    let twice : c.self.inside.spacing * 2 ≡ 2 * c.self.inside.spacing = omega arith in
    ap (λ (ps : List Point). record { spacing = c.self.inside.spacing * 2; kept = ps })
    (slots-second before c.keep_every_second.new.slots.items (point g c) c.self.invariant.room
    c.keep_every_second.ensures.all c.keep_every_second.ensures.second)
    ∙ (ap (λ (s : ℕ). record { spacing = s; kept = every_second (before ++ point g c ∷ []) }) twice
    ∙ (ap (λ (ps : List Point). record {
      spacing = 2 * c.self.inside.spacing;
      kept = every_second (ps ++ point g c ∷ []);
    }) (sym all)
    ∙ sym (kept-full (points_of c.self.inside) (point g c)
    (omega (arith, ap length all, c.self.invariant.room)))))

pub invariant_of-self-else-self-lt-MAX_CHECKPOINTS :
    goal.invariant_of-self-else-self-lt-MAX_CHECKPOINTS
invariant_of-self-else-self-lt-MAX_CHECKPOINTS g c = record {
  room = c.keep_every_second.ensures.all;
  few = omega arith;
  points = subst ArePoints (sym (moved g c))
      (kept-points (points_of c.self.inside) (point g c) c.self.invariant.points
      c.dims-whole.ensures.whole);
}

pub returns-else-self-lt-MAX_CHECKPOINTS-clause-kept :
    goal.returns-else-self-lt-MAX_CHECKPOINTS-clause-kept
returns-else-self-lt-MAX_CHECKPOINTS-clause-kept g c =
    moved g c ∙ ap (λ (x : Points). points_kept x (point g c)) c.self.view_is
