-- Cues, and the end of a run.
use Rattle.std.proofs.Common.{◌≡◌, ℕ, ◌+◌, ◌-◌, ◌<◌, ◌≤◌, suc, [], ◌∷◌, refl, ap, arith}
use Rattle.std.specs.Prelude.{replicate, Option, Result}
use Rattle.orca_course.specs.Doing.{Does}
use Rattle.orca_course.specs.Worlds.{World}
use Rattle.orca_course.specs.declared.refused.NoMemory.{NoMemory}
use Rattle.orca_course.proofs.DoingLemmas.{answered, does_mapped}
use Rattle.orca_cues.specs.declared.source.Cue.{Cue}
use Rattle.orca_cues.specs.declared.source.Order.{Order}
use Rattle.orca_course.specs.Courses.{each}
use Rattle.orca_concert.specs.Concerts.{Concert, after_cue, cue_course, order_course, stance_of}
use Rattle.orca_concert.specs.Manners.{Manner}
use Rattle.orca_concert.specs.declared.halt.Halt.{Halt}

-- ---- cues

pub cue_done : {R : Type 0} (m : Manner R) (cue : Cue) (s : Concert R) {t : Concert R}
    {x y : World} (result : Result (Option Halt) NoMemory)
    → Does (stance_of m) (each (order_course m cue.line) (replicate cue.times cue.order) s) s x
    result t y
    → Does (stance_of m) (cue_course m cue s) s x (answered after_cue result) t y
unfolding cue_course
cue_done m cue s result did = does_mapped (λ t. t) after_cue result refl (λ u. refl) did

-- the times that are left

pub times_more : (n i : ℕ) (order : Order) → i < n
    → replicate (n - i) order ≡ order ∷ replicate (n - (i + 1)) order
times_more n i order below =
    let is : n - i ≡ suc (n - (i + 1)) = omega (arith, below) in ap (λ k. replicate k order) is

pub times_over : (n i : ℕ) (order : Order) → n ≤ i → replicate (n - i) order ≡ []
times_over n i order all =
    let is : n - i ≡ 0 = omega (arith, all) in ap (λ k. replicate k order) is

pub times_all : (n : ℕ) (order : Order) → replicate (n - 0) order ≡ replicate n order
times_all n order = let is : n - 0 ≡ n = omega arith in ap (λ k. replicate k order) is
