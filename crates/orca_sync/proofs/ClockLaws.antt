-- The laws of a clock.
use Rattle.std.proofs.Common.{◌≡◌, ◌≢◌, ℕ, zero, suc, ◌+◌, ◌-◌, ◌%◌, Bool, true, false, List, [], ◌∷◌, ◌++◌, replicate, refl, ap, sym, ◌∙◌, arith}
use Rattle.std.specs.List.{filter}
use Rattle.std.proofs.lemmas.Bool.Decides.{nat_tests}
use Rattle.orca_sync.specs.Clocks.{Pulse, running, counted, is_first, heed, heeded, beat_in, beats_from}
use Rattle.orca_sync.specs.Laws.{OthersDrop, EverySixth, PausesKeepCount, frames_in}
use Rattle.orca_sync.specs.RealTime.{timing_clock, continue, is_clock}
use Rattle.orca_sync.specs.declared.limits.TheConstants.{FRAME_CLOCKS}
use Rattle.orca_sync.specs.declared.follower.Beat.TheVariants.{Nothing, Frame}

-- a byte that is no clock asks for nothing
heed-other : (p : Pulse) (byte : ℕ) → is_clock byte ≡ false → heed p byte ≡ heeded Nothing p
unfolding heed
heed-other p byte is = grind (arith, nat_tests)

-- bytes that are no clock, by whether the first of them is one
others_drop_if : (p : Pulse) (byte : ℕ) (bytes : List ℕ) (clock : Bool) → is_clock byte ≡ clock
    → ((q : Pulse) → beats_from q (filter is_clock bytes) ≡ beats_from q bytes)
    → beats_from p (filter is_clock (byte ∷ bytes)) ≡ beats_from p (byte ∷ bytes)
unfolding beats_from
others_drop_if p byte bytes true is rest =
    let heed = heed p byte in rw is (ap (λ beats. beat_in heed.beat ++ beats) (rest heed.pulse))
others_drop_if p byte bytes false is rest = rw (is, heed-other p byte is) (rest p)

pub others_drop : OthersDrop
unfolding beats_from
others_drop p [] = refl
others_drop p (byte ∷ bytes) =
    others_drop_if p byte bytes (is_clock byte) refl (λ q. others_drop q bytes)

-- how many frames so many clocks play, from this count on
abbrev frames_from : ℕ → ℕ → ℕ
frames_from count clocks = frames_in (count + clocks) - frames_in count

-- the first clock of a frame plays it
frames_from-first : (count clocks : ℕ) → is_first count ≡ true
    → suc (frames_from (counted count) clocks) ≡ frames_from count (suc clocks)
frames_from-first count clocks is =
    let first : count % FRAME_CLOCKS ≡ 0 = grind (arith, nat_tests) in omega arith

-- the others don't
frames_from-other : (count clocks : ℕ) → is_first count ≡ false
    → frames_from (counted count) clocks ≡ frames_from count (suc clocks)
frames_from-other count clocks is =
    let other : count % FRAME_CLOCKS ≢ 0 = grind (arith, nat_tests) in omega arith

frames_from-none : (count : ℕ) → frames_from count zero ≡ 0
frames_from-none count = omega arith

-- one clock more, by whether it is the first of a frame
every_sixth_if : (count clocks : ℕ) (first : Bool) → is_first count ≡ first
    → beats_from (running (counted count)) (replicate clocks timing_clock)
    ≡ replicate (frames_from (counted count) clocks) Frame
    → beats_from (running count) (replicate (suc clocks) timing_clock)
    ≡ replicate (frames_from count (suc clocks)) Frame
unfolding heed beats_from
every_sixth_if count clocks true is rest =
    rw (is, ← frames_from-first count clocks is) (ap (λ beats. Frame ∷ beats) rest)
every_sixth_if count clocks false is rest =
    rw (is, ← frames_from-other count clocks is) rest

pub every_sixth : EverySixth
unfolding beats_from
every_sixth count zero = rw (frames_from-none count) refl
every_sixth count (suc clocks) =
    every_sixth_if count clocks (is_first count) refl (every_sixth (counted count) clocks)

-- clocks ask for nothing while it is stopped
stopped_drop : (count clocks : ℕ) (bytes : List ℕ)
    → beats_from (record { runs = false; count = count }) (replicate clocks timing_clock ++ bytes)
    ≡ beats_from (record { runs = false; count = count }) bytes
unfolding heed beats_from
stopped_drop count zero bytes = refl
stopped_drop count (suc clocks) bytes = stopped_drop count clocks bytes

pub pauses_keep_count : PausesKeepCount
unfolding heed beats_from
pauses_keep_count p clocks bytes is =
    stopped_drop p.count clocks (continue ∷ bytes)
    ∙ ap (λ (runs : Bool). beats_from (record { runs = runs; count = p.count }) bytes) (sym is)

-- the laws that `Follower::byte` carries
pub ruleset clock_laws = (others_drop, every_sixth, pauses_keep_count)
