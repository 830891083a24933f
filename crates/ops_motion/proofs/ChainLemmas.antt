-- What a comment and a chain of jumpers come to, once the places were looked at one by one.
use Rattle.std.specs.Prelude.{ℕ, ◌+◌, ◌-◌, ◌≡◌, ◌<◌, ◌≤◌, ◌==◌, not, true, false, ◌∷◌, [], Some, None}
use Rattle.std.proofs.Common.{arith}
use Rattle.orca_base.specs.declared.limits.TheConstants.{JUMP_REACH}
use Rattle.orca_base.specs.declared.place.Spot.{Spot}
use Rattle.orca_op.specs.State.{State, peek}
use Rattle.orca_op.specs.Deeds.{Write, input_at, output_at}
use Rattle.orca_op.specs.Slate.{Slate, slate_after, slate_after_all}
use Rattle.orca_op.proofs.LawFacts.{slate_after_all-append}
use Rattle.orca_op.proofs.FirstFacts.{first_where-found, first_where-missing}
use Rattle.orca_op.specs.MotionRules.{chain_end, sleep_deeds, jump}

-- the first other glyph ends the chain
pub chain_end-found : (g : ℕ) (s : State) (beyond : ℕ → Spot) (i : ℕ) → 1 ≤ i → i ≤ JUMP_REACH
    → ((k : ℕ) → 1 ≤ k → k < i → not (peek s (beyond k) == g) ≡ false)
    → not (peek s (beyond i) == g) ≡ true → chain_end g s beyond ≡ Some i
unfolding chain_end
chain_end-found g s beyond i low high before here =
    first_where-found _ 1 JUMP_REACH i low (omega arith) before here

-- with no other glyph the chain has no end
pub chain_end-missing : (g : ℕ) (s : State) (beyond : ℕ → Spot)
    → ((k : ℕ) → 1 ≤ k → k < 1 + JUMP_REACH → not (peek s (beyond k) == g) ≡ false)
    → chain_end g s beyond ≡ None
unfolding chain_end
chain_end-missing g s beyond before = first_where-missing _ 1 JUMP_REACH before

-- the deeds of a jumper that acts, one after another
pub jump-slate_after : (d : Slate) (g : ℕ) (source : Spot) (beyond : ℕ → Spot) (i : ℕ)
    → (peek d.scan source == g) ≡ false → chain_end g d.scan beyond ≡ Some i
    → slate_after_all d (jump g d.scan source beyond)
    ≡ slate_after (slate_after (slate_after_all (slate_after d (input_at source))
    (sleep_deeds beyond (i - 1))) (output_at (beyond i))) (Write (beyond i) (peek d.scan
    source))
unfolding jump
jump-slate_after d g source beyond i first end =
    rw (first, end) (slate_after_all-append (slate_after d (input_at source))
    (sleep_deeds beyond (i - 1))
    (output_at (beyond i) ∷ Write (beyond i) (peek d.scan source) ∷ []))
