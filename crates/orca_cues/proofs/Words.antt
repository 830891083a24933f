-- The words of a generator, one after another.
use Rattle.std.proofs.Common.{◌≡◌, ℕ, zero, suc, ◌+◌, refl, ap, ◌∙◌}
use Rattle.orca_cues.specs.Made.{generator_of, made_word}
use Rattle.orca_cues.specs.TurnsLeft.{next_64}
use Rattle.rand_pcg.specs.Lcg.{Lcg, advance, next_state, state_after}
use Rattle.rand_pcg.specs.Pcg.{multiplier_64, pcg32}
use Rattle.rand_pcg.proofs.LcgLemmas.{advance_more}

state_after-next : (w m increment n state : ℕ) →
    next_state w m increment (state_after w m increment n state)
    ≡ state_after w m increment n (next_state w m increment state)
unfolding state_after
state_after-next w m increment zero state = refl
state_after-next w m increment (suc n) state =
    state_after-next w m increment n (next_state w m increment state)

-- the generator of a seed after n words
abbrev pub drawn : ℕ → ℕ → Lcg
drawn seed n = advance 64 multiplier_64 n (generator_of seed)

abbrev with_state : ℕ → ℕ → Lcg
with_state increment state = record { state = state; increment = increment }

-- one word more
pub drawn-more : (seed n : ℕ) → next_64 (drawn seed n) ≡ drawn seed (n + 1)
drawn-more seed n =
    let g = generator_of seed in
    ap (with_state g.increment) (state_after-next 64 multiplier_64 g.increment n g.state)
    ∙ advance_more 64 multiplier_64 n g

-- the word that comes next
pub drawn-word : (seed n : ℕ) (words : Lcg) → words ≡ drawn seed n →
    (pcg32 words).0 ≡ made_word seed n
unfolding made_word
drawn-word seed n words are = ap (λ (g : Lcg). (pcg32 g).0) are

-- and the generator after it
pub drawn-next : (seed n : ℕ) (words : Lcg) → words ≡ drawn seed n →
    next_64 words ≡ drawn seed (n + 1)
drawn-next seed n words are = ap next_64 are ∙ drawn-more seed n

pub drawn-zero : (seed : ℕ) → generator_of seed ≡ drawn seed 0
unfolding state_after
drawn-zero seed = refl
