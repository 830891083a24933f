-- The bytes that were rendered of a run stay its bytes, with a message more and with samples more.
use Rattle.std.proofs.Common.{◌≡◌, ℕ, ◌+◌, ◌≤◌, ◌<◌, zero, suc, leb, List, [], ◌∷◌, ◌++◌, refl, sym, ap, ◌∙◌, arith, zero-add, add-zero}
use Rattle.std.specs.List.{filter, flat_map, range_with_len, All, AllByRecursion}
use Rattle.std.proofs.lemmas.Bool.{le-leb, lt-leb, cond-true, cond-false}
use Rattle.std.proofs.lemmas.List.{append-nil}
use Rattle.std.proofs.lemmas.List.Concat.{flat_map-append}
use Rattle.std.proofs.lemmas.List.Elements.{All-nil, All-push, All-weaker, filter-append, recursion_from_All}
use Rattle.orca_base.specs.declared.message.Message.{Message}
use Rattle.orca_wav.specs.Waves.{TimedMessage, voices_of, voices_at, sample_at, sample_bytes, run_bytes}
use Rattle.orca_wav.specs.Rendering.{Rendering, rendering_of, rendering_after, next_bytes, Renders}
use Rattle.orca_wav.proofs.Messages.{voices-after}

abbrev timed : Message → ℕ → TimedMessage
timed m samples = record { message = m; samples = samples }

-- the bytes of sample n
abbrev bytes_at : List TimedMessage → ℕ → List ℕ
bytes_at messages n = sample_bytes (sample_at (voices_at messages n) n)

-- ---- a message more

-- it changes no earlier sample
at-earlier : (messages : List TimedMessage) (m : Message) (n k : ℕ) → k < n
    → bytes_at (messages ++ timed m n ∷ []) k ≡ bytes_at messages k
at-earlier messages m n k h =
    let test = λ (t : TimedMessage). leb t.samples k in
    let none : filter test (timed m n ∷ []) ≡ [] = cond-false _ _ _ (lt-leb n k h) in
    ap (λ ms. sample_bytes (sample_at (voices_of ms) k))
    (filter-append test messages (timed m n ∷ [])
    ∙ (ap (λ ms. filter test messages ++ ms) none ∙ append-nil (filter test messages)))

-- samples that are alike one by one
same-samples : (f g : ℕ → List ℕ) (a count : ℕ)
    → ((k : ℕ) → a ≤ k → k < a + count → f k ≡ g k)
    → flat_map f (range_with_len a count) ≡ flat_map g (range_with_len a count)
same-samples f g a zero h = refl
same-samples f g a (suc count) h =
    let first : f a ≡ g a = h a (omega arith) (omega arith) in
    let rest = same-samples f g (a + 1) count (λ k low high. h k (omega arith) (omega arith)) in
    (cc)

pub Renders-message : (messages : List TimedMessage) (old new : Rendering) (m : Message)
    (bytes : List ℕ) → new ≡ rendering_after old m → new.samples ≡ old.samples
    → Renders messages old bytes
    → Renders (messages ++ record { message = m; samples = old.samples } ∷ []) new bytes
unfolding run_bytes
Renders-message messages old new m bytes e same h = record {
  voices =
      ap (λ (s : Rendering). s.voices) e
      ∙ (ap (λ vs. (rendering_after (rendering_of old.samples vs) m).voices) h.voices
      ∙ sym (voices-after messages old.samples m));
  before =
      rw same
      (All-push (λ t. t.samples ≤ old.samples) messages (timed m old.samples) h.before
      (omega arith));
  bytes =
      h.bytes
      ∙ rw same
      (sym (same-samples (bytes_at (messages ++ timed m old.samples ∷ [])) (bytes_at messages) 0
      old.samples
      (λ k low high. at-earlier messages m old.samples k (omega arith))));
}

-- ---- samples more

range-split : (a n count : ℕ)
    → range_with_len a (n + count) ≡ range_with_len a n ++ range_with_len (a + n) count
range-split a zero count = rw (zero-add, add-zero) refl
range-split a (suc n) count =
    let size : suc n + count ≡ suc (n + count) = omega arith in
    let next : (a + 1) + n ≡ a + suc n = omega arith in
    rw size
    (ap (λ xs. a ∷ xs)
    (range-split (a + 1) n count
    ∙ ap (λ k. range_with_len (a + 1) n ++ range_with_len k count) next))

filter-all : (messages : List TimedMessage) (n k : ℕ)
    → AllByRecursion (λ t. t.samples ≤ n) messages → n ≤ k
    → filter (λ t. leb t.samples k) messages ≡ messages
filter-all [] n k h le = refl
filter-all (t ∷ messages) n k h le =
    let low = h.0 in
    cond-true _ _ _ (le-leb t.samples k (omega (arith, low)))
    ∙ ap (λ ms. t ∷ ms) (filter-all messages n k h.1 le)

-- from the last message on the voices are those of all messages
at-later : (messages : List TimedMessage) (n k : ℕ)
    → All (λ t. t.samples ≤ n) messages → n ≤ k
    → bytes_at messages k ≡ sample_bytes (sample_at (voices_of messages) k)
at-later messages n k h le =
    ap (λ ms. sample_bytes (sample_at (voices_of ms) k))
    (filter-all messages n k (recursion_from_All _ messages h) le)

pub Renders-samples : (messages : List TimedMessage) (old new : Rendering) (count : ℕ)
    (bytes : List ℕ) → new ≡ rendering_of (old.samples + count) old.voices
    → Renders messages old bytes → Renders messages new (bytes ++ next_bytes old count)
unfolding run_bytes next_bytes
Renders-samples messages old new count bytes e h =
    let samples : new.samples ≡ old.samples + count = ap (λ (s : Rendering). s.samples) e in
    let n = old.samples in
    let later : ℕ → List ℕ = λ k. sample_bytes (sample_at old.voices k) in
    let same =
    same-samples (bytes_at messages) later n count
    (λ k low high.
    at-later messages n k h.before low
    ∙ ap (λ vs. sample_bytes (sample_at vs k)) (sym h.voices)) in
    record {
      voices = ap (λ (s : Rendering). s.voices) e ∙ h.voices;
      before =
          rw samples
          (All-weaker (λ t. t.samples ≤ n) (λ t. t.samples ≤ n + count)
          (λ t low. omega (arith, low)) messages h.before);
      bytes =
          rw (samples, h.bytes, range-split 0 n count, zero-add)
          (ap (λ bs. flat_map (bytes_at messages) (range_with_len 0 n) ++ bs) (sym same)
          ∙ sym
          (flat_map-append (bytes_at messages) (range_with_len 0 n) (range_with_len n count)));
    }

pub Renders-none : Renders [] (rendering_of 0 []) []
unfolding run_bytes
Renders-none = record { voices = refl; before = All-nil _; bytes = refl }
