-- One part of a turn after another.
use Rattle.std.proofs.Common.{◌≡◌, ℕ, suc, ◌+◌, ◌-◌, ◌*◌, ◌/◌, ◌%◌, ◌<◌, ◌≤◌, ◌==◌, Bool, true, false, Some, None, List, [], ◌∷◌, ◌++◌, map, refl, sym, ap, subst, ◌∙◌, arith, inl, inr}
use Rattle.std.specs.Prelude.{Option, ◌≢◌, if◌then◌else◌}
use Rattle.std.proofs.lemmas.Bool.{eqb-true, eqb-false, ne_eqb, lt-ltb}
use Rattle.std.proofs.lemmas.Option.{cond_some}
use Rattle.std.proofs.lemmas.Bool.Decides.{eqb_tells, leb_tells}
use Rattle.orca_base.specs.Grids.{Size, cells_of}
use Rattle.orca_cues.specs.Made.{first_word, made_word, write_of, undo_in, rewind_in, made_turn, made_turns, made_cue, made_cues, made_write}
use Rattle.orca_cues.specs.TurnsLeft.{next_64, order_of, words_after, words_before, part_after, turn_left, turns_left, IsDue, IsTurn}
use Rattle.orca_cues.specs.declared.source.Order.{Order}
use Rattle.orca_cues.specs.declared.turns.Part.{Part}
use Rattle.orca_cues.specs.declared.turns.Part.TheVariants.{Frame, Write, Undo, Rewind}
use Rattle.rand_pcg.specs.Lcg.{Lcg}
use Rattle.orca_cues.proofs.Words.{drawn, drawn-next, drawn-word}

-- ---- a write comes in each turn of an undo, and an undo in each turn of a rewind

no_undo : (turn : ℕ) → (turn % 16 ≡ 15 → ⊥) → undo_in turn ≡ []
no_undo turn other =
    let test : (turn % 64 == 63) ≡ false =
    ne_eqb (turn % 64) 63 (λ is. other (omega (arith, is))) in
    rw test refl

no_rewind : (turn : ℕ) → (turn % 64 ≡ 63 → ⊥) → rewind_in turn ≡ []
no_rewind turn other =
    let test : (turn % 1024 == 1023) ≡ false =
    ne_eqb (turn % 1024) 1023 (λ is. other (omega (arith, is))) in
    rw test refl

-- ---- what is left of a turn

same_write : (dims : Size) (a b c a' b' c' : ℕ) → a ≡ a' → b ≡ b' → c ≡ c' →
    write_of dims a b c ≡ write_of dims a' b' c'
same_write dims a b c a' b' c' row column glyph = cc

-- the write of three words of the generator
write_drawn : (seed : ℕ) (dims : Size) (turn : ℕ) (words : Lcg) →
    words ≡ drawn seed (first_word dims turn) →
    order_of Write dims words ≡ made_write seed dims turn
write_drawn seed dims turn words are =
    let n = first_word dims turn in
    let second = drawn-next seed n words are in
    let third = drawn-next seed (n + 1) (next_64 words) second in
    let two : n + 1 + 1 ≡ n + 2 = omega arith in
    same_write dims _ _ _ _ _ _ (drawn-word seed n words are)
    (drawn-word seed (n + 1) (next_64 words) second)
    (drawn-word seed (n + 1 + 1) (next_64 (next_64 words)) third ∙ ap (made_word seed) two)

-- what is left of a turn from the part that follows
abbrev rest_of : Option Part → ℕ → Size → ℕ → List Order
rest_of None seed dims turn = []
rest_of (Some part) seed dims turn = turn_left part seed dims turn

turn_left-first : (part : Part) (seed : ℕ) (dims : Size) (turn : ℕ) (words : Lcg) →
    IsDue part turn → words ≡ drawn seed (words_before part dims turn) →
    turn_left part seed dims turn
    ≡ order_of part dims words ∷ rest_of (part_after part turn) seed dims turn
unfolding made_turn
turn_left-first Frame seed dims turn words due are =
    elim (eqb_tells (turn % 16) 15) [
      | inl last ↦ rw last.0 refl
      | inr other ↦
          let undo = no_undo turn other.1 in
          let rewind = no_rewind turn (λ is. other.1 (omega (arith, is))) in
          rw (other.0, undo, rewind) refl
    ]
turn_left-first Write seed dims turn words due are =
    rw (write_drawn seed dims turn words are) (elim (eqb_tells (turn % 64) 63) [
      | inl last ↦ rw last.0 refl
      | inr other ↦ rw (other.0, no_rewind turn other.1) refl
    ])
turn_left-first Undo seed dims turn words due are =
    elim (eqb_tells (turn % 1024) 1023) [
      | inl last ↦ rw last.0 refl
      | inr other ↦ rw other.0 refl
    ]
turn_left-first Rewind seed dims turn words due are = refl

-- ---- what is left of all turns

-- the turns that are left begin with a frame
pub turns_left-frame : (seed : ℕ) (dims : Size) (turn frames : ℕ) → turn ≤ frames →
    turns_left Frame seed dims turn frames
    ≡ map made_cue (made_turns seed dims turn (frames - turn))
unfolding made_turns
turns_left-frame seed dims turn frames within =
    elim (leb_tells (suc turn) frames) [
      | inl more ↦
          let left : frames - turn ≡ suc (frames - (turn + 1)) = omega (arith, more.1) in
          rw (more.0, left) refl
      | inr last ↦
          let left : frames - turn ≡ 0 = omega (arith, last.1) in
          rw (last.0, left) refl
    ]

pub turns_left-start : (seed : ℕ) (dims : Size) (frames : ℕ) →
    turns_left Frame seed dims 0 frames ≡ made_cues seed dims frames
turns_left-start seed dims frames =
    let all : frames - 0 ≡ frames = omega arith in
    turns_left-frame seed dims 0 frames (omega arith)
    ∙ ap (λ n. map made_cue (made_turns seed dims 0 n)) all

module _ (part : Part) (seed : ℕ) (dims : Size) (turn frames : ℕ) (words : Lcg)
    (here : IsTurn part seed dims turn frames words) (more : turn ≢ frames) where
  first_left : (rest : List Order) → rest_of (part_after part turn) seed dims turn ≡ rest →
      turns_left part seed dims turn frames
      ≡ made_cue (order_of part dims words)
      ∷ map made_cue (rest ++ made_turns seed dims (turn + 1) (frames - (turn + 1)))
  first_left rest is =
      let below : turn < frames = omega (arith, here.within, more) in
      let first = turn_left-first part seed dims turn words here.due here.words_are in
      rw (lt-ltb turn frames below, first, is) refl

  -- the turn goes on
  pub turns_left-part : (next : Part) → part_after part turn ≡ Some next →
      turns_left part seed dims turn frames
      ≡ made_cue (order_of part dims words) ∷ turns_left next seed dims turn frames
  turns_left-part next is =
      let below : turn < frames = omega (arith, here.within, more) in
      first_left (turn_left next seed dims turn) (ap (λ p. rest_of p seed dims turn) is)
      ∙ rw (lt-ltb turn frames below) refl

  -- the next turn begins
  pub turns_left-turn : part_after part turn ≡ None →
      turns_left part seed dims turn frames
      ≡ made_cue (order_of part dims words) ∷ turns_left Frame seed dims (turn + 1) frames
  turns_left-turn is =
      let within : turn + 1 ≤ frames = omega (arith, here.within, more) in
      first_left [] (ap (λ p. rest_of p seed dims turn) is)
      ∙ ap (λ cues. made_cue (order_of part dims words) ∷ cues)
      (sym (turns_left-frame seed dims (turn + 1) frames within))

-- ---- the words before a part

three_drawn : (seed n m : ℕ) (words : Lcg) → words ≡ drawn seed n → n + 3 ≡ m →
    next_64 (next_64 (next_64 words)) ≡ drawn seed m
three_drawn seed n m words are is =
    let second = drawn-next seed n words are in
    let third = drawn-next seed (n + 1) (next_64 words) second in
    let fourth = drawn-next seed (n + 1 + 1) (next_64 (next_64 words)) third in
    let three : n + 1 + 1 + 1 ≡ m = omega (arith, is) in
    fourth ∙ ap (drawn seed) three

-- no write comes in the turn, or one
same_word : (dims : Size) (turn : ℕ) → turn % 16 ≢ 15 →
    first_word dims turn ≡ first_word dims (turn + 1)
same_word dims turn other =
    let same : turn / 16 ≡ (turn + 1) / 16 = omega (arith, other) in
    ap (λ n. cells_of dims + 3 * n) same

three_words : (dims : Size) (turn : ℕ) → turn % 16 ≡ 15 →
    first_word dims turn + 3 ≡ first_word dims (turn + 1)
three_words dims turn last =
    let more : (turn + 1) / 16 ≡ turn / 16 + 1 = omega (arith, last) in
    rw more (omega arith)

none_false : (test : Bool) (part : Part) → (if test then Some part else None) ≡ None → test ≡ false
none_false true part is = cc
none_false false part is = refl

-- the turn goes on
pub is_turn-part : (part next : Part) (seed : ℕ) (dims : Size) (turn frames : ℕ) (words : Lcg) →
    IsTurn part seed dims turn frames words → part_after part turn ≡ Some next →
    IsTurn next seed dims turn frames (words_after part words)
is_turn-part Frame next seed dims turn frames words here is =
    let test = cond_some _ _ _ is in
    subst (λ p. IsTurn p seed dims turn frames words) test.1 (record {
      within = here.within;
      due = eqb-true (turn % 16) 15 test.0;
      words_are = here.words_are;
    })
is_turn-part Write next seed dims turn frames words here is =
    let test = cond_some _ _ _ is in
    let last : turn % 16 ≡ 15 = here.due in
    subst (λ p. IsTurn p seed dims turn frames (words_after Write words)) test.1 (record {
      within = here.within;
      due = eqb-true (turn % 64) 63 test.0;
      words_are = three_drawn seed _ _ words here.words_are (three_words dims turn last);
    })
is_turn-part Undo next seed dims turn frames words here is =
    let test = cond_some _ _ _ is in
    subst (λ p. IsTurn p seed dims turn frames words) test.1 (record {
      within = here.within;
      due = eqb-true (turn % 1024) 1023 test.0;
      words_are = here.words_are;
    })
is_turn-part Rewind next seed dims turn frames words here is = cc

-- the next turn begins
pub is_turn-turn : (part : Part) (seed : ℕ) (dims : Size) (turn frames : ℕ) (words : Lcg) →
    IsTurn part seed dims turn frames words → turn ≢ frames → part_after part turn ≡ None →
    IsTurn Frame seed dims (turn + 1) frames (words_after part words)
is_turn-turn Frame seed dims turn frames words here more is = record {
  within = omega (arith, here.within, more);
  due = tt;
  words_are = here.words_are
      ∙ ap (drawn seed) (same_word dims turn (eqb-false (turn % 16) 15 (none_false _ Write is)));
}
is_turn-turn Write seed dims turn frames words here more is =
    let last : turn % 16 ≡ 15 = here.due in
    record {
      within = omega (arith, here.within, more);
      due = tt;
      words_are = three_drawn seed _ _ words here.words_are (three_words dims turn last);
    }
is_turn-turn Undo seed dims turn frames words here more is = record {
  within = omega (arith, here.within, more);
  due = tt;
  words_are = here.words_are;
}
is_turn-turn Rewind seed dims turn frames words here more is = record {
  within = omega (arith, here.within, more);
  due = tt;
  words_are = here.words_are;
}
