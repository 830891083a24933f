use Rattle.std.proofs.Common.{◌≡◌, ◌*◌, ◌-◌, arith, refl, sym}
use Rattle.std.specs.Int.{trailing_zeros, w64}
use Rattle.std.specs.Prelude.{slice_index}
use Rattle.orca_op.proofs.LiveLemmas.{later, least_bit-some, next_bit-found, passed-first, later-found, later-missing, later-word}
use Rattle.orca_op.proofs.cursor.Cursor.find.Goals as goal

-- the lowest bit of the word that was reached
pub returns-then-bits-ne0-clause-least : goal.returns-then-bits-ne0-clause-least
returns-then-bits-ne0-clause-least c =
    let from : c.self.inside.column ≡ c.args.self.now = c.self.view_is in
    let some = rw c.self.invariant.bits at c.if-bits-ne0.true in
    let least = least_bit-some (slice_index c.args.words.now c.self.inside.word)
    (c.self.inside.column - c.self.inside.word * 64)
    (omega (arith, c.type_inv.words c.self.inside.word)) (omega (arith, some)) in
    rw (c.stop.ensures.column, c.self.invariant.bits, ← from)
    (sym (next_bit-found c.args.words.now c.self.inside.column c.self.inside.word _ _
    (omega (arith, c.requires.some, c.self.invariant.word, from)) refl least
    (λ k low high. absurd (omega (arith, low, high, c.self.invariant.word)))))

-- no later word has a bit
pub returns-then-rest-eq0-clause-least : goal.returns-then-rest-eq0-clause-least
returns-then-rest-eq0-clause-least c =
    let from : c.self.inside.column ≡ c.args.self.now = c.self.view_is in
    let none = rw c.self.invariant.bits at c.if-bits-ne0.false in
    sym (later-missing c.args.words.now c.args.self.now c.self.inside.word c.args.summary
    c.requires.summary c.requires.few
    (λ k low high. passed-first c.args.words.now c.self.inside.column c.self.inside.word
    (omega (arith, c.self.invariant.word)) none k (omega (arith, low, from)) high)
    (omega (arith, c.requires.some, c.requires.few, c.self.invariant.word, from))
    c.if-rest-eq0.true)

-- the first later word that the summary shows
pub bounds-words-word : goal.bounds-words-word
bounds-words-word c =
    let from : c.self.inside.column ≡ c.args.self.now = c.self.view_is in
    (later-word c.args.words.now c.args.summary c.self.inside.word c.requires.summary
    (omega (arith, c.ranges.summary))
    (omega (arith, c.requires.some, c.requires.few, c.self.invariant.word, from))
    (omega (arith, c.if-rest-eq0.false))).1

pub stop-requires-2-clause-some : goal.stop-requires-2-clause-some
stop-requires-2-clause-some c =
    let from : c.self.inside.column ≡ c.args.self.now = c.self.view_is in
    (later-word c.args.words.now c.args.summary c.self.inside.word c.requires.summary
    (omega (arith, c.ranges.summary))
    (omega (arith, c.requires.some, c.requires.few, c.self.invariant.word, from))
    (omega (arith, c.if-rest-eq0.false))).2

pub stop-requires-2-clause-few : goal.stop-requires-2-clause-few
stop-requires-2-clause-few c =
    let from : c.self.inside.column ≡ c.args.self.now = c.self.view_is in
    let word = later-word c.args.words.now c.args.summary c.self.inside.word c.requires.summary
    (omega (arith, c.ranges.summary))
    (omega (arith, c.requires.some, c.requires.few, c.self.invariant.word, from))
    (omega (arith, c.if-rest-eq0.false)) in
    omega (arith, word.1, c.requires.few)

-- its lowest bit
pub returns-clause-least : goal.returns-clause-least
returns-clause-least c =
    let from : c.self.inside.column ≡ c.args.self.now = c.self.view_is in
    let none = rw c.self.invariant.bits at c.if-bits-ne0.false in
    let word = later-word c.args.words.now c.args.summary c.self.inside.word c.requires.summary
    (omega (arith, c.ranges.summary))
    (omega (arith, c.requires.some, c.requires.few, c.self.invariant.word, from))
    (omega (arith, c.if-rest-eq0.false)) in
    rw c.stop-2.ensures.column (sym (later-found c.args.words.now c.args.self.now
    c.self.inside.word c.args.summary _ c.requires.summary
    (omega (arith, c.self.invariant.word, from))
    (λ k low high. passed-first c.args.words.now c.self.inside.column c.self.inside.word
    (omega (arith, c.self.invariant.word)) none k (omega (arith, low, from)) high)
    word.0 word.1 word.2
    (omega (
      arith,
      c.type_inv.words
          (trailing_zeros w64 (later c.args.summary c.self.inside.word)),
    ))))
