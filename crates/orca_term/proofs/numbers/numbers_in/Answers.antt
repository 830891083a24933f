use Rattle.std.proofs.Common.{sym, ◌∙◌, arith}
use Rattle.std.proofs.lemmas.List.{length_push}
use Rattle.orca_term.proofs.NumberLists.{digit_more, number_more, breaks, ends, ends_early}
use Rattle.orca_term.proofs.numbers.numbers_in.Goals as goal
use Rattle.orca_term.proofs.numbers.numbers_in.Goals.{then-continues, else-continues+then-ends}

pub loop-byte-preserved : goal.loop-byte-preserved
loop-byte-preserved c =
    elim c.if-continues.branch [
      | then-continues w ↦
          let more = digit_more c.loop-byte.numbers c.loop-byte.number c.args.bytes.now
          c.loop-byte.byte-index (omega arith) (sym c.continues.ensures ∙ w.if-continues.true) in
          record {
            number = rw w.number-is w.more-number.ensures.number;
            few = rw (w.numbers-is, w.number-is, w.more-number.ensures.more) (omega arith);
            rest = cc;
          }
      | else-continues+then-ends w ↦
          let more = number_more c.loop-byte.numbers c.loop-byte.number c.args.bytes.now
          c.loop-byte.byte-index (omega arith) (sym c.continues.ensures ∙ w.if-continues.false)
          (sym w.ends.ensures ∙ w.if-ends.true) in
          record {
            number = rw w.number-is (record { few = omega arith; low = omega arith });
            few = rw (w.numbers-is, w.number-is, w.push.ensures)
                (omega (arith, length_push c.loop-byte.numbers c.loop-byte.number.value));
            rest = cc;
          }
    ]

pub returns-else-ends : goal.returns-else-ends
returns-else-ends c =
    let none = breaks c.loop-byte.numbers c.loop-byte.number c.args.bytes.now c.loop-byte.byte-index
    (omega arith) (sym c.continues.ensures ∙ c.if-continues.false)
    (sym c.ends.ensures ∙ c.if-ends.false) in
    cc

pub returns-then-number-eq0 : goal.returns-then-number-eq0
returns-then-number-eq0 c =
    let none = ends_early c.loop-byte.numbers c.loop-byte.number c.args.bytes.now
    c.loop-byte.byte-index (omega arith) (omega arith) in
    cc

pub returns : goal.returns
returns c =
    let some = ends c.loop-byte.numbers c.loop-byte.number c.args.bytes.now
    c.loop-byte.byte-index (omega arith) (omega arith) in
    cc
