use Rattle.std.proofs.Common.{[], sym, ◌∙◌, refl, arith}
use Rattle.std.proofs.lemmas.Bool.{cond-true, cond-false}
use Rattle.std.proofs.lemmas.List.{append-nil}
use Rattle.std.specs.Option.{option_copied}
use Rattle.orca_term.specs.Painting.{forms_of_row, painted_row, screen_row}
use Rattle.orca_term.proofs.PaintingBytes.{rows_more, bytes_of-nil}
use Rattle.orca_term.proofs.painting.paint_rows.Goals as goal
use Rattle.orca_term.proofs.painting.paint_rows.Goals.{then-is_painted, else-is_painted}

pub loop-y-init : goal.loop-y-init
loop-y-init c = record {
  bytes = c.clear.ensures.items ∙ sym bytes_of-nil;
  short = omega arith;
  room = c.clear.ensures.capacity;
}

pub loop-y-preserved : goal.loop-y-preserved
loop-y-preserved c =
    let d = c.args.size in
    let last = option_copied c.args.last in
    let cells = c.args.cells.now in
    let more = rows_more (forms_of_row d last cells) c.loop-y.y in
    elim c.if-is_painted.branch [
      | then-is_painted w ↦
          let painted =
          cond-true _ (painted_row c.loop-y.y (screen_row d cells c.loop-y.y)) []
          (sym c.is_painted.ensures ∙ w.if-is_painted.true) in
          record {
            bytes =
                rw (
                  w.bytes-is,
                  w.paint_row.ensures.row,
                  w.row_of.ensures.row,
                  c.loop-y.invariant.bytes,
                  more,
                  painted,
                ) refl;
            short = rw w.bytes-is (omega arith);
            room = rw w.bytes-is (omega arith);
          }
      | else-is_painted w ↦
          let kept =
          cond-false _ (painted_row c.loop-y.y (screen_row d cells c.loop-y.y)) []
          (sym c.is_painted.ensures ∙ w.if-is_painted.false) in
          record {
            bytes =
                rw (w.bytes-is, c.loop-y.invariant.bytes, more, kept, bytes_of-nil)
                (sym (append-nil _));
            short = rw w.bytes-is (omega arith);
            room = rw w.bytes-is (omega arith);
          }
    ]
