use Rattle.std.proofs.Common.{◌≡◌, rules}
use Rattle.orca_term.specs.Picture.{scene_of, picture}
use Rattle.orca_term.specs.Viewing.{painting_bytes}
use Rattle.orca_term.proofs.DrawnRows.{drawn_picture}
use Rattle.orca_term.proofs.Views.{paints-view, whole_bytes, same_bytes, shown_bytes}
use Rattle.orca_term.proofs.view.View.repaint.Goals as goal

pub returns : goal.returns
returns g c =
    let now = c.args.self.now in
    let bytes = c.paint_rows.new.bytes.items in
    let scene =
    scene_of (g.T.Look.sheet c.args.look.now) (g.T.Look.marks c.args.look.now) c.args.over.now in
    let cells = picture now.size scene c.args.sent.now c.args.line.now in
    let drawn = c.draw_status.new.cells.items in
    let same : drawn ≡ cells =
    drawn_picture now.size scene c.args.sent.now c.args.line.now c.draw_upper.new.cells.items drawn
    (search rules) (search rules) in
    let bytes_are : bytes ≡ painting_bytes now.size now.last cells = search rules in
    let paints =
    paints-view c.self.inside.size c.self.inside.painted c.self.inside.last.items
    c.self.inside.bytes.items bytes now drawn cells c.self.view_is
    c.self.invariant.0 c.self.invariant.1 c.draw_status.ensures.whole c.draw_status.ensures.printable same
    bytes_are in
    record {
      kept = search rules;
      whole = whole_bytes now.size now.last cells bytes paints;
      same = same_bytes now.size now.last cells bytes paints;
      printable = paints.printable;
      shows = shown_bytes now.size now.last cells bytes paints;
    }
