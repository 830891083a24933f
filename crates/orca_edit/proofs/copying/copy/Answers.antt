use Rattle.std.proofs.Common.{◌≡◌, ◌∙◌, ◌*◌, ℕ, Global, Vec, ap, arith, refl, subst, sym}
use Rattle.orca_base.specs.Edits.{block_of}
use Rattle.orca_edit.specs.Editing.{IsBlock}
use Rattle.orca_edit.proofs.CopyLemmas.{IsBlock-block_of, block_read, first_glyphs, first_glyphs-more, length-all_read}
use Rattle.orca_edit.proofs.copying.copy.Goals as goal

pub loop-n-preserved : goal.loop-n-preserved
loop-n-preserved g c =
    c.in_ok-push.ensures.items
    ∙ first_glyphs-more (g.T.Look.sheet c.args.look.now) c.args.area c.loop-n.n
    c.loop-n.cells.items c.place-within.result _ c.glyph_at-glyph.result c.loop-n.invariant
    c.place-within.ensures.place refl c.glyph_at-glyph.ensures

pub of-requires : goal.of-requires
of-requires g c =
    let all : c.loop-n.n ≡ c.args.area.h * c.args.area.w =
    omega (arith, c.loop-n-test.false, c.loop-n.auto.n-end, c.cells-n-end.ensures.cells) in
    let kept : c.in_ok-cells-2.cells.value.items
    ≡ first_glyphs (g.T.Look.sheet c.args.look.now) c.args.area c.loop-n.n =
    ap (λ (cells : Vec ℕ Global). cells.items) c.in_ok-cells-2.ensures.ok
    ∙ c.loop-n.invariant in
    omega (
      arith,
      c.in_ok-cells-2.cells.value.ok.0,
      length-all_read (g.T.Look.sheet c.args.look.now) c.args.area c.loop-n.n
          c.in_ok-cells-2.cells.value.items kept all,
    )

pub returns-clause-block : goal.returns-clause-block
returns-clause-block g c =
    let all : c.loop-n.n ≡ c.args.area.h * c.args.area.w =
    omega (arith, c.loop-n-test.false, c.loop-n.auto.n-end, c.cells-n-end.ensures.cells) in
    let kept : c.in_ok-cells-2.cells.value.items
    ≡ first_glyphs (g.T.Look.sheet c.args.look.now) c.args.area c.loop-n.n =
    ap (λ (cells : Vec ℕ Global). cells.items) c.in_ok-cells-2.ensures.ok
    ∙ c.loop-n.invariant in
    block_read (g.T.Look.sheet c.args.look.now) c.args.area c.loop-n.n
    c.in_ok-cells-2.cells.value.items c.of.result kept all c.of.ensures

pub returns-clause-glyphs : goal.returns-clause-glyphs
returns-clause-glyphs g c =
    let all : c.loop-n.n ≡ c.args.area.h * c.args.area.w =
    omega (arith, c.loop-n-test.false, c.loop-n.auto.n-end, c.cells-n-end.ensures.cells) in
    let kept : c.in_ok-cells-2.cells.value.items
    ≡ first_glyphs (g.T.Look.sheet c.args.look.now) c.args.area c.loop-n.n =
    ap (λ (cells : Vec ℕ Global). cells.items) c.in_ok-cells-2.ensures.ok
    ∙ c.loop-n.invariant in
    let block : c.of.result ≡ block_of (g.T.Look.sheet c.args.look.now) c.args.area =
    block_read (g.T.Look.sheet c.args.look.now) c.args.area c.loop-n.n
    c.in_ok-cells-2.cells.value.items c.of.result kept all c.of.ensures in
    subst IsBlock (sym block)
    (IsBlock-block_of (g.T.Look.sheet c.args.look.now) c.args.area c.dims-grid.ensures.whole
    c.requires c.cells.ensures.size)
