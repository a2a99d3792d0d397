use Rattle.std.proofs.Common.{length, ap, ◌∙◌}
use Rattle.plotters_backend.specs.Run.{run}
use Rattle.polygon.specs.Polygon.{Lent}
use Rattle.polygon.proofs.Fills.{allowed, fill_allowed, hole, passed, spared, spill}
use Rattle.polygon.proofs.fill.fill_polygon.Goals as goal

pub fill_within-requires-clause-near : goal.fill_within-requires-clause-near
fill_within-requires-clause-near g c = (allowed c.args.vertices.now (length c.args.sides.now) (length c.args.live.now) (length c.args.marks.now) (passed _ c.in_ok-judge.ensures)).near

-- a fill that is not refused is its pixels
pub returns : goal.returns
returns g c =
    let x = c.args in
    let o = x.vertices.now in
    let S = g.DB.DrawingBackend.surface in
    let L = g.DB.DrawingBackend.lawful in
    let h = g.DB.DrawingBackend.held x.back.now in
    let h' = g.DB.DrawingBackend.held c.fill_within.new.back in
    let none = passed _ c.in_ok-judge.ensures in
    let w = allowed o (length x.sides.now) (length x.live.now) (length x.marks.now) none in
    let lent : Lent = (length x.sides.now, length x.live.now, length x.marks.now) in
    let e = c.fill_within.ensures ∙ ap (run S h) (fill_allowed o x.style.now lent none) in
    record {
      pixels = e;
      hole = hole S L o x.style.now lent h h' c.fill_within.result e;
      spill = spill S L o x.style.now lent h h' c.fill_within.result e;
      sides = spared none (length o) x.sides.now c.fill_within.new.sides w.sides_fit c.fill_within.auto.sides;
      live = spared none (length o) x.live.now c.fill_within.new.live w.live_fit c.fill_within.auto.live;
      marks = spared none 65536 x.marks.now c.fill_within.new.marks w.marks_fit c.fill_within.auto.marks;
    }
