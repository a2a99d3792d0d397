use Rattle.std.proofs.Common.{List, ap, ◌∙◌, w32, of_z}
use Rattle.plotters_backend.specs.Run.{Pixel, all, run}
use Rattle.polygon.proofs.Fills.{Area, Boxing, Counted, area_of, box_found, corners_near, counted, flat_pixels, same_side, swept_pixels}
use Rattle.polygon.proofs.fill.fill_within.Given.{Over}
use Rattle.polygon.proofs.fill.fill_within.Goals.{In-Some, After-turn-2}
use Rattle.polygon.proofs.fill.fill_within.Goals as goal

-- the box that is found is that of the outline
boxed : (g : Over) (c : In-Some g) → Boxing c.args.vertices.now c.in-Some.least c.in-Some.greatest
boxed g c = box_found c.args.vertices.now c.in-Some.least c.in-Some.greatest c.requires.near c.in-Some.ensures

-- what is known of the sweep, and of its marks
module _ (g : Over) (c : After-turn-2 g) where
  area : Area c.sweep_axis-axis.result c.args.vertices.now c.turn.result c.turn-2.result c.put_sides.new.pool
  area = area_of _ _ _ _ _ _ _ (box_found c.args.vertices.now c.in-Some.least c.in-Some.greatest c.requires.near c.in-Some.ensures) c.turn.ensures c.turn-2.ensures c.put_sides.ensures

  marked : Counted c.turn.result.1 c.turn-2.result.1 c.args.marks.now
  marked = let a = area in counted _ _ _ a.held.low_near a.held.high_near a.rises c.requires.marks

-- a flat outline is its line
pub returns-then-least-greatest : goal.returns-then-least-greatest
returns-then-least-greatest g c =
    let x = c.args in
    let b = boxed g (goal.at.returns-then-least-greatest g c).In-Some in
    let S = g.DB.DrawingBackend.surface in
    let same = same_side c.in-Some.least c.in-Some.greatest (corners_near x.vertices.now c.in-Some.least c.in-Some.greatest b) c.then-least-greatest.either in
    c.draw_inner_line.ensures ∙ ap (run S (g.DB.DrawingBackend.held x.back.now)) (flat_pixels x.color x.vertices.now c.in-Some.least c.in-Some.greatest b same)

pub sweep_axis-axis-requires : goal.sweep_axis-axis-requires
sweep_axis-axis-requires g c = record { near = corners_near c.args.vertices.now c.in-Some.least c.in-Some.greatest (boxed g (goal.at.sweep_axis-axis-requires g c).In-Some) }

pub overflow_sub-count : goal.overflow_sub-count
overflow_sub-count g c = (marked g (goal.at.overflow_sub-count g c).After-turn-2).fits

pub overflow_cast-count : goal.overflow_cast-count
overflow_cast-count g c = (marked g (goal.at.overflow_cast-count g c).After-turn-2).casts

pub slice_bounds-sweep-end : goal.slice_bounds-sweep-end
slice_bounds-sweep-end g c = (marked g (goal.at.slice_bounds-sweep-end g c).After-turn-2).among

pub sweep-requires-clause-near : goal.sweep-requires-clause-near
sweep-requires-clause-near g c = (area g (goal.at.sweep-requires-clause-near g c).After-turn-2).lines

pub sweep-requires-clause-held : goal.sweep-requires-clause-held
sweep-requires-clause-held g c = (area g (goal.at.sweep-requires-clause-held g c).After-turn-2).held

pub sweep-requires-clause-marks : goal.sweep-requires-clause-marks
sweep-requires-clause-marks g c = (marked g (goal.at.sweep-requires-clause-marks g c).After-turn-2).long

-- and any other is swept
pub returns : goal.returns
returns g c =
    let x = c.args in
    let b = boxed g (goal.at.returns g c).In-Some in
    let S = g.DB.DrawingBackend.surface in
    c.sweep.ensures ∙ ap (λ (ps : List Pixel). run S (g.DB.DrawingBackend.held x.back.now) (all ps)) (swept_pixels x.color x.vertices.now c.in-Some.least c.in-Some.greatest b (λ h. c.if-least-greatest.false (ap (of_z w32) h)) (λ h. c.if-least-greatest-2.false (ap (of_z w32) h)) c.sweep_axis-axis.result c.turn.result c.turn-2.result c.put_sides.new.pool c.sweep_axis-axis.ensures c.turn.ensures c.turn-2.ensures c.put_sides.ensures)
