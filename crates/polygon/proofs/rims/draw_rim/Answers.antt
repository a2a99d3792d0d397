use Rattle.std.proofs.Common.{◌≡◌, ap, arith, w32, SFits, of_z, rules}
use Rattle.std.proofs.lemmas.Result.{err_from_is_err_and}
use Rattle.std.proofs.lemmas.Int.{ints, to_z-of_z}
use Rattle.plotters_backend.specs.Run.{Outcome, all, run}
use Rattle.plotters_backend.proofs.Runs.{exits_with}
use Rattle.polygon.specs.Rims.{bare_by}
use Rattle.polygon.proofs.Standing.{sound_stands}
use Rattle.polygon.proofs.RimRuns.{Read, read_off, rim_stop, rim_laid}
use Rattle.polygon.proofs.rims.draw_rim.Given.{Over}
use Rattle.polygon.proofs.rims.draw_rim.Goals.{After-blend-below, After-draw_bare}
use Rattle.polygon.proofs.rims.draw_rim.Goals as goal

-- what was read off the edge
read : (g : Over) (c : After-blend-below g) → Read c.args.line.axis c.args.edge.now c.floor-floor.result c.ceil-ceil.result c.blend-below.result
read g c = read_off c.args.line.axis c.args.edge.now _ _ c.get_slave_pos.result _ c.requires.sound c.floor-floor.ensures c.ceil-ceil.ensures (λ h. c.if-floor-ceil.false (ap (of_z w32) h)) c.get_slave_pos.ensures.value c.blend-below.ensures

-- what the pixel at the floor laid
below : (g : Over) (c : After-draw_bare g) → ◌≡◌ {A = Outcome g.DB.DrawingBackend.surface} (c.draw_bare.result, g.DB.DrawingBackend.held c.draw_bare.new.back) (run g.DB.DrawingBackend.surface (g.DB.DrawingBackend.held c.args.back.now) (all (bare_by c.args.line.axis c.args.line.at c.args.line.low c.args.marks.now c.floor-floor.result c.mix.result)))
below g c = let fits : SFits w32 c.floor-floor.result = search rules in simp to_z-of_z at c.draw_bare.ensures

-- the floor lies among the marks
pub draw_bare-requires-clause-small : goal.draw_bare-requires-clause-small
draw_bare-requires-clause-small g c =
    let s = sound_stands c.args.edge.now c.requires.sound in
    let r = read g (goal.at.draw_bare-requires-clause-small g c).After-blend-below in
    omega (arith, ints)

-- and so does the ceil
pub draw_bare-requires-2 : goal.draw_bare-requires-2
draw_bare-requires-2 g c =
    let s = sound_stands c.args.edge.now c.requires.sound in
    let r = read g (goal.at.draw_bare-requires-2 g c).After-blend-below in
    record { from = omega (arith, ints); upto = omega (arith, ints); small = omega (arith, ints) }

-- a refused pixel at the floor ends the draw
pub returns-in_err-draw_bare : goal.returns-in_err-draw_bare
returns-in_err-draw_bare g c =
    let S = g.DB.DrawingBackend.surface in
    let at = goal.at.returns-in_err-draw_bare g c in
    let stop = rim_stop S _ _ _ _ c.args.color c.args.edge.now _ _ c.blend-below.result _ _ _ c.draw_bare.result _ (read g at.After-blend-below) c.mix.ensures (below g at.After-draw_bare) c.in_err-draw_bare.was in
    let p = err_from_is_err_and c.from_residual.result c.from_residual.ensures.1 in
    exits_with S c.from_residual.result _ _ p.0 _ p.1 p.2 stop

-- after an accepted one the draw is the pixel at the ceil
pub returns : goal.returns
returns g c =
    let at = goal.at.returns g c in
    let fits : SFits w32 c.ceil-ceil.result = search rules in
    rim_laid g.DB.DrawingBackend.surface _ _ _ _ c.args.color c.args.edge.now _ _ c.blend-below.result _ _ _ _ _ c.draw_bare.result c.draw_bare-2.result (read g at.After-blend-below) c.mix.ensures c.mix-2.ensures (below g at.After-draw_bare) c.in_ok-draw_bare.was (simp to_z-of_z at c.draw_bare-2.ensures)
