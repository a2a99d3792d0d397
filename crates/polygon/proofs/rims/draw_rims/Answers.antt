use Rattle.std.proofs.lemmas.Result.{err_from_is_err_and}
use Rattle.plotters_backend.proofs.Runs.{exits_with}
use Rattle.polygon.proofs.RimRuns.{left_more, left_stop}
use Rattle.polygon.proofs.rims.draw_rims.Goals as goal

-- after an edge
pub loop-edge-preserved : goal.loop-edge-preserved
loop-edge-preserved g c =
    left_more g.DB.DrawingBackend.surface _ c.args.edges.now c.loop-edge.edge-index _ _ _ _ c.draw_rim.result c.loop-edge-test.true c.loop-edge.invariant c.draw_rim.ensures c.in_ok-draw_rim.was

-- an edge whose pixels were refused ends the draw
pub returns-in_err-draw_rim : goal.returns-in_err-draw_rim
returns-in_err-draw_rim g c =
    let S = g.DB.DrawingBackend.surface in
    let stop = left_stop S _ c.args.edges.now c.loop-edge.edge-index _ _ _ _ c.draw_rim.result _ c.loop-edge-test.true c.loop-edge.invariant c.draw_rim.ensures c.in_err-draw_rim.was in
    let p = err_from_is_err_and c.from_residual.result c.from_residual.ensures.1 in
    exits_with S c.from_residual.result _ _ p.0 _ p.1 p.2 stop
