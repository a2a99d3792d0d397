use Rattle.polygon.specs.Rims.{rim}
use Rattle.polygon.proofs.RimRuns.{Left}
use Rattle.polygon.proofs.rims.draw_rims.Given as goal

abbrev pub invariant-loop-edge : goal.invariant-loop-edge
invariant-loop-edge g l = Left g.DB.DrawingBackend.surface (rim l.line.axis l.line.at l.line.low l.marks l.color) l.edges l.edge-index (g.DB.DrawingBackend.held l.initial.back) (g.DB.DrawingBackend.held l.back)
