use Rattle.polygon.proofs.WalkTurns.{Walked}
use Rattle.polygon.proofs.walk.lay_runs.Given as goal

abbrev pub invariant-loop-mark : goal.invariant-loop-mark
invariant-loop-mark g l = Walked g.DB.DrawingBackend.surface l.line.axis l.line.at l.color l.first l.initial.marks (g.DB.DrawingBackend.held l.initial.back) l.mark-index l.odd l.hand l.cell l.marks (g.DB.DrawingBackend.held l.back)
