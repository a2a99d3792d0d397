use Rattle.rasterizer.proofs.Steps.{StepsLeft}
use Rattle.rasterizer.proofs.line.draw_sloped.Given as goal

abbrev pub invariant-loop-x : goal.invariant-loop-x
invariant-loop-x g l = StepsLeft g.DB.DrawingBackend.surface l.axis l.color l.initial.x l.x-end l.initial.y l.grad l.x l.y (g.DB.DrawingBackend.held l.initial.back) (g.DB.DrawingBackend.held l.back)
