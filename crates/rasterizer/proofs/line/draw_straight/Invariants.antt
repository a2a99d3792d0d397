use Rattle.rasterizer.proofs.Cells.{CellsLeft}
use Rattle.rasterizer.proofs.line.draw_straight.Given as goal

abbrev pub invariant-loop-x : goal.invariant-loop-x
invariant-loop-x g l = CellsLeft g.DB.DrawingBackend.surface l.axis l.row l.first l.last l.color l.x (g.DB.DrawingBackend.held l.initial.back) (g.DB.DrawingBackend.held l.back)
