use Rattle.std.proofs.Common.{filter}
use Rattle.outline.specs.Filling.{sweep_line}
use Rattle.outline.specs.Sweep.{live}
use Rattle.polygon.specs.Rims.{mixes}
use Rattle.polygon.proofs.Fills.{LinesLeft}
use Rattle.polygon.proofs.sweep.sweep.Given as goal

abbrev pub invariant-loop-m : goal.invariant-loop-m
invariant-loop-m g l = LinesLeft g.DB.DrawingBackend.surface (λ m. sweep_line mixes l.axis l.color l.least.1 l.greatest.1 (filter (live m) l.sides) m) l.least.0 l.greatest.0 l.m (g.DB.DrawingBackend.held l.initial.back) (g.DB.DrawingBackend.held l.back)
