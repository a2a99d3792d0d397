-- The whole draw from the start is what is left of it from here.
use Rattle.std.proofs.Common.{◌≡◌, drop}
use Rattle.plotters_backend.specs.Run.{all, run}
use Rattle.panel.proofs.loan.draw_pixels.Given as goal

abbrev pub invariant-loop-pixel : goal.invariant-loop-pixel
invariant-loop-pixel g l = run g.DB.DrawingBackend.surface (g.DB.DrawingBackend.held l.initial.back) (all l.pixels) ≡ run g.DB.DrawingBackend.surface (g.DB.DrawingBackend.held l.back) (all (drop l.pixel-index l.pixels))
