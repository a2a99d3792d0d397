-- The draws.
use Rattle.std.specs.Prelude.{ℕ, [], ◌∷◌}
use Rattle.plotters_backend.specs.Run.{Drawing, all}
use Rattle.rasterizer.specs.Line.{line}
use Rattle.dot_grid.specs.declared.draw.Draw.{Draw}
use Rattle.dot_grid.specs.declared.draw.Draw.TheVariants.{Pixel, Line}

-- what a surface gets of a draw, by the size that it shows: neither of these two heeds it
abbrev pub drawing : ℕ × ℕ → Draw → Drawing
drawing s (Pixel p c) = all ((p, c) ∷ [])
drawing s (Line p q c) = line p q c
