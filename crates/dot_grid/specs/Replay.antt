-- Draws in turn on a pile over a grid of dots.
use Rattle.std.specs.Prelude.{List, [], ◌∷◌}
use Rattle.plotters_backend.specs.Run.{Answer, Outcome, run}
use Rattle.window.specs.Layer.{Layer}
use Rattle.dots.specs.Grid.{Grid, grid, sides}
use Rattle.dots.specs.declared.fault.SheetFault.{SheetFault}
use Rattle.dot_grid.specs.declared.draw.Draw.{Draw}
use Rattle.dot_grid.specs.Draws.{drawing}
use Rattle.dot_grid.specs.Piles.{fallen, seen}

-- one draw: its pixels, by the size that the pile shows, fall through the layers to the grid
abbrev pub drawn : List Layer → Grid → Draw → Outcome grid
drawn ls g d = run grid g (fallen (sides g) ls (drawing (seen (sides g) ls) d))

-- the answers, and the grid after the last draw
abbrev pub replayed : List Layer → Grid → List Draw → List (Answer SheetFault) × Grid
replayed ls g [] = ([], g)
replayed ls g (d ∷ ds) = ((drawn ls g d).0 ∷ (replayed ls (drawn ls g d).1 ds).0, (replayed ls (drawn ls g d).1 ds).1)
