-- Worked examples on a light sheet of 8 by 8, in opaque black.
use Rattle.std.specs.Prelude.{◌≡◌, ℕ, List, [], ◌∷◌, pos}
use Rattle.plotters_backend.specs.Color.{one}
use Rattle.plotters_backend.specs.declared.style.BackendColor.{BackendColor}
use Rattle.dots.specs.Dots.{pair, pairs_of}
use Rattle.dots.specs.Grid.{light}
use Rattle.dots.specs.declared.pair.Pair.{Pair}
use Rattle.dot_grid.specs.declared.draw.Draw.{Draw}
use Rattle.dot_grid.specs.declared.draw.Draw.TheVariants.{Pixel, Line}
use Rattle.dot_grid.specs.Replay.{replayed}

abbrev pub black : BackendColor
black = record { alpha = one; rgb = (0, 0, 0) }

-- the pairs that some draws leave
abbrev pub leaves : List Draw → List Pair
leaves ds = pairs_of (replayed [] (light (8, 8)) ds).1.dots

-- a black dot in the first row
abbrev pub dot : ℕ → Draw
dot x = Pixel (pos x, pos 0) black

pub record WorkedDots : Type 0 where
  -- the line from (0, 0) to (3, 3)
  pub diagonal : leaves (Line (pos 0, pos 0) (pos 3, pos 3) black ∷ []) ≡ pair 0 1 ∷ pair 9 1 ∷ pair 18 1 ∷ pair 27 1 ∷ []
  -- dots 0, 2 and 1 in turn
  pub dot_0 : leaves (dot 0 ∷ []) ≡ pair 0 1 ∷ []
  pub dots_0_2 : leaves (dot 0 ∷ dot 2 ∷ []) ≡ pair 0 1 ∷ pair 2 1 ∷ []
  pub dots_0_2_1 : leaves (dot 0 ∷ dot 2 ∷ dot 1 ∷ []) ≡ pair 0 3 ∷ []
