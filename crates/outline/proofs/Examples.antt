-- The definitions on small outlines.
use Rattle.std.proofs.Common.{◌≡◌, ℕ, true, false, List, [], ◌∷◌, map, pos, refl}
use lib.Ieee as Ieee
use Rattle.plotters_backend.specs.Color.{one}
use Rattle.plotters_backend.specs.Run.{Pixel}
use Rattle.plotters_backend.specs.declared.style.BackendColor.{BackendColor}
use Rattle.outline.specs.Outline.{Point, Outline, on_side}
use Rattle.outline.specs.Sweep.{inside, near_side}
use Rattle.outline.specs.Filling.{swept}
use Rattle.outline.specs.Mixing.{mixes}

-- an opaque black
black : BackendColor
black = record { alpha = one; rgb = (0, 0, 0) }

-- the point (x, y)
at : ℕ → ℕ → Point
at x y = (pos x, pos y)

-- where the pixels of a fill lie, in their order
places : Outline → List Point
places o = map (λ (q : Pixel). q.0) (swept mixes black o)

-- a square of side 4
square : Outline
square = at 0 0 ∷ at 4 0 ∷ at 4 4 ∷ at 0 4 ∷ []

-- the last row stays bare
square_places :
    places square ≡ at 0 0 ∷ at 1 0 ∷ at 2 0 ∷ at 3 0 ∷ at 4 0 ∷ at 0 1 ∷ at 1 1 ∷ at 2 1 ∷ at 3 1 ∷ at 4 1 ∷ at 0 2 ∷ at 1 2 ∷ at 2 2 ∷ at 3 2 ∷ at 4 2 ∷ at 0 3 ∷ at 1 3 ∷ at 2 3 ∷ at 3 3 ∷ at 4 3 ∷ []
unfolding places square at black Ieee.of_bits Ieee.eq
square_places = refl

-- half of the square
triangle : Outline
triangle = at 0 0 ∷ at 4 0 ∷ at 0 4 ∷ []

-- every sloping place is whole, so no cell is bare
triangle_places : places triangle ≡ at 0 0 ∷ at 1 0 ∷ at 2 0 ∷ at 3 0 ∷ at 4 0 ∷ at 0 1 ∷ at 1 1 ∷ at 2 1 ∷ at 3 1 ∷ at 0 2 ∷ at 1 2 ∷ at 2 2 ∷ at 0 3 ∷ at 1 3 ∷ []
unfolding places triangle at black Ieee.of_bits Ieee.eq
triangle_places = refl

-- wider than tall, with a side at 0, 2/3 and 4/3
wedge : Outline
wedge = at 0 0 ∷ at 3 2 ∷ at 3 0 ∷ []

-- swept by columns, with bare cells beside the side
wedge_places : places wedge ≡ at 0 0 ∷ at 1 0 ∷ at 1 1 ∷ at 2 0 ∷ at 2 1 ∷ at 2 2 ∷ []
unfolding places wedge at black Ieee.of_bits Ieee.eq
wedge_places = refl

-- a cell strictly inside, one on a side, and one near a side
inside_wedge : (inside wedge (at 2 1) ≡ true) × (inside wedge (at 2 0) ≡ false) × (on_side wedge (at 2 0) ≡ true) × (inside wedge (at 2 2) ≡ false) × (near_side wedge (at 2 2) ≡ true) × (near_side wedge (at 2 3) ≡ false)
unfolding wedge at
inside_wedge = (refl, refl, refl, refl, refl, refl)
