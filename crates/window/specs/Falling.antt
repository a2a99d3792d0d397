-- What of a draw on a layer reaches the surface below.
use Rattle.std.specs.Prelude.{ℕ, List, [], ◌∷◌, ℤ, Some, None, Option}
use Rattle.plotters_backend.specs.Run.{Drawing, Pixel}
use Rattle.window.specs.Layer.{Layer}

-- the pixels, each moved to where it lies below, or dropped
abbrev pub moved : (ℤ × ℤ → Option (ℤ × ℤ)) → List Pixel → List Pixel
moved f [] = []
moved f (p ∷ ps) = elim (f p.0) [ None ↦ moved f ps | Some q ↦ (q, p.1) ∷ moved f ps ]

-- the draw that the surface below gets, where its size is s
abbrev pub through : Layer → ℕ × ℕ → Drawing → Drawing
through L s d = record { pixels = moved (L.place s) d.pixels; end = d.end }
