-- The pixels of edges whose place is not whole.
use Rattle.std.specs.Prelude.{ℕ, cond, List, [], ◌∷◌, ◌++◌, ℤ, ◌==◌, slice_index, Float}
use Rattle.std.specs.Float.Ieee.{sub}
use Rattle.std.specs.Float.{floor, ceil, binary64}
use Rattle.plotters_backend.specs.Color.{mixed}
use Rattle.plotters_backend.specs.Run.{Pixel}
use Rattle.plotters_backend.specs.declared.style.BackendColor.{BackendColor}
use Rattle.edges.specs.declared.side.Edge.{Edge}
use Rattle.edges.specs.Side.{place64, floor_at, ceil_at}
use Rattle.outline.specs.Filling.{Mixes}
use Rattle.outline.specs.Outline.{same_z}
use Rattle.plotters_backend.specs.Axis.{turned}
use Rattle.plotters_backend.specs.declared.axis.Axis.{Axis}
use Rattle.plotters_backend.specs.declared.axis.Axis.TheVariants.{Columns, Rows}
use Rattle.polygon.specs.Live.{edge_at}
use Rattle.polygon.specs.Marking.{index_of}

-- By what the pixels at floor and at ceil of a binary64 place are mixed: at floor by ceil minus place; at ceil by place minus floor in column sweeps, by floor minus place in row sweeps.
abbrev pub blends : Axis → Float → Float × Float
blends Columns p = (sub binary64 (ceil binary64 p) p, sub binary64 p (floor binary64 p))
blends Rows p = (sub binary64 (ceil binary64 p) p, sub binary64 (floor binary64 p) p)

-- the same of a live side
abbrev pub mixes : Mixes
mixes a m e = blends a (place64 (edge_at m e))

-- a pixel at the cell s, unless its mark, counted from low, is 1 for a covered cell
abbrev pub bare_by : Axis → ℤ → ℤ → List ℕ → ℤ → BackendColor → List Pixel
bare_by a m low ms s c = cond (slice_index ms (index_of low s) == 0) ((turned a (m, s), c) ∷ []) []

-- the pixels at floor and at ceil of a place that is not whole
abbrev pub rim : Axis → ℤ → ℤ → List ℕ → BackendColor → Edge → List Pixel
rim a m low ms c e = cond (same_z (floor_at e) (ceil_at e)) [] (bare_by a m low ms (floor_at e) (mixed c (blends a (place64 e)).0) ++ bare_by a m low ms (ceil_at e) (mixed c (blends a (place64 e)).1))
