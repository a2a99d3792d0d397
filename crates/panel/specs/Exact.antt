-- The weight of an alpha over whole numbers alone.
use Rattle.std.specs.Prelude.{◌≡◌, ℕ, ◌*◌, ◌/◌, min, cond, T, Float}
use Rattle.std.specs.Float.Ieee as Ieee
use Rattle.std.specs.Float.{nan, inf, fin, binary64}
use Rattle.panel.specs.Blend.{weight}

-- 256 times alpha, cut to a whole number and held between 0 and 256
abbrev pub exact_weight : Float → ℕ
exact_weight nan = 0
exact_weight (inf s) = cond s 0 256
exact_weight (fin s m e) = cond s 0 (min (m * Ieee.up e * 256 / Ieee.down e) 256)

-- no rounding shows in the weight of a number that binary64 holds
abbrev pub WeightsAreExact : Type 0
WeightsAreExact = (a : Float) → T (Ieee.fits binary64 a) → weight a ≡ exact_weight a
