-- The slope of a line, and the height that it reaches step by step, as binary64 has them.
use Rattle.std.specs.Prelude.{ℕ, zero, suc, ℤ, Float}
use Rattle.std.specs.Float.{binary64}
use Rattle.std.specs.Float.Ieee.{add, div, of_int}

-- dy / dx, rounded once
abbrev pub slope : ℤ → ℤ → Float
slope dy dx = div binary64 (of_int binary64 dy) (of_int binary64 dx)

-- k times y += g
abbrev pub walk : ℕ → Float → Float → Float
walk zero y g = y
walk (suc k) y g = add binary64 (walk k y g) g
