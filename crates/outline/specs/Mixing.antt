-- By what a live side's two pixels are mixed.
use Rattle.std.specs.Prelude.{ℤ, ◌-ℤ◌, ◌*ℤ◌, Float}
use Rattle.std.specs.Float.Ieee as Ieee
use Rattle.std.specs.Float.{floor, ceil, binary64}
use Rattle.outline.specs.declared.sweep.Side.{Side}
use Rattle.plotters_backend.specs.declared.axis.Axis.TheVariants.{Columns, Rows}
use Rattle.outline.specs.Sweep.{span}
use Rattle.outline.specs.Filling.{Mixes}

-- the binary64 place: the quotient is rounded, then the sum
abbrev pub place64 : ℤ → Side → Float
place64 m e = Ieee.add binary64 (Ieee.of_int binary64 e.s0) (Ieee.div binary64 (Ieee.of_int binary64 ((e.s1 -ℤ e.s0) *ℤ (m -ℤ e.m0))) (Ieee.of_int binary64 (span e)))

-- at floor by ceil minus place; at ceil by place minus floor in column sweeps, by floor minus place in row sweeps
abbrev pub mixes : Mixes
mixes Columns m e = (Ieee.sub binary64 (ceil binary64 (place64 m e)) (place64 m e), Ieee.sub binary64 (place64 m e) (floor binary64 (place64 m e)))
mixes Rows m e = (Ieee.sub binary64 (ceil binary64 (place64 m e)) (place64 m e), Ieee.sub binary64 (floor binary64 (place64 m e)) (place64 m e))
