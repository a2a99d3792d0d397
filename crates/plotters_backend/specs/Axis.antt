-- Turning points to an axis.
use Rattle.std.specs.Prelude.{ℤ}
use Rattle.plotters_backend.specs.declared.axis.Axis.{Axis}
use Rattle.plotters_backend.specs.declared.axis.Axis.TheVariants.{Columns, Rows}

-- a point with its coordinate along the axis first, and back again
abbrev pub turned : Axis → ℤ × ℤ → ℤ × ℤ
turned Columns p = p
turned Rows p = (p.1, p.0)
