-- Colours.
use Rattle.std.specs.Prelude.{from_bits, Float}
use Rattle.std.specs.Float.{binary64}
use Rattle.std.specs.Float.Ieee.{mul}
use Rattle.plotters_backend.specs.declared.style.BackendColor.{BackendColor}

-- 0.0 and 1.0
abbrev pub zero : Float
zero = from_bits binary64 0

abbrev pub one : Float
one = from_bits binary64 0x3ff0000000000000

-- a colour with its alpha multiplied
abbrev pub mixed : BackendColor → Float → BackendColor
mixed c a = record { alpha = mul binary64 c.alpha a; rgb = c.rgb }

-- the colour at alpha 1
abbrev pub solid : BackendColor → BackendColor
solid c = record { alpha = one; rgb = c.rgb }
