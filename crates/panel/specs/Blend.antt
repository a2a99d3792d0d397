-- What a colour makes of a cell.
use Rattle.std.specs.Prelude.{ℕ, ◌+◌, ◌-◌, ◌*◌, ◌/◌, cond, Float}
use Rattle.std.specs.Float.Ieee as Ieee
use Rattle.std.specs.Float.{binary64}
use Rattle.plotters_backend.specs.Color.{zero, one}
use Rattle.plotters_backend.specs.declared.style.BackendColor.{BackendColor}

-- 256.0
abbrev pub scale : Float
scale = Ieee.of_bits binary64 0x4070000000000000

-- 256 from alpha 1 up, else the whole part of alpha times 256; 0 for an alpha that is not above 0 or not a number
abbrev pub weight : Float → ℕ
weight a = cond (Ieee.le one a) 256 (cond (Ieee.lt zero a) (Ieee.to_unsigned 32 (Ieee.mul binary64 a scale)) 0)

-- a channel laid over another with a weight, rounded down
abbrev pub channel : ℕ → ℕ → ℕ → ℕ
channel k old new = (old * (256 - k) + new * k) / 256

-- red, green and blue, each laid over its own with the colour's weight
abbrev pub blend : ℕ × ℕ × ℕ → BackendColor → ℕ × ℕ × ℕ
blend t c = (channel (weight c.alpha) t.0 c.rgb.0, channel (weight c.alpha) t.1 c.rgb.1, channel (weight c.alpha) t.2 c.rgb.2)
