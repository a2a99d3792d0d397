-- The window on a surface: a part of its cells, moved to the origin.
use Rattle.std.specs.Prelude.{ℕ, ◌-◌, min, max, Bool, cond, ◌||◌, ℤ, pos, negsuc, ◌+ℤ◌, Some, None, Option, ◌==◌}
use Rattle.plotters_backend.specs.Surface.{Surface, within}
use Rattle.window.specs.Layer.{Layer, layered}
use Rattle.window.specs.declared.frame.Frame.{Frame}

-- a number, or 0 where it is negative
abbrev pub natural : ℤ → ℕ
natural (pos n) = n
natural (negsuc n) = 0

-- where a window begins that is asked for at a, on a side of the given length
abbrev pub begins : ℕ → ℤ → ℕ
begins side a = min (natural a) (side - 1)

-- how far it reaches from there, asked for p
abbrev pub reaches : ℕ → ℤ → ℤ → ℕ
reaches side a p = min (max (natural p) 1) (side - begins side a)

-- the corner at which a window begins
abbrev pub corner_on : ℕ × ℕ → Frame → ℕ × ℕ
corner_on s f = (begins s.0 f.corner.0, begins s.1 f.corner.1)

-- whether a size has a side of 0
abbrev pub empty : ℕ × ℕ → Bool
empty s = s.0 == 0 || s.1 == 0

-- the size that a window shows of a surface of size s
abbrev pub shown : ℕ × ℕ → Frame → ℕ × ℕ
shown s f = cond (empty s) (0, 0) (reaches s.0 f.corner.0 f.extent.0, reaches s.1 f.corner.1 f.extent.1)

-- a place, shifted by the corner
abbrev pub shifted : ℕ × ℕ → Frame → ℤ × ℤ → ℤ × ℤ
shifted s f p = (p.0 +ℤ pos (corner_on s f).0, p.1 +ℤ pos (corner_on s f).1)

-- where a place of the window lies on a surface of size s, if it lies in the window
abbrev pub passed : ℕ × ℕ → Frame → ℤ × ℤ → Option (ℤ × ℤ)
passed s f p = cond (within (shown s f) p) (Some (shifted s f p)) None

-- the window as a layer
abbrev pub window_layer : Frame → Layer
window_layer f = record { size = λ s. shown s f; place = λ s p. passed s f p }

-- the surface that a window makes of a surface
abbrev pub windowed : {E : Type 0} → Surface E → Surface E
windowed S = layered window_layer S
