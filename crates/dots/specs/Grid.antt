-- The grid of dots that a sheet means. A dot is dark where it is `true`.
use Rattle.std.specs.Prelude.{ℕ, ◌+◌, ◌*◌, Bool, false, cond, not, ◌&&◌, List, [], length, replicate, ℤ, Some, None, Option, ◌==◌, nat_le, nat_lt, slice_index_or, slice_set, unsigned_abs, Float}
use Rattle.std.specs.Float.Ieee as Ieee
use Rattle.std.specs.Float.{binary64}
use Rattle.plotters_backend.specs.Sizes.{index, proper}
use Rattle.plotters_backend.specs.Surface.{Surface, within}
use Rattle.plotters_backend.specs.declared.style.BackendColor.{BackendColor}
use Rattle.dots.specs.Dots.{pairs_of}
use Rattle.dots.specs.declared.fault.SheetFault.{SheetFault}
use Rattle.dots.specs.declared.fault.SheetFault.TheVariants.{Full}

-- width and height, and the dots row after row
pub record Grid : Type 0 where
  pub size : ℕ × ℕ
  pub dots : List Bool

-- ---- sizes

-- all light; 0 by 0 for a size that is not proper
abbrev pub light : ℕ × ℕ → Grid
light s = cond (proper s) (record { size = s; dots = replicate (s.0 * s.1) false }) (record { size = (0, 0); dots = [] })

-- whether there is one dot for each place, and no side above 16,384: so it is with every sheet
abbrev pub whole : Grid → Bool
whole g = (nat_le g.size.0 16384 && nat_le g.size.1 16384) && length g.dots == g.size.0 * g.size.1

-- the size that a grid shows: that of a grid that is not whole counts as 0 by 0
abbrev pub sides : Grid → ℕ × ℕ
sides g = cond (whole g) g.size (0, 0)

-- ---- places

-- the offset of a place of the grid
abbrev pub offset : Grid → ℕ → ℕ → ℕ
offset g x y = index g.size x y

abbrev pub dot : Grid → ℕ → ℕ → Bool
dot g x y = slice_index_or g.dots (offset g x y) false

-- of any point: none outside the grid
abbrev pub offset_at : Grid → ℤ × ℤ → Option ℕ
offset_at g p = cond (within (sides g) p) (Some (offset g (unsigned_abs p.0) (unsigned_abs p.1))) None

abbrev pub dot_at : Grid → ℤ × ℤ → Option Bool
dot_at g p = cond (within (sides g) p) (Some (dot g (unsigned_abs p.0) (unsigned_abs p.1))) None

-- ---- colours

abbrev pub half : Float
half = Ieee.of_bits binary64 0x3fe0000000000000

-- how light a colour is, in thousandths of a channel's unit
abbrev pub luma : BackendColor → ℕ
luma c = 299 * c.rgb.0 + 587 * c.rgb.1 + 114 * c.rgb.2

-- A colour of alpha at least 0.5 makes a dot dark or light; any other leaves it.
abbrev pub ink_of : BackendColor → Option Bool
ink_of c = cond (Ieee.le half c.alpha) (Some (nat_lt (luma c) 127500)) None

abbrev pub inked : Bool → BackendColor → Bool
inked d c = elim (ink_of c) [ None ↦ d | Some b ↦ b ]

-- ---- the surface

-- the dots with one pixel laid
abbrev pub dotted : Grid → ℤ × ℤ → BackendColor → List Bool
dotted g p c = slice_set g.dots (offset g (unsigned_abs p.0) (unsigned_abs p.1)) (inked (dot g (unsigned_abs p.0) (unsigned_abs p.1)) c)

-- whether some dots need more than 4,096 pairs
abbrev pub crowded : List Bool → Bool
crowded ds = nat_lt 4096 (length (pairs_of ds))

-- a pixel in the grid is refused exactly if it would leave more than 4,096 pairs
abbrev pub fault : Grid → ℤ × ℤ → BackendColor → Option SheetFault
fault g p c = cond (within (sides g) p && crowded (dotted g p c)) (Some Full) None

-- and otherwise that one dot follows the colour
abbrev pub inlaid : Grid → ℤ × ℤ → BackendColor → Grid
inlaid g p c = cond (within (sides g) p && not (crowded (dotted g p c))) (record { size = g.size; dots = dotted g p c }) g

abbrev pub grid : Surface SheetFault
grid = record { Held = Grid; Cell = Bool; size = sides; cell = dot; rule = inked; refuses = fault; laid = inlaid }
