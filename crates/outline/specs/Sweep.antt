-- How an outline is swept: its axis, its sides, which of them are live, and where they stand.
use Rattle.std.specs.Prelude.{ℕ, Bool, cond, not, ◌&&◌, List, map, ℤ, pos, ◌+ℤ◌, ◌-ℤ◌, ◌*ℤ◌, count_by, int_le, int_lt, unsigned_abs}
use Rattle.plotters_backend.specs.declared.axis.Axis.{Axis}
use Rattle.plotters_backend.specs.declared.axis.Axis.TheVariants.{Columns, Rows}
use Rattle.binary64.specs.Quotient.{floor_over, ceil_over}
use Rattle.outline.specs.declared.sweep.Side.{Side}
use Rattle.plotters_backend.specs.Axis.{turned}
use Rattle.outline.specs.Lists.{odd, any}
use Rattle.outline.specs.Outline.{Point, Outline, flat, width, height, joined, same_z, on_side}

-- columns if the box is strictly wider than tall; a flat outline counts by rows
abbrev pub axis : Outline → Axis
axis o = cond (flat o) Rows (cond (int_lt (height o) (width o)) Columns Rows)

-- the side between two corners, turned round so that m0 ≤ m1
abbrev pub side : Point × Point → Side
side (p, q) = cond (int_le p.0 q.0) (record { m0 = p.0; s0 = p.1; m1 = q.0; s1 = q.1 }) (record { m0 = q.0; s0 = q.1; m1 = p.0; s1 = p.1 })

-- the sides in the outline's order
abbrev pub sides : Axis → Outline → List Side
sides a o = map (λ j. side (turned a j.0, turned a j.1)) (joined o)

-- a side is live at m from its m0 on, up to and without its m1
abbrev pub live : ℤ → Side → Bool
live m e = int_le e.m0 m && int_lt m e.m1

-- the place at m is `over` / `span`
abbrev pub span : Side → ℤ
span e = e.m1 -ℤ e.m0

abbrev pub over : Side → ℤ → ℤ
over e m = e.s0 *ℤ span e +ℤ (e.s1 -ℤ e.s0) *ℤ (m -ℤ e.m0)

-- the place is smaller than c
abbrev pub place_below : ℤ → ℤ → Side → Bool
place_below m c e = int_lt (over e m) (c *ℤ span e)

-- the place is c
abbrev pub place_at : ℤ → ℤ → Side → Bool
place_at m c e = same_z (over e m) (c *ℤ span e)

-- the place is less than 1 from c
abbrev pub place_near : ℤ → ℤ → Side → Bool
place_near m c e = int_lt (over e m) ((c +ℤ pos 1) *ℤ span e) && int_lt ((c -ℤ pos 1) *ℤ span e) (over e m)

-- the place of a side at m, rounded down and rounded up
abbrev pub floor_at : ℤ → Side → ℤ
floor_at m e = floor_over (over e m) (unsigned_abs (span e))

abbrev pub ceil_at : ℤ → Side → ℤ
ceil_at m e = ceil_over (over e m) (unsigned_abs (span e))

-- how many sides live at m have a place smaller than c
abbrev pub passed : List Side → ℤ → ℤ → ℕ
passed es m c = count_by (λ e. live m e && place_below m c e) es

-- on no side, and past an odd number of sides
abbrev pub inside : Outline → Point → Bool
inside o p = not (on_side o p) && odd (passed (sides (axis o) o) (turned (axis o) p).0 (turned (axis o) p).1)

-- closer than one cell to a live side on its sweep line
abbrev pub near_side : Outline → Point → Bool
near_side o p = any (λ e. live (turned (axis o) p).0 e && place_near (turned (axis o) p).0 (turned (axis o) p).1 e) (sides (axis o) o)
