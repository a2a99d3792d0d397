-- The pixels of a line of width 1.
use Rattle.std.specs.Prelude.{ℕ, ◌+◌, ◌≤◌, Bool, cond, ◌&&◌, ◌||◌, List, [], ◌∷◌, ◌++◌, ℤ, pos, ◌+ℤ◌, ◌-ℤ◌, int_le, int_lt, nat_lt, unsigned_abs, Float}
use Rattle.std.specs.Float.Ieee as Ieee
use Rattle.std.specs.Float.Ieee.{add, sub, of_int}
use Rattle.std.specs.Float.{floor, binary64}
use Rattle.std.specs.List.{range_with_len, flat_map}
use Rattle.std.specs.Int.{int_min, int_max}
use Rattle.binary64.specs.Range.{floor_z}
use Rattle.binary64.specs.Slope.{slope, walk}
use Rattle.plotters_backend.specs.Axis.{turned}
use Rattle.plotters_backend.specs.Color.{zero, one, mixed}
use Rattle.plotters_backend.specs.Run.{Drawing, Pixel, all, refused}
use Rattle.plotters_backend.specs.declared.axis.Axis.{Axis}
use Rattle.plotters_backend.specs.declared.axis.Axis.TheVariants.{Columns, Rows}
use Rattle.plotters_backend.specs.declared.error.Refusal.TheVariants.{Far}
use Rattle.plotters_backend.specs.declared.style.BackendColor.{BackendColor}
use Rattle.rasterizer.specs.Judge.{far, near}

-- both numbers lie within 32,767 of 0
abbrev pub Near : ℤ × ℤ → Type 0
Near p = (unsigned_abs p.0 ≤ 32767) × (unsigned_abs p.1 ≤ 32767)

-- what f gives at each k below n, in turn
abbrev pub in_turn : ℕ → (ℕ → List Pixel) → List Pixel
in_turn n f = flat_map f (range_with_len 0 n)

-- ---- upright and level lines

-- the cells of a row from the first to the last, in rising order
abbrev pub cells : Axis → ℤ → ℤ → ℤ → BackendColor → List Pixel
cells axis row first last c = in_turn (unsigned_abs (last -ℤ first) + 1) (λ k. (turned axis (first +ℤ pos k, row), c) ∷ [])

-- from the lesser of two ends to the greater
abbrev pub straight : Axis → ℤ → ℤ × ℤ → BackendColor → List Pixel
straight axis row ends c = cells axis row (int_min ends.0 ends.1) (int_max ends.0 ends.1) c

-- ---- slanting lines

-- the pixel at floor of y, mixed by 1 + floor - y, and the one after it, mixed by y - floor
abbrev pub blended : Axis → BackendColor → ℤ → Float → List Pixel
blended axis c x y = (turned axis (x, floor_z y), mixed c (sub binary64 (add binary64 one (floor binary64 y)) y)) ∷ (turned axis (x, floor_z y +ℤ pos 1), mixed c (sub binary64 y (floor binary64 y))) ∷ []

-- the steps from the first end to the one before the last: y starts at the first end's and grows by the rounded gradient
abbrev pub sloped : Axis → ℤ × ℤ → ℤ × ℤ → BackendColor → List Pixel
sloped axis p q c = in_turn (unsigned_abs (q.0 -ℤ p.0)) (λ k. blended axis c (p.0 +ℤ pos k) (walk k (of_int binary64 p.1) (slope (q.1 -ℤ p.1) (q.0 -ℤ p.0))))

-- and then the last end, unmixed
abbrev pub rising : Axis → ℤ × ℤ → ℤ × ℤ → BackendColor → List Pixel
rising axis p q c = sloped axis p q c ++ (turned axis q, c) ∷ []

-- whether a line is taller than wide
abbrev pub steeper : ℤ × ℤ → ℤ × ℤ → Bool
steeper p q = nat_lt (unsigned_abs (p.0 -ℤ q.0)) (unsigned_abs (p.1 -ℤ q.1))

-- the longer axis: rows if the line is taller than wide, else columns
abbrev pub along : ℤ × ℤ → ℤ × ℤ → Axis
along p q = cond (steeper p q) Rows Columns

-- the ends in rising order
abbrev pub ordered : Axis → ℤ × ℤ → ℤ × ℤ → BackendColor → List Pixel
ordered axis p q c = cond (int_lt q.0 p.0) (rising axis q p c) (rising axis p q c)

-- with the longer axis first
abbrev pub slanting : ℤ × ℤ → ℤ × ℤ → BackendColor → List Pixel
slanting p q c = ordered (along p q) (turned (along p q) p) (turned (along p q) q) c

-- ---- any line

abbrev pub equal : ℤ → ℤ → Bool
equal a b = int_le a b && int_le b a

-- a line of width 1 between any two points; alpha equal to 0.0, of either sign, lays nothing
abbrev pub thin : ℤ × ℤ → ℤ × ℤ → BackendColor → List Pixel
thin p q c =
    cond (Ieee.eq c.alpha zero) []
    (cond (equal p.0 q.0) (straight Rows p.0 (p.1, q.1) c)
    (cond (equal p.1 q.1) (straight Columns p.1 (p.0, q.0) c)
    (slanting p q c)))

-- the same as a draw: refused, for any alpha, where a coordinate is too far from 0
abbrev pub line : ℤ × ℤ → ℤ × ℤ → BackendColor → Drawing
line p q c = cond (far p || far q) (refused Far) (all (thin p q c))

-- the line that other draws are built on: refused where a number of an end does not lie within 32,767 of 0
abbrev pub inner_line : ℤ × ℤ → ℤ × ℤ → BackendColor → Drawing
inner_line p q c = cond (near p && near q) (all (thin p q c)) (refused Far)
