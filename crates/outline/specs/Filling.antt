-- The pixels of a fill, and what a fill promises.
use Rattle.std.specs.Prelude.{◌≡◌, ℕ, Bool, true, false, cond, ◌||◌, List, [], ◌∷◌, ◌++◌, map, ℤ, pos, Ok, count_by, filter, ◌≢◌, Float}
use Rattle.std.specs.Float.Ieee as Ieee
use Rattle.plotters_backend.specs.Color.{zero, one, mixed}
use Rattle.plotters_backend.specs.Surface.{Surface, within}
use Rattle.plotters_backend.specs.Run.{Pixel, Outcome, all, run}
use Rattle.plotters_backend.specs.declared.style.BackendColor.{BackendColor}
use Rattle.outline.specs.Lists.{odd, any, in_turn, from_to}
use Rattle.outline.specs.Outline.{Point, Outline, least_corner, greatest_corner, flat, on_side}
use Rattle.plotters_backend.specs.declared.axis.Axis.{Axis}
use Rattle.outline.specs.declared.sweep.Side.{Side}
use Rattle.outline.specs.Sweep.{axis, sides, live, place_below, place_at, floor_at, ceil_at, inside, near_side}
use Rattle.plotters_backend.specs.Axis.{turned}

-- by what a live side at m mixes its pixel at floor and its pixel at ceil
abbrev pub Mixes : Type 0
Mixes = Axis → ℤ → Side → Float × Float

-- a cell of the sweep line m is covered, by the sides that are live there
abbrev pub covered : List Side → ℤ → ℤ → Bool
covered es m c = odd (count_by (place_below m c) es) || any (place_at m c) es

-- a pixel at a cell that is not covered
abbrev pub bare : Axis → List Side → ℤ → ℤ → BackendColor → List Pixel
bare a es m s c = cond (covered es m s) [] ((turned a (m, s), c) ∷ [])

-- the pixels of a live side: at floor, then at ceil
abbrev pub edge : Mixes → Axis → BackendColor → List Side → ℤ → Side → List Pixel
edge mix a c es m e = bare a es m (floor_at m e) (mixed c (mix a m e).0) ++ bare a es m (ceil_at m e) (mixed c (mix a m e).1)

-- cells of the sweep line m in one colour
abbrev pub cells_in : Axis → ℤ → BackendColor → List ℤ → List Pixel
cells_in a m c ss = map (λ s. (turned a (m, s), c)) ss

-- the covered cells from low to high in the unmixed colour; a line of alpha 0 lays nothing
abbrev pub solid_line : Axis → BackendColor → ℤ → ℤ → List Side → ℤ → List Pixel
solid_line a c low high es m = cond (Ieee.eq c.alpha zero) [] (cells_in a m c (filter (covered es m) (from_to low high)))

-- the sweep line m, by the sides that are live there
abbrev pub sweep_line : Mixes → Axis → BackendColor → ℤ → ℤ → List Side → ℤ → List Pixel
sweep_line mix a c low high es m = solid_line a c low high es m ++ in_turn (edge mix a c es m) es

-- the sweep lines of the box in rising order
abbrev pub swept_by : Mixes → Axis → BackendColor → Outline → List Pixel
swept_by mix a c o =
    in_turn
    (λ m. sweep_line mix a c (turned a (least_corner o)).1 (turned a (greatest_corner o)).1 (filter (live m) (sides a o)) m)
    (from_to (turned a (least_corner o)).0 (turned a (greatest_corner o)).0)

-- the pixels of the fill of an outline that is not flat
abbrev pub swept : Mixes → BackendColor → Outline → List Pixel
swept mix c o = swept_by mix (axis o) c o

-- an accepted draw in an opaque colour leaves every cell strictly inside as the colour's own cell
abbrev pub NoHole : {E : Type 0} (S : Surface E) → Outline → BackendColor → S.Held → Outcome S → Type 0
NoHole S o c before after =
    Ieee.eq c.alpha one ≡ true →
    after.0 ≡ Ok tt →
    (x y : ℕ) →
    within (S.size before) (pos x, pos y) ≡ true →
    inside o (pos x, pos y) ≡ true →
    (a : S.Cell) →
    S.cell after.1 x y ≡ S.rule a c

-- whatever a draw answers, a cell that it changed is strictly inside, on a side, or closer than one cell to a live side
abbrev pub NoSpill : {E : Type 0} (S : Surface E) → Outline → S.Held → Outcome S → Type 0
NoSpill S o before after =
    (x y : ℕ) →
    within (S.size before) (pos x, pos y) ≡ true →
    (S.cell after.1 x y ≢ S.cell before x y) →
    (inside o (pos x, pos y) || on_side o (pos x, pos y) || near_side o (pos x, pos y)) ≡ true

-- the pixels of a fill: a flat outline has its line's
abbrev pub filled : List Pixel → Mixes → BackendColor → Outline → List Pixel
filled line mix c o = cond (flat o) line (swept mix c o)

-- no fill leaves a hole on a surface, whatever the surface holds, and for any mix
abbrev pub FillsHaveNoHole : {E : Type 0} → Surface E → Type 0
FillsHaveNoHole S = (line : List Pixel) (mix : Mixes) (c : BackendColor) (o : Outline) (h : S.Held) → NoHole S o c h (run S h (all (filled line mix c o)))

-- and no fill of an outline that is not flat spills
abbrev pub FillsHaveNoSpill : {E : Type 0} → Surface E → Type 0
FillsHaveNoSpill S = (line : List Pixel) (mix : Mixes) (c : BackendColor) (o : Outline) (h : S.Held) → flat o ≡ false → NoSpill S o h (run S h (all (filled line mix c o)))

-- nothing lies strictly inside a flat outline
abbrev pub FlatHasNoInside : Type 0
FlatHasNoInside = (o : Outline) (p : Point) → flat o ≡ true → inside o p ≡ false

-- a closed outline has an even number of live sides on every sweep line
abbrev pub LiveSidesAreEven : Type 0
LiveSidesAreEven = (a : Axis) (o : Outline) (m : ℤ) → odd (count_by (live m) (sides a o)) ≡ false
