-- An outline, its box, and the lines that join its corners.
use Rattle.std.specs.Prelude.{Bool, ◌&&◌, ◌||◌, List, [], ◌∷◌, map, ℤ, pos, ◌-ℤ◌, ◌*ℤ◌, fold, int_le}
use Rattle.std.specs.Int.{int_min, int_max}
use Rattle.outline.specs.Lists.{any}

-- a point, x to the right and y down
abbrev pub Point : Type 0
Point = ℤ × ℤ

-- the corners in order
abbrev pub Outline : Type 0
Outline = List Point

-- the least and the greatest of some numbers
abbrev pub least : List ℤ → ℤ
least [] = pos 0
least (z ∷ zs) = fold int_min z zs

abbrev pub greatest : List ℤ → ℤ
greatest [] = pos 0
greatest (z ∷ zs) = fold int_max z zs

-- the box of an outline: its least and its greatest corner
abbrev pub least_corner : Outline → Point
least_corner o = (least (map (λ p. p.0) o), least (map (λ p. p.1) o))

abbrev pub greatest_corner : Outline → Point
greatest_corner o = (greatest (map (λ p. p.0) o), greatest (map (λ p. p.1) o))

-- how far the box reaches in x and in y
abbrev pub width : Outline → ℤ
width o = (greatest_corner o).0 -ℤ (least_corner o).0

abbrev pub height : Outline → ℤ
height o = (greatest_corner o).1 -ℤ (least_corner o).1

-- the box has no width or no height
abbrev pub flat : Outline → Bool
flat o = int_le (width o) (pos 0) || int_le (height o) (pos 0)

-- each corner with the next, and the last with the first
abbrev pub joined_from : Point → Point → Outline → List (Point × Point)
joined_from first p [] = (p, first) ∷ []
joined_from first p (q ∷ qs) = (p, q) ∷ joined_from first q qs

abbrev pub joined : Outline → List (Point × Point)
joined [] = []
joined (p ∷ ps) = joined_from p p ps

-- c lies between a and b, both included
abbrev pub between : ℤ → ℤ → ℤ → Bool
between a b c = (int_le a c && int_le c b) || (int_le b c && int_le c a)

-- two whole numbers are the same
abbrev pub same_z : ℤ → ℤ → Bool
same_z a b = int_le a b && int_le b a

-- p lies on the straight line from a to b, ends included
abbrev pub on : Point → Point × Point → Bool
on p (a, b) = same_z ((b.0 -ℤ a.0) *ℤ (p.1 -ℤ a.1)) ((b.1 -ℤ a.1) *ℤ (p.0 -ℤ a.0)) && (between a.0 b.0 p.0 && between a.1 b.1 p.1)

-- p lies on a side
abbrev pub on_side : Outline → Point → Bool
on_side o p = any (on p) (joined o)
