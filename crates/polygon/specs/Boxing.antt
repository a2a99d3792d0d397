-- A box that grows by one corner.
use Rattle.std.specs.Prelude.{Some, None, Option}
use Rattle.std.specs.Int.{int_min, int_max}
use Rattle.outline.specs.Outline.{Point}

-- the least box that holds a box, if there is one, and a corner
abbrev pub widened : Option (Point × Point) → Point → Option (Point × Point)
widened None p = Some (p, p)
widened (Some b) p = Some ((int_min b.0.0 p.0, int_min b.0.1 p.1), (int_max b.1.0 p.0, int_max b.1.1 p.1))
