-- What is asked of the sides of an outline that is swept, and where the walk over a sweep line starts.
use Rattle.std.specs.Prelude.{◌≤◌, List, [], ◌∷◌, map, ℤ, ◌≤ℤ◌, Some, None, Option, unsigned_abs}
use Rattle.std.specs.List.{AllByRecursion}
use Rattle.edges.specs.declared.side.Edge.{Edge}
use Rattle.edges.specs.Side.{floor_at}
use Rattle.outline.specs.Outline.{least}
use Rattle.outline.specs.declared.sweep.Side.{Side}

-- a side within 32,767 of 0 whose places lie from low to high
pub record Between (low high : ℤ) (e : Side) : Type 0 where
  pub begin_near : unsigned_abs e.m0 ≤ 32767
  pub end_near : unsigned_abs e.m1 ≤ 32767
  pub begin_low : low ≤ℤ e.s0
  pub begin_high : e.s0 ≤ℤ high
  pub end_low : low ≤ℤ e.s1
  pub end_high : e.s1 ≤ℤ high

-- the cells from low to high of a sweep line, and sides between them, lie within 32,767 of 0
pub record Sweepable (low high : ℤ) (es : List Side) : Type 0 where
  pub low_near : unsigned_abs low ≤ 32767
  pub high_near : unsigned_abs high ≤ 32767
  pub held : AllByRecursion (Between low high) es

-- the least floor of some edges, if there are any
abbrev pub least_floor : List Edge → Option ℤ
least_floor [] = None
least_floor (e ∷ es) = Some (least (map floor_at (e ∷ es)))
