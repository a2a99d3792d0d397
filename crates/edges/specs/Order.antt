-- The order of sides: by floor, then by ceil, then by binary64 place.
use Rattle.std.specs.Prelude.{cond, ℤ, pos, Float}
use Rattle.std.specs.declared.cmp.Ordering.{Ordering}
use Rattle.std.specs.Ordering.{ordering_then, int_cmp, nan_last_cmp}
use Rattle.edges.specs.declared.side.Edge.{Edge}
use Rattle.edges.specs.Side.{is_sound, place64, zero64, floor_at, ceil_at}

-- the floor, and 0 where the side is not sound
abbrev pub floor_key : Edge → ℤ
floor_key e = cond (is_sound e) (floor_at e) (pos 0)

-- the ceil, and 0 where the side is not sound
abbrev pub ceil_key : Edge → ℤ
ceil_key e = cond (is_sound e) (ceil_at e) (pos 0)

-- the binary64 place, and 0 where the side is not sound
abbrev pub place_key : Edge → Float
place_key e = cond (is_sound e) (place64 e) zero64

-- how two sides compare: by floor, where that ties by ceil, and where that ties by place
abbrev pub edge_order : Edge → Edge → Ordering
edge_order x y = ordering_then (int_cmp (floor_key x) (floor_key y)) (ordering_then (int_cmp (ceil_key x) (ceil_key y)) (nan_last_cmp (place_key x) (place_key y)))
