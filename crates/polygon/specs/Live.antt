-- The sides that are live on a sweep line, as edges.
use Rattle.std.specs.Prelude.{List, map, ℤ, ◌-ℤ◌, filter, unsigned_abs}
use Rattle.edges.specs.declared.side.Edge.{Edge}
use Rattle.outline.specs.declared.sweep.Side.{Side}
use Rattle.outline.specs.Sweep.{live}

-- a side on the sweep line m: of its steps from m0 to m1, those up to m are done
abbrev pub edge_at : ℤ → Side → Edge
edge_at m e = record { epoch = unsigned_abs (m -ℤ e.m0); total_epoch = unsigned_abs (e.m1 -ℤ e.m0); slave_begin = e.s0; slave_end = e.s1 }

-- the live sides in the outline's order
abbrev pub live_edges : ℤ → List Side → List Edge
live_edges m es = map (edge_at m) (filter (live m) es)
