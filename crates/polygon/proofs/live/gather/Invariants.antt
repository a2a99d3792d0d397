-- The live sides among those passed are the front of the pool.
use Rattle.std.proofs.Common.{◌≡◌, ◌≤◌, take}
use Rattle.polygon.specs.Live.{live_edges}
use Rattle.polygon.proofs.live.gather.Given as goal

abbrev pub invariant-loop-side : goal.invariant-loop-side
invariant-loop-side l = (l.count ≤ l.side-index) × (take l.count l.live ≡ live_edges l.m (take l.side-index l.sides))
