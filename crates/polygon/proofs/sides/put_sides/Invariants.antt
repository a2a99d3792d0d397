use Rattle.std.proofs.Common.{◌≡◌, take}
use Rattle.outline.specs.Sweep.{sides}
use Rattle.polygon.proofs.sides.put_sides.Given as goal

abbrev pub invariant-loop-i : goal.invariant-loop-i
invariant-loop-i l = take l.i l.pool ≡ take l.i (sides l.axis l.vertices)
