use Rattle.std.proofs.Common.{◌≡◌, take}
use Rattle.polygon.specs.Polygon.{box_of}
use Rattle.polygon.proofs.bounds.bounds.Given as goal

abbrev pub invariant-loop-corner : goal.invariant-loop-corner
invariant-loop-corner l = l.found ≡ box_of (take l.corner-index l.vertices)
