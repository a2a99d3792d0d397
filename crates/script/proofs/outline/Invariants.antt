-- The points so far are read, and there are ever fewer words left.
use Rattle.std.proofs.Common.{length}
use Rattle.script.specs.Text.{pieces_after}
use Rattle.script.proofs.Fills.{PointsRead}
use Rattle.script.proofs.outline.Given as goal

abbrev pub invariant-loop-left : goal.invariant-loop-left
invariant-loop-left l = PointsRead (pieces_after 32 l.text) (pieces_after 32 l.left) l.points.items

abbrev pub decreases-loop-left : goal.decreases-loop-left
decreases-loop-left l = length (pieces_after 32 l.left)
