-- The marks are those of the edges passed.
use Rattle.std.proofs.Common.{take}
use Rattle.polygon.specs.Marking.{Marked}
use Rattle.polygon.proofs.marks.mark_edges.Given as goal

abbrev pub invariant-loop-edge : goal.invariant-loop-edge
invariant-loop-edge l = Marked (take l.edge-index l.edges) l.line.low l.marks
