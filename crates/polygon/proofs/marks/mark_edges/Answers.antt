-- Each edge that is taken up goes into the marks.
use Rattle.std.proofs.Common.{◌∙◌}
use Rattle.polygon.proofs.Taking.{among_at, marked_more}
use Rattle.polygon.proofs.marks.mark_edges.Goals as goal

-- one edge more is taken up
pub loop-edge-preserved : goal.loop-edge-preserved
loop-edge-preserved c = marked_more _ _ _ _ _ _ c.loop-edge-test.true (among_at _ _ _ _ _ _ c.requires c.loop-edge-test.true (c.loop-edge.auto.marks ∙ c.fill.ensures.len)) c.loop-edge.invariant c.take_up.ensures
