-- A side comes before another where it is below that one.
use Rattle.edges.specs.Order.{edge_order}
use Rattle.edges.specs.Orders.{sides_total}
use Rattle.search.specs.Orders.{below}
use Rattle.edges.proofs.order.EdgeTotalOrder.comes_before.Goals as goal

-- the answer is the test of the order, turned round
pub returns : goal.returns
returns c = let b = below edge_order sides_total c.args.self.now c.args.other.now in cc
