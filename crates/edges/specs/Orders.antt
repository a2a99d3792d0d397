-- The order of sides is total.
use Rattle.std.specs.Cmp.{IsTotalOrder, int_cmp_total, then_total, on_total}
use Rattle.std.specs.Float.Cmp.{nan_last}
use Rattle.edges.specs.Order.{floor_key, ceil_key, place_key, edge_order}

-- the order of sides is a total order
pub sides_total : IsTotalOrder edge_order
sides_total = then_total (on_total floor_key int_cmp_total) (then_total (on_total ceil_key int_cmp_total) (on_total place_key nan_last))
