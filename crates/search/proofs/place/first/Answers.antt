-- The order holds among the elements of the slice where all of them are sound.
use Rattle.std.proofs.Common.{rules}
use Rattle.search.proofs.Orders.{of_sound}
use Rattle.search.proofs.place.first.Goals as goal

pub returns : goal.returns
returns g c =
    let o = g.T.TotalOrder in
    let laws = g.met.T.TotalOrder in
    of_sound o.sound o.upto (record { total = laws.total; transitive = laws.transitive }) c.args.items.now c.first_by.result
    (c.first_by.ensures.first o.upto (λ x y r post. search rules))
