-- Every element is sound, and `<` tells which comes before.
use Rattle.std.proofs.Common.{rules}
use Rattle.search.specs.First.{up_to}
use Rattle.search.proofs.Orders.{is_order, lt_tells, of_all, of_sound}
use Rattle.search.proofs.place.least.Goals as goal

pub returns : goal.returns
returns g c =
    let o = g.met.T.Ord in
    let upto = up_to g.T.Ord.cmp in
    let xs = c.args.items.now in
    let r = c.first_by.result in
    of_all upto xs r
    (of_sound (λ _. Unit {0}) upto (is_order g.T.Ord.cmp o.total) xs r
    (c.first_by.ensures.first upto (λ x y r post. lt_tells g.T.PartialOrd.partial_cmp g.T.Ord.cmp o.total x.now y.now r (o.matches_partial_cmp x.now y.now) (search rules))))
