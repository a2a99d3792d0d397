-- The product with 256.0 is exact.
use Rattle.panel.proofs.Exact.{weights_are_exact}
use Rattle.panel.proofs.worked.exact_weights.Goals as goal

pub returns : goal.returns
returns c = weights_are_exact
