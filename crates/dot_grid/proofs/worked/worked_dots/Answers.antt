use Rattle.std.proofs.Common.{refl}
use lib.Count.{count_trailing_zeros}
use lib.Ieee as Ieee
use Rattle.std.specs.Float.{round_with}
use Rattle.dot_grid.proofs.worked.worked_dots.Goals as goal

pub returns : goal.returns
unfolding count_trailing_zeros Ieee.span Ieee.climb Ieee.size Ieee.odd Ieee.units Ieee.round Ieee.neg Ieee.sum Ieee.add Ieee.sub Ieee.mul Ieee.div Ieee.of_int Ieee.of_bits Ieee.of_fields Ieee.eq Ieee.le Ieee.lt round_with
returns c = record { diagonal = refl; dot_0 = refl; dots_0_2 = refl; dots_0_2_1 = refl }
