-- By computation.
use Rattle.std.proofs.Common.{◌≡◌, [], ◌∷◌, pos, refl, rules}
use lib.Count.{count_trailing_zeros}
use lib.Ieee as Ieee
use Rattle.panel.specs.Picture.{handed, inlaid}
use Rattle.panel.specs.Worked.{HalfWhiteOnBlack, half_white, laid_bytes}
use Rattle.panel.proofs.worked.worked_panel.Goals as goal

rule_is : HalfWhiteOnBlack
unfolding count_trailing_zeros Ieee.span Ieee.climb Ieee.size Ieee.odd Ieee.units Ieee.round Ieee.mul Ieee.of_bits Ieee.of_fields Ieee.eq Ieee.le Ieee.lt Ieee.to_unsigned
rule_is = refl

bytes_is : (inlaid (handed (1, 1) (0 ∷ 0 ∷ 0 ∷ 9 ∷ [])) (pos 0, pos 0) half_white).bytes ≡ laid_bytes
unfolding count_trailing_zeros Ieee.span Ieee.climb Ieee.size Ieee.odd Ieee.units Ieee.round Ieee.mul Ieee.of_bits Ieee.of_fields Ieee.eq Ieee.le Ieee.lt Ieee.to_unsigned
bytes_is = refl

pub returns : goal.returns
returns c = let b = bytes_is in record { rule = rule_is; memory = search (rules, b) }
