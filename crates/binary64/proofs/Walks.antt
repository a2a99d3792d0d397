-- A height that moves by the same slope at each step.
use Rattle.std.proofs.Common.{◌≡◌, ℕ, zero, suc, ◌+◌, ◌^◌, ◌<◌, ap, subst, add-one, arith}
use lib.Ieee.{Float, binary64, add}
use Rattle.binary64.specs.Range.{Sized}
use Rattle.binary64.specs.Slope.{walk}
use Rattle.binary64.proofs.Sizes.{add_sized}

-- one step more adds the slope once more
pub walk_more : (k : ℕ) (y g : Float) → walk (k + 1) y g ≡ add binary64 (walk k y g) g
walk_more k y g = ap (λ (n : ℕ). walk n y g) (add-one k)

-- k steps of at most 1 from a height of at most a reach one of at most a + k
pub walk_sized : {y g : Float} (a k : ℕ) → Sized a y → Sized 1 g → a + k < 2 ^ 52 → Sized (a + k) (walk k y g)
walk_sized {y} {g} a zero h i s = subst (λ (z : ℕ). Sized z y) (omega arith) h
walk_sized {y} {g} a (suc k) h i s = subst (λ (z : ℕ). Sized z (add binary64 (walk k y g) g)) (omega arith) (add_sized (a + k) 1 (walk_sized a k h i (omega arith)) i (omega arith))
