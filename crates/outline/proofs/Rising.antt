-- Whole numbers from one to another.
use Rattle.std.proofs.Common.{◌≡◌, ℕ, zero, suc, List, [], ◌∷◌, ◌++◌, ℤ, pos, negsuc, ◌+ℤ◌, ◌-ℤ◌, ◌≤ℤ◌, ◌<ℤ◌, refl, ap, ◌∙◌, arith}
use Rattle.std.proofs.lemmas.Int.{ints}
use Rattle.outline.specs.Lists.{rising, natural, from_to}

-- a whole number from 0 on is counted as it is
pub natural_is : (z : ℤ) → pos 0 ≤ℤ z → z ≡ pos (natural z)
natural_is (pos n) h = refl
natural_is (negsuc n) h = absurd (omega (arith, ints))

-- one that is not above 0 is counted as 0
pub natural_none : (z : ℤ) → z ≤ℤ pos 0 → natural z ≡ 0
natural_none (pos n) h = omega (arith, ints)
natural_none (negsuc n) h = refl

-- no number lies from a to a smaller b
pub none_from : (a b : ℤ) → b <ℤ a → from_to a b ≡ []
none_from a b h = ap (rising a) (natural_none ((b +ℤ pos 1) -ℤ a) (omega (arith, ints)))

-- the first of the numbers from a to b, and the others
pub first_from : (a b : ℤ) → a ≤ℤ b → from_to a b ≡ a ∷ from_to (a +ℤ pos 1) b
first_from a b h =
    let d : pos 0 ≤ℤ ((b +ℤ pos 1) -ℤ (a +ℤ pos 1)) = omega (arith, ints) in
    let e = natural_is ((b +ℤ pos 1) -ℤ (a +ℤ pos 1)) d in
    let n : (b +ℤ pos 1) -ℤ a ≡ pos (suc (natural ((b +ℤ pos 1) -ℤ (a +ℤ pos 1)))) = omega (arith, ints) in
    ap (λ (z : ℤ). rising a (natural z)) n

-- one number more at the end
rising_push : (n : ℕ) (a b : ℤ) → b ≡ a +ℤ pos n → rising a (suc n) ≡ rising a n ++ b ∷ []
rising_push zero a b e = ap (λ (z : ℤ). z ∷ []) (omega (arith, ints))
rising_push (suc n) a b e = ap (λ (zs : List ℤ). a ∷ zs) (rising_push n (a +ℤ pos 1) b (omega (arith, ints)))

-- the others, and the last
pub last_from : (a b : ℤ) → a ≤ℤ b → from_to a b ≡ from_to a (b -ℤ pos 1) ++ b ∷ []
last_from a b h =
    let d : pos 0 ≤ℤ (((b -ℤ pos 1) +ℤ pos 1) -ℤ a) = omega (arith, ints) in
    let e = natural_is (((b -ℤ pos 1) +ℤ pos 1) -ℤ a) d in
    let k = natural (((b -ℤ pos 1) +ℤ pos 1) -ℤ a) in
    let n : (b +ℤ pos 1) -ℤ a ≡ pos (suc k) = omega (arith, ints) in
    ap (λ (z : ℤ). rising a (natural z)) n ∙ rising_push k a b (omega (arith, ints))

-- from a number to itself
pub one_from : (a : ℤ) → from_to a a ≡ a ∷ []
one_from a = first_from a a (omega (arith, ints)) ∙ ap (λ (zs : List ℤ). a ∷ zs) (none_from (a +ℤ pos 1) a (omega (arith, ints)))
