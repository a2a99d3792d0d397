-- Products of two numbers of at most 2 ^ 16 in size.
use Rattle.std.specs.Prelude.{◌≡◌, ℕ, zero, suc, ◌*◌, ◌^◌, ◌≤◌, T, ℤ, pos, negsuc, ◌*ℤ◌, neg_ℤ, FitsSigned, unsigned_abs, refl}
use Rattle.std.proofs.Common.{mul-le-mul, le_trans, arith, sym, subst, lit≤, le→leb, lt→ltb}
use Rattle.std.specs.Float.{binary64}
use Rattle.std.specs.Float.Ieee.{in_float}
use Rattle.std.specs.Int.{w64}
use Rattle.std.proofs.lemmas.Int.{ints}

-- a number turned negative keeps its size
nat_abs_neg : (k : ℕ) → unsigned_abs (neg_ℤ (pos k)) ≡ k
nat_abs_neg zero = refl
nat_abs_neg (suc k) = refl

-- the size of a product is the product of the sizes
pub nat_abs_times : (x y : ℤ) → unsigned_abs (x *ℤ y) ≡ unsigned_abs x * unsigned_abs y
nat_abs_times (pos a) (pos b) = refl
nat_abs_times (pos a) (negsuc b) = nat_abs_neg (a * suc b)
nat_abs_times (negsuc a) (pos b) = nat_abs_neg (suc a * b)
nat_abs_times (negsuc a) (negsuc b) = refl

-- a product of two numbers of at most 2 ^ 16 is at most 2 ^ 32
size : (x y : ℤ) → unsigned_abs x ≤ 65536 → unsigned_abs y ≤ 65536 → unsigned_abs (x *ℤ y) ≤ 2 ^ 32
size x y a b = subst (λ (n : ℕ). n ≤ 2 ^ 32) (sym (nat_abs_times x y)) (mul-le-mul a b)

-- so it fits 64 bits
pub product_fits : (x y : ℤ) → unsigned_abs x ≤ 65536 → unsigned_abs y ≤ 65536 → FitsSigned w64 (x *ℤ y)
product_fits x y a b = let h = size x y a b in fits (x *ℤ y) h
  where
    fits : (z : ℤ) → unsigned_abs z ≤ 2 ^ 32 → FitsSigned w64 z
    fits z h = omega (arith, ints)

-- a number of at most 2 ^ 32 is exact as a float
in_float_lem : (z : ℤ) → unsigned_abs z ≤ 2 ^ 32 → T (in_float binary64 z)
unfolding in_float
in_float_lem (pos n) h = le→leb n (2 ^ 53) (le_trans h (lit≤ tt))
in_float_lem (negsuc n) h = lt→ltb n (2 ^ 53) (le_trans h (lit≤ tt))

-- so the product is exact as a float
pub product_in : (x y : ℤ) → unsigned_abs x ≤ 65536 → unsigned_abs y ≤ 65536 → T (in_float binary64 (x *ℤ y))
product_in x y a b = in_float_lem (x *ℤ y) (size x y a b)
