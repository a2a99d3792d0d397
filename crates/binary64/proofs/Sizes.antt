-- How large whole numbers, sums and floors are, by a bound on the size alone.
use Rattle.std.proofs.Common.{◌≡◌, ℕ, ◌+◌, ◌^◌, ◌<◌, ◌≤◌, ℤ, pos, negsuc, ◌+ℤ◌, neg_ℤ, nat_abs, sym, subst, arith, w32, SFits}
use lib.Ieee.{Float, binary64, add, of_int, to_signed}
use borrow.Author.Differences.{ints, neg_is, abs_is}
use Rattle.std.specs.Float.{floor}
use Rattle.binary64.specs.Range.{Between, Small, Sized, Whole, floor_z}
use Rattle.binary64.proofs.Rounding.{widen}
use Rattle.binary64.proofs.Sums.{of_int_lem, add_between}
use Rattle.binary64.proofs.Floors.{floor_between}
use Rattle.binary64.proofs.Casts.{cast_exact}

-- a whole number of at most a in size, as a float, is of at most a in size
pub sized_int : (z : ℤ) (a : ℕ) → nat_abs z ≤ a → a < 2 ^ 52 → Sized a (of_int binary64 z)
sized_int z a h s = let n = abs_is z in let m = neg_is (pos a) in widen (of_int binary64 z) z z (neg_ℤ (pos a)) (pos a) (omega arith) (omega arith) (of_int_lem z (small z a h s))
  where
    small : (z : ℤ) (a : ℕ) → nat_abs z ≤ a → a < 2 ^ 52 → Small z
    small (pos n) a h s = omega arith
    small (negsuc n) a h s = omega arith

-- a larger bound holds too
pub sized_more : {x : Float} (a b : ℕ) → Sized a x → a ≤ b → Sized b x
sized_more {x} a b h l = let n = neg_is (pos a) in let m = neg_is (pos b) in widen x (neg_ℤ (pos a)) (pos a) (neg_ℤ (pos b)) (pos b) (omega arith) (omega arith) h

-- the bounds of two numbers add up to a bound of their rounded sum
pub add_sized : {x y : Float} (a b : ℕ) → Sized a x → Sized b y → a + b < 2 ^ 52 → Sized (a + b) (add binary64 x y)
add_sized {x} {y} a b h k s =
    let e : neg_ℤ (pos a) +ℤ neg_ℤ (pos b) ≡ neg_ℤ (pos (a + b)) = omega (arith, ints) in
    subst (λ (z : ℤ). Between z (pos (a + b)) (add binary64 x y)) e (add_between h k (subst Small (sym e) (let n = neg_is (pos (a + b)) in omega arith)) (omega arith))

-- a bound below 2 ^ 52 is a small end
pub small_size : (a : ℕ) → a < 2 ^ 52 → Small (neg_ℤ (pos a))
small_size a s = let n = neg_is (pos a) in omega arith

-- `floor` gives the exact floor, which is of at most a in size
pub floor_sized : {x : Float} (a : ℕ) → Sized a x → a < 2 ^ 52 → Whole (neg_ℤ (pos a)) (pos a) (floor_z x) (floor binary64 x) (floor_z x) (floor_z x +ℤ pos 1) x
floor_sized a h s = floor_between h (small_size a s) (omega arith)

-- the exact floor is of at most a in size
pub floor_z_sized : {x : Float} (a : ℕ) → Sized a x → a < 2 ^ 52 → nat_abs (floor_z x) ≤ a
floor_z_sized a h s = let w = floor_sized a h s in omega (arith, ints, w.least, w.most)

-- what is of at most a in size fits 32 signed bits
fits_size : (z : ℤ) (a : ℕ) → nat_abs z ≤ a → a < 2 ^ 31 → SFits w32 z
fits_size z a h s = omega (arith, ints)

-- `floor`, cast to 32 bits, gives the exact floor
pub floor_cast_is : {x : Float} (a : ℕ) → Sized a x → a < 2 ^ 31 → to_signed 31 (floor binary64 x) ≡ floor_z x
floor_cast_is {x} a h s = let b : a < 2 ^ 52 = omega arith in cast_exact (floor_sized a h b).exact (fits_size (floor_z x) a (floor_z_sized a h b) s)

-- and is of at most a in size
pub floor_cast_sized : {x : Float} (a : ℕ) → Sized a x → a < 2 ^ 31 → nat_abs (to_signed 31 (floor binary64 x)) ≤ a
floor_cast_sized {x} a h s = subst (λ (z : ℤ). nat_abs z ≤ a) (sym (floor_cast_is a h s)) (floor_z_sized a h (omega arith))
