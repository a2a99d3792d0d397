-- The laws of the float s + A / B of whole numbers: it is finite, has the floor and the ceil of the exact sum, and is rounded twice.
use Rattle.std.proofs.Common.{◌≡◌, ℕ, ◌+◌, ◌*◌, ◌^◌, ◌<◌, ◌≤◌, T, ℤ, pos, negsuc, ◌+ℤ◌, ◌*ℤ◌, nat_abs, ◌<ℤ◌, sym, refl, ap, ◌∙◌, subst, lt_of_le_of_lt, arith, lit<}
use borrow.Author.Differences.{ints, up, down, product_is}
use lib.Ieee.{Float, binary64, of_int, add, div, round, to_signed}
use lib.Ieee.Scale.{finite}
use Rattle.std.specs.Float.{floor, ceil}
use Rattle.binary64.specs.Range.{plus, less}
use Rattle.binary64.specs.Fraction.{negative}
use Rattle.binary64.specs.Sum.{RoundedTwice}
use Rattle.binary64.specs.Quotient.{floor_over, ceil_over}
use Rattle.binary64.proofs.Points.{K}
use Rattle.binary64.proofs.Slopes.{slope_is}
use Rattle.binary64.proofs.Places.{placed, place_finite}
use Rattle.binary64.proofs.PlaceNearest.{rounded_twice}
use Rattle.binary64.proofs.PlaceWholes.{floor_of_pos, floor_of_neg, ceil_of_pos, ceil_of_neg}

-- a whole number as a float is its size rounded, with its sign
of_int_is : (z : ℤ) → of_int binary64 z ≡ round binary64 (negative z) (nat_abs z) 1
unfolding of_int
of_int_is (pos n) = refl
of_int_is (negsuc n) = refl

-- the part above 0 of a whole number
plus_is : (z : ℤ) → plus (negative z) (nat_abs z) ≡ up z
plus_is (pos n) = refl
plus_is (negsuc n) = refl

-- the part below 0 of a whole number
less_is : (z : ℤ) → less (negative z) (nat_abs z) ≡ down z
less_is (pos n) = refl
less_is (negsuc n) = refl

-- a size above 0 is a whole number above 0
above_zero : (n : ℕ) → 0 < n → pos 0 <ℤ pos n
above_zero n h = omega (arith, ints)

-- the float quotient of two whole numbers is their quotient rounded once
pub div_ints : (A : ℤ) (B : ℕ) → 0 < B → B < 2 ^ 53 → nat_abs A < 2 ^ 53 → div binary64 (of_int binary64 A) (of_int binary64 (pos B)) ≡ round binary64 (negative A) (nat_abs A) B
div_ints A B D b a = slope_is A (pos B) (above_zero B D) a b

module _ (s A : ℤ) (B : ℕ) (S : nat_abs s ≤ K) (D : 0 < B) (Bk : B ≤ K) (a : nat_abs A ≤ K * B) where
  -- K B is below 2 ^ 53
  KB : K * B < 2 ^ 53
  KB = omega arith

  -- the float s + A / B by sizes and signs
  place_is : add binary64 (of_int binary64 s) (div binary64 (of_int binary64 A) (of_int binary64 (pos B))) ≡ placed (negative s) (nat_abs s) (negative A) (nat_abs A) B
  place_is =
      ap (λ (z : Float). add binary64 (of_int binary64 s) z) (div_ints A B D (lt_of_le_of_lt Bk (lit< tt)) (lt_of_le_of_lt a KB))
      ∙ ap (λ (z : Float). add binary64 z (round binary64 (negative A) (nat_abs A) B)) (of_int_is s)

  -- the exact sum z / B by its parts
  sides : (z : ℤ) → z ≡ s *ℤ pos B +ℤ A → up z + (less (negative s) (nat_abs s) * B + less (negative A) (nat_abs A)) ≡ down z + (plus (negative s) (nat_abs s) * B + plus (negative A) (nat_abs A))
  sides z e =
      let p = product_is s (pos B) in
      let h1 : plus (negative s) (nat_abs s) * B ≡ up s * B = ap (λ (c : ℕ). c * B) (plus_is s) in
      let l1 : less (negative s) (nat_abs s) * B ≡ down s * B = ap (λ (c : ℕ). c * B) (less_is s) in
      let h2 = plus_is A in
      let l2 = less_is A in
      let q : up z + down (s *ℤ pos B) + down A ≡ down z + up (s *ℤ pos B) + up A = omega (arith, ints) in
      omega (arith, p.0, p.1)

  -- its floor, cast to 32 bits, is the floor of the exact sum z / B
  pub floor_law : (z : ℤ) → z ≡ s *ℤ pos B +ℤ A → to_signed 31 (floor binary64 (add binary64 (of_int binary64 s) (div binary64 (of_int binary64 A) (of_int binary64 (pos B))))) ≡ floor_over z B
  floor_law z e = ap (λ (x : Float). to_signed 31 (floor binary64 x)) place_is ∙ go z (sides z e)
    where
      go : (z : ℤ) → up z + (less (negative s) (nat_abs s) * B + less (negative A) (nat_abs A)) ≡ down z + (plus (negative s) (nat_abs s) * B + plus (negative A) (nat_abs A)) → to_signed 31 (floor binary64 (placed (negative s) (nat_abs s) (negative A) (nat_abs A) B)) ≡ floor_over z B
      go (pos c) h = floor_of_pos (negative s) (nat_abs s) (negative A) (nat_abs A) B S D Bk a c (omega arith)
      go (negsuc c) h = floor_of_neg (negative s) (nat_abs s) (negative A) (nat_abs A) B S D Bk a c (omega arith)

  -- its ceil, cast to 32 bits, is the ceil of the exact sum z / B
  pub ceil_law : (z : ℤ) → z ≡ s *ℤ pos B +ℤ A → to_signed 31 (ceil binary64 (add binary64 (of_int binary64 s) (div binary64 (of_int binary64 A) (of_int binary64 (pos B))))) ≡ ceil_over z B
  ceil_law z e = ap (λ (x : Float). to_signed 31 (ceil binary64 x)) place_is ∙ go z (sides z e)
    where
      go : (z : ℤ) → up z + (less (negative s) (nat_abs s) * B + less (negative A) (nat_abs A)) ≡ down z + (plus (negative s) (nat_abs s) * B + plus (negative A) (nat_abs A)) → to_signed 31 (ceil binary64 (placed (negative s) (nat_abs s) (negative A) (nat_abs A) B)) ≡ ceil_over z B
      go (pos c) h = ceil_of_pos (negative s) (nat_abs s) (negative A) (nat_abs A) B S D Bk a c (omega arith)
      go (negsuc c) h = ceil_of_neg (negative s) (nat_abs s) (negative A) (nat_abs A) B S D Bk a c (omega arith)

  -- its quotient is rounded to nearest, and then its sum
  pub nearest_law : RoundedTwice (negative s) (nat_abs s) (negative A) (nat_abs A) B (add binary64 (of_int binary64 s) (div binary64 (of_int binary64 A) (of_int binary64 (pos B))))
  nearest_law = subst (λ (x : Float). RoundedTwice (negative s) (nat_abs s) (negative A) (nat_abs A) B x) (sym place_is) (rounded_twice (negative s) (nat_abs s) (negative A) (nat_abs A) B S D a)

  -- it is finite
  pub finite_law : T (finite (add binary64 (of_int binary64 s) (div binary64 (of_int binary64 A) (of_int binary64 (pos B)))))
  finite_law = subst (λ (x : Float). T (finite x)) (sym place_is) (place_finite (negative s) (nat_abs s) (negative A) (nat_abs A) B S D a)
