-- `floor` of a number between two small whole numbers is its exact floor.
use Rattle.std.proofs.Common.{◌≡◌, ℕ, ◌+◌, ◌-◌, ◌*◌, ◌/◌, ◌^◌, ◌<◌, ◌≤◌, Bool, true, false, ℤ, pos, ◌+ℤ◌, neg_ℤ, ◌≤ℤ◌, refl, div-lt_iff_lt-mul, add-mul, lt_of_mul-lt-mul_right, div-mul-le_self, arith, lit<}
use lib.Ieee.{Float, nan, inf, fin, binary64, round}
use lib.Ieee as ieee
use lib.Ieee.Fits.{down_pos}
use lib.Ieee.Positive.{den}
use borrow.Author.Differences.{up, down, neg_is, sum_is_lem, at_most_in}
use Rattle.std.specs.Float.{round_with, ratio_ceil, floor}
use Rattle.binary64.specs.Range.{plus, less, P, N, Between, Small, floor_z, Whole}
use Rattle.binary64.proofs.Rounding.{Rounds, rounds_between, shift_low, shift_high}

-- a quotient cut is at most the fraction
pub div_low : (a d : ℕ) → 0 < d → a / d * d ≤ a
div_low a d D = div-mul-le_self a d

-- and less than 1 below it
pub div_high : (a d : ℕ) → 0 < d → a < (a / d + 1) * d
div_high a d D = (div-lt_iff_lt-mul D).0 (omega arith)

-- a quotient raised is at least the fraction
raised_low : (a d : ℕ) → 0 < d → a ≤ ratio_ceil a d * d
raised_low a d D = let h = div_high (a + d - 1) d D in omega arith

-- and less than 1 above it
raised_high : (a d : ℕ) → 0 < d → ratio_ceil a d * d < a + d
raised_high a d D = let h = div_low (a + d - 1) d D in omega arith

-- u - t ≤ x < w - v + 1 gives u - t ≤ w - v
end_low : (u t w v p n d : ℕ) → u * d + n ≤ p + t * d → p + v * d < (w + 1) * d + n → u + v ≤ w + t
end_low u t w v p n d h k =
    let l : (u + v) * d < (w + 1 + t) * d = omega (arith, add-mul u v d, add-mul (w + 1) t d) in
    let g : u + v < w + 1 + t = lt_of_mul-lt-mul_right d l in
    omega arith

-- w - v - 1 < x ≤ u - t gives w - v ≤ u - t
end_high : (u t w v p n d : ℕ) → p + t * d ≤ u * d + n → w * d + n < p + (v + 1) * d → w + t ≤ u + v
end_high u t w v p n d h k =
    let l : (w + t) * d < (u + (v + 1)) * d = omega (arith, add-mul w t d, add-mul u (v + 1) d) in
    let g : w + t < u + (v + 1) = lt_of_mul-lt-mul_right d l in
    omega arith

-- the whole number of the size n with the sign s
abbrev pub signed : Bool → ℕ → ℤ
signed false n = pos n
signed true n = neg_ℤ (pos n)

-- it is plus - less
signed_is : (s : Bool) (q : ℕ) → up (signed s q) + less s q ≡ plus s q + down (signed s q)
signed_is false q = refl
signed_is true q = let n = neg_is (pos q) in omega arith

-- it has the size q
signed_size : (s : Bool) (q : ℕ) → up (signed s q) + down (signed s q) ≡ q
signed_size false q = omega arith
signed_size true q = let n = neg_is (pos q) in omega arith

-- a whole number is rounded
whole_rounds : (s : Bool) (q : ℕ) → Rounds (round binary64 s q 1) (plus s q) (less s q) 1
whole_rounds s q = record { sign = s; size = q; is = refl; value = omega arith }

-- what lies between small ends is small
q_small : (s : Bool) (q : ℕ) (lo hi : ℤ) → Small lo → Small hi → up lo + less s q ≤ plus s q + down lo → plus s q + down hi ≤ up hi + less s q → q < 2 ^ 52
q_small false q lo hi S R h k = omega arith
q_small true q lo hi S R h k = omega arith

-- a whole number ±q that is less than 1 away from an x between lo and hi
module _ (x : Float) (s : Bool) (q : ℕ) (over : P x + less s q * den x < (plus s q + 1) * den x + N x) (under : plus s q * den x + N x < P x + (less s q + 1) * den x) (lo hi : ℤ) (b : Between lo hi x) where
  -- is at least lo
  pub near_low : up lo + less s q ≤ plus s q + down lo
  near_low = end_low (up lo) (down lo) (plus s q) (less s q) (P x) (N x) (den x) b.low over

  -- and at most hi
  pub near_high : plus s q + down hi ≤ up hi + less s q
  near_high = end_high (up hi) (down hi) (plus s q) (less s q) (P x) (N x) (den x) b.high under

  -- the same in whole numbers
  pub near_least : lo ≤ℤ signed s q
  near_least = at_most_in lo (signed s q) (omega (arith, near_low, signed_is s q))

  pub near_most : signed s q ≤ℤ hi
  near_most = at_most_in (signed s q) hi (omega (arith, near_high, signed_is s q))

  -- it is rounded to itself
  near_exact : Small lo → Small hi → Between (signed s q) (signed s q) (round binary64 s q 1)
  near_exact S R =
      let sm : q < 2 ^ 52 = q_small s q lo hi S R near_low near_high in
      let e = signed_is s q in
      let g = signed_size s q in
      rounds_between (round binary64 s q 1) (plus s q) (less s q) 1 (signed s q) (signed s q) (plus s q) (less s q) (plus s q) (less s q)
      (whole_rounds s q) (lit< tt) (omega arith) (omega arith) (omega arith) (omega arith) (omega arith) (omega arith)

  -- ±q ≤ x ≤ ±q + 1
  near_between : plus s q * den x + N x ≤ P x + less s q * den x → P x + less s q * den x ≤ (plus s q + 1) * den x + N x → Between (signed s q) (signed s q +ℤ pos 1) x
  near_between h i =
      let e = signed_is s q in
      let g = sum_is_lem (signed s q) (pos 1) in
      record {
        real = b.real;
        low = shift_low (up (signed s q)) (down (signed s q)) (plus s q) (less s q) (den x) (P x) (N x) (omega arith) h;
        high = shift_high (up (signed s q +ℤ pos 1)) (down (signed s q +ℤ pos 1)) (plus s q + 1) (less s q) (den x) (P x) (N x) (omega arith) i;
      }

-- `floor` of x is floor_z x, which lies between the ends of x and is at most x, and less than 1 below it
floor_of : (x : Float) (lo hi : ℤ) → Between lo hi x → Small lo → Small hi → Whole lo hi (floor_z x) (floor binary64 x) (floor_z x) (floor_z x +ℤ pos 1) x
unfolding round_with
floor_of nan lo hi b S R = absurd b.real
floor_of (inf s) lo hi b S R = absurd b.real
floor_of (fin false m e) lo hi b S R =
    let a = m * ieee.up e in
    let d = ieee.down e in
    let x = fin false m e in
    let q = a / d in
    let l : q * d ≤ a = div_low a d (down_pos e) in
    let h : a < (q + 1) * d = div_high a d (down_pos e) in
    let D : 0 < d = down_pos e in
    let over : P x + 0 * d < (q + 1) * d + N x = omega arith in
    let under : q * d + N x < P x + (0 + 1) * d = omega arith in
    record {
      least = near_least x false q over under lo hi b;
      most = near_most x false q over under lo hi b;
      exact = near_exact x false q over under lo hi b S R;
      near = near_between x false q over under lo hi b (omega arith) (omega arith);
    }
floor_of (fin true m e) lo hi b S R =
    let a = m * ieee.up e in
    let d = ieee.down e in
    let x = fin true m e in
    let q = ratio_ceil a d in
    let l : a ≤ q * d = raised_low a d (down_pos e) in
    let h : q * d < a + d = raised_high a d (down_pos e) in
    let D : 0 < d = down_pos e in
    let over : P x + q * d < (0 + 1) * d + N x = omega arith in
    let under : 0 * d + N x < P x + (q + 1) * d = omega arith in
    record {
      least = near_least x true q over under lo hi b;
      most = near_most x true q over under lo hi b;
      exact = near_exact x true q over under lo hi b S R;
      near = near_between x true q over under lo hi b (omega arith) (omega arith);
    }

-- the same, the number and its ends left to be found
pub floor_between : {lo hi : ℤ} {x : Float} → Between lo hi x → Small lo → Small hi → Whole lo hi (floor_z x) (floor binary64 x) (floor_z x) (floor_z x +ℤ pos 1) x
floor_between {lo} {hi} {x} b S R = floor_of x lo hi b S R
