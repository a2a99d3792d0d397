-- The binary64 number nearest to a fraction a / c, ties to even, over whole numbers alone. The answer is g units of 2 ^ -1074.
use Rattle.std.specs.Prelude.{◌≡◌, ℕ, ◌+◌, ◌*◌, ◌%◌, ◌^◌, ◌<◌, ◌≤◌, Bool, true, false, ◌⊎◌, ℤ, pos, negsuc, unsigned_abs, Float}
use Rattle.std.specs.Float.Ieee.Exact.{HasValue}

-- Of all binary64 numbers, p * 2 ^ j units with p below 2 ^ 53, none is nearer to a / c than g units are; the midpoint of the two tells.
-- Where another is as near, g's last digit is even.
pub record NearestFraction (a c g : ℕ) : Type 0 where
  pub q : ℕ
  pub k : ℕ
  pub is : g ≡ q * 2 ^ k
  pub digits : q ≤ 2 ^ 53
  pub full : (k ≡ 0) ⊎ (2 ^ 52 ≤ q)
  pub above : (p j : ℕ) → p < 2 ^ 53 → g < p * 2 ^ j → 2 * (a * 2 ^ 1074) ≤ (g + p * 2 ^ j) * c
  pub below : (p j : ℕ) → p < 2 ^ 53 → p * 2 ^ j < g → (g + p * 2 ^ j) * c ≤ 2 * (a * 2 ^ 1074)
  pub even_above : (p j : ℕ) → p < 2 ^ 53 → g < p * 2 ^ j → 2 * (a * 2 ^ 1074) ≡ (g + p * 2 ^ j) * c → q % 2 ≡ 0
  pub even_below : (p j : ℕ) → p < 2 ^ 53 → p * 2 ^ j < g → 2 * (a * 2 ^ 1074) ≡ (g + p * 2 ^ j) * c → q % 2 ≡ 0

-- whether z is below 0
abbrev pub negative : ℤ → Bool
negative (pos n) = false
negative (negsuc n) = true

-- r is finite, has the sign of rise, and is the binary64 number nearest to rise / run, for a run above 0
pub record NearestSlope (rise run : ℤ) (r : Float) : Type 0 where
  pub units : ℕ
  pub near : NearestFraction (unsigned_abs rise) (unsigned_abs run) units
  pub value : HasValue r (negative rise) units (2 ^ 1074)
