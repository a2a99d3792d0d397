-- A whole number and a quotient, added as binary64 numbers: rounded twice, each time to the nearest.
use Rattle.std.specs.Prelude.{◌≡◌, ℕ, ◌+◌, ◌*◌, ◌^◌, Bool, Float}
use Rattle.std.specs.Float.Ieee.Exact.{HasValue}
use Rattle.binary64.specs.Range.{plus, less}
use Rattle.binary64.specs.Fraction.{NearestFraction}

-- r is ±s + ±a / B with the signs σ and α: the quotient is rounded to `quotient` units of 2 ^ -1074, and the exact sum of s and that, ±sum units, is rounded to `answer` units
pub record RoundedTwice (σ : Bool) (s : ℕ) (α : Bool) (a B : ℕ) (r : Float) : Type 0 where
  pub quotient : ℕ
  pub first : NearestFraction a B quotient
  pub sign : Bool
  pub sum : ℕ
  pub total : plus sign sum + (less σ s * 2 ^ 1074 + less α quotient) ≡ less sign sum + (plus σ s * 2 ^ 1074 + plus α quotient)
  pub answer : ℕ
  pub second : NearestFraction sum (2 ^ 1074) answer
  pub value : HasValue r sign answer (2 ^ 1074)
