-- Rounding to binary64 changes nothing at a point w / 2 ^ 16 with w below 2 ^ 53, so it keeps the comparison of a fraction with each.
use Rattle.std.proofs.Common.{◌≡◌, ℕ, ◌*◌, ◌^◌, ◌<◌, ◌≤◌, false, sym, ap, ◌∙◌, subst, lt_of_lt_of_le, lt_of_le_of_lt, mul-le-mul_right, mul_assoc, mul-lt-mul_of_pos_right, mul_right_comm, lit<, lit≤, pow_pos}
use native.Mathlib.Nat.{eq_of_mul-eq-mul_right}
use lib.Ieee.{binary64, round}
use lib.Ieee.Exact.{HasValue, round_exact}
use lib.Ieee.Scale.{grid, overflow, round_val, round_under}
use lib.Ieee.Positive.{num, den, den_pos}
use Rattle.binary64.proofs.Grid.{U, grid_mono, value_cross, value_finite}

-- the points are whole numbers over K
abbrev pub K : ℕ
K = 65536

-- two fractions of one value agree
two_values : (m g w d U k : ℕ) → 0 < d → m * U ≡ g * d → m * k ≡ w * d → g * k ≡ w * U
two_values m g w d U k D p q =
    eq_of_mul-eq-mul_right d D (g * k) (w * U)
    (mul_right_comm g k d ∙ ap (λ (x : ℕ). x * k) (sym p) ∙ mul_right_comm m U k ∙ ap (λ (x : ℕ). x * U) q ∙ mul_right_comm w d U)

-- a point w / K is rounded to itself
point_exact : (w : ℕ) → w < 2 ^ 53 → HasValue (round binary64 false w K) false w K
point_exact w h = round_exact binary64 false w K w 1058 (lit< tt) h (lt_of_lt_of_le (mul-lt-mul_of_pos_right h (pow_pos 1058)) (lit≤ tt)) (sym (mul_assoc w (2 ^ 1058) K))

-- a point does not overflow
point_under : (w : ℕ) → w < 2 ^ 53 → grid binary64 w K < overflow binary64
point_under w h = round_under binary64 w K (value_finite (round binary64 false w K) false w K (point_exact w h))

-- a point w / K is w * U / K units
pub grid_point : (w : ℕ) → w < 2 ^ 53 → grid binary64 w K * K ≡ w * U
grid_point w h =
    let x = round binary64 false w K in
    two_values (num x) (grid binary64 w K) w (den x) U K (den_pos x)
    (value_cross x false (grid binary64 w K) U (round_val binary64 w K (point_under w h)))
    (value_cross x false w K (point_exact w h))

-- a fraction that is w / K at least is still so when rounded
pub grid_above : (w a d : ℕ) → w < 2 ^ 53 → 0 < d → w * d ≤ a * K → w * U ≤ grid binary64 a d * K
grid_above w a d h D l = subst (λ (x : ℕ). x ≤ grid binary64 a d * K) (grid_point w h) (mul-le-mul_right K (grid_mono binary64 w K a d (lit< tt) D l))

-- a fraction that is w / K at most is still so when rounded
pub grid_below : (w a d : ℕ) → w < 2 ^ 53 → 0 < d → a * K ≤ w * d → grid binary64 a d * K ≤ w * U
grid_below w a d h D l = subst (λ (x : ℕ). grid binary64 a d * K ≤ x) (grid_point w h) (mul-le-mul_right K (grid_mono binary64 a d w K D (lit< tt) l))

-- a fraction that is w / K at most does not overflow
pub under_of_below : (w a d : ℕ) → w < 2 ^ 53 → 0 < d → a * K ≤ w * d → grid binary64 a d < overflow binary64
under_of_below w a d h D l = lt_of_le_of_lt (grid_mono binary64 a d w K D (lit< tt) l) (point_under w h)
