-- Each comparison of a fraction, with its sign, with a point (w - v) / 2 ^ 16 outlives its rounding to binary64.
use Rattle.std.proofs.Common.{◌≡◌, ℕ, ◌+◌, ◌-◌, ◌*◌, ◌^◌, ◌<◌, ◌≤◌, Bool, true, false, not, T, leb, ◌⊎◌, sym, ap, ◌∙◌, subst, inl, inr, le_trans, le_of_eq, le_of_lt, mul-le-mul_right, add-mul, mul_right_comm, le_of_mul-le-mul_right, arith, leb→le, pow_pos}
use lib.Dec.{nleb→lt}
use lib.Ieee.{Float, nan, inf, fin, binary64, round}
use lib.Ieee as ieee
use lib.Ieee.Exact.{HasValue}
use lib.Ieee.Scale.{grid, overflow}
use lib.Ieee.Positive.{num, den, den_pos}
use Rattle.binary64.specs.Range.{plus, less, P, N}
use Rattle.binary64.proofs.Grid.{U, round_value, value_cross}
use Rattle.binary64.proofs.Points.{K, grid_above, grid_below}

-- a value of the sign s has its numerator in P where s says that it is not negative
pub value_p : (x : Float) (s : Bool) (a c : ℕ) → HasValue x s a c → P x ≡ plus s (num x)
value_p nan s a c h = absurd h
value_p (inf t) s a c h = absurd h
value_p (fin t m e) s a c h = ap (λ (b : Bool). plus b (m * ieee.up e)) h.0

-- and in N where it is
pub value_n : (x : Float) (s : Bool) (a c : ℕ) → HasValue x s a c → N x ≡ less s (num x)
value_n nan s a c h = absurd h
value_n (inf t) s a c h = absurd h
value_n (fin t m e) s a c h = ap (λ (b : Bool). less b (m * ieee.up e)) h.0

-- with m / d = g / U, x / K ≤ g / U gives x / K ≤ m / d
pub cross_up : (x m g d : ℕ) → m * U ≡ g * d → x * U ≤ g * K → x * d ≤ m * K
cross_up x m g d e h =
    le_of_mul-le-mul_right
    (le_trans (le_of_eq (mul_right_comm x d U))
    (le_trans (mul-le-mul_right d h)
    (le_of_eq (mul_right_comm g K d ∙ ap (λ (z : ℕ). z * K) (sym e) ∙ mul_right_comm m U K)))) (pow_pos 1074)

-- with m / d = g / U, g / U ≤ x / K gives m / d ≤ x / K
pub cross_down : (x m g d : ℕ) → m * U ≡ g * d → g * K ≤ x * U → m * K ≤ x * d
cross_down x m g d e h =
    le_of_mul-le-mul_right
    (le_trans (le_of_eq (mul_right_comm m K U ∙ ap (λ (z : ℕ). z * K) e ∙ mul_right_comm g d K))
    (le_trans (mul-le-mul_right d h) (le_of_eq (mul_right_comm x U d)))) (pow_pos 1074)

-- w d is (w - v) d and v d
split : (w v d : ℕ) → v ≤ w → w * d ≡ (w - v) * d + v * d
split w v d h = let e : w - v + v ≡ w = omega arith in ap (λ (z : ℕ). z * d) (sym e) ∙ add-mul (w - v) v d

-- of two numbers, one is at most the other
pub either_way : (w v : ℕ) → (w ≤ v) ⊎ (v ≤ w)
either_way w v = go (leb w v) (leb→le w v) (nleb→lt w v)
  where
    go : (t : Bool) → (T t → w ≤ v) → (T (not t) → v < w) → (w ≤ v) ⊎ (v ≤ w)
    go true h k = inl (h tt)
    go false h k = inr (le_of_lt (k tt))

-- a difference is below what its first number is below
less_than : (w v b : ℕ) → w < b → w - v < b
less_than w v b h = omega arith

-- the fraction a / d, which rounds to g / U = m / c
module _ (a d m c : ℕ) (D : 0 < d) (C : 0 < c) (e : m * U ≡ grid binary64 a d * c) where
  -- (w - v) / K ≤ a / d gives (w - v) / K ≤ m / c
  raises : (w v : ℕ) → w < 2 ^ 53 → w * d ≤ a * K + v * d → w * c ≤ m * K + v * c
  raises w v small h = elim (either_way w v) [
    | inl l ↦ let p : w * c ≤ v * c = mul-le-mul_right c l in omega arith
    | inr l ↦
        let s : w * d ≡ (w - v) * d + v * d = split w v d l in
        let t : w * c ≡ (w - v) * c + v * c = split w v c l in
        let k : (w - v) * d ≤ a * K = omega arith in
        let q : (w - v) * c ≤ m * K = cross_up (w - v) m (grid binary64 a d) c e (grid_above (w - v) a d (less_than w v (2 ^ 53) small) D k) in
        omega arith
  ]

  -- a / d ≤ (v - w) / K gives m / c ≤ (v - w) / K
  lowers : (w v : ℕ) → v < 2 ^ 53 → w * d + a * K ≤ v * d → w * c + m * K ≤ v * c
  lowers w v small h =
      let g : w * d ≤ v * d = omega arith in
      let l : w ≤ v = le_of_mul-le-mul_right g D in
      let s : v * d ≡ (v - w) * d + w * d = split v w d l in
      let t : v * c ≡ (v - w) * c + w * c = split v w c l in
      let k : a * K ≤ (v - w) * d = omega arith in
      let q : m * K ≤ (v - w) * c = cross_down (v - w) m (grid binary64 a d) c e (grid_below (v - w) a d (less_than v w (2 ^ 53) small) D k) in
      omega arith

-- x is (w - v) / K at least
abbrev pub AtLeast : Float → ℕ → ℕ → Type 0
AtLeast x w v = w * den x + N x * K ≤ P x * K + v * den x

-- x is (w - v) / K at most
abbrev pub AtMost : Float → ℕ → ℕ → Type 0
AtMost x w v = P x * K + v * den x ≤ w * den x + N x * K

-- with a sign: (w - v) / K ≤ ±a / d gives (w - v) / K ≤ ±m / c
up_side : (s : Bool) (a d m c : ℕ) (D : 0 < d) (C : 0 < c) (e : m * U ≡ grid binary64 a d * c) (w v : ℕ) → w < 2 ^ 53 → v < 2 ^ 53
    → w * d + less s a * K ≤ plus s a * K + v * d → w * c + less s m * K ≤ plus s m * K + v * c
up_side false a d m c D C e w v W V h = let k : w * d ≤ a * K + v * d = omega arith in let q : w * c ≤ m * K + v * c = raises a d m c D C e w v W k in omega arith
up_side true a d m c D C e w v W V h = let k : w * d + a * K ≤ v * d = omega arith in let q : w * c + m * K ≤ v * c = lowers a d m c D C e w v V k in omega arith

-- with a sign: ±a / d ≤ (w - v) / K gives ±m / c ≤ (w - v) / K
down_side : (s : Bool) (a d m c : ℕ) (D : 0 < d) (C : 0 < c) (e : m * U ≡ grid binary64 a d * c) (w v : ℕ) → w < 2 ^ 53 → v < 2 ^ 53
    → plus s a * K + v * d ≤ w * d + less s a * K → plus s m * K + v * c ≤ w * c + less s m * K
down_side false a d m c D C e w v W V h = let k : v * d + a * K ≤ w * d = omega arith in let q : v * c + m * K ≤ w * c = lowers a d m c D C e v w W k in omega arith
down_side true a d m c D C e w v W V h = let k : v * d ≤ a * K + w * d = omega arith in let q : v * c ≤ m * K + w * c = raises a d m c D C e v w V k in omega arith

-- what is (w - v) / K at least is still so when rounded
pub round_at_least : (s : Bool) (a d w v : ℕ) → 0 < d → w < 2 ^ 53 → v < 2 ^ 53 → grid binary64 a d < overflow binary64
    → w * d + less s a * K ≤ plus s a * K + v * d → AtLeast (round binary64 s a d) w v
round_at_least s a d w v D W V g h =
    let r = round binary64 s a d in
    let val : HasValue r s (grid binary64 a d) U = round_value binary64 s a d g in
    let q : w * den r + less s (num r) * K ≤ plus s (num r) * K + v * den r = up_side s a d (num r) (den r) D (den_pos r) (value_cross r s (grid binary64 a d) U val) w v W V h in
    subst (λ (z : ℕ). w * den r + z * K ≤ P r * K + v * den r) (sym (value_n r s (grid binary64 a d) U val))
    (subst (λ (z : ℕ). w * den r + less s (num r) * K ≤ z * K + v * den r) (sym (value_p r s (grid binary64 a d) U val)) q)

-- what is (w - v) / K at most is still so when rounded
pub round_at_most : (s : Bool) (a d w v : ℕ) → 0 < d → w < 2 ^ 53 → v < 2 ^ 53 → grid binary64 a d < overflow binary64
    → plus s a * K + v * d ≤ w * d + less s a * K → AtMost (round binary64 s a d) w v
round_at_most s a d w v D W V g h =
    let r = round binary64 s a d in
    let val : HasValue r s (grid binary64 a d) U = round_value binary64 s a d g in
    let q : plus s (num r) * K + v * den r ≤ w * den r + less s (num r) * K = down_side s a d (num r) (den r) D (den_pos r) (value_cross r s (grid binary64 a d) U val) w v W V h in
    subst (λ (z : ℕ). P r * K + v * den r ≤ w * den r + z * K) (sym (value_n r s (grid binary64 a d) U val))
    (subst (λ (z : ℕ). z * K + v * den r ≤ w * den r + less s (num r) * K) (sym (value_p r s (grid binary64 a d) U val)) q)
