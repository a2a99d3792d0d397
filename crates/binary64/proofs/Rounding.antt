-- Rounding keeps the comparison of a fraction with each whole number below 2 ^ 52 in size.
use Rattle.std.proofs.Common.{◌≡◌, ℕ, ◌+◌, ◌-◌, ◌*◌, ◌^◌, ◌<◌, ◌≤◌, Bool, true, false, not, T, leb, ◌⊎◌, ℤ, sym, ap, ◌∙◌, subst, inl, inr, le_trans, le_of_eq, lt_of_le_of_lt, le_of_lt, mul-le-mul_right, add-mul, mul-one, mul_right_comm, le_of_mul-le-mul_right, arith, lit<, leb→le, pow_pos}
use native.Mathlib.Nat.{eq_of_mul-eq-mul_right}
use lib.Dec.{nleb→lt}
use lib.Ieee.{Float, nan, inf, fin, binary64, round}
use lib.Ieee as ieee
use lib.Ieee.Exact.{HasValue}
use lib.Ieee.Scale.{grid, overflow, round_val, round_under}
use lib.Ieee.Positive.{num, den, den_pos}
use borrow.Author.Differences.{up, down}
use Rattle.binary64.specs.Range.{plus, less, P, N, From, UpTo, Between, Small}
use Rattle.binary64.proofs.Grid.{U, grid_mono, round_value, value_cross, value_finite, whole_exact}

-- a is at most b, or above it
pub le_or_lt : (a b : ℕ) → (a ≤ b) ⊎ (b < a)
le_or_lt a b = go (leb a b) (leb→le a b) (nleb→lt a b)
  where
    go : (t : Bool) → (T t → a ≤ b) → (T (not t) → b < a) → (a ≤ b) ⊎ (b < a)
    go true h k = inl (h tt)
    go false h k = inr (k tt)

-- a whole number below 2 ^ 53 does not overflow
pub whole_under : (w : ℕ) → w < 2 ^ 53 → grid binary64 w 1 < overflow binary64
whole_under w h = round_under binary64 w 1 (value_finite (round binary64 false w 1) false w 1 (whole_exact false w h))

-- two fractions of one value agree
two_values : (m g w d u : ℕ) → 0 < d → m * u ≡ g * d → m * 1 ≡ w * d → g ≡ w * u
two_values m g w d u D p q = eq_of_mul-eq-mul_right d D g (w * u) (sym p ∙ ap (λ (x : ℕ). x * u) (sym (mul-one m) ∙ q) ∙ mul_right_comm w d u)

-- a whole number w is w * U units
grid_whole : (w : ℕ) → w < 2 ^ 53 → grid binary64 w 1 ≡ w * U
grid_whole w h =
    let x = round binary64 false w 1 in
    two_values (num x) (grid binary64 w 1) w (den x) U (den_pos x)
    (value_cross x false (grid binary64 w 1) U (round_val binary64 w 1 (whole_under w h)))
    (value_cross x false w 1 (whole_exact false w h))

-- a fraction that is w at least is still so when rounded
grid_above : (w a d : ℕ) → w < 2 ^ 53 → 0 < d → w * d ≤ a → w * U ≤ grid binary64 a d
grid_above w a d h D l = subst (λ (x : ℕ). x ≤ grid binary64 a d) (grid_whole w h) (grid_mono binary64 w 1 a d (lit< tt) D (le_trans l (le_of_eq (sym (mul-one a)))))

-- a fraction that is w at most is still so when rounded
grid_below : (w a d : ℕ) → w < 2 ^ 53 → 0 < d → a ≤ w * d → grid binary64 a d ≤ w * U
grid_below w a d h D l = subst (λ (x : ℕ). grid binary64 a d ≤ x) (grid_whole w h) (grid_mono binary64 a d w 1 D (lit< tt) (le_trans (le_of_eq (mul-one a)) l))

-- a fraction that is w at most, for a w below 2 ^ 53, does not overflow
pub under_of_below : (w a d : ℕ) → w < 2 ^ 53 → 0 < d → a ≤ w * d → grid binary64 a d < overflow binary64
under_of_below w a d h D l = lt_of_le_of_lt (grid_mono binary64 a d w 1 D (lit< tt) (le_trans (le_of_eq (mul-one a)) l)) (whole_under w h)

-- with m / c = g / U, x ≤ g / U gives x ≤ m / c
cross_up : (x m g c : ℕ) → m * U ≡ g * c → x * U ≤ g → x * c ≤ m
cross_up x m g c e h = le_of_mul-le-mul_right (le_trans (le_of_eq (mul_right_comm x c U)) (le_trans (mul-le-mul_right c h) (le_of_eq (sym e)))) (pow_pos 1074)

-- with m / c = g / U, g / U ≤ x gives m / c ≤ x
cross_down : (x m g c : ℕ) → m * U ≡ g * c → g ≤ x * U → m ≤ x * c
cross_down x m g c e h = le_of_mul-le-mul_right (le_trans (le_of_eq e) (le_trans (mul-le-mul_right c h) (le_of_eq (mul_right_comm x U c)))) (pow_pos 1074)

-- w d is (w - v) d and v d
split : (w v d : ℕ) → v ≤ w → w * d ≡ (w - v) * d + v * d
split w v d h = let e : w - v + v ≡ w = omega arith in ap (λ (z : ℕ). z * d) (sym e) ∙ add-mul (w - v) v d

-- a difference is below what its first number is below
less_than : (w v b : ℕ) → w < b → w - v < b
less_than w v b h = omega arith

-- the fraction a / d, which rounds to grid / U = m / c
module _ (a d m c : ℕ) (D : 0 < d) (e : m * U ≡ grid binary64 a d * c) where
  -- w - v ≤ a / d gives w - v ≤ m / c
  raises : (w v : ℕ) → w < 2 ^ 53 → w * d ≤ a + v * d → w * c ≤ m + v * c
  raises w v small h = elim (le_or_lt w v) [
    | inl l ↦ let p : w * c ≤ v * c = mul-le-mul_right c l in omega arith
    | inr g ↦
        let l : v ≤ w = le_of_lt g in
        let s : w * d ≡ (w - v) * d + v * d = split w v d l in
        let t : w * c ≡ (w - v) * c + v * c = split w v c l in
        let k : (w - v) * d ≤ a = omega arith in
        let q : (w - v) * c ≤ m = cross_up (w - v) m (grid binary64 a d) c e (grid_above (w - v) a d (less_than w v (2 ^ 53) small) D k) in
        omega arith
  ]

  -- a / d ≤ v - w gives m / c ≤ v - w
  lowers : (w v : ℕ) → v < 2 ^ 53 → w * d + a ≤ v * d → w * c + m ≤ v * c
  lowers w v small h =
      let g : w * d ≤ v * d = omega arith in
      let l : w ≤ v = le_of_mul-le-mul_right g D in
      let s : v * d ≡ (v - w) * d + w * d = split v w d l in
      let t : v * c ≡ (v - w) * c + w * c = split v w c l in
      let k : a ≤ (v - w) * d = omega arith in
      let q : m ≤ (v - w) * c = cross_down (v - w) m (grid binary64 a d) c e (grid_below (v - w) a d (less_than v w (2 ^ 53) small) D k) in
      omega arith

-- the same with a sign: w - v ≤ ±a / d gives w - v ≤ ±m / c
up_side : (s : Bool) (a d m c : ℕ) → 0 < d → m * U ≡ grid binary64 a d * c → (w v : ℕ) → w < 2 ^ 53 → v < 2 ^ 53
    → w * d + less s a ≤ plus s a + v * d → w * c + less s m ≤ plus s m + v * c
up_side false a d m c D e w v W V h = let k : w * d ≤ a + v * d = omega arith in let q : w * c ≤ m + v * c = raises a d m c D e w v W k in omega arith
up_side true a d m c D e w v W V h = let k : w * d + a ≤ v * d = omega arith in let q : w * c + m ≤ v * c = lowers a d m c D e w v V k in omega arith

-- ±a / d ≤ w - v gives ±m / c ≤ w - v
down_side : (s : Bool) (a d m c : ℕ) → 0 < d → m * U ≡ grid binary64 a d * c → (w v : ℕ) → w < 2 ^ 53 → v < 2 ^ 53
    → plus s a + v * d ≤ w * d + less s a → plus s m + v * c ≤ w * c + less s m
down_side false a d m c D e w v W V h = let k : v * d + a ≤ w * d = omega arith in let q : v * c + m ≤ w * c = lowers a d m c D e v w W k in omega arith
down_side true a d m c D e w v W V h = let k : v * d ≤ a + w * d = omega arith in let q : v * c ≤ m + w * c = raises a d m c D e v w V k in omega arith

-- a value of the sign s has its numerator in P where s says that it is not negative
value_p : (x : Float) (s : Bool) (a c : ℕ) → HasValue x s a c → P x ≡ plus s (num x)
value_p nan s a c h = absurd h
value_p (inf t) s a c h = absurd h
value_p (fin t m e) s a c h = ap (λ (b : Bool). plus b (m * ieee.up e)) h.0

-- and in N where it is
value_n : (x : Float) (s : Bool) (a c : ℕ) → HasValue x s a c → N x ≡ less s (num x)
value_n nan s a c h = absurd h
value_n (inf t) s a c h = absurd h
value_n (fin t m e) s a c h = ap (λ (b : Bool). less b (m * ieee.up e)) h.0

-- x is (p - n) / d, rounded
pub record Rounds (x : Float) (p n d : ℕ) : Type 0 where
  pub sign : Bool
  pub size : ℕ
  pub is : x ≡ round binary64 sign size d
  pub value : plus sign size + n ≡ less sign size + p

-- w - v ≤ ±a / d ≤ w' - v', so a is at most (v + w') d
size_bound : (s : Bool) (a d w v w' v' : ℕ) → w * d + less s a ≤ plus s a + v * d → plus s a + v' * d ≤ w' * d + less s a → a ≤ (v + w') * d
size_bound false a d w v w' v' h k = let e : (v + w') * d ≡ v * d + w' * d = add-mul v w' d in omega arith
size_bound true a d w v w' v' h k = let e : (v + w') * d ≡ v * d + w' * d = add-mul v w' d in omega arith

-- u - t ≤ w - v ≤ (p - n) / d gives u - t ≤ (p - n) / d
pub shift_low : (u t w v d p n : ℕ) → u + v ≤ w + t → w * d + n ≤ p + v * d → u * d + n ≤ p + t * d
shift_low u t w v d p n h k =
    let m : (u + v) * d ≤ (w + t) * d = mul-le-mul_right d h in
    let e : (u + v) * d ≡ u * d + v * d = add-mul u v d in
    let f : (w + t) * d ≡ w * d + t * d = add-mul w t d in
    omega arith

-- (p - n) / d ≤ w - v ≤ u - t gives (p - n) / d ≤ u - t
pub shift_high : (u t w v d p n : ℕ) → w + t ≤ u + v → p + v * d ≤ w * d + n → p + t * d ≤ u * d + n
shift_high u t w v d p n h k =
    let m : (w + t) * d ≤ (u + v) * d = mul-le-mul_right d h in
    let e : (u + v) * d ≡ u * d + v * d = add-mul u v d in
    let f : (w + t) * d ≡ w * d + t * d = add-mul w t d in
    omega arith

-- two small ends are less than 2 ^ 53 apart
below_53 : (a b c d : ℕ) → a + b < 2 ^ 52 → c + d < 2 ^ 52 → b + c < 2 ^ 53
below_53 a b c d h k = omega arith

-- each part of a small end is below 2 ^ 53
fst_53 : (a b : ℕ) → a + b < 2 ^ 52 → a < 2 ^ 53
fst_53 a b h = omega arith

snd_53 : (a b : ℕ) → a + b < 2 ^ 52 → b < 2 ^ 53
snd_53 a b h = omega arith

-- lo ≤ w - v ≤ (p - n) / d ≤ w' - v' ≤ hi, so the rounded number lies between lo and hi
pub rounds_between : (x : Float) (p n d : ℕ) (lo hi : ℤ) (w v w' v' : ℕ) → Rounds x p n d → 0 < d → Small lo → Small hi
    → up lo + v ≤ w + down lo → w' + down hi ≤ up hi + v' → w * d + n ≤ p + v * d → p + v' * d ≤ w' * d + n → Between lo hi x
rounds_between x p n d lo hi w v w' v' r D S T' i j h k =
    let s = r.sign in
    let a = r.size in
    let y = round binary64 s a d in
    let val : plus s a + n ≡ less s a + p = r.value in
    let h1 : up lo * d + n ≤ p + down lo * d = shift_low (up lo) (down lo) w v d p n i h in
    let k1 : p + down hi * d ≤ up hi * d + n = shift_high (up hi) (down hi) w' v' d p n j k in
    let h2 : up lo * d + less s a ≤ plus s a + down lo * d = omega arith in
    let k2 : plus s a + down hi * d ≤ up hi * d + less s a = omega arith in
    let b : a ≤ (down lo + up hi) * d = size_bound s a d (up lo) (down lo) (up hi) (down hi) h2 k2 in
    let g : grid binary64 a d < overflow binary64 = under_of_below (down lo + up hi) a d (below_53 (up lo) (down lo) (up hi) (down hi) S T') D b in
    let hv : HasValue y s (grid binary64 a d) U = round_value binary64 s a d g in
    let c : num y * U ≡ grid binary64 a d * den y = value_cross y s (grid binary64 a d) U hv in
    let pe : P y ≡ plus s (num y) = value_p y s (grid binary64 a d) U hv in
    let ne : N y ≡ less s (num y) = value_n y s (grid binary64 a d) U hv in
    let lo1 : up lo * den y + less s (num y) ≤ plus s (num y) + down lo * den y =
    up_side s a d (num y) (den y) D c (up lo) (down lo) (fst_53 (up lo) (down lo) S) (snd_53 (up lo) (down lo) S) h2 in
    let hi1 : plus s (num y) + down hi * den y ≤ up hi * den y + less s (num y) =
    down_side s a d (num y) (den y) D c (up hi) (down hi) (fst_53 (up hi) (down hi) T') (snd_53 (up hi) (down hi) T') k2 in
    let lo2 : From (up lo) (down lo) y = omega arith in
    let hi2 : UpTo (up hi) (down hi) y = omega arith in
    subst (Between lo hi) (sym r.is) (record { real = value_finite y s (grid binary64 a d) U hv; low = lo2; high = hi2 })

-- what lies between two ends lies between wider ones
pub widen : (x : Float) (lo hi lo' hi' : ℤ) → up lo' + down lo ≤ up lo + down lo' → up hi + down hi' ≤ up hi' + down hi → Between lo hi x → Between lo' hi' x
widen x lo hi lo' hi' i j b = record {
  real = b.real;
  low = shift_low (up lo') (down lo') (up lo) (down lo) (den x) (P x) (N x) i b.low;
  high = shift_high (up hi') (down hi') (up hi) (down hi) (den x) (P x) (N x) j b.high;
}
