-- The sum of a whole number ±s and a rounded quotient ±a / B, rounded: it compares with each point (w - v) / 2 ^ 16 as the exact sum does.
use Rattle.std.proofs.Common.{◌≡◌, ℕ, ◌+◌, ◌*◌, ◌^◌, ◌<◌, ◌≤◌, Bool, true, false, T, sym, ap, ◌∙◌, subst, le_trans, le_of_eq, lt_of_lt_of_le, lt_of_le_of_lt, mul-le-mul_right, mul_assoc, mul_comm, add-mul, mul-pos, zero-mul, mul-one, mul_right_comm, mul_left_comm, arith, lit<, lit≤}
use lib.Ieee.{Float, binary64, round, add}
use lib.Ieee.Exact.{HasValue}
use lib.Ieee.Scale.{grid, overflow, finite}
use lib.Ieee.Positive.{num, den, den_pos}
use Rattle.binary64.specs.Range.{plus, less, P, N}
use Rattle.binary64.proofs.Grid.{U, round_value, value_cross, value_finite, whole_exact}
use Rattle.binary64.proofs.Points.{K, grid_below, under_of_below}
use Rattle.binary64.proofs.Sides.{value_p, value_n, cross_down, AtLeast, AtMost, round_at_least, round_at_most}
use Rattle.binary64.proofs.Adds.{Summed, add_is}

-- an equation of sizes holds where the sign is plus
plus_of : (s : Bool) (m n d : ℕ) → m ≡ n * d → plus s m ≡ plus s n * d
plus_of false m n d e = e
plus_of true m n d e = sym (zero-mul d)

-- and where it is minus
less_of : (s : Bool) (m n d : ℕ) → m ≡ n * d → less s m ≡ less s n * d
less_of false m n d e = sym (zero-mul d)
less_of true m n d e = e

-- the numerator of a whole number is the number times the denominator
pub whole_num : (s : Bool) (n : ℕ) → n < 2 ^ 53 → num (round binary64 s n 1) ≡ n * den (round binary64 s n 1)
whole_num s n h = sym (mul-one (num (round binary64 s n 1))) ∙ value_cross (round binary64 s n 1) s n 1 (whole_exact s n h)

-- the same with the sign plus
pub whole_p : (s : Bool) (n : ℕ) → n < 2 ^ 53 → P (round binary64 s n 1) ≡ plus s n * den (round binary64 s n 1)
whole_p s n h = value_p (round binary64 s n 1) s n 1 (whole_exact s n h) ∙ plus_of s (num (round binary64 s n 1)) n (den (round binary64 s n 1)) (whole_num s n h)

-- and with the sign minus
pub whole_n : (s : Bool) (n : ℕ) → n < 2 ^ 53 → N (round binary64 s n 1) ≡ less s n * den (round binary64 s n 1)
whole_n s n h = value_n (round binary64 s n 1) s n 1 (whole_exact s n h) ∙ less_of s (num (round binary64 s n 1)) n (den (round binary64 s n 1)) (whole_num s n h)

-- the part above 0 is at most the size
plus_le : (s : Bool) (n : ℕ) → plus s n ≤ n
plus_le false n = omega arith
plus_le true n = omega arith

-- the part below 0 is at most the size
less_le : (s : Bool) (n : ℕ) → less s n ≤ n
less_le false n = omega arith
less_le true n = omega arith

-- a quotient of at most K does not overflow
pub quotient_under : (a B : ℕ) → 0 < B → a ≤ K * B → grid binary64 a B < overflow binary64
quotient_under a B D h = under_of_below (K * K) a B (lit< tt) D (le_trans (mul-le-mul_right K h) (le_of_eq (mul_right_comm K B K)))

-- rounded, it is still at most K
quotient_small : (s : Bool) (a B : ℕ) → 0 < B → a ≤ K * B → num (round binary64 s a B) ≤ K * den (round binary64 s a B)
quotient_small s a B D h =
    let r = round binary64 s a B in
    let q : num r * K ≤ K * K * den r = cross_down (K * K) (num r) (grid binary64 a B) (den r) (value_cross r s (grid binary64 a B) U (round_value binary64 s a B (quotient_under a B D h)))
    (grid_below (K * K) a B (lit< tt) D (le_trans (mul-le-mul_right K h) (le_of_eq (mul_right_comm K B K)))) in
    omega arith

-- and finite
pub quotient_finite : (s : Bool) (a B : ℕ) → 0 < B → a ≤ K * B → T (finite (round binary64 s a B))
quotient_finite s a B D h = value_finite (round binary64 s a B) s (grid binary64 a B) U (round_value binary64 s a B (quotient_under a B D h))

-- from the quotient to the sum, below: h' and l' are the sum's parts, h and l those of x over dx, p and n those of q over dq
chain_up : (w v h l p n dx dq h' l' : ℕ) → (w + l * K) * dq + n * K ≤ p * K + (v + h * K) * dq
    → h' + (l * dx * dq + n * dx) ≡ l' + (h * dx * dq + p * dx) → w * (dx * dq) + l' * K ≤ h' * K + v * (dx * dq)
chain_up w v h l p n dx dq h' l' a e =
    let a' : ((w + l * K) * dq + n * K) * dx ≤ (p * K + (v + h * K) * dq) * dx = mul-le-mul_right dx a in
    let W = w * (dx * dq) in
    let V = v * (dx * dq) in
    let L = l * (dx * dq) in
    let H = h * (dx * dq) in
    let a1 : ((w + l * K) * dq + n * K) * dx ≡ W + L * K + n * dx * K = simp (add-mul, mul_assoc, mul_comm, mul_left_comm) in
    let a2 : (p * K + (v + h * K) * dq) * dx ≡ p * dx * K + (V + H * K) = simp (add-mul, mul_assoc, mul_comm, mul_left_comm) in
    let l1 : l * dx * dq ≡ L = mul_assoc l dx dq in
    let h1 : h * dx * dq ≡ H = mul_assoc h dx dq in
    omega arith

-- from the quotient to the sum, above, with the same names
chain_down : (w v h l p n dx dq h' l' : ℕ) → p * K + (v + h * K) * dq ≤ (w + l * K) * dq + n * K
    → h' + (l * dx * dq + n * dx) ≡ l' + (h * dx * dq + p * dx) → h' * K + v * (dx * dq) ≤ w * (dx * dq) + l' * K
chain_down w v h l p n dx dq h' l' a e =
    let a' : (p * K + (v + h * K) * dq) * dx ≤ ((w + l * K) * dq + n * K) * dx = mul-le-mul_right dx a in
    let W = w * (dx * dq) in
    let V = v * (dx * dq) in
    let L = l * (dx * dq) in
    let H = h * (dx * dq) in
    let a1 : ((w + l * K) * dq + n * K) * dx ≡ W + L * K + n * dx * K = simp (add-mul, mul_assoc, mul_comm, mul_left_comm) in
    let a2 : (p * K + (v + h * K) * dq) * dx ≡ p * dx * K + (V + H * K) = simp (add-mul, mul_assoc, mul_comm, mul_left_comm) in
    let l1 : l * dx * dq ≡ L = mul_assoc l dx dq in
    let h1 : h * dx * dq ≡ H = mul_assoc h dx dq in
    omega arith

-- the sum is at most 2 K in size
bounded : (s p n px nx dx dq z : ℕ) → s ≤ K → px + nx ≤ s * dx → p + n ≤ K * dq → z ≤ px * dq + p * dx + (nx * dq + n * dx) → z * K ≤ (2 * K * K) * (dx * dq)
bounded s p n px nx dx dq z S a b h =
    let a' : (px + nx) * dq ≤ K * (dx * dq) = le_trans (mul-le-mul_right dq a) (le_trans (le_of_eq (mul_assoc s dx dq)) (mul-le-mul_right (dx * dq) S)) in
    let b' : (p + n) * dx ≤ K * (dx * dq) = le_trans (mul-le-mul_right dx b) (le_of_eq (mul_assoc K dq dx ∙ ap (λ (t : ℕ). K * t) (mul_comm dq dx))) in
    let a1 : (px + nx) * dq ≡ px * dq + nx * dq = add-mul px nx dq in
    let b1 : (p + n) * dx ≡ p * dx + n * dx = add-mul p n dx in
    omega arith

-- the two parts are the size together
both_sides : (s : Bool) (m : ℕ) → plus s m + less s m ≤ m
both_sides false m = omega arith
both_sides true m = omega arith

module _ (σ : Bool) (s : ℕ) (α : Bool) (a B : ℕ) where
  -- the binary64 number ±s + ±a / B: the quotient rounded, then the sum
  abbrev pub placed : Float
  placed = add binary64 (round binary64 σ s 1) (round binary64 α a B)

module _ (σ : Bool) (s : ℕ) (α : Bool) (a B : ℕ) (S : s ≤ K) (D : 0 < B) (A : a ≤ K * B) where
  -- s is exact
  pub s_small : s < 2 ^ 53
  s_small = lt_of_le_of_lt S (lit< tt)

  -- so it is finite as a float
  x_finite : T (finite (round binary64 σ s 1))
  x_finite = value_finite (round binary64 σ s 1) σ s 1 (whole_exact σ s s_small)

  -- the sum is one fraction with a sign, rounded
  pub summed : Summed binary64 (placed σ s α a B) (P (round binary64 σ s 1) * den (round binary64 α a B) + P (round binary64 α a B) * den (round binary64 σ s 1))
      (N (round binary64 σ s 1) * den (round binary64 α a B) + N (round binary64 α a B) * den (round binary64 σ s 1)) (den (round binary64 σ s 1) * den (round binary64 α a B))
  summed = add_is binary64 (round binary64 σ s 1) (round binary64 α a B) x_finite (quotient_finite α a B D A)

  -- its denominator is above 0
  pub dpos : 0 < den (round binary64 σ s 1) * den (round binary64 α a B)
  dpos = mul-pos (den_pos (round binary64 σ s 1)) (den_pos (round binary64 α a B))

  -- the parts of s are s together
  x_sides : P (round binary64 σ s 1) + N (round binary64 σ s 1) ≤ s * den (round binary64 σ s 1)
  x_sides =
      let x = round binary64 σ s 1 in
      let p : P x ≡ plus σ (num x) = value_p x σ s 1 (whole_exact σ s s_small) in
      let n : N x ≡ less σ (num x) = value_n x σ s 1 (whole_exact σ s s_small) in
      let e : num x ≡ s * den x = whole_num σ s s_small in
      let b : plus σ (num x) + less σ (num x) ≤ num x = both_sides σ (num x) in
      omega arith

  -- the parts of the quotient are at most K together
  q_sides : P (round binary64 α a B) + N (round binary64 α a B) ≤ K * den (round binary64 α a B)
  q_sides =
      let q = round binary64 α a B in
      let val : HasValue q α (grid binary64 a B) U = round_value binary64 α a B (quotient_under a B D A) in
      let p : P q ≡ plus α (num q) = value_p q α (grid binary64 a B) U val in
      let n : N q ≡ less α (num q) = value_n q α (grid binary64 a B) U val in
      let e : num q ≤ K * den q = quotient_small α a B D A in
      let b : plus α (num q) + less α (num q) ≤ num q = both_sides α (num q) in
      omega arith

  -- the exact sum is at most 2 K
  pub sum_bound : summed.size * K ≤ (2 * K * K) * (den (round binary64 σ s 1) * den (round binary64 α a B))
  sum_bound =
      let x = round binary64 σ s 1 in
      let q = round binary64 α a B in
      bounded s (P q) (N q) (P x) (N x) (den x) (den q) summed.size S x_sides q_sides summed.bound

  -- so it does not overflow
  under : grid binary64 summed.size (den (round binary64 σ s 1) * den (round binary64 α a B)) < overflow binary64
  under =
      let x = round binary64 σ s 1 in
      let q = round binary64 α a B in
      under_of_below (2 * K * K) summed.size (den x * den q) (lit< tt) dpos
      (bounded s (P q) (N q) (P x) (N x) (den x) (den q) summed.size S x_sides q_sides summed.bound)

  -- and the answer is finite
  pub place_finite : T (finite (placed σ s α a B))
  place_finite =
      let d = den (round binary64 σ s 1) * den (round binary64 α a B) in
      subst (λ (z : Float). T (finite z)) (sym summed.is)
      (value_finite (round binary64 summed.sign summed.size d) summed.sign (grid binary64 summed.size d) U (round_value binary64 summed.sign summed.size d under))

  -- the sum's equation, with the whole number's parts written out
  pub value' : plus summed.sign summed.size + (less σ s * den (round binary64 σ s 1) * den (round binary64 α a B) + N (round binary64 α a B) * den (round binary64 σ s 1))
      ≡ less summed.sign summed.size + (plus σ s * den (round binary64 σ s 1) * den (round binary64 α a B) + P (round binary64 α a B) * den (round binary64 σ s 1))
  value' =
      let x = round binary64 σ s 1 in
      let q = round binary64 α a B in
      subst (λ (z : ℕ). plus summed.sign summed.size + (less σ s * den x * den q + N q * den x) ≡ less summed.sign summed.size + (z * den q + P q * den x)) (whole_p σ s s_small)
      (subst (λ (z : ℕ). plus summed.sign summed.size + (z * den q + N q * den x) ≡ less summed.sign summed.size + (P x * den q + P q * den x)) (whole_n σ s s_small) summed.value)

  -- a point moved by s is still one that rounding keeps
  more : (w z : ℕ) → w < 2 ^ 52 → z ≤ s → w + z * K < 2 ^ 53
  more w z W h = let k : s ≤ K = S in omega arith

  -- where the exact sum is (w - v) / K at least, so is the float
  pub place_at_least : (w v : ℕ) → w < 2 ^ 52 → v < 2 ^ 52 → (w + less σ s * K) * B + less α a * K ≤ plus α a * K + (v + plus σ s * K) * B → AtLeast (placed σ s α a B) w v
  place_at_least w v W V h =
      let x = round binary64 σ s 1 in
      let q = round binary64 α a B in
      let g : AtLeast q (w + less σ s * K) (v + plus σ s * K) = round_at_least α a B (w + less σ s * K) (v + plus σ s * K) D (more w (less σ s) W (less_le σ s)) (more v (plus σ s) V (plus_le σ s)) (quotient_under a B D A) h in
      subst (λ (z : Float). AtLeast z w v) (sym summed.is)
      (round_at_least summed.sign summed.size (den x * den q) w v dpos (lt_of_lt_of_le W (lit≤ tt)) (lt_of_lt_of_le V (lit≤ tt)) under
      (chain_up w v (plus σ s) (less σ s) (P q) (N q) (den x) (den q) (plus summed.sign summed.size) (less summed.sign summed.size) g value'))

  -- where the exact sum is (w - v) / K at most, so is the float
  pub place_at_most : (w v : ℕ) → w < 2 ^ 52 → v < 2 ^ 52 → plus α a * K + (v + plus σ s * K) * B ≤ (w + less σ s * K) * B + less α a * K → AtMost (placed σ s α a B) w v
  place_at_most w v W V h =
      let x = round binary64 σ s 1 in
      let q = round binary64 α a B in
      let g : AtMost q (w + less σ s * K) (v + plus σ s * K) = round_at_most α a B (w + less σ s * K) (v + plus σ s * K) D (more w (less σ s) W (less_le σ s)) (more v (plus σ s) V (plus_le σ s)) (quotient_under a B D A) h in
      subst (λ (z : Float). AtMost z w v) (sym summed.is)
      (round_at_most summed.sign summed.size (den x * den q) w v dpos (lt_of_lt_of_le W (lit≤ tt)) (lt_of_lt_of_le V (lit≤ tt)) under
      (chain_down w v (plus σ s) (less σ s) (P q) (N q) (den x) (den q) (plus summed.sign summed.size) (less summed.sign summed.size) g value'))
