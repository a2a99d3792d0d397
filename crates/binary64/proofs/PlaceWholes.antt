-- `floor` and `ceil` of the float ±s + ±a / B are those of the exact sum.
use Rattle.std.proofs.Common.{◌≡◌, ℕ, suc, ◌+◌, ◌-◌, ◌*◌, ◌/◌, ◌^◌, ◌<◌, ◌≤◌, Bool, true, false, pos, negsuc, neg_ℤ, ap, ◌∙◌, le_trans, mul-le-mul_right, mul_assoc, mul_comm, add-mul, one-mul, zero-mul, mul_right_comm, le_of_mul-le-mul_right, mul_left_comm, arith, lit≤}
use lib.Ieee.{binary64, to_signed}
use lib.Ieee.Positive.{den, den_pos}
use Rattle.std.specs.Float.{floor, ceil}
use Rattle.binary64.specs.Range.{plus, less, P, N}
use Rattle.binary64.proofs.Points.{K}
use Rattle.binary64.proofs.Places.{placed, place_finite, place_at_least, place_at_most}
use Rattle.binary64.proofs.Floors.{div_low, div_high}
use Rattle.binary64.proofs.WholeCasts.{floor_pos, floor_neg, ceil_pos, ceil_neg}

-- whole numbers as points, multiplied out
times : (n l B : ℕ) → (n * K + l * K) * B ≡ n * B * K + l * B * K
times n l B = simp (add-mul, mul_assoc, mul_comm, mul_left_comm)

-- the same one point further
times_one : (n l B : ℕ) → (n * K + 1 + l * K) * B ≡ n * B * K + B + l * B * K
times_one n l B = add-mul (n * K + 1) (l * K) B ∙ ap (λ (z : ℕ). z + l * K * B) (add-mul (n * K) 1 B) ∙ at (mul_right_comm n K B) (mul_right_comm l K B) (one-mul B)
  where
    at : {a b c d e f : ℕ} → a ≡ b → c ≡ d → e ≡ f → a + e + c ≡ b + f + d
    at p q r = cc

-- n - v ≤ the exact sum, as points
at_least : (n v l h la ha B : ℕ) → n * B + (l * B + la) ≤ h * B + ha + v * B → (n * K + l * K) * B + la * K ≤ ha * K + (v * K + h * K) * B
at_least n v l h la ha B e =
    let a = times n l B in
    let b = times v h B in
    omega arith

-- n - v < the exact sum gives the next point too, since B is at most K
above : (n v l h la ha B : ℕ) → B ≤ K → n * B + (l * B + la) < h * B + ha + v * B → (n * K + 1 + l * K) * B + la * K ≤ ha * K + (v * K + h * K) * B
above n v l h la ha B Bk e =
    let a = times_one n l B in
    let b = times v h B in
    omega arith

-- the exact sum ≤ n - v, as points
at_most : (n v l h la ha B : ℕ) → h * B + ha + v * B ≤ n * B + (l * B + la) → ha * K + (v * K + h * K) * B ≤ (n * K + l * K) * B + la * K
at_most n v l h la ha B e =
    let a = times n l B in
    let b = times v h B in
    omega arith

-- the exact sum < n - v gives the point before too
below : (n v l h la ha B : ℕ) → B ≤ K → h * B + ha + v * B < n * B + (l * B + la) → ha * K + (v * K + 1 + h * K) * B ≤ (n * K + l * K) * B + la * K
below n v l h la ha B Bk e =
    let a = times n l B in
    let b = times_one v h B in
    omega arith

-- the part above 0 is at most the size
plus_le : (s : Bool) (n : ℕ) → plus s n ≤ n
plus_le false n = omega arith
plus_le true n = omega arith

-- the part below 0 is at most the size
less_le : (s : Bool) (n : ℕ) → less s n ≤ n
less_le false n = omega arith
less_le true n = omega arith

module _ (σ : Bool) (s : ℕ) (α : Bool) (a B : ℕ) (S : s ≤ K) (D : 0 < B) (Bk : B ≤ K) (A : a ≤ K * B) where
  -- the point after a whole number near the sum is one that rounding keeps
  small : (n : ℕ) → n ≤ 4 * K → n * K + 1 < 2 ^ 52
  small n h = omega arith

  -- and so is the whole number itself
  small' : (n : ℕ) → n ≤ 4 * K → n * K < 2 ^ 52
  small' n h = omega arith

  -- where the exact sum is n - v at least, so is the float
  pub ge : (n v : ℕ) → n ≤ 4 * K → v ≤ 4 * K → n * B + (less σ s * B + less α a) ≤ plus σ s * B + plus α a + v * B
      → n * den (placed σ s α a B) + N (placed σ s α a B) ≤ P (placed σ s α a B) + v * den (placed σ s α a B)
  ge n v X Y h =
      let r = placed σ s α a B in
      let k : n * K * den r + N r * K ≤ P r * K + v * K * den r = place_at_least σ s α a B S D A (n * K) (v * K) (small' n X) (small' v Y) (at_least n v (less σ s) (plus σ s) (less α a) (plus α a) B h) in
      let e : n * K * den r ≡ n * den r * K = mul_right_comm n K (den r) in
      let f : v * K * den r ≡ v * den r * K = mul_right_comm v K (den r) in
      omega arith

  -- where the exact sum is above n - v, so is the float
  pub gt : (n v : ℕ) → n ≤ 4 * K → v ≤ 4 * K → n * B + (less σ s * B + less α a) < plus σ s * B + plus α a + v * B
      → n * den (placed σ s α a B) + N (placed σ s α a B) < P (placed σ s α a B) + v * den (placed σ s α a B)
  gt n v X Y h =
      let r = placed σ s α a B in
      let k : (n * K + 1) * den r + N r * K ≤ P r * K + v * K * den r = place_at_least σ s α a B S D A (n * K + 1) (v * K) (small n X) (small' v Y) (above n v (less σ s) (plus σ s) (less α a) (plus α a) B Bk h) in
      let e : (n * K + 1) * den r ≡ n * den r * K + den r = add-mul (n * K) 1 (den r) ∙ two (mul_right_comm n K (den r)) (one-mul (den r)) in
      let f : v * K * den r ≡ v * den r * K = mul_right_comm v K (den r) in
      let g : 0 < den r = den_pos r in
      omega arith
    where
      two : {x y z w : ℕ} → x ≡ y → z ≡ w → x + z ≡ y + w
      two p q = cc

  -- where the exact sum is n - v at most, so is the float
  pub le : (n v : ℕ) → n ≤ 4 * K → v ≤ 4 * K → plus σ s * B + plus α a + v * B ≤ n * B + (less σ s * B + less α a)
      → P (placed σ s α a B) + v * den (placed σ s α a B) ≤ n * den (placed σ s α a B) + N (placed σ s α a B)
  le n v X Y h =
      let r = placed σ s α a B in
      let k : P r * K + v * K * den r ≤ n * K * den r + N r * K = place_at_most σ s α a B S D A (n * K) (v * K) (small' n X) (small' v Y) (at_most n v (less σ s) (plus σ s) (less α a) (plus α a) B h) in
      let e : n * K * den r ≡ n * den r * K = mul_right_comm n K (den r) in
      let f : v * K * den r ≡ v * den r * K = mul_right_comm v K (den r) in
      omega arith

  -- where the exact sum is below n - v, so is the float
  pub lt : (n v : ℕ) → n ≤ 4 * K → v ≤ 4 * K → plus σ s * B + plus α a + v * B < n * B + (less σ s * B + less α a)
      → P (placed σ s α a B) + v * den (placed σ s α a B) < n * den (placed σ s α a B) + N (placed σ s α a B)
  lt n v X Y h =
      let r = placed σ s α a B in
      let k : P r * K + (v * K + 1) * den r ≤ n * K * den r + N r * K = place_at_most σ s α a B S D A (n * K) (v * K + 1) (small' n X) (small v Y) (below n v (less σ s) (plus σ s) (less α a) (plus α a) B Bk h) in
      let e : n * K * den r ≡ n * den r * K = mul_right_comm n K (den r) in
      let f : (v * K + 1) * den r ≡ v * den r * K + den r = add-mul (v * K) 1 (den r) ∙ two (mul_right_comm v K (den r)) (one-mul (den r)) in
      let g : 0 < den r = den_pos r in
      omega arith
    where
      two : {x y z w : ℕ} → x ≡ y → z ≡ w → x + z ≡ y + w
      two p q = cc

  -- a whole number next to a sum above 0 is at most 3 K
  cap : (σ' α' : Bool) → (n c : ℕ) → n * B ≤ c + B → c ≤ plus σ' s * B + plus α' a → n ≤ 3 * K
  cap σ' α' n c h k =
      let x : plus σ' s ≤ s = plus_le σ' s in
      let x' : plus σ' s * B ≤ K * B = mul-le-mul_right B (le_trans x S) in
      let y : plus α' a ≤ a = plus_le α' a in
      let t : 3 * K * B ≡ 3 * (K * B) = mul_assoc 3 K B in
      let u : 1 * B ≤ K * B = mul-le-mul_right B (lit≤ tt) in
      le_of_mul-le-mul_right (le_trans h (omega arith)) D

  -- a whole number next to a sum below 0 is at most 3 K in size
  cap' : (σ' α' : Bool) → (n c : ℕ) → n * B ≤ c + B → c ≤ less σ' s * B + less α' a → n ≤ 3 * K
  cap' σ' α' n c h k =
      let x : less σ' s ≤ s = less_le σ' s in
      let x' : less σ' s * B ≤ K * B = mul-le-mul_right B (le_trans x S) in
      let y : less α' a ≤ a = less_le α' a in
      let t : 3 * K * B ≡ 3 * (K * B) = mul_assoc 3 K B in
      let u : 1 * B ≤ K * B = mul-le-mul_right B (lit≤ tt) in
      le_of_mul-le-mul_right (le_trans h (omega arith)) D

  -- the floor of a sum c / B
  pub floor_of_pos : (c : ℕ) → c + (less σ s * B + less α a) ≡ plus σ s * B + plus α a → to_signed 31 (floor binary64 (placed σ s α a B)) ≡ pos (c / B)
  floor_of_pos c e =
      let n = c / B in
      let r = placed σ s α a B in
      let l : n * B ≤ c = div_low c B D in
      let h : c < (n + 1) * B = div_high c B D in
      let m : n ≤ 3 * K = cap σ α n c (omega arith) (omega arith) in
      let z : 0 * B ≡ 0 = zero-mul B in
      let z' : 0 * den r ≡ 0 = zero-mul (den r) in
      let p : n * den r + N r ≤ P r + 0 * den r = ge n 0 (omega arith) (omega arith) (omega arith) in
      let q : P r + 0 * den r < (n + 1) * den r + N r = lt (n + 1) 0 (omega arith) (omega arith) (omega arith) in
      floor_pos r n (place_finite σ s α a B S D A) (omega arith) (omega arith) (omega arith)

  -- the floor of a sum -(c + 1) / B
  pub floor_of_neg : (c : ℕ) → suc c + (plus σ s * B + plus α a) ≡ less σ s * B + less α a → to_signed 31 (floor binary64 (placed σ s α a B)) ≡ negsuc (c / B)
  floor_of_neg c e =
      let n = c / B in
      let r = placed σ s α a B in
      let l : n * B ≤ c = div_low c B D in
      let h : c < (n + 1) * B = div_high c B D in
      let m : n ≤ 3 * K = cap' σ α n c (omega arith) (omega arith) in
      let z : 0 * B ≡ 0 = zero-mul B in
      let z' : 0 * den r ≡ 0 = zero-mul (den r) in
      let p : 0 * den r + N r ≤ P r + (n + 1) * den r = ge 0 (n + 1) (omega arith) (omega arith) (omega arith) in
      let q : P r + n * den r < 0 * den r + N r = lt 0 n (omega arith) (omega arith) (omega arith) in
      floor_neg r n (place_finite σ s α a B S D A) (omega arith) (omega arith) (omega arith)

  -- the ceil of a sum c / B
  pub ceil_of_pos : (c : ℕ) → c + (less σ s * B + less α a) ≡ plus σ s * B + plus α a → to_signed 31 (ceil binary64 (placed σ s α a B)) ≡ pos ((c + B - 1) / B)
  ceil_of_pos c e =
      let n = (c + B - 1) / B in
      let r = placed σ s α a B in
      let l : n * B ≤ c + B - 1 = div_low (c + B - 1) B D in
      let h : c + B - 1 < (n + 1) * B = div_high (c + B - 1) B D in
      let h' : (n + 1) * B ≡ n * B + 1 * B = add-mul n 1 B in
      let m : n ≤ 3 * K = cap σ α n c (omega arith) (omega arith) in
      let z : 0 * B ≡ 0 = zero-mul B in
      let z' : 0 * den r ≡ 0 = zero-mul (den r) in
      let p : P r + 0 * den r ≤ n * den r + N r = le n 0 (omega arith) (omega arith) (omega arith) in
      let q : n * den r + N r < P r + 1 * den r = gt n 1 (omega arith) (omega arith) (omega arith) in
      ceil_pos r n (place_finite σ s α a B S D A) (omega arith) (omega arith) (omega arith)

  -- the ceil of a sum -(c + 1) / B
  pub ceil_of_neg : (c : ℕ) → suc c + (plus σ s * B + plus α a) ≡ less σ s * B + less α a → to_signed 31 (ceil binary64 (placed σ s α a B)) ≡ neg_ℤ (pos (suc c / B))
  ceil_of_neg c e =
      let n = suc c / B in
      let r = placed σ s α a B in
      let l : n * B ≤ suc c = div_low (suc c) B D in
      let h : suc c < (n + 1) * B = div_high (suc c) B D in
      let m : n ≤ 3 * K = cap' σ α n (suc c) (omega arith) (omega arith) in
      let z : 0 * B ≡ 0 = zero-mul B in
      let z' : 0 * den r ≡ 0 = zero-mul (den r) in
      let p : P r + n * den r ≤ 0 * den r + N r = le 0 n (omega arith) (omega arith) (omega arith) in
      let q : 0 * den r + N r < P r + (n + 1) * den r = gt 0 (n + 1) (omega arith) (omega arith) (omega arith) in
      ceil_neg r n (place_finite σ s α a B S D A) (omega arith) (omega arith) (omega arith)
