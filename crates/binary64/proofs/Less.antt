-- `lt` on finite binary64 numbers is the order of the fractions (P - N) / den.
use Rattle.std.proofs.Common.{◌≡◌, ℕ, ◌+◌, ◌*◌, ◌<◌, ◌≤◌, Bool, true, false, not, T, mul-le-mul_right, mul_assoc, mul_comm, add-mul, lt_of_mul-lt-mul_right, mul-lt-mul_of_pos_right, mul_left_comm, arith, ltb→lt, lt→ltb}
use lib.Ieee.{Float, nan, inf, fin, lt}
use lib.Ieee as ieee
use lib.Ieee.Scale.{finite}
use lib.Ieee.Positive.{den, den_pos}
use Rattle.binary64.specs.Range.{P, N}

-- x is below y, as fractions
abbrev pub Less : Float → Float → Type 0
Less x y = P x * den y + N y * den x < P y * den x + N x * den y

-- x is at most y, as fractions
abbrev pub AtMost : Float → Float → Type 0
AtMost x y = P x * den y + N y * den x ≤ P y * den x + N x * den y

-- `lt` says that x is below y
pub lt_out : (x y : Float) → T (finite x) → T (finite y) → T (lt x y) → Less x y
unfolding lt
lt_out nan y f g h = absurd f
lt_out (inf s) y f g h = absurd f
lt_out (fin s m e) nan f g h = absurd g
lt_out (fin s m e) (inf t) f g h = absurd g
lt_out (fin false m e) (fin false n d) f g h = let k = ltb→lt (m * ieee.up e * ieee.down d) (n * ieee.up d * ieee.down e) h in omega arith
lt_out (fin false m e) (fin true n d) f g h = absurd h
lt_out (fin true m e) (fin false n d) f g h = let k = ltb→lt 0 (m * ieee.up e * ieee.down d + n * ieee.up d * ieee.down e) h in omega arith
lt_out (fin true m e) (fin true n d) f g h = let k = ltb→lt (n * ieee.up d * ieee.down e) (m * ieee.up e * ieee.down d) h in omega arith

-- where x is below y, `lt` says so
pub lt_in : (x y : Float) → T (finite x) → T (finite y) → Less x y → T (lt x y)
unfolding lt
lt_in nan y f g h = absurd f
lt_in (inf s) y f g h = absurd f
lt_in (fin s m e) nan f g h = absurd g
lt_in (fin s m e) (inf t) f g h = absurd g
lt_in (fin false m e) (fin false n d) f g h = lt→ltb (m * ieee.up e * ieee.down d) (n * ieee.up d * ieee.down e) (omega arith)
lt_in (fin false m e) (fin true n d) f g h = absurd (none (m * ieee.up e * ieee.down d) (n * ieee.up d * ieee.down e) (omega arith))
  where
    none : (a b : ℕ) → a + b < 0 → ⊥
    none a b k = omega arith
lt_in (fin true m e) (fin false n d) f g h = lt→ltb 0 (m * ieee.up e * ieee.down d + n * ieee.up d * ieee.down e) (omega arith)
lt_in (fin true m e) (fin true n d) f g h = lt→ltb (n * ieee.up d * ieee.down e) (m * ieee.up e * ieee.down d) (omega arith)

module _ (px nx dx py ny dy pz nz dz : ℕ) (Y : 0 < dy) (X : 0 < dx) (Z : 0 < dz) where
  -- the six products of the two lemmas below, multiplied out: the first
  l1 : (px * dy + ny * dx) * dz ≡ px * dz * dy + ny * dx * dz
  l1 = simp (add-mul, mul_assoc, mul_comm)

  -- the second
  l2 : (py * dx + nx * dy) * dz ≡ py * dx * dz + nx * dz * dy
  l2 = simp (add-mul, mul_assoc, mul_comm)

  -- the third
  l3 : (py * dz + nz * dy) * dx ≡ py * dx * dz + nz * dx * dy
  l3 = simp (add-mul, mul_assoc, mul_comm, mul_left_comm)

  -- the fourth
  l4 : (pz * dy + ny * dz) * dx ≡ pz * dx * dy + ny * dx * dz
  l4 = simp (add-mul, mul_assoc, mul_comm, mul_left_comm)

  -- the fifth
  l5 : (px * dz + nz * dx) * dy ≡ px * dz * dy + nz * dx * dy
  l5 = add-mul (px * dz) (nz * dx) dy

  -- the sixth
  l6 : (pz * dx + nx * dz) * dy ≡ pz * dx * dy + nx * dz * dy
  l6 = add-mul (pz * dx) (nx * dz) dy

  -- x ≤ y and y < z give x < z, for three fractions
  pub le_then_lt : px * dy + ny * dx ≤ py * dx + nx * dy → py * dz + nz * dy < pz * dy + ny * dz → px * dz + nz * dx < pz * dx + nx * dz
  le_then_lt h k =
      let h' : (px * dy + ny * dx) * dz ≤ (py * dx + nx * dy) * dz = mul-le-mul_right dz h in
      let k' : (py * dz + nz * dy) * dx < (pz * dy + ny * dz) * dx = mul-lt-mul_of_pos_right k X in
      let g : (px * dz + nz * dx) * dy < (pz * dx + nx * dz) * dy = omega (arith, l1, l2, l3, l4, l5, l6) in
      lt_of_mul-lt-mul_right dy g

  -- x < y and y ≤ z give x < z, for three fractions
  pub lt_then_le : px * dy + ny * dx < py * dx + nx * dy → py * dz + nz * dy ≤ pz * dy + ny * dz → px * dz + nz * dx < pz * dx + nx * dz
  lt_then_le h k =
      let h' : (px * dy + ny * dx) * dz < (py * dx + nx * dy) * dz = mul-lt-mul_of_pos_right h Z in
      let k' : (py * dz + nz * dy) * dx ≤ (pz * dy + ny * dz) * dx = mul-le-mul_right dx k in
      let g : (px * dz + nz * dx) * dy < (pz * dx + nx * dz) * dy = omega (arith, l1, l2, l3, l4, l5, l6) in
      lt_of_mul-lt-mul_right dy g

-- x ≤ y and y < z give x < z, for floats
pub LessRight : (x y z : Float) → AtMost x y → Less y z → Less x z
LessRight x y z = le_then_lt (P x) (N x) (den x) (P y) (N y) (den y) (P z) (N z) (den z) (den_pos y) (den_pos x) (den_pos z)

-- x < y and y ≤ z give x < z, for floats
pub LessLeft : (x y z : Float) → Less x y → AtMost y z → Less x z
LessLeft x y z = lt_then_le (P x) (N x) (den x) (P y) (N y) (den y) (P z) (N z) (den z) (den_pos y) (den_pos x) (den_pos z)

-- where x is not below y, y is at most x
pub not_less : (x y : Float) → T (finite x) → T (finite y) → T (not (lt x y)) → AtMost y x
not_less x y f g n = go (clash (lt x y) n)
  where
    clash : (b : Bool) → T (not b) → T b → ⊥
    clash true n t = n
    clash false n t = t

    go : (T (lt x y) → ⊥) → AtMost y x
    go no_lt = flip (P x * den y + N y * den x) (P y * den x + N x * den y) (λ h. no_lt (lt_in x y f g h))
      where
        flip : (a b : ℕ) → (a < b → ⊥) → b ≤ a
        flip a b k = omega arith
