-- In the float ±s + ±a / B the quotient is rounded to nearest, and then the sum.
use Rattle.std.proofs.Common.{◌≡◌, ℕ, ◌+◌, ◌-◌, ◌*◌, ◌<◌, ◌≤◌, Bool, true, false, sym, ap, ◌∙◌, subst, le_trans, le_of_eq, mul-le-mul_right, mul_assoc, mul_comm, add-mul, zero-mul, mul_right_comm, le_of_mul-le-mul_right, mul_left_comm, arith, lit<, pow_pos}
use lib.Ieee.{Float, binary64, round}
use lib.Ieee.Exact.{HasValue}
use lib.Ieee.Scale.{grid, overflow, round_same}
use lib.Ieee.Positive.{num, den}
use Rattle.binary64.specs.Range.{plus, less, P, N}
use Rattle.binary64.specs.Sum.{RoundedTwice}
use Rattle.binary64.proofs.Grid.{U, round_value, value_cross}
use Rattle.binary64.proofs.Points.{K, under_of_below}
use Rattle.binary64.proofs.Sides.{value_p, value_n}
use Rattle.binary64.proofs.Places.{placed, quotient_under, summed, value', dpos, sum_bound}
use Rattle.binary64.proofs.Nearest.{nearest_fraction}

-- an equation of fractions holds of the parts above 0
plus_cross : (s : Bool) (m g d V : ℕ) → m * V ≡ g * d → plus s m * V ≡ plus s g * d
plus_cross false m g d V e = e
plus_cross true m g d V e = zero-mul V ∙ sym (zero-mul d)

-- and of the parts below 0
less_cross : (s : Bool) (m g d V : ℕ) → m * V ≡ g * d → less s m * V ≡ less s g * d
less_cross false m g d V e = zero-mul V ∙ sym (zero-mul d)
less_cross true m g d V e = e

-- the sum's equation times V, over dx * dq
spread : (h' l' h l hg lg p n dx dq V : ℕ) → p * V ≡ hg * dq → n * V ≡ lg * dq → h' + (l * dx * dq + n * dx) ≡ l' + (h * dx * dq + p * dx)
    → h' * V + (l * V + lg) * (dx * dq) ≡ l' * V + (h * V + hg) * (dx * dq)
spread h' l' h l hg lg p n dx dq V e f g =
    let a : (h' + (l * dx * dq + n * dx)) * V ≡ (l' + (h * dx * dq + p * dx)) * V = ap (λ (z : ℕ). z * V) g in
    let b : (h' + (l * dx * dq + n * dx)) * V ≡ h' * V + (l * V * (dx * dq) + n * V * dx) = simp (add-mul, mul_assoc, mul_comm, mul_left_comm) in
    let c : (l' + (h * dx * dq + p * dx)) * V ≡ l' * V + (h * V * (dx * dq) + p * V * dx) = simp (add-mul, mul_assoc, mul_comm, mul_left_comm) in
    let e' : p * V * dx ≡ hg * (dx * dq) = ap (λ (z : ℕ). z * dx) e ∙ mul_assoc hg dq dx ∙ ap (λ (z : ℕ). hg * z) (mul_comm dq dx) in
    let f' : n * V * dx ≡ lg * (dx * dq) = ap (λ (z : ℕ). z * dx) f ∙ mul_assoc lg dq dx ∙ ap (λ (z : ℕ). lg * z) (mul_comm dq dx) in
    let i : (l * V + lg) * (dx * dq) ≡ l * V * (dx * dq) + lg * (dx * dq) = add-mul (l * V) lg (dx * dq) in
    let j : (h * V + hg) * (dx * dq) ≡ h * V * (dx * dq) + hg * (dx * dq) = add-mul (h * V) hg (dx * dq) in
    finish (h' * V) (l' * V) (l * V * (dx * dq)) (h * V * (dx * dq)) (n * V * dx) (p * V * dx) (lg * (dx * dq)) (hg * (dx * dq)) ((l * V + lg) * (dx * dq)) ((h * V + hg) * (dx * dq)) f' e' (sym b ∙ a ∙ c) i j
  where
    finish : (x y l h n p lg hg u w : ℕ) → n ≡ lg → p ≡ hg → x + (l + n) ≡ y + (h + p) → u ≡ l + lg → w ≡ h + hg → x + u ≡ y + w
    finish x y l h n p lg hg u w e f g i j = omega arith

-- with one sign: A + n D = p D gives n ≤ p and A = (p - n) D
apart : (A n p D : ℕ) → 0 < D → A + n * D ≡ 0 + p * D → (n ≤ p) × (A ≡ (p - n) * D)
apart A n p D pos-D e =
    let l : n ≤ p = (let h : n * D ≤ p * D = omega arith in le_of_mul-le-mul_right h pos-D) in
    let f : p - n + n ≡ p = omega arith in
    let g : p * D ≡ (p - n) * D + n * D = ap (λ (z : ℕ). z * D) (sym f) ∙ add-mul (p - n) n D in
    (l, omega arith)

-- the sum as a whole number of units, p - n = ±sum and size / D = sum / V
record Total (b : Bool) (size D V n p : ℕ) : Type 0 where
  sum : ℕ
  total : plus b sum + n ≡ less b sum + p
  cross : size * V ≡ sum * D

-- there is such a number of units
total_of : (b : Bool) (size D V n p : ℕ) → 0 < D → plus b size * V + n * D ≡ less b size * V + p * D → Total b size D V n p
total_of false size D V n p pos-D e =
    let z : 0 * V ≡ 0 = zero-mul V in
    let a = apart (size * V) n p D pos-D (e ∙ ap (λ (w : ℕ). w + p * D) z) in
    let l : n ≤ p = a.0 in
    record { sum = p - n; total = omega arith; cross = a.1 }
total_of true size D V n p pos-D e =
    let z : 0 * V ≡ 0 = zero-mul V in
    let a = apart (size * V) p n D pos-D (sym e ∙ ap (λ (w : ℕ). w + n * D) z) in
    let l : p ≤ n = a.0 in
    record { sum = n - p; total = omega arith; cross = a.1 }

module _ (σ : Bool) (s : ℕ) (α : Bool) (a B : ℕ) (S : s ≤ K) (D : 0 < B) (A : a ≤ K * B) where
  -- the float ±s + ±a / B is rounded twice, each time to nearest
  pub rounded_twice : RoundedTwice σ s α a B (placed σ s α a B)
  rounded_twice =
      let x = round binary64 σ s 1 in
      let q = round binary64 α a B in
      let g = grid binary64 a B in
      let val : HasValue q α g U = round_value binary64 α a B (quotient_under a B D A) in
      let m = summed σ s α a B S D A in
      let dd = den x * den q in
      let Pq : P q * U ≡ plus α g * den q = ap (λ (z : ℕ). z * U) (value_p q α g U val) ∙ plus_cross α (num q) g (den q) U (value_cross q α g U val) in
      let Nq : N q * U ≡ less α g * den q = ap (λ (z : ℕ). z * U) (value_n q α g U val) ∙ less_cross α (num q) g (den q) U (value_cross q α g U val) in
      let t : Total m.sign m.size dd U (less σ s * U + less α g) (plus σ s * U + plus α g) =
      total_of m.sign m.size dd U (less σ s * U + less α g) (plus σ s * U + plus α g) (dpos σ s α a B S D A)
      (spread (plus m.sign m.size) (less m.sign m.size) (plus σ s) (less σ s) (plus α g) (less α g) (P q) (N q) (den x) (den q) U Pq Nq (value' σ s α a B S D A)) in
      let small : t.sum * K ≤ (2 * K * K) * U = le_of_mul-le-mul_right
      (le_trans (le_of_eq (mul_right_comm t.sum K dd ∙ ap (λ (z : ℕ). z * K) (sym t.cross) ∙ mul_right_comm m.size U K))
      (le_trans (mul-le-mul_right U (sum_bound σ s α a B S D A)) (le_of_eq (mul_right_comm (2 * K * K) dd U)))) (dpos σ s α a B S D A) in
      let under : grid binary64 t.sum U < overflow binary64 = under_of_below (2 * K * K) t.sum U (lit< tt) (pow_pos 1074) small in
      let i : placed σ s α a B ≡ round binary64 m.sign t.sum U = m.is ∙ round_same binary64 m.sign m.size dd t.sum U (dpos σ s α a B S D A) (pow_pos 1074) t.cross in
      record {
        quotient = g;
        first = nearest_fraction a B D;
        sign = m.sign;
        sum = t.sum;
        total = t.total;
        answer = grid binary64 t.sum U;
        second = nearest_fraction t.sum U (pow_pos 1074);
        value = subst (λ (z : Float). HasValue z m.sign (grid binary64 t.sum U) U) (sym i) (round_value binary64 m.sign t.sum U under);
      }
