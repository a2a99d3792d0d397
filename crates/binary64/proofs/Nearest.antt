-- `grid` gives the binary64 number nearest to a fraction, ties to even.
use Rattle.std.proofs.Common.{◌≡◌, ℕ, zero, suc, ◌+◌, ◌-◌, ◌*◌, ◌/◌, ◌%◌, ◌^◌, ◌<◌, ◌≤◌, ◌⊎◌, sym, refl, ap, ◌∙◌, subst, inl, inr, le_trans, le_of_eq, mul-le-mul_right, mul_assoc, mul_comm, eq-zero-or-pos, le_antisymm, mul-pos, le-div_iff_mul-le, zero-mul, le_of_mul-le-mul_right, arith, pow_pos, pow-add}
use lib.Ieee.{binary64, size}
use lib.Ieee.Digits.{size_reaches}
use lib.Ieee.Order.{drop, kept}
use lib.Ieee.Scale.{grid}
use Rattle.binary64.specs.Fraction.{NearestFraction}
use Rattle.binary64.proofs.Grid.{kept_le}
use Rattle.binary64.proofs.Closest.{Near, closest_near}
use Rattle.binary64.proofs.Neighbours.{next_up, next_down}

-- p ≤ a / b + 1 / 2 gives p - 1 / 2 ≤ a / b
lower : (p b a : ℕ) → 2 * p * b ≤ 2 * a + b → (2 * p - 1) * b ≤ 2 * a
lower zero b a h = le_trans (le_of_eq (zero-mul b)) (omega arith)
lower (suc p) b a h = let e : 2 * suc p - 1 ≡ 2 * p + 1 = omega arith in subst (λ (z : ℕ). z * b ≤ 2 * a) (sym e) (omega arith)

-- p - 1 / 2 = a / b gives p = a / b + 1 / 2
raise : (p b a : ℕ) → 0 < p → 2 * a ≡ (2 * p - 1) * b → 2 * p * b ≡ 2 * a + b
raise zero b a h e = omega arith
raise (suc p) b a h e = let f : 2 * suc p - 1 ≡ 2 * p + 1 = omega arith in let g : 2 * a ≡ (2 * p + 1) * b = e ∙ ap (λ (z : ℕ). z * b) f in omega arith

-- where digits past 53 are dropped, 53 are in use
used : (z : ℕ) → 0 < z - 53 → 52 + (z - 53) < z
used z h = omega arith

-- doubling keeps the order
double_le : (x y : ℕ) → x ≤ y → 2 * x ≤ 2 * y
double_le x y h = omega arith

-- a whole number is not between b and b + 1 / 2
half : (a b : ℕ) → 2 * a ≤ 2 * b + 1 → a ≤ b
half a b h = omega arith

-- with h below g, their sum is at most twice g
twice_le : (g h : ℕ) → h < g → g + h ≤ 2 * g
twice_le g h l = omega arith

-- 0 is even, so only a number above it is in question
decide : (q : ℕ) → (0 < q → q % 2 ≡ 0) → q % 2 ≡ 0
decide zero h = refl
decide (suc q) h = h (omega arith)

-- the fraction n / c, rounded to q * 2 ^ k
module _ (n c : ℕ) (C : 0 < c) where
  -- the digits that are dropped
  abbrev k : ℕ
  k = drop 53 n c

  -- the digits that are kept, as a number
  abbrev q : ℕ
  q = kept 53 n c

  -- the answer
  abbrev g : ℕ
  g = q * 2 ^ k

  -- q is the whole number nearest to n / c over 2 ^ k
  near : Near n (c * 2 ^ k) q
  near = closest_near n (c * 2 ^ k) (mul-pos C (pow_pos k))

  -- j of the last digit, in either order of the factors
  at_unit : (j : ℕ) → j * (c * 2 ^ k) ≡ j * 2 ^ k * c
  at_unit j = ap (λ (z : ℕ). j * z) (mul_comm c (2 ^ k)) ∙ sym (mul_assoc j (2 ^ k) c)

  -- where digits are dropped, n / c has 53 + k of them
  bottom : 0 < k → 2 ^ (52 + k) * c ≤ n
  bottom h = (le-div_iff_mul-le C).0 (size_reaches (n / c) (52 + k) (used (size (n / c)) h))

  -- n / c is at most q + 1 / 2 of 2 ^ k
  high : 2 * n ≤ (2 * q + 1) * 2 ^ k * c
  high = le_trans near.high (le_of_eq (at_unit (2 * q + 1)))

  -- and q - 1 / 2 of 2 ^ k at least
  low : (2 * q - 1) * 2 ^ k * c ≤ 2 * n
  low = le_trans (le_of_eq (sym (at_unit (2 * q - 1)))) (lower q (c * 2 ^ k) n near.low)

  -- where digits are dropped, q has 53 of them
  full : 0 < k → 2 ^ 52 ≤ q
  full h =
      let e : 2 * 2 ^ 52 * 2 ^ k * c ≡ 2 * (2 ^ (52 + k) * c) = ap (λ (z : ℕ). z * c) (mul_assoc 2 (2 ^ 52) (2 ^ k) ∙ ap (λ (z : ℕ). 2 * z) (sym (pow-add 2 52 k))) ∙ mul_assoc 2 (2 ^ (52 + k)) c in
      let a : 2 * 2 ^ 52 * 2 ^ k * c ≤ 2 * n = le_trans (le_of_eq e) (double_le (2 ^ (52 + k) * c) n (bottom h)) in
      let b : 2 * 2 ^ 52 * 2 ^ k ≤ (2 * q + 1) * 2 ^ k = le_of_mul-le-mul_right (le_trans a high) C in
      half (2 ^ 52) q (le_of_mul-le-mul_right b (pow_pos k))

  -- none above is nearer
  above : (p j : ℕ) → p < 2 ^ 53 → g < p * 2 ^ j → 2 * n ≤ (g + p * 2 ^ j) * c
  above p j P h = le_trans high (mul-le-mul_right c (next_up g q k refl full p j P h))

  -- where q is the least of 53 digits, n / c is not below g, so no number below g is nearer
  from_bottom : (x : ℕ) → x < g → (q ≡ 2 ^ 52) × (0 < k) → (g + x) * c ≤ 2 * n
  from_bottom x h e =
      let i : 2 * g * c ≡ 2 * (2 ^ (52 + k) * c) = mul_assoc 2 g c ∙ ap (λ (z : ℕ). 2 * (z * c)) (ap (λ (z : ℕ). z * 2 ^ k) e.0 ∙ sym (pow-add 2 52 k)) in
      le_trans (mul-le-mul_right c (twice_le g x h)) (le_trans (le_of_eq i) (double_le (2 ^ (52 + k) * c) n (bottom e.1)))

  -- none below is nearer
  below : (p j : ℕ) → p < 2 ^ 53 → p * 2 ^ j < g → (g + p * 2 ^ j) * c ≤ 2 * n
  below p j P h = elim (next_down g q k refl full p j P h) [ inl a ↦ le_trans (mul-le-mul_right c a) low | inr e ↦ from_bottom (p * 2 ^ j) h e ]

  -- where one above is as near, q is even
  even_above : (p j : ℕ) → p < 2 ^ 53 → g < p * 2 ^ j → 2 * n ≡ (g + p * 2 ^ j) * c → q % 2 ≡ 0
  even_above p j P h e =
      near.tie_high (le_antisymm high (le_trans (mul-le-mul_right c (next_up g q k refl full p j P h)) (le_of_eq (sym e))) ∙ sym (at_unit (2 * q + 1)))

  -- where one below is as near, q is even
  even_below : (p j : ℕ) → p < 2 ^ 53 → p * 2 ^ j < g → 2 * n ≡ (g + p * 2 ^ j) * c → q % 2 ≡ 0
  even_below p j P h e = elim (next_down g q k refl full p j P h) [
    | inl a ↦ decide q (λ pos-q. near.tie_low (raise q (c * 2 ^ k) n pos-q (le_antisymm (le_trans (le_of_eq e) (mul-le-mul_right c a)) low ∙ sym (at_unit (2 * q - 1)))))
    | inr s ↦ ap (λ (z : ℕ). z % 2) s.0
  ]

  -- no digit is dropped, or q has 53
  whole_or_full : (k ≡ 0) ⊎ (2 ^ 52 ≤ q)
  whole_or_full = elim (eq-zero-or-pos k) [ inl z ↦ inl z | inr p ↦ inr (full p) ]

-- `grid` is the binary64 number nearest to a / c, in units of 2 ^ -1074
pub nearest_fraction : (a c : ℕ) → 0 < c → NearestFraction a c (grid binary64 a c)
nearest_fraction a c C =
    let n = a * 2 ^ 1074 in
    record {
      q = q n c C;
      k = k n c C;
      is = refl;
      digits = kept_le 53 n c;
      full = whole_or_full n c C;
      above = above n c C;
      below = below n c C;
      even_above = even_above n c C;
      even_below = even_below n c C;
    }
