-- The binary64 numbers next to g = q * 2 ^ k units, where q has 53 digits or k is 0.
use Rattle.std.proofs.Common.{◌≡◌, ℕ, ◌+◌, ◌-◌, ◌*◌, ◌^◌, ◌<◌, ◌≤◌, ◌⊎◌, sym, ap, ◌∙◌, subst, inl, inr, le_trans, le_of_eq, lt_of_lt_of_le, lt_of_le_of_lt, le_of_lt, mul-le-mul_right, mul_assoc, add-mul, le_antisymm, lt_of_mul-lt-mul_right, mul-lt-mul_of_pos_right, arith, pow_pos, pow_mono, pow-add}
use lib.Ieee.Digits.{back}
use Rattle.binary64.proofs.Rounding.{le_or_lt}

-- with k ≤ j, p * 2 ^ j is a multiple of 2 ^ k
as_multiple : (p j k : ℕ) → k ≤ j → p * 2 ^ j ≡ p * 2 ^ (j - k) * 2 ^ k
as_multiple p j k h = ap (λ (z : ℕ). p * z) (sym (sym (pow-add 2 (j - k) k) ∙ ap (λ (z : ℕ). 2 ^ z) (back j k h))) ∙ sym (mul_assoc p (2 ^ (j - k)) (2 ^ k))

-- with j < k, p * 2 ^ j is below 2 ^ 52 * 2 ^ k
short : (p j k : ℕ) → p < 2 ^ 53 → j < k → p * 2 ^ j < 2 ^ (52 + k)
short p j k h l = lt_of_lt_of_le (mul-lt-mul_of_pos_right h (pow_pos j)) (le_trans (le_of_eq (sym (pow-add 2 53 j))) (pow_mono (room j k l)))
  where
    room : (j k : ℕ) → j < k → 53 + j ≤ 52 + k
    room j k h = omega arith

-- what is above a number is above 0
pos_of : (j k : ℕ) → j < k → 0 < k
pos_of j k h = omega arith

-- with q < m, q u and m u are (2 q + 1) u together at least
up_sum : (g h q m u : ℕ) → g ≡ q * u → h ≡ m * u → q < m → (2 * q + 1) * u ≤ g + h
up_sum g h q m u i e l = let a : (q + 1) * u ≤ m * u = mul-le-mul_right u l' in omega arith
  where
    l' : q + 1 ≤ m
    l' = omega arith

-- a chain of comparisons that no numbers meet
no_way : (g h b c : ℕ) → g ≡ c → h < b → b ≤ c → g < h → ⊥
no_way g h b c i a l k = omega arith

-- two multiples of u add up
sums : (g h q m u : ℕ) → g ≡ q * u → h ≡ m * u → g + h ≡ (q + m) * u
sums g h q m u i e = omega arith

-- with m below q, their sum is at most 2 q - 1
one_less : (q m : ℕ) → m < q → q + m ≤ 2 * q - 1
one_less q m h = omega arith

-- the sum of one that is equal and one that is less
add_lt : (g h a b : ℕ) → g ≡ a → h < b → g + h < a + b
add_lt g h a b i l = omega arith

module _ (g q k : ℕ) (is : g ≡ q * 2 ^ k) (full : 0 < k → 2 ^ 52 ≤ q) where
  -- 52 + k digits in two parts
  split_52 : 2 ^ (52 + k) ≡ 2 ^ 52 * 2 ^ k
  split_52 = pow-add 2 52 k

  -- the midpoint with a greater binary64 number is q + 1 / 2 of 2 ^ k at least
  pub next_up : (p j : ℕ) → p < 2 ^ 53 → g < p * 2 ^ j → (2 * q + 1) * 2 ^ k ≤ g + p * 2 ^ j
  next_up p j P h = elim (le_or_lt k j) [
    | inl l ↦
        let e = as_multiple p j k l in
        up_sum g (p * 2 ^ j) q (p * 2 ^ (j - k)) (2 ^ k) is e (lt_of_mul-lt-mul_right (2 ^ k) (lt_of_le_of_lt (le_of_eq (sym is)) (lt_of_lt_of_le h (le_of_eq e))))
    | inr l ↦
        absurd (no_way g (p * 2 ^ j) (2 ^ 52 * 2 ^ k) (q * 2 ^ k) is (subst (λ (z : ℕ). p * 2 ^ j < z) split_52 (short p j k P l)) (mul-le-mul_right (2 ^ k) (full (pos_of j k l))) h)
  ]

  -- the midpoint with a lesser one is q - 1 / 2 of 2 ^ k at most, or q is the least of 53 digits
  pub next_down : (p j : ℕ) → p < 2 ^ 53 → p * 2 ^ j < g → (g + p * 2 ^ j ≤ (2 * q - 1) * 2 ^ k) ⊎ ((q ≡ 2 ^ 52) × (0 < k))
  next_down p j P h = elim (le_or_lt k j) [
    | inl l ↦
        let e = as_multiple p j k l in
        let m = p * 2 ^ (j - k) in
        inl (le_trans (le_of_eq (sums g (p * 2 ^ j) q m (2 ^ k) is e)) (mul-le-mul_right (2 ^ k) (one_less q m (lt_of_mul-lt-mul_right (2 ^ k) (lt_of_le_of_lt (le_of_eq (sym e)) (lt_of_lt_of_le h (le_of_eq is)))))))
    | inr l ↦
        let K : 0 < k = pos_of j k l in
        let a : p * 2 ^ j < 2 ^ 52 * 2 ^ k = subst (λ (z : ℕ). p * 2 ^ j < z) split_52 (short p j k P l) in
        elim (le_or_lt q (2 ^ 52)) [
          | inl s ↦ inr (le_antisymm s (full K), K)
          | inr s ↦ inl (le_trans (le_of_lt (add_lt g (p * 2 ^ j) (q * 2 ^ k) (2 ^ 52 * 2 ^ k) is a)) (le_trans (le_of_eq (sym (add-mul q (2 ^ 52) (2 ^ k)))) (mul-le-mul_right (2 ^ k) (one_less q (2 ^ 52) s))))
        ]
  ]
