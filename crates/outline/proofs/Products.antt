-- Products of whole numbers, and their order.
use Rattle.std.proofs.Common.{◌≡◌, ℕ, suc, ◌+◌, ◌-◌, ◌*◌, ◌/◌, ◌<◌, ◌≤◌, true, false, ℤ, pos, negsuc, ◌+ℤ◌, ◌-ℤ◌, ◌*ℤ◌, neg_ℤ, ◌≤ℤ◌, ◌<ℤ◌, sym, ap, ◌∙◌, subst, mul-le-mul_right, div-lt_iff_lt-mul, add-mul, div-mul-le_self, arith}
use lib.IntN.{*ℤ_comm}
use lib.Signed.{le_z, lt_z}
use borrow.Author.Differences.{up, down, same_out, same_in, sum_is_lem, neg_is, le_out, lt_out, at_most_in, below_in, lt-true, lt-false, le-true, le-false}
use Rattle.std.proofs.lemmas.Int.{ints, by_lt_z}
use Rattle.binary64.specs.Quotient.{floor_over, ceil_over}

-- sums and orders, with each product taken whole
pub ruleset sums = (same_out, same_in, sum_is_lem, neg_is, le_out, lt_out, at_most_in, below_in, lt-true, lt-false, le-true, le-false)

-- the test for below answers yes
pub lt_yes : (a b : ℤ) → a <ℤ b → lt_z a b ≡ true
lt_yes a b h = let e : true ≡ lt_z a b = omega (arith, ints) in sym e

-- the test for below answers no
pub lt_no : (a b : ℤ) → b ≤ℤ a → lt_z a b ≡ false
lt_no a b h = let e : false ≡ lt_z a b = omega (arith, ints) in sym e

-- the test for at most answers yes
pub le_yes : (a b : ℤ) → a ≤ℤ b → le_z a b ≡ true
le_yes a b h = let e : true ≡ le_z a b = omega (arith, ints) in sym e

-- a sum of differences, times a number
times : (a b : ℤ) (n : ℕ) → up (a +ℤ b) * n + down a * n + down b * n ≡ down (a +ℤ b) * n + up a * n + up b * n
times a b n = simp add-mul at (ap (λ (k : ℕ). k * n) (sum_is_lem a b))

-- a sum times a number
pub mul_sum : (a b c : ℤ) → (a +ℤ b) *ℤ c ≡ a *ℤ c +ℤ b *ℤ c
mul_sum a b c = omega (arith, ints, times a b (up c), times a b (down c))

-- a negative times a number
pub mul_neg : (a c : ℤ) → neg_ℤ a *ℤ c ≡ neg_ℤ (a *ℤ c)
mul_neg a c =
    let u = ap (λ (k : ℕ). k * up c) (neg_is a).0 in
    let v = ap (λ (k : ℕ). k * down c) (neg_is a).0 in
    let s = ap (λ (k : ℕ). k * up c) (neg_is a).1 in
    let t = ap (λ (k : ℕ). k * down c) (neg_is a).1 in
    omega (arith, ints)

-- a difference times a number
pub mul_difference : (a b c : ℤ) → (a -ℤ b) *ℤ c ≡ a *ℤ c -ℤ b *ℤ c
mul_difference a b c = mul_sum a (neg_ℤ b) c ∙ ap (λ (k : ℤ). a *ℤ c +ℤ k) (mul_neg b c)

-- a number times a difference
pub difference_mul : (a b c : ℤ) → c *ℤ (a -ℤ b) ≡ c *ℤ a -ℤ c *ℤ b
difference_mul a b c = *ℤ_comm c (a -ℤ b) ∙ mul_difference a b c ∙ ap (λ (k : ℤ). k -ℤ b *ℤ c) (*ℤ_comm a c) ∙ ap (λ (k : ℤ). c *ℤ a -ℤ k) (*ℤ_comm b c)

-- numbers in order stay so times n
pub mul-le : (a b : ℤ) (n : ℕ) → a ≤ℤ b → (a *ℤ pos n) ≤ℤ (b *ℤ pos n)
mul-le a b n h =
    let f : (up a + down b) * n ≤ (up b + down a) * n = mul-le-mul_right n (le_out a b h) in
    let g = simp add-mul at f in
    omega (arith, ints)

-- and strictly so if n is above 0
pub mul_lt : (a b : ℤ) (n : ℕ) → 0 < n → a <ℤ b → (a *ℤ pos n) <ℤ (b *ℤ pos n)
mul_lt a b n z h =
    let e : up a + down b + 1 ≤ up b + down a = omega (arith, lt_out a b h) in
    let f : (up a + down b + 1) * n ≤ (up b + down a) * n = mul-le-mul_right n e in
    let g = simp add-mul at f in
    omega (arith, ints)

-- a factor above 0 cancels
pub le_cancel : (a b : ℤ) (n : ℕ) → 0 < n → (a *ℤ pos n) ≤ℤ (b *ℤ pos n) → a ≤ℤ b
le_cancel a b n z h = by_lt_z b a (λ k. let g = mul_lt b a n z k in absurd (omega (arith, ints))) (λ k. k)

-- ---- floor and ceil
-- a whole quotient is less than 1 below the quotient
div_high : (c d : ℕ) → 0 < d → c < c / d * d + d
div_high c d p =
    let h : c < (c / d + 1) * d = (div-lt_iff_lt-mul p).0 (omega arith) in
    let g = simp add-mul at h in
    omega arith

-- once a number
one-mul : (d : ℕ) → pos 1 *ℤ pos d ≡ pos d
one-mul d = ap pos (native.Mathlib.Nat.one-mul d)

-- one more times d
pub more_mul : (q : ℤ) (d : ℕ) → (q +ℤ pos 1) *ℤ pos d ≡ q *ℤ pos d +ℤ pos d
more_mul q d = mul_sum q (pos 1) (pos d) ∙ ap (λ (k : ℤ). q *ℤ pos d +ℤ k) (one-mul d)

-- one less times d
pub less_mul : (q : ℤ) (d : ℕ) → (q -ℤ pos 1) *ℤ pos d ≡ q *ℤ pos d -ℤ pos d
less_mul q d = mul_difference q (pos 1) (pos d) ∙ ap (λ (k : ℤ). q *ℤ pos d -ℤ k) (one-mul d)

-- floor is at most the quotient
pub floor_low : (z : ℤ) (d : ℕ) → 0 < d → (floor_over z d *ℤ pos d) ≤ℤ z
floor_low (pos c) d p = omega (arith, ints, div-mul-le_self c d)
floor_low (negsuc c) d p = let h = div_high c d p in let e = native.Mathlib.Nat.suc-mul (c / d) d in omega (arith, ints)

-- floor is less than 1 below the quotient, as a sum
floor_high_sum : (z : ℤ) (d : ℕ) → 0 < d → z <ℤ (floor_over z d *ℤ pos d +ℤ pos d)
floor_high_sum (pos c) d p = omega (arith, ints, div_high c d p)
floor_high_sum (negsuc c) d p = let h = div-mul-le_self c d in let e = native.Mathlib.Nat.suc-mul (c / d) d in omega (arith, ints)

-- floor is less than 1 below the quotient
pub floor_high : (z : ℤ) (d : ℕ) → 0 < d → z <ℤ ((floor_over z d +ℤ pos 1) *ℤ pos d)
floor_high z d p = subst (λ (k : ℤ). z <ℤ k) (sym (more_mul (floor_over z d) d)) (floor_high_sum z d p)

-- ceil is at least the quotient
pub ceil_high : (z : ℤ) (d : ℕ) → 0 < d → z ≤ℤ (ceil_over z d *ℤ pos d)
ceil_high (pos c) d p = omega (arith, ints, div_high (c + d - 1) d p)
ceil_high (negsuc c) d p = let h = div-mul-le_self (suc c) d in let e = mul_neg (pos (suc c / d)) (pos d) in omega (arith, ints)

-- ceil is less than 1 above the quotient, as a sum
ceil_low_sum : (z : ℤ) (d : ℕ) → 0 < d → (ceil_over z d *ℤ pos d -ℤ pos d) <ℤ z
ceil_low_sum (pos c) d p = omega (arith, ints, div-mul-le_self (c + d - 1) d)
ceil_low_sum (negsuc c) d p = let h = div_high (suc c) d p in let e = mul_neg (pos (suc c / d)) (pos d) in omega (arith, ints)

-- ceil is less than 1 above the quotient
pub ceil_low : (z : ℤ) (d : ℕ) → 0 < d → ((ceil_over z d -ℤ pos 1) *ℤ pos d) <ℤ z
ceil_low z d p = subst (λ (k : ℤ). k <ℤ z) (sym (less_mul (ceil_over z d) d)) (ceil_low_sum z d p)
