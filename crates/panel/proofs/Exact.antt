-- The product of an alpha below 1 with 256.0 is exact.
use Rattle.std.proofs.Common.{◌≡◌, ℕ, zero, suc, ◌+◌, ◌-◌, ◌*◌, ◌/◌, ◌%◌, ◌^◌, ◌<◌, ◌≤◌, min, Bool, true, false, ◌&&◌, T, eqb, ltb, leb, ℤ, pos, negsuc, sym, refl, ap, ◌∙◌, subst, ⊎_elim, lt_trans, mul_assoc, mul-one, arith, ltb→lt, leb→le, pow_pos, pow-add, shl_lt}
use lib.Pow.{pow-lt}
use lib.Ieee as Ieee
use lib.Ieee.{Float, nan, inf, fin, binary64}
use lib.Ieee.Exact.{HasValue, round_exact}
use lib.Ieee.Fits.{and_l, and_r, down_pos}
use lib.Ieee.Nearest.{div_same}
use Rattle.std.proofs.lemmas.Nat.{div_below, le-div}
use Rattle.std.proofs.lemmas.Bool.{true≢false, ltb-true, ltb-false, eqb-true, eqb-false, and_parts, and_cases, or_cases, or_parts, cases_lt}
use Rattle.plotters_backend.specs.Color.{zero as nought, one}
use Rattle.panel.specs.Blend.{weight}
use Rattle.panel.specs.ColorLaws.{weight_full, weight_clear, weight_between}
use Rattle.panel.specs.Exact.{WeightsAreExact}

-- a power of two that is at most another has no larger exponent
pow_inv : (i j : ℕ) → 2 ^ i ≤ 2 ^ j → i ≤ j
pow_inv i j h = ⊎_elim (λ (l : j < i). let p = pow-lt l in absurd (omega arith)) (λ (l : i ≤ j). l) (cases_lt j i)

-- a fraction over 2 ^ i as a multiple of the smallest binary64 number
scaled : (i m : ℕ) → i ≤ 1074 → m * 1 * 256 * 2 ^ 1074 ≡ m * 2 ^ (1082 - i) * (2 ^ i * 1)
scaled i m h =
    let j = 1082 - i in
    let e : 2 ^ j * 2 ^ i ≡ 2 ^ 1082 = sym (pow-add 2 j i) ∙ ap (λ (n : ℕ). 2 ^ n) (whole i h) in
    mul_assoc (m * 1) 256 (2 ^ 1074)
    ∙ ap (λ (n : ℕ). n * 2 ^ 1082) (mul-one m)
    ∙ ap (λ (n : ℕ). m * n) (sym e)
    ∙ sym (mul_assoc m (2 ^ j) (2 ^ i))
    ∙ ap (λ (n : ℕ). m * 2 ^ j * n) (sym (mul-one (2 ^ i)))
  where
    whole : (i : ℕ) → i ≤ 1074 → 1082 - i + i ≡ 1082
    whole i h = omega arith

-- which is far below the largest
bounded : (i m : ℕ) → m < 2 ^ 53 → m * 2 ^ (1082 - i) < 2 ^ 2098
bounded i m s = lt_trans (shl_lt 53 (1082 - i) s) (pow-lt (below i))
  where
    below : (i : ℕ) → 53 + (1082 - i) < 2098
    below i = omega arith

-- 256 times a number of at most 53 digits over a power of two is not rounded
product_value : (m k : ℕ) → m < 2 ^ 53 → 2 ^ suc k ≤ 2 ^ 1074 → HasValue (Ieee.round binary64 false (m * 1 * 256) (2 ^ suc k * 1)) false (m * 1 * 256) (2 ^ suc k * 1)
product_value m k s h =
    round_exact binary64 false (m * 1 * 256) (2 ^ suc k * 1) m (1082 - suc k) (subst (λ (n : ℕ). 0 < n) (sym (mul-one (2 ^ suc k))) (pow_pos (suc k))) s (bounded (suc k) m s) (scaled (suc k) m (pow_inv (suc k) 1074 h))

-- the whole part of a value, which the cast does not hold back below 2 ^ 32
cast_value : (x : Float) (a c : ℕ) → 0 < c → HasValue x false a c → a / c ≤ 256 → Ieee.to_unsigned 32 x ≡ min (a / c) 256
unfolding Ieee.to_unsigned
cast_value nan a c q v h = absurd v
cast_value (inf s) a c q v h = absurd v
cast_value (fin true m e) a c q v h = absurd (true≢false v.0)
cast_value (fin false m e) a c q v h = let s = div_same (m * Ieee.up e) (Ieee.down e) a c (down_pos e) q v.1 in omega arith

-- what the tests of an alpha that is not negative say
record Low (m : ℕ) (e : ℤ) : Type 0 where
  some : 0 < m * Ieee.up e
  less : m * Ieee.up e < Ieee.down e

low_from : (m : ℕ) (e : ℤ) → Ieee.le one (fin false m e) ≡ false → Ieee.lt nought (fin false m e) ≡ true → Low m e
unfolding Ieee.le Ieee.lt Ieee.eq Ieee.of_bits Ieee.of_fields
low_from m e o z =
    let d = Ieee.down e in
    let n = m * Ieee.up e in
    let p = or_parts _ _ o in
    let a = ltb-false (1 * d) (n * 1) p.0 in
    let b : 1 * d ≡ n * 1 → ⊥ = ⊎_elim (λ (f : eqb (1 * d) (n * 1) ≡ false). eqb-false _ _ f) (λ (f : true ≡ false). absurd (true≢false f)) (and_cases (eqb (1 * d) (n * 1)) true p.1) in
    let c = ltb-true (0 * d) (n * 1) z in
    record { some = omega arith; less = ⊎_elim (λ (l : n < d). l) (λ (l : d ≤ n). absurd (b (omega arith))) (cases_lt n d) }

high_from : (m : ℕ) (e : ℤ) → Ieee.le one (fin false m e) ≡ true → Ieee.down e ≤ m * Ieee.up e
unfolding Ieee.le Ieee.lt Ieee.eq Ieee.of_bits Ieee.of_fields
high_from m e o =
    let d = Ieee.down e in
    let n = m * Ieee.up e in
    ⊎_elim
    (λ (a : ltb (1 * d) (n * 1) ≡ true). omega (arith, ltb-true (1 * d) (n * 1) a))
    (λ a. omega (arith, eqb-true (1 * d) (n * 1) (and_parts (eqb (1 * d) (n * 1)) _ a).0))
    (or_cases (ltb (1 * d) (n * 1)) _ o)

none_from : (m : ℕ) (e : ℤ) → Ieee.lt nought (fin false m e) ≡ false → m * Ieee.up e ≡ 0
unfolding Ieee.lt Ieee.of_bits Ieee.of_fields
none_from m e z = let a = ltb-false (0 * Ieee.down e) (m * Ieee.up e * 1) z in omega arith

-- the significand and the exponent of a number that binary64 holds
held_parts : (m : ℕ) (e : ℤ) → 0 < m → T (Ieee.fits binary64 (fin false m e)) → (m < 2 ^ 53) × (Ieee.down e ≤ 2 ^ 1074)
unfolding Ieee.fits
held_parts zero e z f = absurd (omega arith)
held_parts (suc m) e z f =
    let a = eqb (suc m % 2) 1 in
    let b = ltb (suc m) (2 ^ 53) in
    let c = leb (Ieee.down e) (2 ^ 1074) in
    let g = and_l (a && b && c) _ f in
    (ltb→lt (suc m) (2 ^ 53) (and_r a b (and_l (a && b) c g)), leb→le (Ieee.down e) (2 ^ 1074) (and_r (a && b) c g))

-- the product of a number below 1
low_exact : (m : ℕ) (e : ℤ) → T (Ieee.fits binary64 (fin false m e)) → Low m e → Ieee.to_unsigned 32 (Ieee.mul binary64 (fin false m e) (fin false 1 (pos 8))) ≡ min (m * Ieee.up e * 256 / Ieee.down e) 256
unfolding Ieee.mul
low_exact m (pos k) f l = absurd (omega (arith, l.some, l.less))
low_exact m (negsuc k) f l =
    let d = 2 ^ suc k in
    let q : 0 < d = pow_pos (suc k) in
    let p = held_parts m (negsuc k) (omega (arith, l.some)) f in
    let v = product_value m k p.0 p.1 in
    let b = div_below (m * 1 * 256) (d * 1) 257 (omega arith) (omega (arith, l.less)) in
    cast_value _ (m * 1 * 256) (d * 1) (omega arith) v (omega arith) ∙ ap (λ (n : ℕ). min (m * 1 * 256 / n) 256) (mul-one d)

positive_exact : (m : ℕ) (e : ℤ) (t u : Bool) → Ieee.le one (fin false m e) ≡ t → Ieee.lt nought (fin false m e) ≡ u → T (Ieee.fits binary64 (fin false m e)) → weight (fin false m e) ≡ min (m * Ieee.up e * 256 / Ieee.down e) 256
positive_exact m e true u o z f =
    let h = high_from m e o in
    let q = le-div 256 (m * Ieee.up e * 256) (Ieee.down e) (down_pos e) (omega arith) in
    weight_full (fin false m e) o ∙ omega arith
positive_exact m e false true o z f = weight_between (fin false m e) o z ∙ low_exact m e f (low_from m e o z)
positive_exact m e false false o z f =
    let h = none_from m e z in
    let q : 0 < Ieee.down e = down_pos e in
    let b = div_below (m * Ieee.up e * 256) (Ieee.down e) 1 q (omega arith) in
    weight_clear (fin false m e) z ∙ omega arith

pub weights_are_exact : WeightsAreExact
unfolding Ieee.le Ieee.lt Ieee.eq Ieee.of_bits Ieee.of_fields
weights_are_exact nan f = refl
weights_are_exact (inf true) f = refl
weights_are_exact (inf false) f = refl
weights_are_exact (fin true m e) f = weight_clear (fin true m e) refl
weights_are_exact (fin false m e) f = positive_exact m e (Ieee.le one (fin false m e)) (Ieee.lt nought (fin false m e)) refl refl f
