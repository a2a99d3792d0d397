-- `floor` and `ceil` of a binary64 number, cast to 32 bits, by comparisons with whole numbers.
use Rattle.std.proofs.Common.{◌≡◌, ℕ, suc, ◌+◌, ◌-◌, ◌*◌, ◌/◌, ◌^◌, ◌<◌, ◌≤◌, min, Bool, true, false, cond, T, pos, negsuc, neg_ℤ, sym, ap, ◌∙◌, subst, lt_of_lt_of_le, div-lt_iff_lt-mul, add-mul, lt_of_mul-lt-mul_right, le-div_iff_mul-le, zero-mul, mul-one, le_of_mul-le-mul_right, mul-div_cancel, arith, lit<, lit≤}
use lib.Ieee.{Float, nan, inf, fin, binary64, round, to_signed}
use lib.Ieee as ieee
use lib.Ieee.Fits.{down_pos}
use lib.Ieee.Exact.{HasValue}
use lib.Ieee.Scale.{finite}
use lib.Ieee.Positive.{den}
use Rattle.std.specs.Float.{floor, ceil, round_with, ratio_ceil}
use Rattle.binary64.specs.Range.{P, N}
use Rattle.binary64.proofs.Grid.{whole_exact}
use Rattle.binary64.proofs.Floors.{signed}

-- a quotient is told by its two bounds
pub div_by : (a d n : ℕ) → 0 < d → n * d ≤ a → a < (n + 1) * d → a / d ≡ n
div_by a d n D l h =
    let x : n ≤ a / d = (le-div_iff_mul-le D).1 l in
    let y : a / d < n + 1 = (div-lt_iff_lt-mul D).1 h in
    omega arith

-- the lesser of two where one is known to be below the other
same_min : (n b : ℕ) → n < b → min n b ≡ n
same_min n b h = omega arith

-- the same at the greatest that fits
same_min_less : (n b : ℕ) → n < b → min n (b - 1) ≡ n
same_min_less n b h = omega arith

-- a whole number that fits is cast to itself
value_cast : (x : Float) (s : Bool) (n : ℕ) → n < 2 ^ 31 → HasValue x s n 1 → to_signed 31 x ≡ signed s n
unfolding to_signed
value_cast nan s n h v = absurd v
value_cast (inf t) s n h v = absurd v
value_cast (fin t m e) s n h v = subst (λ (b : Bool). cond t (neg_ℤ (pos (min (m * ieee.up e / ieee.down e) (2 ^ 31)))) (pos (min (m * ieee.up e / ieee.down e) (2 ^ 31 - 1))) ≡ signed b n) v.0 (go t)
  where
    q : m * ieee.up e / ieee.down e ≡ n
    q = ap (λ (z : ℕ). z / ieee.down e) (sym (mul-one (m * ieee.up e)) ∙ v.1) ∙ mul-div_cancel n (down_pos e)

    go : (b : Bool) → cond b (neg_ℤ (pos (min (m * ieee.up e / ieee.down e) (2 ^ 31)))) (pos (min (m * ieee.up e / ieee.down e) (2 ^ 31 - 1))) ≡ signed b n
    go true = ap (λ (z : ℕ). neg_ℤ (pos (min z (2 ^ 31)))) q ∙ ap (λ (z : ℕ). neg_ℤ (pos z)) (same_min n (2 ^ 31) h)
    go false = ap (λ (z : ℕ). pos (min z (2 ^ 31 - 1))) q ∙ ap pos (same_min_less n (2 ^ 31) h)

-- and so is one that was rounded
pub whole_cast : (s : Bool) (n : ℕ) → n < 2 ^ 31 → to_signed 31 (round binary64 s n 1) ≡ signed s n
whole_cast s n h = value_cast (round binary64 s n 1) s n h (whole_exact s n (lt_of_lt_of_le h (lit≤ tt)))

-- a product of at most 0 with a factor above 0 has the other factor 0
no_product : (n d : ℕ) → 0 < d → n * d ≤ 0 → n ≡ 0
no_product n d D h = let k : n ≤ 0 = le_of_mul-le-mul_right (subst (λ (z : ℕ). n * d ≤ z) (sym (zero-mul d)) h) D in omega arith

-- a quotient raised is told by its two bounds
raised_is : (a d n : ℕ) → 0 < d → a ≤ n * d → n * d < a + d → ratio_ceil a d ≡ n
raised_is a d n D h k = div_by (a + d - 1) d n D (omega arith) (let e : (n + 1) * d ≡ n * d + 1 * d = add-mul n 1 d in omega arith)

-- n ≤ x < n + 1 gives the floor n
pub floor_pos : (x : Float) (n : ℕ) → T (finite x) → n < 2 ^ 31 → n * den x + N x ≤ P x → P x < (n + 1) * den x + N x → to_signed 31 (floor binary64 x) ≡ pos n
unfolding round_with
floor_pos nan n t b l h = absurd t
floor_pos (inf s) n t b l h = absurd t
floor_pos (fin false m e) n t b l h =
    ap (λ (z : ℕ). to_signed 31 (round binary64 false z 1)) (div_by (m * ieee.up e) (ieee.down e) n (down_pos e) (omega arith) (omega arith)) ∙ whole_cast false n b
floor_pos (fin true m e) n t b l h =
    let z : n ≡ 0 = no_product n (ieee.down e) (down_pos e) (omega arith) in
    let y : m * ieee.up e ≤ 0 = omega arith in
    let D : 0 < ieee.down e = down_pos e in
    let w : 0 * ieee.down e ≡ 0 = zero-mul (ieee.down e) in
    ap (λ (c : ℕ). to_signed 31 (round binary64 true c 1)) (raised_is (m * ieee.up e) (ieee.down e) 0 (down_pos e) (omega arith) (omega arith)) ∙ whole_cast true 0 (lit< tt) ∙ ap pos (sym z)

-- -(n + 1) ≤ x < -n gives the floor -(n + 1)
pub floor_neg : (x : Float) (n : ℕ) → T (finite x) → suc n < 2 ^ 31 → N x ≤ P x + (n + 1) * den x → P x + n * den x < N x → to_signed 31 (floor binary64 x) ≡ negsuc n
unfolding round_with
floor_neg nan n t b l h = absurd t
floor_neg (inf s) n t b l h = absurd t
floor_neg (fin false m e) n t b l h = absurd (nothing (m * ieee.up e + n * ieee.down e) h)
  where
    nothing : (a : ℕ) → a < 0 → ⊥
    nothing a k = omega arith
floor_neg (fin true m e) n t b l h =
    let e1 : (n + 1) * ieee.down e ≡ n * ieee.down e + 1 * ieee.down e = add-mul n 1 (ieee.down e) in
    let e2 : suc n * ieee.down e ≡ (n + 1) * ieee.down e = ap (λ (z : ℕ). z * ieee.down e) (omega arith) in
    ap (λ (c : ℕ). to_signed 31 (round binary64 true c 1)) (raised_is (m * ieee.up e) (ieee.down e) (suc n) (down_pos e) (omega arith) (omega arith)) ∙ whole_cast true (suc n) b

-- n - 1 < x ≤ n gives the ceil n
pub ceil_pos : (x : Float) (n : ℕ) → T (finite x) → n < 2 ^ 31 → P x ≤ n * den x + N x → n * den x + N x < P x + den x → to_signed 31 (ceil binary64 x) ≡ pos n
unfolding round_with
ceil_pos nan n t b l h = absurd t
ceil_pos (inf s) n t b l h = absurd t
ceil_pos (fin false m e) n t b l h =
    ap (λ (z : ℕ). to_signed 31 (round binary64 false z 1)) (raised_is (m * ieee.up e) (ieee.down e) n (down_pos e) (omega arith) (omega arith)) ∙ whole_cast false n b
ceil_pos (fin true m e) n t b l h =
    let D : 0 < ieee.down e = down_pos e in
    let y : n * ieee.down e < 1 * ieee.down e = omega arith in
    let z : n ≡ 0 = below_one n (lt_of_mul-lt-mul_right (ieee.down e) y) in
    let w : 0 * ieee.down e ≡ 0 = zero-mul (ieee.down e) in
    ap (λ (c : ℕ). to_signed 31 (round binary64 true c 1)) (div_by (m * ieee.up e) (ieee.down e) 0 (down_pos e) (omega arith) (omega arith)) ∙ whole_cast true 0 (lit< tt) ∙ ap pos (sym z)
  where
    below_one : (a : ℕ) → a < 1 → a ≡ 0
    below_one a k = omega arith

-- -(n + 1) < x ≤ -n gives the ceil -n
pub ceil_neg : (x : Float) (n : ℕ) → T (finite x) → n < 2 ^ 31 → P x + n * den x ≤ N x → N x < P x + (n + 1) * den x → to_signed 31 (ceil binary64 x) ≡ neg_ℤ (pos n)
unfolding round_with
ceil_neg nan n t b l h = absurd t
ceil_neg (inf s) n t b l h = absurd t
ceil_neg (fin true m e) n t b l h =
    ap (λ (z : ℕ). to_signed 31 (round binary64 true z 1)) (div_by (m * ieee.up e) (ieee.down e) n (down_pos e) (omega arith) (omega arith)) ∙ whole_cast true n b
ceil_neg (fin false m e) n t b l h =
    let z : n ≡ 0 = no_product n (ieee.down e) (down_pos e) (omega arith) in
    let y : m * ieee.up e ≤ 0 = omega arith in
    let D : 0 < ieee.down e = down_pos e in
    let w : 0 * ieee.down e ≡ 0 = zero-mul (ieee.down e) in
    ap (λ (c : ℕ). to_signed 31 (round binary64 false c 1)) (raised_is (m * ieee.up e) (ieee.down e) 0 (down_pos e) (omega arith) (omega arith)) ∙ whole_cast false 0 (lit< tt) ∙ ap (λ (c : ℕ). neg_ℤ (pos c)) (sym z)
