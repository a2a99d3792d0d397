-- The slope of two whole numbers is their quotient rounded once: how large it is, and that it is the nearest.
use Rattle.std.proofs.Common.{◌≡◌, ℕ, zero, suc, ◌+◌, ◌*◌, ◌^◌, ◌<◌, ◌≤◌, Bool, true, false, cond, T, eqb, ℤ, pos, negsuc, neg_ℤ, nat_abs, ◌<ℤ◌, sym, refl, ap, ◌∙◌, subst, lt_of_le_of_lt, mul_assoc, mul_comm, mul-pos, zero-mul, mul-one, mul_left_comm, arith, lit<, eqb→eq}
use lib.Ieee.{Float, nan, inf, fin, binary64, of_int, div, round, unlike}
use lib.Ieee as ieee
use lib.Ieee.Exact.{HasValue}
use lib.Ieee.Fits.{down_pos}
use lib.Ieee.Scale.{grid, round_same}
use borrow.Author.Differences.{ints, neg_is}
use Rattle.binary64.specs.Range.{plus, less, Sized}
use Rattle.binary64.specs.Slope.{slope}
use Rattle.binary64.specs.Fraction.{negative, NearestSlope}
use Rattle.binary64.proofs.Grid.{U, round_value, whole_exact}
use Rattle.binary64.proofs.Rounding.{Rounds, rounds_between, under_of_below}
use Rattle.binary64.proofs.Sizes.{small_size}
use Rattle.binary64.proofs.Nearest.{nearest_fraction}

-- a whole number as a float is its size rounded, with its sign
of_int_is : (z : ℤ) → of_int binary64 z ≡ round binary64 (negative z) (nat_abs z) 1
unfolding of_int
of_int_is (pos n) = refl
of_int_is (negsuc n) = refl

-- a quotient by what is not negative has the sign of what is divided
unlike_false : (s : Bool) → unlike s false ≡ s
unlike_false true = refl
unlike_false false = refl

-- the quotient of the values ±a and b is ±a / b rounded
div_value : (x y : Float) (s : Bool) (a b : ℕ) → 0 < b → HasValue x s a 1 → HasValue y false b 1 → div binary64 x y ≡ round binary64 s a b
unfolding div
div_value nan y s a b B h k = absurd h
div_value (inf t) y s a b B h k = absurd h
div_value (fin t m e) nan s a b B h k = absurd k
div_value (fin t m e) (inf u) s a b B h k = absurd k
div_value (fin t m e) (fin u n d) s a b B h k = go (eqb n 0) (eqb→eq n 0)
  where
    np : n * ieee.up d ≡ b * ieee.down d
    np = sym (mul-one (n * ieee.up d)) ∙ k.1

    mp : m * ieee.up e ≡ a * ieee.down e
    mp = sym (mul-one (m * ieee.up e)) ∙ h.1

    bp : 0 < b * ieee.down d
    bp = mul-pos B (down_pos d)

    clash : n ≡ 0 → ⊥
    clash z = let p : n * ieee.up d ≡ 0 = ap (λ (c : ℕ). c * ieee.up d) z ∙ zero-mul (ieee.up d) in omega (arith, np, bp)

    signs : unlike t u ≡ s
    signs = ap (λ (c : Bool). unlike c u) h.0 ∙ ap (λ (c : Bool). unlike s c) k.0 ∙ unlike_false s

    dp : 0 < n * ieee.up d * ieee.down e
    dp = mul-pos (subst (λ (c : ℕ). 0 < c) (sym np) bp) (down_pos e)

    turned : a * ieee.down e * ieee.down d * b ≡ a * (b * ieee.down d * ieee.down e)
    turned = simp (mul_assoc, mul_comm, mul_left_comm)

    same : m * ieee.up e * ieee.down d * b ≡ a * (n * ieee.up d * ieee.down e)
    same = ap (λ (c : ℕ). c * ieee.down d * b) mp ∙ turned ∙ ap (λ (c : ℕ). a * (c * ieee.down e)) (sym np)

    go : (c : Bool) → (T c → n ≡ 0) → cond c (cond (eqb m 0) nan (inf (unlike t u))) (round binary64 (unlike t u) (m * ieee.up e * ieee.down d) (n * ieee.up d * ieee.down e)) ≡ round binary64 s a b
    go true z = absurd (clash (z tt))
    go false z =
        ap (λ (c : Bool). round binary64 c (m * ieee.up e * ieee.down d) (n * ieee.up d * ieee.down e)) signs
        ∙ round_same binary64 s (m * ieee.up e * ieee.down d) (n * ieee.up d * ieee.down e) a b dp B same

-- a slope is the quotient rounded once
pub slope_is : (dy dx : ℤ) → pos 0 <ℤ dx → nat_abs dy < 2 ^ 53 → nat_abs dx < 2 ^ 53 → slope dy dx ≡ round binary64 (negative dy) (nat_abs dy) (nat_abs dx)
slope_is dy (negsuc n) X A B = absurd X.lt
slope_is dy (pos zero) X A B = absurd X.lt
slope_is dy (pos (suc n)) X A B =
    ap (λ (z : Float). div binary64 z (of_int binary64 (pos (suc n)))) (of_int_is dy)
    ∙ ap (λ (z : Float). div binary64 (round binary64 (negative dy) (nat_abs dy) 1) z) (of_int_is (pos (suc n)))
    ∙ div_value (round binary64 (negative dy) (nat_abs dy) 1) (round binary64 false (suc n) 1) (negative dy) (nat_abs dy) (suc n) (omega arith)
    (whole_exact (negative dy) (nat_abs dy) A) (whole_exact false (suc n) B)

-- what is above 0 has a size above 0
pos_size : (z : ℤ) → pos 0 <ℤ z → 0 < nat_abs z
pos_size z h = omega (arith, ints)

-- ±a / b with a ≤ b is 1 at most in size
low_end : (s : Bool) (a b : ℕ) → a ≤ b → 0 * b + less s a ≤ plus s a + 1 * b
low_end false a b h = omega arith
low_end true a b h = omega arith

high_end : (s : Bool) (a b : ℕ) → a ≤ b → plus s a + 0 * b ≤ 1 * b + less s a
high_end false a b h = omega arith
high_end true a b h = omega arith

-- the slope of a line that goes no further down or up than across is 1 at most in size
pub slope_sized : (dy dx : ℤ) → pos 0 <ℤ dx → nat_abs dy ≤ nat_abs dx → nat_abs dx < 2 ^ 53 → Sized 1 (slope dy dx)
slope_sized dy dx X Y B =
    let s = negative dy in
    let a = nat_abs dy in
    let b = nat_abs dx in
    let n = neg_is (pos 1) in
    let r : Rounds (slope dy dx) (plus s a) (less s a) b = record { sign = s; size = a; is = slope_is dy dx X (lt_of_le_of_lt Y B) B; value = omega arith } in
    rounds_between (slope dy dx) (plus s a) (less s a) b (neg_ℤ (pos 1)) (pos 1) 0 1 1 0 r (pos_size dx X) (small_size 1 (lit< tt)) (lit< tt) (omega arith) (omega arith) (low_end s a b Y) (high_end s a b Y)

-- a / b is at most a for a whole b above 0
over_one : (a b : ℕ) → 0 < b → a ≤ a * b
over_one a zero h = absurd (none h)
  where
    none : 0 < 0 → ⊥
    none k = omega arith
over_one a (suc b) h = omega arith

-- the slope is the binary64 number nearest to the exact quotient
pub slope_nearest : (dy dx : ℤ) → pos 0 <ℤ dx → nat_abs dy < 2 ^ 53 → nat_abs dx < 2 ^ 53 → NearestSlope dy dx (slope dy dx)
slope_nearest dy dx X A B =
    let s = negative dy in
    let a = nat_abs dy in
    let b = nat_abs dx in
    let D : 0 < b = pos_size dx X in
    record {
      units = grid binary64 a b;
      near = nearest_fraction a b D;
      value = subst (λ (z : Float). HasValue z s (grid binary64 a b) U) (sym (slope_is dy dx X A B)) (round_value binary64 s a b (under_of_below a a b A D (over_one a b D)));
    }
