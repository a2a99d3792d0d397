-- The laying rule keeps the laws of a surface's rule.
use Rattle.std.specs.Prelude.{◌≡◌, ℕ, suc, ◌+◌, ◌-◌, ◌*◌, ◌/◌, ◌^◌, ◌<◌, ◌≤◌, Bool, true, false, cond, pos, negsuc, nat_lt, refl, Float}
use Rattle.std.proofs.Common.{sym, ap, subst, ◌∙◌, ⊎_elim, mul-add, arith, lit<, lit≤, pow_pos}
use Rattle.std.specs.Int.Count.{count_trailing_zeros}
use Rattle.std.specs.Float.Ieee as Ieee
use Rattle.std.specs.Float.{nan, inf, fin, binary64}
use Rattle.std.specs.Float.Ieee.Bits.{is_true}
use Rattle.std.specs.Float.Ieee.Fits.{down_pos}
use Rattle.std.specs.Float.Ieee.Order.{round_mono}
use Rattle.std.proofs.lemmas.Nat.{div_below, mul-le}
use Rattle.std.proofs.lemmas.Bool.{true≢false, false≢true, eqb-true, ltb-true, ltb-false, le-ltb, ne_eqb, eq-eqb, and_parts, and_from, and_left, and_right, or_right, or_from, or_cases, or_parts}
use Rattle.plotters_backend.specs.Color.{zero, one, solid}
use Rattle.plotters_backend.specs.declared.style.BackendColor.{BackendColor}
use Rattle.panel.specs.Blend.{scale, weight, channel, blend}

-- ---- what is known of an alpha

one_one : Ieee.le one one ≡ true
unfolding Ieee.le Ieee.lt Ieee.eq Ieee.of_bits Ieee.of_fields
one_one = refl

-- 1.0 is at most any alpha that equals it
one_opaque : (a : Float) → Ieee.eq a one ≡ true → Ieee.le one a ≡ true
unfolding Ieee.le Ieee.lt Ieee.eq Ieee.of_bits Ieee.of_fields
one_opaque nan e = absurd (false≢true e)
one_opaque (inf s) e = absurd (false≢true e)
one_opaque (fin true m (pos k)) e =
    let p = and_parts _ _ e in
    let a = eqb-true (m * 2 ^ k * 1) 1 p.0 in
    let z = eqb-true (m * 2 ^ k * 1) 0 p.1 in
    absurd (omega arith)
one_opaque (fin true m (negsuc k)) e =
    let p = and_parts _ _ e in
    let a = eqb-true (m * 1 * 1) (1 * 2 ^ suc k) p.0 in
    let z = eqb-true (m * 1 * 1) 0 p.1 in
    let q : 0 < 2 ^ suc k = pow_pos (suc k) in
    absurd (omega arith)
one_opaque (fin false m (pos k)) e =
    let a = eqb-true (m * 2 ^ k * 1) 1 (and_parts _ _ e).0 in
    or_right _ _ (and_from _ true (eq-eqb 1 (m * 2 ^ k * 1) (sym a)) refl)
one_opaque (fin false m (negsuc k)) e =
    let a = eqb-true (m * 1 * 1) (1 * 2 ^ suc k) (and_parts _ _ e).0 in
    or_right _ _ (and_from _ true (eq-eqb (1 * 2 ^ suc k) (m * 1 * 1) (sym a)) refl)

-- but at most no alpha that is not above 0.0
one_clear : (a : Float) → Ieee.lt zero a ≡ false → Ieee.le one a ≡ false
unfolding Ieee.le Ieee.lt Ieee.eq Ieee.of_bits Ieee.of_fields
one_clear nan e = refl
one_clear (inf true) e = refl
one_clear (inf false) e = absurd (true≢false e)
one_clear (fin true m (pos k)) e = and_right _ false refl
one_clear (fin true m (negsuc k)) e =
    let q : 0 < 2 ^ suc k = pow_pos (suc k) in
    and_right _ _ (ne_eqb (1 * 2 ^ suc k) 0 (omega arith))
one_clear (fin false m (pos k)) e =
    let a = ltb-false 0 (m * 2 ^ k * 1) e in
    or_from _ _ (le-ltb 1 (m * 2 ^ k * 1) (omega arith)) (and_left _ _ (ne_eqb 1 (m * 2 ^ k * 1) (omega arith)))
one_clear (fin false m (negsuc k)) e =
    let a = ltb-false (0 * 2 ^ suc k) (m * 1 * 1) e in
    let q : 0 < 2 ^ suc k = pow_pos (suc k) in
    or_from _ _ (le-ltb (1 * 2 ^ suc k) (m * 1 * 1) (omega arith)) (and_left _ _ (ne_eqb (1 * 2 ^ suc k) (m * 1 * 1) (omega arith)))

-- ---- the weight

scale_is : scale ≡ fin false 1 (pos 8)
unfolding count_trailing_zeros Ieee.odd Ieee.of_bits Ieee.of_fields
scale_is = refl

-- 256 is rounded to itself
scale_round : Ieee.round binary64 false 256 1 ≡ fin false 1 (pos 8)
unfolding count_trailing_zeros Ieee.span Ieee.climb Ieee.size Ieee.odd Ieee.units Ieee.round
scale_round = refl

-- the whole part of what is at most 256.0 is at most 256
whole_le : (x : Float) → Ieee.le x (fin false 1 (pos 8)) ≡ true → Ieee.to_unsigned 32 x ≤ 256
unfolding Ieee.le Ieee.lt Ieee.eq Ieee.to_unsigned
whole_le nan e = lit≤ tt
whole_le (inf true) e = lit≤ tt
whole_le (inf false) e = absurd (false≢true e)
whole_le (fin true m z) e = lit≤ tt
whole_le (fin false m z) e =
    let d = Ieee.down z in
    let q : 0 < d = down_pos z in
    let n = m * Ieee.up z * 1 in
    let l : n ≤ 256 * d = ⊎_elim (λ a. omega (arith, ltb-true n (256 * d) a)) (λ a. omega (arith, eqb-true n (256 * d) (and_parts _ _ a).0)) (or_cases (nat_lt n (256 * d)) _ e) in
    let b = div_below (m * Ieee.up z) d 257 q (omega arith) in
    omega arith

-- below 1.0 the product with 256.0 is at most 256.0
product_le : (a : Float) → Ieee.le one a ≡ false → Ieee.lt zero a ≡ true → Ieee.to_unsigned 32 (Ieee.mul binary64 a (fin false 1 (pos 8))) ≤ 256
unfolding Ieee.le Ieee.lt Ieee.eq Ieee.of_bits Ieee.of_fields Ieee.mul
product_le nan o z = absurd (false≢true z)
product_le (inf true) o z = absurd (false≢true z)
product_le (inf false) o z = absurd (true≢false o)
product_le (fin true m e) o z = absurd (false≢true z)
product_le (fin false m e) o z =
    let d = Ieee.down e in
    let q : 0 < d = down_pos e in
    let l = ltb-false (1 * d) (m * Ieee.up e * 1) (or_parts _ _ o).0 in
    let r = round_mono binary64 (m * Ieee.up e * 256) (d * 1) 256 1 (omega arith) (lit< tt) (omega arith) in
    whole_le _ (subst (λ (x : Float). Ieee.le (Ieee.round binary64 false (m * Ieee.up e * 256) (d * 1)) x ≡ true) scale_round (is_true _ r))

-- the weight by what the two tests of an alpha say
abbrev by : Bool → Bool → ℕ → ℕ
by t u n = cond t 256 (cond u n 0)

by_le : (t u : Bool) (n : ℕ) → (t ≡ false → u ≡ true → n ≤ 256) → by t u n ≤ 256
by_le true u n h = lit≤ tt
by_le false true n h = h refl refl
by_le false false n h = lit≤ tt

-- no weight is above 256
pub weight_le : (a : Float) → weight a ≤ 256
weight_le a =
    by_le (Ieee.le one a) (Ieee.lt zero a) (Ieee.to_unsigned 32 (Ieee.mul binary64 a scale))
    (λ o z. subst (λ (x : Float). Ieee.to_unsigned 32 (Ieee.mul binary64 a x) ≤ 256) (sym scale_is) (product_le a o z))

-- an alpha of 1 or more has the weight 256
pub weight_full : (a : Float) → Ieee.le one a ≡ true → weight a ≡ 256
weight_full a e = ap (λ (t : Bool). by t (Ieee.lt zero a) (Ieee.to_unsigned 32 (Ieee.mul binary64 a scale))) e

pub weight_opaque : (a : Float) → Ieee.eq a one ≡ true → weight a ≡ 256
weight_opaque a e = weight_full a (one_opaque a e)

-- an alpha that is not above 0 has the weight 0
pub weight_clear : (a : Float) → Ieee.lt zero a ≡ false → weight a ≡ 0
weight_clear a e =
    ap (λ (t : Bool). by t (Ieee.lt zero a) (Ieee.to_unsigned 32 (Ieee.mul binary64 a scale))) (one_clear a e)
    ∙ ap (λ (u : Bool). by false u (Ieee.to_unsigned 32 (Ieee.mul binary64 a scale))) e

-- between 0 and 1 it is the whole part of a product
pub weight_between : (a : Float) → Ieee.le one a ≡ false → Ieee.lt zero a ≡ true → weight a ≡ Ieee.to_unsigned 32 (Ieee.mul binary64 a (fin false 1 (pos 8)))
weight_between a o z =
    ap (λ (t : Bool). by t (Ieee.lt zero a) (Ieee.to_unsigned 32 (Ieee.mul binary64 a scale))) o
    ∙ ap (λ (u : Bool). by false u (Ieee.to_unsigned 32 (Ieee.mul binary64 a scale))) z
    ∙ ap (λ (x : Float). Ieee.to_unsigned 32 (Ieee.mul binary64 a x)) scale_is

-- ---- a channel

-- with the weight 256 the new one
channel_full : (k o n : ℕ) → k ≡ 256 → channel k o n ≡ n
channel_full k o n e = ap (λ (j : ℕ). channel j o n) e ∙ omega arith

-- with the weight 0 the old one
channel_clear : (k o n : ℕ) → k ≡ 0 → channel k o n ≡ o
channel_clear k o n e = ap (λ (j : ℕ). channel j o n) e ∙ omega arith

-- over itself, with any weight, itself
channel_own : (k n : ℕ) → k ≤ 256 → channel k n n ≡ n
channel_own k n h =
    let d : n * (256 - k) + n * k ≡ n * 256 = sym (mul-add n (256 - k) k) ∙ ap (λ (j : ℕ). n * j) (omega arith) in
    ap (λ (j : ℕ). j / 256) d ∙ omega arith

-- and of two bytes a byte
pub channel_byte : (k o n : ℕ) → k ≤ 256 → o < 256 → n < 256 → channel k o n < 256
channel_byte k o n h a b =
    let p : o * (256 - k) ≤ 255 * (256 - k) = mul-le o (256 - k) 255 (256 - k) (omega arith) (omega arith) in
    let q : n * k ≤ 255 * k = mul-le n k 255 k (omega arith) (omega arith) in
    div_below (o * (256 - k) + n * k) 256 256 (lit< tt) (omega arith)

-- ---- the rule

-- a cell by its channels
pub same_cell : (a b c x y z : ℕ) → a ≡ x → b ≡ y → c ≡ z → ◌≡◌ {A = ℕ × ℕ × ℕ} (a, b, c) (x, y, z)
same_cell a b c x y z p q r = ap (λ (n : ℕ). (n, b, c)) p ∙ ap (λ (n : ℕ). (x, n, c)) q ∙ ap (λ (n : ℕ). (x, y, n)) r

-- a colour of the weight 256 makes its own red, green and blue of every cell
pub blend_full : (c : BackendColor) (a : ℕ × ℕ × ℕ) → weight c.alpha ≡ 256 → blend a c ≡ c.rgb
blend_full c a e = same_cell _ _ _ _ _ _ (channel_full _ a.0 c.rgb.0 e) (channel_full _ a.1 c.rgb.1 e) (channel_full _ a.2 c.rgb.2 e)

pub blend_opaque : (c : BackendColor) → Ieee.eq c.alpha one ≡ true → (a b : ℕ × ℕ × ℕ) → blend a c ≡ blend b c
blend_opaque c e a b = let w = weight_opaque c.alpha e in blend_full c a w ∙ sym (blend_full c b w)

pub blend_own : (c : BackendColor) (a : ℕ × ℕ × ℕ) → blend (blend a (solid c)) c ≡ blend a (solid c)
blend_own c a =
    let s = blend_full (solid c) a (weight_full one one_one) in
    let w = weight_le c.alpha in
    ap (λ (t : ℕ × ℕ × ℕ). blend t c) s
    ∙ same_cell _ _ _ _ _ _ (channel_own _ c.rgb.0 w) (channel_own _ c.rgb.1 w) (channel_own _ c.rgb.2 w)
    ∙ sym s

pub blend_clear : (c : BackendColor) → Ieee.lt zero c.alpha ≡ false → (a : ℕ × ℕ × ℕ) → blend a c ≡ a
blend_clear c e a =
    let w = weight_clear c.alpha e in
    same_cell _ _ _ _ _ _ (channel_clear _ a.0 c.rgb.0 w) (channel_clear _ a.1 c.rgb.1 w) (channel_clear _ a.2 c.rgb.2 w)
