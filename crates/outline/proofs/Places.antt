-- Where a live side stands: between its ends, and near its floor and ceil.
use Rattle.std.proofs.Common.{◌≡◌, ◌<◌, true, false, ℤ, pos, negsuc, ◌+ℤ◌, ◌-ℤ◌, ◌*ℤ◌, nat_abs, ◌≤ℤ◌, ◌<ℤ◌, sym, refl, subst, arith}
use lib.Signed.{le_z, lt_z}
use Rattle.std.proofs.lemmas.Int.{ints}
use Rattle.std.proofs.lemmas.Bool.{and_parts, and_from}
use Rattle.outline.specs.declared.sweep.Side.{Side}
use Rattle.outline.specs.Sweep.{live, span, over, place_below, place_near, floor_at, ceil_at}
use Rattle.outline.proofs.Products.{sums, lt_yes, lt_no, mul_difference, difference_mul, mul-le, mul_lt, le_cancel, floor_low, floor_high, ceil_low, ceil_high}

-- a live side begins at m or before, and ends after m
pub live_out : (m : ℤ) (e : Side) → live m e ≡ true → (e.m0 ≤ℤ m) × (m <ℤ e.m1)
live_out m e h = let p = and_parts (le_z e.m0 m) (lt_z m e.m1) h in (omega (arith, ints), omega (arith, ints))

-- a number from 0 on is its own size
natural_is : (z : ℤ) → pos 0 ≤ℤ z → z ≡ pos (nat_abs z)
natural_is (pos n) h = refl
natural_is (negsuc n) h = absurd (omega (arith, ints))

module _ (m : ℤ) (e : Side) (from : e.m0 ≤ℤ m) (to : m <ℤ e.m1) where
  -- the span of a live side is its own size
  pub span_is : span e ≡ pos (nat_abs (span e))
  span_is = natural_is (span e) (omega (arith, ints))

  -- and above 0
  pub span_pos : 0 < nat_abs (span e)
  span_pos = let h = span_is in omega (arith, ints)

  -- how far the sweep line is from m1
  abbrev back : ℤ
  back = e.m1 -ℤ m

  -- how far the sweep line is from m0
  abbrev gone : ℤ
  gone = m -ℤ e.m0

  -- the place is a mean of the ends
  pub over_is : over e m ≡ e.s0 *ℤ back +ℤ e.s1 *ℤ gone
  over_is =
      let p = difference_mul e.m1 e.m0 e.s0 in
      let q = mul_difference e.s1 e.s0 gone in
      let r = difference_mul e.m1 m e.s0 in
      let s = difference_mul m e.m0 e.s0 in
      omega (arith, sums)

  -- a multiple of the span, by the two parts of the span
  split : (k : ℤ) → k *ℤ span e ≡ k *ℤ back +ℤ k *ℤ gone
  split k =
      let p = difference_mul e.m1 e.m0 k in
      let r = difference_mul e.m1 m k in
      let s = difference_mul m e.m0 k in
      omega (arith, sums)

  -- the part of the span from m on is its own size
  back_is : back ≡ pos (nat_abs back)
  back_is = natural_is back (omega (arith, ints))

  -- and so is the part before m
  gone_is : gone ≡ pos (nat_abs gone)
  gone_is = natural_is gone (omega (arith, ints))

  -- the place is not past what neither end is past
  pub at_most : (k : ℤ) → e.s0 ≤ℤ k → e.s1 ≤ℤ k → over e m ≤ℤ (k *ℤ span e)
  at_most k h0 h1 =
      let f : (e.s0 *ℤ back) ≤ℤ (k *ℤ back) = subst (λ (z : ℤ). (e.s0 *ℤ z) ≤ℤ (k *ℤ z)) (sym back_is) (mul-le e.s0 k (nat_abs back) h0) in
      let g : (e.s1 *ℤ gone) ≤ℤ (k *ℤ gone) = subst (λ (z : ℤ). (e.s1 *ℤ z) ≤ℤ (k *ℤ z)) (sym gone_is) (mul-le e.s1 k (nat_abs gone) h1) in
      let r = over_is in
      let s = split k in
      omega (arith, sums)

  -- the place is not before what neither end is before
  pub at_least : (k : ℤ) → k ≤ℤ e.s0 → k ≤ℤ e.s1 → (k *ℤ span e) ≤ℤ over e m
  at_least k h0 h1 =
      let f : (k *ℤ back) ≤ℤ (e.s0 *ℤ back) = subst (λ (z : ℤ). (k *ℤ z) ≤ℤ (e.s0 *ℤ z)) (sym back_is) (mul-le k e.s0 (nat_abs back) h0) in
      let g : (k *ℤ gone) ≤ℤ (e.s1 *ℤ gone) = subst (λ (z : ℤ). (k *ℤ z) ≤ℤ (e.s1 *ℤ z)) (sym gone_is) (mul-le k e.s1 (nat_abs gone) h1) in
      let r = over_is in
      let s = split k in
      omega (arith, sums)

  -- a number that is at most another is so times the span
  pub rise_le : (a b : ℤ) → a ≤ℤ b → (a *ℤ span e) ≤ℤ (b *ℤ span e)
  rise_le a b h = subst (λ (z : ℤ). (a *ℤ z) ≤ℤ (b *ℤ z)) (sym span_is) (mul-le a b (nat_abs (span e)) h)

  -- and one below another is below it times the span
  pub rise_lt : (a b : ℤ) → a <ℤ b → (a *ℤ span e) <ℤ (b *ℤ span e)
  rise_lt a b h = subst (λ (z : ℤ). (a *ℤ z) <ℤ (b *ℤ z)) (sym span_is) (mul_lt a b (nat_abs (span e)) span_pos h)

  -- numbers in order times the span are in order
  pub drop_le : (a b : ℤ) → (a *ℤ span e) ≤ℤ (b *ℤ span e) → a ≤ℤ b
  drop_le a b h = le_cancel a b (nat_abs (span e)) span_pos (subst (λ (z : ℤ). (a *ℤ z) ≤ℤ (b *ℤ z)) span_is h)

  -- past all ends, every side is passed
  pub below_past : (k c : ℤ) → e.s0 ≤ℤ k → e.s1 ≤ℤ k → k <ℤ c → place_below m c e ≡ true
  below_past k c h0 h1 l = let f = at_most k h0 h1 in let g = rise_lt k c l in lt_yes (over e m) (c *ℤ span e) (omega (arith, sums))

  -- at or before all ends, no side is passed
  pub below_before : (k c : ℤ) → k ≤ℤ e.s0 → k ≤ℤ e.s1 → c ≤ℤ k → place_below m c e ≡ false
  below_before k c h0 h1 l = let f = at_least k h0 h1 in let g = rise_le c k l in lt_no (over e m) (c *ℤ span e) (omega (arith, sums))

  -- floor is less than 1 away
  pub floor_near : place_near m (floor_at m e) e ≡ true
  floor_near =
      let q = floor_at m e in
      let l : (q *ℤ span e) ≤ℤ over e m = subst (λ (z : ℤ). (q *ℤ z) ≤ℤ over e m) (sym span_is) (floor_low (over e m) (nat_abs (span e)) span_pos) in
      let h : over e m <ℤ ((q +ℤ pos 1) *ℤ span e) = subst (λ (z : ℤ). over e m <ℤ ((q +ℤ pos 1) *ℤ z)) (sym span_is) (floor_high (over e m) (nat_abs (span e)) span_pos) in
      let g = rise_lt (q -ℤ pos 1) q (omega (arith, ints)) in
      and_from (lt_z (over e m) ((q +ℤ pos 1) *ℤ span e)) (lt_z ((q -ℤ pos 1) *ℤ span e) (over e m)) (lt_yes (over e m) ((q +ℤ pos 1) *ℤ span e) (omega (arith, sums))) (lt_yes ((q -ℤ pos 1) *ℤ span e) (over e m) (omega (arith, sums)))

  -- ceil is less than 1 away
  pub ceil_near : place_near m (ceil_at m e) e ≡ true
  ceil_near =
      let q = ceil_at m e in
      let l : over e m ≤ℤ (q *ℤ span e) = subst (λ (z : ℤ). over e m ≤ℤ (q *ℤ z)) (sym span_is) (ceil_high (over e m) (nat_abs (span e)) span_pos) in
      let h : ((q -ℤ pos 1) *ℤ span e) <ℤ over e m = subst (λ (z : ℤ). ((q -ℤ pos 1) *ℤ z) <ℤ over e m) (sym span_is) (ceil_low (over e m) (nat_abs (span e)) span_pos) in
      let g = rise_lt q (q +ℤ pos 1) (omega (arith, ints)) in
      and_from (lt_z (over e m) ((q +ℤ pos 1) *ℤ span e)) (lt_z ((q -ℤ pos 1) *ℤ span e) (over e m)) (lt_yes (over e m) ((q +ℤ pos 1) *ℤ span e) (omega (arith, sums))) (lt_yes ((q -ℤ pos 1) *ℤ span e) (over e m) (omega (arith, sums)))
