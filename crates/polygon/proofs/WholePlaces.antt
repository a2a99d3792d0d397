-- Where a live side stands: its floor and its ceil, and when its place is whole.
use Rattle.std.proofs.Common.{◌≡◌, Bool, true, cond, List, [], ◌∷◌, ◌++◌, ℤ, pos, ◌+ℤ◌, ◌-ℤ◌, ◌*ℤ◌, nat_abs, ◌≤ℤ◌, ◌<ℤ◌, count_by, sym, refl, ap, ◌∙◌, subst, arith}
use mathlib.Core.List.{Memᴰ}
use lib.Signed.{lt_z}
use Rattle.std.proofs.lemmas.Int.{by_lt_z}
use Rattle.std.proofs.lemmas.Bool.{or_right}
use Rattle.plotters_backend.specs.Color.{mixed}
use Rattle.plotters_backend.specs.declared.style.BackendColor.{BackendColor}
use Rattle.outline.specs.Lists.{odd, any}
use Rattle.plotters_backend.specs.declared.axis.Axis.{Axis}
use Rattle.outline.specs.declared.sweep.Side.{Side}
use Rattle.outline.specs.Sweep.{live, span, over, place_below, place_at, floor_at, ceil_at}
use Rattle.plotters_backend.specs.Axis.{turned}
use Rattle.outline.specs.Filling.{Mixes, covered, bare, edge}
use Rattle.outline.proofs.Counting.{some_any}
use Rattle.outline.proofs.Products.{sums, lt_yes, lt_no, floor_low, floor_high, ceil_low, ceil_high}
use Rattle.outline.proofs.Places.{live_out, span_is, span_pos, at_most, at_least, rise_le, drop_le}
use Rattle.outline.proofs.Lying.{same_in}

module _ (m : ℤ) (e : Side) (from : e.m0 ≤ℤ m) (to : m <ℤ e.m1) where
  -- numbers that are strictly in order times the span are so
  drop_lt : (a b : ℤ) → (a *ℤ span e) <ℤ (b *ℤ span e) → a <ℤ b
  drop_lt a b h = by_lt_z a b (λ k. k) (λ k. let g = rise_le m e from to b a k in absurd (omega (arith, sums)))

  -- the place is at least its floor
  low : (floor_at m e *ℤ span e) ≤ℤ over e m
  low = subst (λ (z : ℤ). (floor_at m e *ℤ z) ≤ℤ over e m) (sym (span_is m e from to)) (floor_low (over e m) (nat_abs (span e)) (span_pos m e from to))

  -- and below one past its floor
  high : over e m <ℤ ((floor_at m e +ℤ pos 1) *ℤ span e)
  high = subst (λ (z : ℤ). over e m <ℤ ((floor_at m e +ℤ pos 1) *ℤ z)) (sym (span_is m e from to)) (floor_high (over e m) (nat_abs (span e)) (span_pos m e from to))

  -- the place is at most its ceil
  top : over e m ≤ℤ (ceil_at m e *ℤ span e)
  top = subst (λ (z : ℤ). over e m ≤ℤ (ceil_at m e *ℤ z)) (sym (span_is m e from to)) (ceil_high (over e m) (nat_abs (span e)) (span_pos m e from to))

  -- and above one before its ceil
  bottom : ((ceil_at m e -ℤ pos 1) *ℤ span e) <ℤ over e m
  bottom = subst (λ (z : ℤ). ((ceil_at m e -ℤ pos 1) *ℤ z) <ℤ over e m) (sym (span_is m e from to)) (ceil_low (over e m) (nat_abs (span e)) (span_pos m e from to))

  -- the place is smaller than c where its floor is
  pub below_floor : (c : ℤ) → place_below m c e ≡ lt_z (floor_at m e) c
  below_floor c = by_lt_z (floor_at m e) c
      (λ k. let g = rise_le m e from to (floor_at m e +ℤ pos 1) c (omega (arith, sums)) in let h = high in lt_yes (over e m) (c *ℤ span e) (omega (arith, sums)) ∙ sym (lt_yes (floor_at m e) c k))
      (λ k. let g = rise_le m e from to c (floor_at m e) k in let h = low in lt_no (over e m) (c *ℤ span e) (omega (arith, sums)) ∙ sym (lt_no (floor_at m e) c k))

  -- a whole place is its own floor
  pub at_floor : (c : ℤ) → over e m ≡ c *ℤ span e → floor_at m e ≡ c
  at_floor c at =
      let l = low in
      let h = high in
      let a : floor_at m e ≤ℤ c = drop_le m e from to (floor_at m e) c (omega (arith, sums)) in
      let b : c <ℤ (floor_at m e +ℤ pos 1) = drop_lt c (floor_at m e +ℤ pos 1) (omega (arith, sums)) in
      omega (arith, sums)

  -- and its own ceil
  pub at_ceil : (c : ℤ) → over e m ≡ c *ℤ span e → ceil_at m e ≡ c
  at_ceil c at =
      let l = top in
      let h = bottom in
      let a : c ≤ℤ ceil_at m e = drop_le m e from to c (ceil_at m e) (omega (arith, sums)) in
      let b : (ceil_at m e -ℤ pos 1) <ℤ c = drop_lt (ceil_at m e -ℤ pos 1) c (omega (arith, sums)) in
      omega (arith, sums)

  -- a place whose floor is its ceil is whole
  pub at_whole : floor_at m e ≡ ceil_at m e → over e m ≡ floor_at m e *ℤ span e
  at_whole w =
      let l = low in
      let h : over e m ≤ℤ (floor_at m e *ℤ span e) = subst (λ (z : ℤ). over e m ≤ℤ (z *ℤ span e)) (sym w) top in
      omega (arith, sums)

  -- the floor is not before what neither end is before
  pub floor_from : (lo : ℤ) → lo ≤ℤ e.s0 → lo ≤ℤ e.s1 → lo ≤ℤ floor_at m e
  floor_from lo h0 h1 =
      let f = at_least m e from to lo h0 h1 in
      let g = high in
      let k = drop_lt lo (floor_at m e +ℤ pos 1) (omega (arith, sums)) in
      omega (arith, sums)

  -- the floor is not past what neither end is past
  pub floor_upto : (hi : ℤ) → e.s0 ≤ℤ hi → e.s1 ≤ℤ hi → floor_at m e ≤ℤ hi
  floor_upto hi h0 h1 =
      let f = at_most m e from to hi h0 h1 in
      let g = low in
      drop_le m e from to (floor_at m e) hi (omega (arith, sums))

  -- nor is the ceil
  pub ceil_upto : (hi : ℤ) → e.s0 ≤ℤ hi → e.s1 ≤ℤ hi → ceil_at m e ≤ℤ hi
  ceil_upto hi h0 h1 =
      let f = at_most m e from to hi h0 h1 in
      let g = bottom in
      let k = drop_lt (ceil_at m e -ℤ pos 1) hi (omega (arith, sums)) in
      omega (arith, sums)

  -- the floor is at most the ceil
  pub floor_ceil : floor_at m e ≤ℤ ceil_at m e
  floor_ceil = let l = low in let h = top in drop_le m e from to (floor_at m e) (ceil_at m e) (omega (arith, sums))

-- a side whose place is whole lays no pixel of its own: its cell is covered
pub edge_whole : (mix : Mixes) (a : Axis) (k : BackendColor) (es : List Side) (m : ℤ) (e : Side) → Memᴰ e es → live m e ≡ true → floor_at m e ≡ ceil_at m e → edge mix a k es m e ≡ []
edge_whole mix a k es m e n alive w =
    ap (λ (b : Bool). cond b [] ((turned a (m, floor_at m e), mixed k (mix a m e).0) ∷ []) ++ bare a es m (ceil_at m e) (mixed k (mix a m e).1)) (full (floor_at m e) refl)
    ∙ ap (λ (b : Bool). cond b [] ((turned a (m, ceil_at m e), mixed k (mix a m e).1) ∷ [])) (full (ceil_at m e) w)
  where
    r : (e.m0 ≤ℤ m) × (m <ℤ e.m1)
    r = live_out m e alive

    full : (c : ℤ) → floor_at m e ≡ c → covered es m c ≡ true
    full c f = or_right (odd (count_by (place_below m c) es)) (any (place_at m c) es) (some_any (place_at m c) e es n (same_in (over e m) (c *ℤ span e) (at_whole m e r.0 r.1 w ∙ ap (λ (z : ℤ). z *ℤ span e) f)))
